use Rattle.std.proofs.Common.{◌≡◌, ◌++◌, take}
use Rattle.std.specs.List.{flat_map}
use Rattle.gw_policy_review.specs.comparison.PartLines.{part_lines}
use Rattle.gw_policy_review.proofs.comparison.details.put_details.Given as goal

abbrev pub invariant-loop-part : goal.invariant-loop-part
invariant-loop-part l = l.out.items ≡ l.fn.out.items ++ flat_map (part_lines l.old l.new) (take l.part-index l.differ)
