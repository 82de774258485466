use Rattle.std.proofs.Common.{◌≡◌, ◌++◌, take}
use Rattle.std.specs.List.{flat_map}
use Rattle.gw_policy_review.specs.comparison.Parts.{name_line}
use Rattle.gw_policy_review.proofs.comparison.parts.put_part_names.Given as goal

abbrev pub invariant-loop-part : goal.invariant-loop-part
invariant-loop-part l = l.out.items ≡ l.fn.out.items ++ flat_map name_line (take l.part-index l.parts)
