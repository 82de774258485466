use Rattle.std.proofs.Common.{◌≡◌, ◌++◌, take}
use Rattle.std.specs.List.{flat_map}
use Rattle.gw_policy_review.specs.comparison.Lines.{line_text}
use Rattle.gw_policy_review.proofs.comparison.lines.put_lines.Given as goal

abbrev pub invariant-loop-each : goal.invariant-loop-each
invariant-loop-each l = l.out.items ≡ l.fn.out.items ++ flat_map (line_text l.old l.new) (take l.each-index l.found)
