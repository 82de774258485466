use Rattle.std.proofs.Common.{◌≡◌, ◌++◌, take}
use Rattle.std.specs.Prelude.{codes}
use Rattle.std.specs.List.{flat_map}
use Rattle.gw_policy_review.specs.comparison.Lines.{rule_name}
use Rattle.gw_policy_review.proofs.comparison.lines.put_more_names.Given as goal

abbrev pub invariant-loop-number : goal.invariant-loop-number
invariant-loop-number l = l.out.items ≡ l.fn.out.items ++ flat_map (λ other. codes " or " ++ rule_name l.names other) (take l.number-index l.numbers)
