use Rattle.std.proofs.Common.{◌≡◌, ◌++◌, take}
use Rattle.std.specs.List.{flat_map}
use Rattle.gw_policy_review.specs.comparison.Details.{quiet_line}
use Rattle.gw_policy_review.proofs.comparison.rule_details.put_quiets.Given as goal

abbrev pub invariant-loop-rule : goal.invariant-loop-rule
invariant-loop-rule l = l.out.items ≡ l.fn.out.items ++ flat_map (quiet_line l.was) (take l.rule-index l.now)
