use Rattle.std.proofs.Common.{◌≡◌, ◌++◌, take}
use Rattle.gw_policy_review.specs.warnings.Oversights.{rule_oversights}
use Rattle.gw_script.specs.Order.{in_order}
use Rattle.gw_policy_review.proofs.warnings.rule_oversights.put_rules.Given as goal

abbrev pub invariant-loop-place : goal.invariant-loop-place
invariant-loop-place l = l.out.items ≡ l.fn.out.items ++ in_order (rule_oversights l.config l.lines) 1 (take l.place l.rules)
