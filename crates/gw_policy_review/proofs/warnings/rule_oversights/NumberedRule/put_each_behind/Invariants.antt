use Rattle.std.proofs.Common.{◌≡◌, ◌++◌, take}
use Rattle.gw_policy_review.specs.warnings.Oversights.{behind_lines}
use Rattle.gw_script.specs.Order.{in_order}
use Rattle.gw_policy_review.proofs.warnings.rule_oversights.NumberedRule.put_each_behind.Given as goal

abbrev pub invariant-loop-place : goal.invariant-loop-place
invariant-loop-place l = l.out.items ≡ l.fn.out.items ++ in_order (behind_lines l.self.config.now l.self.lines.now l.self.number l.self.rule.now) 1 (take l.place l.ranges)
