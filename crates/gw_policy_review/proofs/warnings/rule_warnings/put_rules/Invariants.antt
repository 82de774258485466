use Rattle.std.proofs.Common.{take}
use Rattle.gw_script.specs.Order.{in_order}
use Rattle.gw_policy_review.specs.warnings.Warnings.{rule_lines}
use Rattle.gw_addr.proofs.Appended.{IsGrown}
use Rattle.gw_policy_review.proofs.warnings.rule_warnings.put_rules.Given as goal

abbrev pub invariant-loop-index : goal.invariant-loop-index
invariant-loop-index l = IsGrown (in_order (rule_lines l.format l.ports) 0 (take l.index l.rules)) l.fn.out l.out
