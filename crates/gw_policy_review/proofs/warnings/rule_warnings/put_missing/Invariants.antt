use Rattle.std.proofs.Common.{take}
use Rattle.gw_script.specs.Order.{in_order}
use Rattle.gw_policy_review.specs.warnings.Warnings.{missing_lines}
use Rattle.gw_addr.proofs.Appended.{IsGrown}
use Rattle.gw_policy_review.proofs.warnings.rule_warnings.put_missing.Given as goal

abbrev pub invariant-loop-item : goal.invariant-loop-item
invariant-loop-item l = IsGrown (in_order (missing_lines l.ports l.field.format l.field.index l.field.name.now l.field.key.now) 0 (take l.item l.ranges)) l.fn.out l.out
