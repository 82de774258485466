use Rattle.std.proofs.Common.{◌≡◌, ◌++◌, take}
use Rattle.gw_policy_review.specs.comparison.Details.{audit_line}
use Rattle.gw_script.specs.Order.{in_order}
use Rattle.gw_policy_review.proofs.comparison.rule_details.put_audits.Given as goal

abbrev pub invariant-loop-place : goal.invariant-loop-place
invariant-loop-place l = l.out.items ≡ l.fn.out.items ++ in_order (audit_line l.old l.rules) 1 (take l.place l.audits)
