use Rattle.gw_addr.proofs.Appended.{then_put}
use Rattle.gw_audit.proofs.Refused.{cut, refused}
use Rattle.gw_policy_review.proofs.warnings.warnings.put_policy.Goals as goal

pub returns : goal.returns
returns c =
    then_put (then_put (then_put (rw (c.rules.ensures.rules, c.rules-rules.ensures.rules) at c.in_ok-put_none.ensures) (rw (c.format-format.ensures.format, c.ports-ports.ensures.ports, c.rules-2.ensures.rules, c.rules-rules.ensures.rules) at c.in_ok-put_rules.ensures)) (rw (c.audits.ensures.audits, c.rules-3.ensures.rules, c.rules-rules.ensures.rules) at c.in_ok-put_audits.ensures)) (rw (c.format-format.ensures.format, c.rules-rules.ensures.rules, c.ports-ports.ensures.ports) at c.put_registering.ensures)

pub returns-in_err-put_none : goal.returns-in_err-put_none
returns-in_err-put_none c =
    refused (cut _ (cut _ (cut _ (rw (c.rules.ensures.rules, c.rules-rules.ensures.rules) at c.in_err-put_none.ensures)))) c.from_residual.ensures.0

pub returns-in_err-put_rules : goal.returns-in_err-put_rules
returns-in_err-put_rules c =
    refused (cut _ (cut _ (then_put (rw (c.rules.ensures.rules, c.rules-rules.ensures.rules) at c.in_ok-put_none.ensures) (rw (c.format-format.ensures.format, c.ports-ports.ensures.ports, c.rules-2.ensures.rules, c.rules-rules.ensures.rules) at c.in_err-put_rules.ensures)))) c.from_residual-in_err-put_rules.ensures.0

pub returns-in_err-put_audits : goal.returns-in_err-put_audits
returns-in_err-put_audits c =
    refused (cut _ (then_put (then_put (rw (c.rules.ensures.rules, c.rules-rules.ensures.rules) at c.in_ok-put_none.ensures) (rw (c.format-format.ensures.format, c.ports-ports.ensures.ports, c.rules-2.ensures.rules, c.rules-rules.ensures.rules) at c.in_ok-put_rules.ensures)) (rw (c.audits.ensures.audits, c.rules-3.ensures.rules, c.rules-rules.ensures.rules) at c.in_err-put_audits.ensures))) c.from_residual-in_err-put_audits.ensures.0
