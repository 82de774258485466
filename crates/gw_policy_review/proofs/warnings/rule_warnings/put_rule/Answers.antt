use Rattle.gw_addr.proofs.Appended.{then_put}
use Rattle.gw_audit.proofs.Refused.{cut, refused}
use Rattle.gw_policy_review.proofs.warnings.rule_warnings.put_rule.Goals as goal

pub returns : goal.returns
returns c =
    then_put (then_put (then_put (rw c.as_slice.ensures at c.in_ok-put_missing.ensures) (rw c.as_slice-2.ensures at c.in_ok-put_cuts.ensures)) (rw c.as_slice-3.ensures at c.in_ok-put_cuts-2.ensures)) (rw c.as_slice-4.ensures at c.put_cuts-3.ensures)

pub returns-in_err-put_missing : goal.returns-in_err-put_missing
returns-in_err-put_missing c =
    refused (cut _ (cut _ (cut _ (rw c.as_slice.ensures at c.in_err-put_missing.ensures)))) c.from_residual.ensures.0

pub returns-in_err-put_cuts : goal.returns-in_err-put_cuts
returns-in_err-put_cuts c =
    refused (cut _ (cut _ (then_put (rw c.as_slice.ensures at c.in_ok-put_missing.ensures) (rw c.as_slice-2.ensures at c.in_err-put_cuts.ensures)))) c.from_residual-in_err-put_cuts.ensures.0

pub returns-in_err-put_cuts-2 : goal.returns-in_err-put_cuts-2
returns-in_err-put_cuts-2 c =
    refused (cut _ (then_put (then_put (rw c.as_slice.ensures at c.in_ok-put_missing.ensures) (rw c.as_slice-2.ensures at c.in_ok-put_cuts.ensures)) (rw c.as_slice-3.ensures at c.in_err-put_cuts-2.ensures))) c.from_residual-in_err-put_cuts-2.ensures.0
