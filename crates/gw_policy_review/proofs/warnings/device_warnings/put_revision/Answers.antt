use Rattle.gw_addr.proofs.Appended.{then_put}
use Rattle.gw_audit.proofs.Refused.{cut, refused}
use Rattle.gw_policy_review.proofs.warnings.device_warnings.put_revision.Goals as goal

pub returns : goal.returns
returns c =
    then_put (then_put (then_put c.in_ok-put_slice.ensures c.in_ok-put_decimal.ensures) c.in_ok-put_slice-2.ensures) c.put_octet.ensures

pub returns-in_err-put_slice : goal.returns-in_err-put_slice
returns-in_err-put_slice c =
    refused (cut _ c.in_err-put_slice.ensures) c.from_residual.ensures.0

pub returns-in_err-put_decimal : goal.returns-in_err-put_decimal
returns-in_err-put_decimal c =
    refused (cut _ (cut _ (then_put c.in_ok-put_slice.ensures c.in_err-put_decimal.ensures))) c.from_residual-in_err-put_decimal.ensures.0

pub returns-in_err-put_slice-2 : goal.returns-in_err-put_slice-2
returns-in_err-put_slice-2 c =
    refused (cut _ (then_put (then_put c.in_ok-put_slice.ensures c.in_ok-put_decimal.ensures) c.in_err-put_slice-2.ensures)) c.from_residual-in_err-put_slice-2.ensures.0
