use Rattle.gw_addr.proofs.Appended.{then_put}
use Rattle.gw_audit.proofs.Refused.{cut, refused}
use Rattle.gw_policy_review.proofs.warnings.set_warnings.put_unused.Goals as goal

pub returns : goal.returns
returns c =
    then_put (then_put (then_put c.in_ok-put_numbered.ensures c.in_ok-put_name.ensures) c.in_ok-put_slice.ensures) c.put_octet.ensures

pub returns-in_err-put_numbered : goal.returns-in_err-put_numbered
returns-in_err-put_numbered c =
    refused (cut _ (cut _ (cut _ c.in_err-put_numbered.ensures))) c.from_residual.ensures.0

pub returns-in_err-put_name : goal.returns-in_err-put_name
returns-in_err-put_name c =
    refused (cut _ (cut _ (then_put c.in_ok-put_numbered.ensures c.in_err-put_name.ensures))) c.from_residual-in_err-put_name.ensures.0

pub returns-in_err-put_slice : goal.returns-in_err-put_slice
returns-in_err-put_slice c =
    refused (cut _ (then_put (then_put c.in_ok-put_numbered.ensures c.in_ok-put_name.ensures) c.in_err-put_slice.ensures)) c.from_residual-in_err-put_slice.ensures.0
