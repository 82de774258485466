use Rattle.gw_addr.proofs.Appended.{then_put}
use Rattle.gw_audit.proofs.Refused.{cut, refused}
use Rattle.gw_policy_review.proofs.warnings.peer_warnings.put_line.Goals as goal

pub returns : goal.returns
returns c =
    then_put (then_put (then_put (then_put (then_put (then_put c.in_ok-put_slice.ensures c.in_ok-put_spot.ensures) c.in_ok-put_text.ensures) c.in_ok-put_slice-2.ensures) c.in_ok-put_decimal.ensures) c.in_ok-put_slice-3.ensures) c.put_octet.ensures

pub returns-in_err-put_slice : goal.returns-in_err-put_slice
returns-in_err-put_slice c =
    refused (cut _ c.in_err-put_slice.ensures) c.from_residual.ensures.0

pub returns-in_err-put_spot : goal.returns-in_err-put_spot
returns-in_err-put_spot c =
    refused (cut _ (cut _ (cut _ (cut _ (cut _ (then_put c.in_ok-put_slice.ensures c.in_err-put_spot.ensures)))))) c.from_residual-in_err-put_spot.ensures.0

pub returns-in_err-put_text : goal.returns-in_err-put_text
returns-in_err-put_text c =
    refused (cut _ (cut _ (cut _ (cut _ (then_put (then_put c.in_ok-put_slice.ensures c.in_ok-put_spot.ensures) c.in_err-put_text.ensures))))) c.from_residual-in_err-put_text.ensures.0

pub returns-in_err-put_slice-2 : goal.returns-in_err-put_slice-2
returns-in_err-put_slice-2 c =
    refused (cut _ (cut _ (cut _ (then_put (then_put (then_put c.in_ok-put_slice.ensures c.in_ok-put_spot.ensures) c.in_ok-put_text.ensures) c.in_err-put_slice-2.ensures)))) c.from_residual-in_err-put_slice-2.ensures.0

pub returns-in_err-put_decimal : goal.returns-in_err-put_decimal
returns-in_err-put_decimal c =
    refused (cut _ (cut _ (then_put (then_put (then_put (then_put c.in_ok-put_slice.ensures c.in_ok-put_spot.ensures) c.in_ok-put_text.ensures) c.in_ok-put_slice-2.ensures) c.in_err-put_decimal.ensures))) c.from_residual-in_err-put_decimal.ensures.0

pub returns-in_err-put_slice-3 : goal.returns-in_err-put_slice-3
returns-in_err-put_slice-3 c =
    refused (cut _ (then_put (then_put (then_put (then_put (then_put c.in_ok-put_slice.ensures c.in_ok-put_spot.ensures) c.in_ok-put_text.ensures) c.in_ok-put_slice-2.ensures) c.in_ok-put_decimal.ensures) c.in_err-put_slice-3.ensures)) c.from_residual-in_err-put_slice-3.ensures.0
