use Rattle.gw_addr.proofs.Appended.{then_put}
use Rattle.gw_audit.proofs.Refused.{cut, refused}
use Rattle.gw_policy_review.proofs.warnings.rule_warnings.put_pair.Goals as goal

pub returns : goal.returns
returns c =
    then_put (then_put (then_put (then_put c.in_ok-put_octet.ensures c.in_ok-put_decimal.ensures) c.in_ok-put_slice.ensures) c.in_ok-put_decimal-2.ensures) c.put_octet-2.ensures

pub returns-in_err-put_octet : goal.returns-in_err-put_octet
returns-in_err-put_octet c =
    refused (cut _ c.in_err-put_octet.ensures) c.from_residual.ensures.0

pub returns-in_err-put_decimal : goal.returns-in_err-put_decimal
returns-in_err-put_decimal c =
    refused (cut _ (cut _ (cut _ (then_put c.in_ok-put_octet.ensures c.in_err-put_decimal.ensures)))) c.from_residual-in_err-put_decimal.ensures.0

pub returns-in_err-put_slice : goal.returns-in_err-put_slice
returns-in_err-put_slice c =
    refused (cut _ (cut _ (then_put (then_put c.in_ok-put_octet.ensures c.in_ok-put_decimal.ensures) c.in_err-put_slice.ensures))) c.from_residual-in_err-put_slice.ensures.0

pub returns-in_err-put_decimal-2 : goal.returns-in_err-put_decimal-2
returns-in_err-put_decimal-2 c =
    refused (cut _ (then_put (then_put (then_put c.in_ok-put_octet.ensures c.in_ok-put_decimal.ensures) c.in_ok-put_slice.ensures) c.in_err-put_decimal-2.ensures)) c.from_residual-in_err-put_decimal-2.ensures.0
