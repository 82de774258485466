use Rattle.gw_addr.proofs.Appended.{then_put}
use Rattle.gw_audit.proofs.Refused.{cut, refused}
use Rattle.gw_policy_review.proofs.warnings.rule_warnings.put_cut_line.Goals as goal

pub returns : goal.returns
returns c =
    then_put (then_put (then_put (then_put c.in_ok-put_item.ensures c.in_ok-put_ends.ensures) c.in_ok-put_slice.ensures) (rw (c.with_udp.ensures, c.with_udp-2.ensures) at c.in_ok-put_ends-2.ensures)) c.put_octet.ensures

pub returns-in_err-put_item : goal.returns-in_err-put_item
returns-in_err-put_item c =
    refused (cut _ (cut _ (cut _ (cut _ c.in_err-put_item.ensures)))) c.from_residual.ensures.0

pub returns-in_err-put_ends : goal.returns-in_err-put_ends
returns-in_err-put_ends c =
    refused (cut _ (cut _ (cut _ (then_put c.in_ok-put_item.ensures c.in_err-put_ends.ensures)))) c.from_residual-in_err-put_ends.ensures.0

pub returns-in_err-put_slice : goal.returns-in_err-put_slice
returns-in_err-put_slice c =
    refused (cut _ (cut _ (then_put (then_put c.in_ok-put_item.ensures c.in_ok-put_ends.ensures) c.in_err-put_slice.ensures))) c.from_residual-in_err-put_slice.ensures.0

pub returns-in_err-put_ends-2 : goal.returns-in_err-put_ends-2
returns-in_err-put_ends-2 c =
    refused (cut _ (then_put (then_put (then_put c.in_ok-put_item.ensures c.in_ok-put_ends.ensures) c.in_ok-put_slice.ensures) (rw (c.with_udp.ensures, c.with_udp-2.ensures) at c.in_err-put_ends-2.ensures))) c.from_residual-in_err-put_ends-2.ensures.0
