use Rattle.gw_addr.proofs.Appended.{then_put}
use Rattle.gw_audit.proofs.Refused.{cut, refused}
use Rattle.gw_policy_review.proofs.warnings.port_warnings.put_unusual.Goals as goal

pub returns : goal.returns
returns c =
    then_put (rw c.has_low_port.ensures at c.in_ok-put_where.ensures) (rw c.is_multicast.ensures at c.put_where-2.ensures)

pub returns-in_err-put_where : goal.returns-in_err-put_where
returns-in_err-put_where c =
    refused (cut _ (rw c.has_low_port.ensures at c.in_err-put_where.ensures)) c.from_residual.ensures.0
