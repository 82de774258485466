use Rattle.gw_addr.proofs.Appended.{then_put}
use Rattle.gw_audit.proofs.Refused.{cut, refused}
use Rattle.gw_policy_review.proofs.warnings.port_warnings.put_own.Goals as goal

pub returns : goal.returns
returns c =
    then_put (rw c.has_zero_port.ensures at c.in_ok-put_where.ensures) c.put_unusual.ensures

pub returns-in_err-put_where : goal.returns-in_err-put_where
returns-in_err-put_where c =
    refused (cut _ (rw c.has_zero_port.ensures at c.in_err-put_where.ensures)) c.from_residual.ensures.0
