use Rattle.gw_addr.proofs.Appended.{then_put}
use Rattle.gw_audit.proofs.Refused.{cut, refused}
use Rattle.gw_policy_review.proofs.warnings.port_warnings.put_port.Goals as goal

pub returns : goal.returns
returns c =
    then_put (then_put c.in_ok-put_own.ensures c.in_ok-put_broadcast.ensures) (rw c.as_slice.ensures.peers at c.put_peers.ensures)

pub returns-in_err-put_own : goal.returns-in_err-put_own
returns-in_err-put_own c =
    refused (cut _ (cut _ c.in_err-put_own.ensures)) c.from_residual.ensures.0

pub returns-in_err-put_broadcast : goal.returns-in_err-put_broadcast
returns-in_err-put_broadcast c =
    refused (cut _ (then_put c.in_ok-put_own.ensures c.in_err-put_broadcast.ensures)) c.from_residual-in_err-put_broadcast.ensures.0
