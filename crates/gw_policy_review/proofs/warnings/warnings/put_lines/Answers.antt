use Rattle.gw_addr.proofs.Appended.{then_put}
use Rattle.gw_audit.proofs.Refused.{cut, refused}
use Rattle.gw_policy_review.proofs.warnings.warnings.put_lines.Goals as goal

pub returns : goal.returns
returns c =
    then_put (then_put (then_put (then_put (rw c.device.ensures.device at c.in_ok-put_device.ensures) (rw c.ports-ports.ensures.ports at c.in_ok-put_ports.ensures)) (rw (c.ports-ports.ensures.ports, c.routes.ensures.routes) at c.in_ok-put_routes.ensures)) (rw c.sets.ensures at c.in_ok-put_sets.ensures)) c.put_policy.ensures

pub returns-in_err-put_device : goal.returns-in_err-put_device
returns-in_err-put_device c =
    refused (cut _ (cut _ (cut _ (cut _ (rw c.device.ensures.device at c.in_err-put_device.ensures))))) c.from_residual.ensures.0

pub returns-in_err-put_ports : goal.returns-in_err-put_ports
returns-in_err-put_ports c =
    refused (cut _ (cut _ (cut _ (then_put (rw c.device.ensures.device at c.in_ok-put_device.ensures) (rw c.ports-ports.ensures.ports at c.in_err-put_ports.ensures))))) c.from_residual-in_err-put_ports.ensures.0

pub returns-in_err-put_routes : goal.returns-in_err-put_routes
returns-in_err-put_routes c =
    refused (cut _ (cut _ (then_put (then_put (rw c.device.ensures.device at c.in_ok-put_device.ensures) (rw c.ports-ports.ensures.ports at c.in_ok-put_ports.ensures)) (rw (c.ports-ports.ensures.ports, c.routes.ensures.routes) at c.in_err-put_routes.ensures)))) c.from_residual-in_err-put_routes.ensures.0

pub returns-in_err-put_sets : goal.returns-in_err-put_sets
returns-in_err-put_sets c =
    refused (cut _ (then_put (then_put (then_put (rw c.device.ensures.device at c.in_ok-put_device.ensures) (rw c.ports-ports.ensures.ports at c.in_ok-put_ports.ensures)) (rw (c.ports-ports.ensures.ports, c.routes.ensures.routes) at c.in_ok-put_routes.ensures)) (rw c.sets.ensures at c.in_err-put_sets.ensures))) c.from_residual-in_err-put_sets.ensures.0
