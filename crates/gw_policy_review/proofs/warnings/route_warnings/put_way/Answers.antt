use Rattle.gw_addr.proofs.Appended.{then_put}
use Rattle.gw_audit.proofs.Refused.{cut, refused}
use Rattle.gw_policy_review.proofs.warnings.route_warnings.put_way.Goals as goal

pub returns : goal.returns
returns c =
    then_put (then_put (then_put c.in_ok-put_unusual.ensures (rw c.owner.ensures at c.in_ok-put_owned.ensures)) (rw c.is_same-broadcasts.ensures at c.in_ok-put_where.ensures)) (rw c.is_elsewhere-elsewhere.ensures at c.put_where-2.ensures)

pub returns-in_err-put_unusual : goal.returns-in_err-put_unusual
returns-in_err-put_unusual c =
    refused (cut _ (cut _ (cut _ c.in_err-put_unusual.ensures))) c.from_residual.ensures.0

pub returns-in_err-put_owned : goal.returns-in_err-put_owned
returns-in_err-put_owned c =
    refused (cut _ (cut _ (then_put c.in_ok-put_unusual.ensures (rw c.owner.ensures at c.in_err-put_owned.ensures)))) c.from_residual-in_err-put_owned.ensures.0

pub returns-in_err-put_where : goal.returns-in_err-put_where
returns-in_err-put_where c =
    refused (cut _ (then_put (then_put c.in_ok-put_unusual.ensures (rw c.owner.ensures at c.in_ok-put_owned.ensures)) (rw c.is_same-broadcasts.ensures at c.in_err-put_where.ensures))) c.from_residual-in_err-put_where.ensures.0
