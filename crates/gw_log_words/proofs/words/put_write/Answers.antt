use Rattle.gw_addr.proofs.Appended.{then_put}
use Rattle.gw_audit.proofs.Refused.{cut, refused}
use Rattle.gw_log_words.proofs.words.put_write.Goals as goal

pub returns : goal.returns
returns c =
    then_put (then_put (then_put (then_put c.in_ok-put_slice.ensures c.in_ok-put_target.ensures) c.in_ok-put_device.ensures) c.in_ok-put_priority.ensures) c.put_by_other.ensures

pub returns-in_err-put_target : goal.returns-in_err-put_target
returns-in_err-put_target c =
    refused (cut _ (cut _ (cut _ (then_put c.in_ok-put_slice.ensures c.in_err-put_target.ensures)))) c.from_residual-in_err-put_target.ensures.0

pub returns-in_err-put_device : goal.returns-in_err-put_device
returns-in_err-put_device c =
    refused (cut _ (cut _ (then_put (then_put c.in_ok-put_slice.ensures c.in_ok-put_target.ensures) c.in_err-put_device.ensures))) c.from_residual-in_err-put_device.ensures.0

pub returns-in_err-put_priority : goal.returns-in_err-put_priority
returns-in_err-put_priority c =
    refused (cut _ (then_put (then_put (then_put c.in_ok-put_slice.ensures c.in_ok-put_target.ensures) c.in_ok-put_device.ensures) c.in_err-put_priority.ensures)) c.from_residual-in_err-put_priority.ensures.0
