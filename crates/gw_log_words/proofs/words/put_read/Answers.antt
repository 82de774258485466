use Rattle.gw_addr.proofs.Appended.{then_put}
use Rattle.gw_log_words.proofs.words.put_read.Goals as goal

pub returns : goal.returns
returns c =
    then_put (then_put (then_put c.in_ok-put_slice.ensures c.in_ok-put_target.ensures) c.in_ok-put_device.ensures) c.put_by_other.ensures
