use Rattle.gw_state_text.proofs.PutLemmas.{before, last}
use Rattle.gw_state_text.proofs.lines.put_device.Goals as goal

pub returns : goal.returns
returns c =
    before _ _ _ _ _ _ c.in_ok-put_slice.ensures.ok (before _ _ _ _ _ _ c.in_ok-put_text.ensures.ok (before _ _ _ _ _ _ c.in_ok-put_octet.ensures.ok
    (before _ _ _ _ _ _ c.in_ok-put_decimal.ensures.ok (before _ _ _ _ _ _ c.in_ok-put_octet-2.ensures.ok
    (before _ _ _ _ _ _ c.in_ok-put_decimal-2.ensures.ok (last c.put_octet-3.ensures))))))
