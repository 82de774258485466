use Rattle.gw_addr.proofs.Appended.{then_put}
use Rattle.gw_audit.proofs.Refused.{cut, refused}
use Rattle.gw_log_words.proofs.words.put_words.Goals as goal

pub returns : goal.returns
returns c =
    then_put (then_put (then_put (then_put c.in_ok-put_asker.ensures c.in_ok-put_octet.ensures) c.in_ok-put_deed.ensures) c.in_ok-put_verdict.ensures) c.put_text.ensures

pub returns-in_err-put_asker : goal.returns-in_err-put_asker
returns-in_err-put_asker c = refused (cut _ (cut _ (cut _ (cut _ c.in_err-put_asker.ensures)))) c.from_residual.ensures.0

pub returns-in_err-put_octet : goal.returns-in_err-put_octet
returns-in_err-put_octet c = refused (cut _ (cut _ (cut _ (then_put c.in_ok-put_asker.ensures c.in_err-put_octet.ensures)))) c.from_residual-in_err-put_octet.ensures.0

pub returns-in_err-put_deed : goal.returns-in_err-put_deed
returns-in_err-put_deed c = refused (cut _ (cut _ (then_put (then_put c.in_ok-put_asker.ensures c.in_ok-put_octet.ensures) c.in_err-put_deed.ensures))) c.from_residual-in_err-put_deed.ensures.0

pub returns-in_err-put_verdict : goal.returns-in_err-put_verdict
returns-in_err-put_verdict c = refused (cut _ (then_put (then_put (then_put c.in_ok-put_asker.ensures c.in_ok-put_octet.ensures) c.in_ok-put_deed.ensures) c.in_err-put_verdict.ensures)) c.from_residual-in_err-put_verdict.ensures.0
