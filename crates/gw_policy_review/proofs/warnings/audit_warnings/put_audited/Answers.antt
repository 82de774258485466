use Rattle.gw_addr.proofs.Appended.{then_put}
use Rattle.gw_audit.proofs.Refused.{cut, refused}
use Rattle.gw_policy_review.proofs.warnings.audit_warnings.put_audited.Goals as goal

pub returns : goal.returns
returns c =
    then_put (then_put (then_put c.in_ok-put_front.ensures c.in_ok-put_name.ensures) c.in_ok-put_words.ensures) c.put_octet.ensures

pub returns-in_err-put_front : goal.returns-in_err-put_front
returns-in_err-put_front c =
    refused (cut _ (cut _ (cut _ c.in_err-put_front.ensures))) c.from_residual.ensures.0

pub returns-in_err-put_name : goal.returns-in_err-put_name
returns-in_err-put_name c =
    refused (cut _ (cut _ (then_put c.in_ok-put_front.ensures c.in_err-put_name.ensures))) c.from_residual-in_err-put_name.ensures.0

pub returns-in_err-put_words : goal.returns-in_err-put_words
returns-in_err-put_words c =
    refused (cut _ (then_put (then_put c.in_ok-put_front.ensures c.in_ok-put_name.ensures) c.in_err-put_words.ensures)) c.from_residual-in_err-put_words.ensures.0
