use Rattle.gw_policy_review.specs.warnings.Warnings.{ends_words}
use Rattle.gw_addr.proofs.Appended.{then_put}
use Rattle.gw_audit.proofs.Refused.{cut, refused}
use Rattle.gw_policy_review.proofs.warnings.rule_warnings.put_ends.Goals as goal

pub returns : goal.returns
unfolding ends_words
returns c =
    then_put (then_put (then_put (then_put c.in_ok-put_slice.ensures c.in_ok-put_text.ensures) c.in_ok-put_slice-2.ensures) c.in_ok-put_text-2.ensures) c.put_slice-3.ensures

pub returns-in_err-put_slice : goal.returns-in_err-put_slice
unfolding ends_words
returns-in_err-put_slice c =
    refused (cut _ c.in_err-put_slice.ensures) c.from_residual.ensures.0

pub returns-in_err-put_text : goal.returns-in_err-put_text
unfolding ends_words
returns-in_err-put_text c =
    refused (cut _ (cut _ (cut _ (then_put c.in_ok-put_slice.ensures c.in_err-put_text.ensures)))) c.from_residual-in_err-put_text.ensures.0

pub returns-in_err-put_slice-2 : goal.returns-in_err-put_slice-2
unfolding ends_words
returns-in_err-put_slice-2 c =
    refused (cut _ (cut _ (then_put (then_put c.in_ok-put_slice.ensures c.in_ok-put_text.ensures) c.in_err-put_slice-2.ensures))) c.from_residual-in_err-put_slice-2.ensures.0

pub returns-in_err-put_text-2 : goal.returns-in_err-put_text-2
unfolding ends_words
returns-in_err-put_text-2 c =
    refused (cut _ (then_put (then_put (then_put c.in_ok-put_slice.ensures c.in_ok-put_text.ensures) c.in_ok-put_slice-2.ensures) c.in_err-put_text-2.ensures)) c.from_residual-in_err-put_text-2.ensures.0
