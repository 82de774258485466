use Rattle.gw_addr.specs.Mask.{mask_text}
use Rattle.gw_state_text.proofs.WordLemmas.{mask_lacks_feed, some_is}
use Rattle.gw_state_text.proofs.ReadLemmas.{mask_found, mask_missed}
use Rattle.gw_state_text.proofs.words.mask_to.Goals as goal

pub returns-in_err-word-clause-only : goal.returns-in_err-word-clause-only
returns-in_err-word-clause-only c = λ m rest is e.
    absurd (c.in_err-word.ensures.only (mask_text m) rest (mask_lacks_feed m is) e)

pub returns-in_default-clause-only : goal.returns-in_default-clause-only
returns-in_default-clause-only c = λ m rest is e.
    let word = c.in_ok-word.ensures.only (mask_text m) rest (mask_lacks_feed m is) e in
    absurd (let read = c.in_default.ensures.only m is word.0 in cc)

pub returns-clause-only : goal.returns-clause-only
returns-clause-only c = λ m rest is e.
    let word = c.in_ok-word.ensures.only (mask_text m) rest (mask_lacks_feed m is) e in
    (some_is c.in-Some.mask m (c.in-Some.ensures.only m is word.0), word.1)

pub returns-in_default-clause-exact : goal.returns-in_default-clause-exact
returns-in_default-clause-exact c =
    mask_missed c.args.text.now c.in_ok-word.word.now c.in_ok-word.rest.now c.in_ok-word.ensures.exact
    (λ m is e. absurd (let read = c.in_default.ensures.only m is e in cc))

pub returns-clause-exact : goal.returns-clause-exact
returns-clause-exact c =
    mask_found c.args.text.now c.in_ok-word.word.now c.in-Some.mask c.in_ok-word.rest.now c.in_ok-word.ensures.exact c.in-Some.ensures.is
    c.in-Some.ensures.found
