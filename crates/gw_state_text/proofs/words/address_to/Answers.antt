use Rattle.gw_addr.specs.Address.{text_of}
use Rattle.gw_state_text.proofs.WordLemmas.{lacks_low, some_is}
use Rattle.gw_state_text.proofs.ReadLemmas.{address_found, address_missed}
use Rattle.gw_state_text.proofs.words.address_to.Goals as goal

pub returns-in_err-word-clause-only : goal.returns-in_err-word-clause-only
returns-in_err-word-clause-only c = λ a rest is e.
    absurd (c.in_err-word.ensures.only (text_of a) rest (lacks_low c.args.c c.requires a is) e)

pub returns-in_default-clause-only : goal.returns-in_default-clause-only
returns-in_default-clause-only c = λ a rest is e.
    let word = c.in_ok-word.ensures.only (text_of a) rest (lacks_low c.args.c c.requires a is) e in
    absurd (let read = c.in_default.ensures.only a is word.0 in cc)

pub returns-clause-only : goal.returns-clause-only
returns-clause-only c = λ a rest is e.
    let word = c.in_ok-word.ensures.only (text_of a) rest (lacks_low c.args.c c.requires a is) e in
    let read = c.in-Some.ensures.only a is word.0 in
    (some_is c.in-Some.address a read, word.1)

pub returns-in_default-clause-exact : goal.returns-in_default-clause-exact
returns-in_default-clause-exact c =
    address_missed c.args.c c.args.text.now c.in_ok-word.word.now c.in_ok-word.rest.now c.in_ok-word.ensures.exact
    (λ a is e. absurd (let read = c.in_default.ensures.only a is e in cc))

pub returns-clause-exact : goal.returns-clause-exact
returns-clause-exact c =
    address_found c.args.c c.args.text.now c.in_ok-word.word.now c.in-Some.address c.in_ok-word.rest.now c.in_ok-word.ensures.exact
    c.in-Some.ensures.is c.in-Some.ensures.found
