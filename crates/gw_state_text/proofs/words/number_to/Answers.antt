use Rattle.std.proofs.Common.{◌≡◌, ◌∙◌, Some}
use Rattle.std.specs.Fmt.{decimal}
use Rattle.gw_addr.proofs.Lacking.{not_in_decimal}
use Rattle.gw_state_text.specs.Words.{number_in}
use Rattle.gw_state_text.proofs.WordLemmas.{number_again, some_is}
use Rattle.gw_state_text.proofs.words.number_to.Goals as goal

pub returns-in_err-word-clause-only : goal.returns-in_err-word-clause-only
returns-in_err-word-clause-only c = λ n rest small e.
    absurd (c.in_err-word.ensures.only (decimal n) rest (not_in_decimal n c.args.c small c.requires) e)

pub returns-in_err-number-clause-only : goal.returns-in_err-number-clause-only
returns-in_err-number-clause-only c = λ n rest small e.
    let word = c.in_ok-word.ensures.only (decimal n) rest (not_in_decimal n c.args.c small c.requires) e in
    let is : number_in c.in_ok-word.word.now ≡ Some n = number_again c.in_ok-word.word.now n small word.0 in
    absurd (let both = c.in_err-number.ensures ∙ is in cc)

pub returns-clause-only : goal.returns-clause-only
returns-clause-only c = λ n rest small e.
    let word = c.in_ok-word.ensures.only (decimal n) rest (not_in_decimal n c.args.c small c.requires) e in
    let is : number_in c.in_ok-word.word.now ≡ Some n = number_again c.in_ok-word.word.now n small word.0 in
    (some_is c.in_ok-number.number n (c.in_ok-number.ensures ∙ is), word.1)
