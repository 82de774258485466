use Rattle.std.proofs.Common.{◌≡◌, sym, ap, ◌∙◌, arith}
use Rattle.std.specs.Cmp.Lexicographic.{same_text}
use Rattle.std.specs.Fmt.{decimal}
use Rattle.gw_addr.proofs.Reading.{ok_is}
use Rattle.gw_state_text.proofs.WordLemmas.{differs, no_text, number_again, unparsed}
use Rattle.gw_state_text.proofs.words.number_in.Goals as goal

pub returns-in_default : goal.returns-in_default
returns-in_default c = sym (no_text c.args.text.now c.in_default.ensures.cases.0)

pub returns-in_default-parse : goal.returns-in_default-parse
returns-in_default-parse c =
    sym (unparsed c.args.text.now c.in-Ok.digits.now c.parse.result c.in-Ok.ensures.cases.0 c.parse.ensures.value.0
    (λ n e _. c.in_default-parse.not-Ok n e))

pub returns-then-eq : goal.returns-then-eq
returns-then-eq c =
    let spelled = sym (same_text c.as_bytes.result.now c.args.text.now c.if-eq.ensures) ∙ c.as_bytes.ensures.value ∙ c.format.ensures.text in
    sym (number_again c.args.text.now c.in-Ok-parse.number (omega arith) spelled)

pub returns-else-eq : goal.returns-else-eq
returns-else-eq c =
    let text = c.args.text.now in
    sym (unparsed text c.in-Ok.digits.now c.parse.result c.in-Ok.ensures.cases.0 c.parse.ensures.value.0
    (λ n e spelled.
    let number : c.in-Ok-parse.number ≡ n = ok_is c.in-Ok-parse.number n (sym c.in-Ok-parse.is ∙ e) in
    differs c.as_bytes.result.now text (c.as_bytes.ensures.value ∙ c.format.ensures.text ∙ ap decimal number ∙ sym spelled) c.if-eq.ensures))
