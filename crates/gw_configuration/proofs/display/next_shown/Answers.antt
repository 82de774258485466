use Rattle.std.proofs.Common.{rules, ◌≡◌, ◌∙◌, ◌-◌, ◌==◌, ◌∷◌, ℕ, List, ap, ap₂, drop, if◌then◌else◌, length, sym}
use Rattle.std.proofs.lemmas.List.{nil_from_length, take_rest}
use Rattle.gw_configuration.specs.Shown.{hidden, shown}
use Rattle.gw_configuration.proofs.Showing.{shown_first, shown_none}
use Rattle.gw_configuration.proofs.display.next_shown.Goals as goal

pub returns-in_err-first-clause-none : goal.returns-in_err-first-clause-none
returns-in_err-first-clause-none c = λ gone.
    let none : length c.args.text.now ≡ 0 = search rules in
    ap shown (nil_from_length c.args.text.now none) ∙ shown_none

pub returns-clause-some : goal.returns-clause-some
returns-clause-some c =
    let first = c.in_ok-first.first.now in
    let rest = c.in_ok-first.rest.now in
    let whole : c.args.text.now ≡ first ∷ rest = search rules in
    let len : c.hidden-len.result ≡ hidden (first ∷ rest) = c.hidden-len.ensures.len ∙ ap hidden whole in
    let octet : c.shown_octet.result ≡ (if hidden (first ∷ rest) == 0 then first else 63) =
    c.shown_octet.ensures ∙ ap (λ (n : ℕ). if n == 0 then first else 63) len in
    let skipped : c.saturating_sub.result ≡ hidden (first ∷ rest) - 1 = c.saturating_sub.ensures ∙ ap (λ (n : ℕ). n - 1) len in
    ap shown whole ∙ shown_first first rest
    ∙ sym (ap₂ (λ (o : ℕ) (text : List ℕ). o ∷ shown text) octet
    (take_rest rest c.saturating_sub.result ∙ ap (λ (n : ℕ). drop n rest) skipped))
