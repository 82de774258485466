-- The assertions that don't hold, one after the other.
use Rattle.std.proofs.Common.{◌≡◌, ◌∙◌, ℕ, zero, suc, ◌+◌, ◌<◌, List, [], ◌∷◌, ◌++◌, ap, append_assoc, arith, get_or, length, rules, sym, take}
use Rattle.std.proofs.Math.Seq.{take-length}
use Rattle.json.specs.Json.{Json}
use Rattle.gw_ask_sets.specs.declared.assertions.judging.Judged.{Judged}
use Rattle.gw_configuration.specs.Configuration.{Configuration}
use Rattle.gw_json.specs.Unheld.{unheld_item, unheld_items}

nothing_more : (values : List Json) → values ++ [] ≡ values
nothing_more values = search rules

one_more : (c : Configuration) (n : ℕ) (judged : List Judged) (place : ℕ) (d : Judged) → place < length judged
    → unheld_items c n (take (suc place) judged) ≡ unheld_items c n (take place judged) ++ unheld_item c (n + place) (get_or judged place d)
one_more c n [] place d inside = absurd (omega (arith, inside))
one_more c n (one ∷ judged) zero d inside =
    let same : n ≡ n + 0 = omega arith in
    nothing_more (unheld_item c n one) ∙ ap (λ (m : ℕ). unheld_item c m one) same
one_more c n (one ∷ judged) (suc place) d inside =
    let same : n + 1 + place ≡ n + suc place = omega arith in
    ap (λ (values : List Json). unheld_item c n one ++ values) (one_more c (n + 1) judged place d (omega (arith, inside)))
    ∙ sym (append_assoc (unheld_item c n one) (unheld_items c (n + 1) (take place judged)) (unheld_item c (n + 1 + place) (get_or judged place d)))
    ∙ ap (λ (m : ℕ). (unheld_item c n one ++ unheld_items c (n + 1) (take place judged)) ++ unheld_item c m (get_or judged place d)) same

-- with one more of them
pub unheld_step : (c : Configuration) (judged : List Judged) (place : ℕ) (d : Judged) (now new : List Json) → place < length judged
    → now ≡ unheld_items c 0 (take place judged) → new ≡ now ++ unheld_item c place (get_or judged place d)
    → new ≡ unheld_items c 0 (take (place + 1) judged)
unheld_step c judged place d now new inside so_far then =
    let number : place ≡ 0 + place = omega arith in
    let next : place + 1 ≡ suc place = omega arith in
    then ∙ ap (λ (values : List Json). values ++ unheld_item c place (get_or judged place d)) so_far
    ∙ ap (λ (m : ℕ). unheld_items c 0 (take place judged) ++ unheld_item c m (get_or judged place d)) number
    ∙ sym (one_more c 0 judged place d inside)
    ∙ ap (λ (m : ℕ). unheld_items c 0 (take m judged)) (sym next)

-- of all of them
pub unheld_end : (c : Configuration) (judged : List Judged) (place : ℕ) (now : List Json) → place ≡ length judged
    → now ≡ unheld_items c 0 (take place judged) → now ≡ unheld_items c 0 judged
unheld_end c judged place now ends so_far =
    so_far ∙ ap (λ (m : ℕ). unheld_items c 0 (take m judged)) ends ∙ ap (unheld_items c 0) (take-length judged)
