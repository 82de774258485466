-- What is shown of a text is printable.
use Rattle.std.proofs.Common.{◌≡◌, ◌∙◌, refl, ap, ap₂, ℕ, ◌<◌, Bool, true, ◌&&◌, List, [], ◌∷◌, ◌++◌, codes}
use Rattle.std.specs.List.{AllByRecursion, flat_map, list_all}
use Rattle.std.proofs.lemmas.Bool.{agree_below_at}
use Rattle.std.proofs.lemmas.List.Folds.{list_all-append}
use Rattle.gw_state_words.specs.Laws.{TextsArePrintable, is_printable}
use Rattle.gw_state_words.specs.Words.{shown}

shown_plainly : (n : ℕ) → n < 256 → list_all is_printable (shown n) ≡ true
shown_plainly n small = agree_below_at (λ k. list_all is_printable (shown k)) (λ k. true) 256 n refl small

all_shown : (octets : List ℕ) → AllByRecursion (λ n. n < 256) octets → list_all is_printable (flat_map shown octets) ≡ true
all_shown [] small = refl
all_shown (n ∷ octets) small =
    list_all-append is_printable (shown n) (flat_map shown octets)
    ∙ ap₂ (λ (a b : Bool). a && b) (shown_plainly n small.0) (all_shown octets small.1)

pub texts_are_printable : TextsArePrintable
texts_are_printable octets small =
    list_all-append is_printable (codes "\"" ++ flat_map shown octets) (codes "\"")
    ∙ ap (λ (b : Bool). b && true) (all_shown octets small)
