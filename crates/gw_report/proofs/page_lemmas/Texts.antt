-- Escaped texts are rows of harmless parts.
use Rattle.std.proofs.Common.{◌≡◌, ◌++◌, inl, inr, ℕ, ◌==◌, Bool, true, false, List, [], ◌∷◌, ap, arith, cond, refl}
use Rattle.std.specs.List.{flat_map, list_all}
use Rattle.gw_addr.proofs.Reading.{both_true}
use Rattle.gw_configuration.specs.Shown.{is_printed, shown}
use Rattle.gw_configuration.proofs.Showing.{all_printed}
use Rattle.gw_report.specs.page.Escape.{escaped_octet}
use Rattle.gw_report.specs.page.Laws.{AreHarmless, IsHarmless, TextsAreHarmless, is_plain}

chosen : (b : Bool) (first other : List ℕ) → IsHarmless first → (b ≡ false → IsHarmless other) → IsHarmless (cond b first other)
chosen true first other is rest = is
chosen false first other is rest = rest refl

plain : (x : ℕ) → (x == 38) ≡ false → (x == 60) ≡ false → (x == 62) ≡ false → (x == 34) ≡ false → (x == 39) ≡ false
    → is_printed x ≡ true → is_plain x ≡ true
plain x a b c d e f = grind (arith, a, b, c, d, e, f)

octet_harmless : (x : ℕ) → is_printed x ≡ true → IsHarmless (escaped_octet x)
octet_harmless x is =
    chosen (x == 38) _ _ (inl refl) (λ a.
    chosen (x == 60) _ _ (inl refl) (λ b.
    chosen (x == 62) _ _ (inl refl) (λ c.
    chosen (x == 34) _ _ (inl refl) (λ d.
    chosen (x == 39) _ _ (inl refl) (λ e. inr (x, refl, plain x a b c d e is))))))

abbrev parts_of : List ℕ → List (List ℕ)
parts_of [] = []
parts_of (x ∷ xs) = escaped_octet x ∷ parts_of xs

row_of : (text : List ℕ) → flat_map escaped_octet text ≡ flat_map (λ (part : List ℕ). part) (parts_of text)
row_of [] = refl
row_of (x ∷ xs) = ap (λ (t : List ℕ). escaped_octet x ++ t) (row_of xs)

all_harmless : (text : List ℕ) → list_all is_printed text ≡ true → AreHarmless (parts_of text)
all_harmless [] printed = tt
all_harmless (x ∷ xs) printed =
    let each = both_true (is_printed x) (list_all is_printed xs) printed in
    (octet_harmless x each.0, all_harmless xs each.1)

pub texts_are_harmless : TextsAreHarmless
texts_are_harmless text = record {
  parts = parts_of (shown text);
  row = row_of (shown text);
  harmless = all_harmless (shown text) (all_printed text);
}
