-- The lines of things that are written one after the other.
use Rattle.std.proofs.Common.{◌≡◌, ◌∙◌, ℕ, ◌+◌, ◌<◌, List, [], Option, ap, arith, get_or, length, refl, subst, sym, take}
use Rattle.std.proofs.Math.Seq.{take-length}
use Rattle.std.proofs.KnownBytes.{Appends-nil, Appends-trans}
use Rattle.std.specs.Io.KnownBytes.{Appends}
use Rattle.gw_script.specs.Order.{in_order}
use Rattle.gw_script.proofs.Order.{in_order_next}

-- no line for nothing
lines_none : {A : Type 0} (text : ℕ → A → List ℕ) → in_order text 1 [] ≡ []
unfolding in_order
lines_none text = refl

pub written_none : {A : Type 0} (text : ℕ → A → List ℕ) (held : Option (List ℕ)) → Appends held held (in_order text 1 [])
written_none text held = subst (λ (t : List ℕ). Appends held held t) (sym (lines_none text)) (Appends-nil held)

-- the lines of one more
pub written_one : {A : Type 0} (text : ℕ → A → List ℕ) (a b c : Option (List ℕ)) (items : List A) (place : ℕ) (d : A) (line : List ℕ)
    → place < length items → line ≡ text (place + 1) (get_or items place d) → Appends a b (in_order text 1 (take place items)) → Appends b c line
    → Appends a c (in_order text 1 (take (place + 1) items))
written_one text a b c items place d line inside is first second =
    let number : place + 1 ≡ 1 + place = omega arith in
    let next = in_order_next text 1 items place d inside in
    subst (λ (t : List ℕ). Appends a c t) (sym next)
    (Appends-trans a b c (in_order text 1 (take place items)) (text (1 + place) (get_or items place d)) first
    (subst (λ (t : List ℕ). Appends b c t) (is ∙ ap (λ (n : ℕ). text n (get_or items place d)) number) second))

-- the lines of all
pub written_all : {A : Type 0} (text : ℕ → A → List ℕ) (a b : Option (List ℕ)) (items : List A) (place : ℕ) → place ≡ length items
    → Appends a b (in_order text 1 (take place items)) → Appends a b (in_order text 1 items)
written_all text a b items place ends written =
    subst (λ (xs : List _). Appends a b (in_order text 1 xs)) (ap (λ (n : ℕ). take n items) ends ∙ take-length items) written
