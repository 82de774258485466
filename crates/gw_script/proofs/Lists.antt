-- Texts of the items of a list, one after the other.
use Rattle.std.proofs.Common.{◌≡◌, ◌∙◌, ℕ, zero, suc, ◌+◌, ◌<◌, ◌≤◌, List, [], ◌∷◌, ◌++◌, length, take, get_or, refl, sym, ap, arith, append_assoc}
use Rattle.std.specs.List.{flat_map}
use Rattle.std.proofs.lemmas.List.{append-nil, length-append}
use Rattle.std.proofs.lemmas.List.Concat.{flat_map-cons}

text_length : {A : Type 0} (text : A → List ℕ) (x : A) (xs : List A)
    → length (flat_map text (x ∷ xs)) ≡ length (text x) + length (flat_map text xs)
text_length text x xs = ap length (flat_map-cons text x xs) ∙ length-append (text x) (flat_map text xs)

-- the text up to one of the items is no longer than the whole
pub front_fits : {A : Type 0} (text : A → List ℕ) (xs : List A) (i : ℕ) (x : A) → i < length xs → x ≡ get_or xs i x
    → length (flat_map text (take i xs)) + length (text x) ≤ length (flat_map text xs)
front_fits text [] i x lt is = absurd (omega arith)
front_fits {A} text (y ∷ xs) zero x lt is = omega (arith, text_length text y xs, ap (λ (t : A). length (text t)) is)
front_fits text (y ∷ xs) (suc i) x lt is = omega
    (arith, text_length text y xs, text_length text y (take i xs), front_fits text xs i x (omega (arith, lt)) is)

-- an item of a list, whatever the default is
pub item_at : {A : Type 0} (xs : List A) (i : ℕ) (d : A) → i < length xs → get_or xs i d ≡ get_or xs i (get_or xs i d)
item_at [] i d lt = absurd (omega arith)
item_at (x ∷ xs) zero d lt = refl
item_at (x ∷ xs) (suc i) d lt = item_at xs i d (omega (arith, lt))

one_more : {A : Type 0} (text : A → List ℕ) (xs : List A) (i : ℕ) (d : A) → i < length xs
    → flat_map text (take (suc i) xs) ≡ flat_map text (take i xs) ++ text (get_or xs i d)
one_more text [] i d lt = absurd (omega arith)
one_more text (x ∷ xs) zero d lt = flat_map-cons text x [] ∙ append-nil (text x)
one_more text (x ∷ xs) (suc i) d lt =
    flat_map-cons text x (take (suc i) xs) ∙ ap (λ (t : List ℕ). text x ++ t) (one_more text xs i d (omega (arith, lt)))
    ∙ sym (append_assoc (text x) (flat_map text (take i xs)) (text (get_or xs i d)))
    ∙ ap (λ (t : List ℕ). t ++ text (get_or xs i d)) (sym (flat_map-cons text x (take i xs)))

-- the text of one item more
pub text_next : {A : Type 0} (text : A → List ℕ) (xs : List A) (i : ℕ) (d : A) (before now new : List ℕ) → i < length xs
    → now ≡ before ++ flat_map text (take i xs) → new ≡ now ++ text (get_or xs i d) → new ≡ before ++ flat_map text (take (i + 1) xs)
text_next text xs i d before now new lt so_far then =
    let next : suc i ≡ i + 1 = omega arith in
    then ∙ ap (λ (t : List ℕ). t ++ text (get_or xs i d)) so_far ∙ append_assoc before (flat_map text (take i xs)) (text (get_or xs i d))
    ∙ ap (λ (t : List ℕ). before ++ t) (sym (one_more text xs i d lt) ∙ ap (λ (n : ℕ). flat_map text (take n xs)) next)
