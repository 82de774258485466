-- How lists grow by what is made of each item, and how what is left shrinks.
use Rattle.std.proofs.Common.{◌≡◌, ◌∙◌, ap, sym, ℕ, zero, suc, ◌+◌, ◌<◌, ◌≤◌, Bool, true, ◌||◌, add-one, append_assoc, drop, drop-cons, get_or, length, take, List, [], ◌∷◌, ◌++◌, inl, inr, arith}
use Rattle.std.proofs.Math.Seq.{take-suc}
use Rattle.std.proofs.lemmas.Grind.{flat_map-append}
use Rattle.std.proofs.lemmas.List.{append-nil, take_all}
use Rattle.std.proofs.lemmas.Bool.{or_cases, or_left, or_right}
use Rattle.std.proofs.lemmas.List.Folds.{list_any-append}
use Rattle.std.specs.List.{flat_map, list_any}
use Rattle.gw_ask_sets.proofs.regions_lemmas.RangeLaw.{or_none}

pub flat_step : {A B : Type 0} (make : A → List B) (items : List A) (place : ℕ) (d : A) (before out new : List B) → place < length items
    → out ≡ before ++ flat_map make (take place items) → new ≡ out ++ make (get_or items place d)
    → new ≡ before ++ flat_map make (take (place + 1) items)
flat_step {A = A} {B = B} make items place d before out new within is grown =
    let one = get_or items place d in
    let next : take (place + 1) items ≡ take place items ++ one ∷ [] = ap (λ n. take n items) (add-one place) ∙ take-suc items place d within in
    let made : flat_map make (take (place + 1) items) ≡ flat_map make (take place items) ++ make one =
    ap (flat_map make) next ∙ flat_map-append make (take place items) (one ∷ [])
    ∙ ap (λ (xs : List B). flat_map make (take place items) ++ xs) (append-nil (make one)) in
    grown ∙ ap (λ (xs : List B). xs ++ make one) is ∙ append_assoc before (flat_map make (take place items)) (make one)
    ∙ ap (λ (xs : List B). before ++ xs) (sym made)

pub flat_end : {A B : Type 0} (make : A → List B) (items : List A) (place : ℕ) (before out : List B) → length items ≤ place
    → out ≡ before ++ flat_map make (take place items) → out ≡ before ++ flat_map make items
flat_end {B = B} make items place before out ends is = is ∙ ap (λ (xs : List _). before ++ flat_map make xs) (take_all place items ends)

pub next_item : {A : Type 0} (items : List A) (place : ℕ) (d : A) → place < length items → drop place items ≡ get_or items place d ∷ drop (place + 1) items
next_item items place d within = drop-cons items place d within ∙ ap (λ n. get_or items place d ∷ drop n items) (sym (add-one place))

-- ---- tests of the items so far

-- one more item
pub grown_any : {A : Type 0} (test : A → Bool) (items : List A) (place : ℕ) (d : A) → place < length items
    → list_any test (take (place + 1) items) ≡ (list_any test (take place items) || test (get_or items place d))
grown_any test items place d within =
    ap (list_any test) (ap (λ n. take n items) (add-one place) ∙ take-suc items place d within)
    ∙ list_any-append test (take place items) (get_or items place d ∷ [])
    ∙ ap (λ b. list_any test (take place items) || b) (or_none (test (get_or items place d)))

-- an item that passes
pub any_at : {A : Type 0} (test : A → Bool) (items : List A) (place : ℕ) (d : A) → place < length items
    → test (get_or items place d) ≡ true → list_any test items ≡ true
any_at test [] place d within t = absurd (omega arith)
any_at test (x ∷ xs) zero d within t = or_left (test x) (list_any test xs) t
any_at test (x ∷ xs) (suc k) d within t = or_right (test x) (list_any test xs) (any_at test xs k d (omega arith) t)

-- a number that nothing of the items goes beyond, with one item more
pub last_step : {A : Type 0} (test : ℕ → A → Bool) (items : List A) (place : ℕ) (d : A) (last next : ℕ) → place < length items
    → last ≤ next → ((n : ℕ) → test n (get_or items place d) ≡ true → n ≤ next)
    → ((n : ℕ) → list_any (test n) (take place items) ≡ true → n ≤ last)
    → (n : ℕ) → list_any (test n) (take (place + 1) items) ≡ true → n ≤ next
last_step test items place d last next within more one before n t =
    elim (or_cases (list_any (test n) (take place items)) (test n (get_or items place d)) (sym (grown_any (test n) items place d within) ∙ t)) [
      | inl early ↦ let below = before n early in omega arith
      | inr now ↦ one n now
    ]

pub last_end : {A : Type 0} (test : ℕ → A → Bool) (items : List A) (place last : ℕ) → length items ≤ place
    → ((n : ℕ) → list_any (test n) (take place items) ≡ true → n ≤ last)
    → (n : ℕ) → list_any (test n) items ≡ true → n ≤ last
last_end test items place last ends before n t = before n (ap (list_any (test n)) (take_all place items ends) ∙ t)
