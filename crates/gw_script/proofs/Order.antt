-- How the texts of the items of a list grow, in their order.
use Rattle.std.proofs.Common.{◌≡◌, ◌∙◌, ◌+◌, ◌<◌, ◌++◌, ◌∷◌, [], ℕ, List, ap, arith, append_assoc, refl, rules, length, get_or, suc, sym, take, zero}
use Rattle.std.proofs.Math.Seq.{take-length}
use Rattle.gw_script.specs.Order.{in_order}

nothing_more : (xs : List ℕ) → xs ++ [] ≡ xs
nothing_more xs = search rules

-- the texts of one item more
one_more : {A : Type 0} (text : ℕ → A → List ℕ) (number : ℕ) (items : List A) (place : ℕ) (d : A) → place < length items →
    in_order text number (take (suc place) items) ≡ in_order text number (take place items) ++ text (number + place) (get_or items place d)
unfolding in_order
one_more text number [] place d inside = absurd (omega (arith, inside))
one_more text number (item ∷ items) zero d inside =
    let same : number ≡ number + 0 = omega arith in
    nothing_more (text number item) ∙ ap (λ (n : ℕ). text n item) same
one_more text number (item ∷ items) (suc place) d inside =
    let same : number + 1 + place ≡ number + suc place = omega arith in
    ap (λ (t : List ℕ). text number item ++ t) (one_more text (number + 1) items place d (omega (arith, inside)))
    ∙ sym (append_assoc (text number item) (in_order text (number + 1) (take place items)) (text (number + 1 + place) (get_or items place d)))
    ∙ ap (λ (n : ℕ). (text number item ++ in_order text (number + 1) (take place items)) ++ text n (get_or items place d)) same

pub in_order_next : {A : Type 0} (text : ℕ → A → List ℕ) (number : ℕ) (items : List A) (place : ℕ) (d : A) → place < length items →
    in_order text number (take (place + 1) items) ≡ in_order text number (take place items) ++ text (number + place) (get_or items place d)
in_order_next text number items place d inside =
    let next : place + 1 ≡ suc place = omega arith in
    ap (λ (n : ℕ). in_order text number (take n items)) next ∙ one_more text number items place d inside

-- the texts of a front of a list begin those of the list
pub in_order_front : {A : Type 0} (text : ℕ → A → List ℕ) (number place : ℕ) (items : List A)
    → (rest : List ℕ) × (in_order text number items ≡ in_order text number (take place items) ++ rest)
unfolding in_order
in_order_front text number zero items = (in_order text number items, refl)
in_order_front text number (suc place) [] = ([], sym (nothing_more []))
in_order_front text number (suc place) (item ∷ items) =
    let later = in_order_front text (number + 1) place items in (
      later.0,
      ap (λ (t : List ℕ). text number item ++ t) later.1
          ∙ sym (append_assoc (text number item) (in_order text (number + 1) (take place items)) later.0),
    )

-- what the loop appends with one item more
pub in_order_step : {A : Type 0} (text : ℕ → A → List ℕ) (before now new : List ℕ) (items : List A) (place : ℕ) (d : A) → place < length items →
    now ≡ before ++ in_order text 1 (take place items) → new ≡ now ++ text (place + 1) (get_or items place d) →
    new ≡ before ++ in_order text 1 (take (place + 1) items)
in_order_step text before now new items place d inside so_far then =
    let number : place + 1 ≡ 1 + place = omega arith in
    then ∙ ap (λ (t : List ℕ). t ++ text (place + 1) (get_or items place d)) so_far
    ∙ append_assoc before (in_order text 1 (take place items)) (text (place + 1) (get_or items place d))
    ∙ ap (λ (n : ℕ). before ++ (in_order text 1 (take place items) ++ text n (get_or items place d))) number
    ∙ ap (λ (t : List ℕ). before ++ t) (sym (in_order_next text 1 items place d inside))

pub in_order_none : {A : Type 0} (text : ℕ → A → List ℕ) (before : List ℕ) → before ≡ before ++ in_order text 1 []
unfolding in_order
in_order_none text before = sym (nothing_more before)

pub in_order_end : {A : Type 0} (text : ℕ → A → List ℕ) (before now : List ℕ) (items : List A) (place : ℕ) → place ≡ length items →
    now ≡ before ++ in_order text 1 (take place items) → now ≡ before ++ in_order text 1 items
in_order_end text before now items place ends so_far =
    so_far ∙ ap (λ (n : ℕ). before ++ in_order text 1 (take n items)) ends
    ∙ ap (λ (l : List _). before ++ in_order text 1 l) (take-length items)
