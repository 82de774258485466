-- The value that the slots give is that of the least priority whose slot isn't empty, and no other value is.
use Rattle.std.proofs.Common.{◌≡◌, ◌⊎◌, inl, inr, ℕ, zero, suc, ◌+◌, ◌-◌, ◌<◌, List, [], ◌∷◌, length, get_or, drop, Option, Some, None, ◌↔◌, arith, refl, sym, ap, subst, ◌∙◌}
use Rattle.gw_tables.specs.priority.Commandable.{Commandable, IsPresent, slot, present, first_or}

-- the first value is that of the least place that isn't empty
abbrev IsFirst : {A : Type 0} → List (Option A) → ℕ → A → Type 0
IsFirst slots place value = (place < length slots) × (get_or slots place None ≡ Some value) × ((lesser : ℕ) → lesser < place → get_or slots lesser None ≡ None)

abbrev AreNone : {A : Type 0} → List (Option A) → Type 0
AreNone slots = (place : ℕ) → place < length slots → get_or slots place None ≡ None

abbrev Finds : {A : Type 0} → A → List (Option A) → A → Type 0
Finds default slots value = ((place : ℕ) × IsFirst slots place value) ⊎ (AreNone slots × (value ≡ default))

-- one empty slot more in front
later : {A : Type 0} (default : A) (slots : List (Option A)) (value : A) → Finds default slots value → Finds default (None ∷ slots) value
later default slots value (inl (place, first)) =
    inl (suc place, (omega (arith, first.0), first.1, before))
  where
    before : (lesser : ℕ) → lesser < suc place → get_or (None ∷ slots) lesser None ≡ None
    before zero lt = refl
    before (suc lesser) lt = first.2 lesser (omega arith)
later default slots value (inr (empty, is)) = inr (before, is)
  where
    before : (place : ℕ) → place < length (None ∷ slots) → get_or (None ∷ slots) place None ≡ None
    before zero lt = refl
    before (suc place) lt = empty place (omega arith)

finds : {A : Type 0} (default : A) (slots : List (Option A)) → Finds default slots (first_or default slots)
finds default [] = inr (λ place lt. absurd (omega arith), refl)
finds default (Some value ∷ slots) = inl (0, (omega arith, refl, λ lesser lt. absurd (omega arith)))
finds default (None ∷ slots) = later default slots (first_or default slots) (finds default slots)

-- sixteen slots give the present value of the words
pub is_present : {A : Type 0} (property : Commandable A) → length property.slots ≡ 16 → (value : A) → value ≡ present property → IsPresent property value
is_present {A = A} property long value is =
    let P : A → Type 0 = IsPresent property in
    subst P (sym is) (in_words (finds property.default property.slots))
  where
    in_words : Finds property.default property.slots (present property) → IsPresent property (present property)
    in_words (inl (place, first)) =
        let back : place + 1 - 1 ≡ place = omega arith in
        inl (place + 1, ((omega arith, omega (arith, first.0, long)), ap (λ i. get_or property.slots i None) back ∙ first.1, λ lesser one lt. first.2 (lesser - 1) (omega arith)))
    in_words (inr (empty, is)) =
        inr (λ priority within. empty (priority - 1) (omega (arith, within.0, within.1, long)), is)

-- the value in the first place that isn't empty is the first
first_is : {A : Type 0} (default : A) (slots : List (Option A)) (place : ℕ) (value : A) → get_or slots place None ≡ Some value → ((lesser : ℕ) → lesser < place → get_or slots lesser None ≡ None) → value ≡ first_or default slots
first_is default [] place value there before = absurd (cc)
first_is default (Some first ∷ slots) zero value there before = cc
first_is default (Some first ∷ slots) (suc place) value there before = let never : get_or (Some first ∷ slots) 0 None ≡ None = before 0 (omega arith) in absurd (cc)
first_is default (None ∷ slots) zero value there before = absurd (cc)
first_is default (None ∷ slots) (suc place) value there before = first_is default slots place value there (λ lesser lt. before (suc lesser) (omega arith))

none_is : {A : Type 0} (default : A) (slots : List (Option A)) → AreNone slots → first_or default slots ≡ default
none_is default [] empty = refl
none_is default (Some first ∷ slots) empty = let never : get_or (Some first ∷ slots) 0 None ≡ None = empty 0 (omega arith) in absurd (cc)
none_is default (None ∷ slots) empty = none_is default slots (λ place lt. empty (suc place) (omega arith))

-- no other value is present
is_only : {A : Type 0} (property : Commandable A) → length property.slots ≡ 16 → (value : A) → IsPresent property value → value ≡ present property
is_only property long value (inl (priority, least)) =
    first_is property.default property.slots (priority - 1) value least.1 (λ lesser lt.
    let back : lesser + 1 - 1 ≡ lesser = omega arith in
    ap (λ i. get_or property.slots i None) (sym back) ∙ least.2 (lesser + 1) (omega arith) (omega (arith, least.0.0)))
is_only property long value (inr (empty, is)) =
    is ∙ sym (none_is property.default property.slots (λ place lt.
    let back : place + 1 - 1 ≡ place = omega arith in
    ap (λ i. get_or property.slots i None) (sym back) ∙ empty (place + 1) (omega arith, omega (arith, long))))

-- the value that the slots give and the one of the words are one
pub present_iff : {A : Type 0} (property : Commandable A) (value : A) → length property.slots ≡ 16 → (IsPresent property value ↔ (value ≡ present property))
present_iff property value long = (is_only property long value, is_present property long value)

-- slots that are left from a place on
pub first_from : {A : Type 0} (default : A) (slots : List (Option A)) (place : ℕ) (value : A) (d : Option A) → place < length slots → get_or slots place d ≡ Some value → first_or default (drop place slots) ≡ value
first_from default [] place value d lt there = absurd (omega arith)
first_from default (slot ∷ slots) zero value d lt there = ap (λ s. first_or default (s ∷ slots)) there
first_from default (slot ∷ slots) (suc place) value d lt there = first_from default slots place value d (omega arith) there
