-- An ask lies in the region of a shape exactly if it lies in the shape.
use Rattle.std.proofs.Common.{◌≡◌, ◌∙◌, inl, inr, sym, ap, refl, subst, ℕ, Bool, true, false, List, [], ◌∷◌, Option, Some, None, arith, nat_le, map}
use Rattle.std.specs.Prelude.{◌⊎◌, if◌then◌else◌}
use Rattle.std.specs.List.{list_any}
use Rattle.std.proofs.lemmas.Bool.{and_from, and_parts, both_ways, le-leb, leb-true, or_cases, or_left, or_right}
use Rattle.gw_ask_sets.specs.regions.Ranges.{shared}
use Rattle.gw_ask_sets.specs.regions.Regions.{Region, lies, lies_in_one}
use Rattle.gw_ask_sets.specs.regions.Values.{has}
use Rattle.gw_rules.specs.Ask.{Ask}
use Rattle.gw_rules.specs.Fields.{value_of}
use Rattle.gw_rules.specs.Range.{holds}
use Rattle.gw_rules.specs.declared.field.FieldName.{FieldName}
use Rattle.gw_rules.specs.declared.field.FieldName.TheVariants.{Operation, Port, SourceNetwork, SourceKey, DestinationNetwork, Service, ObjectType, Instance, Property, Priority, Sender, Station}
use Rattle.gw_rules.proofs.EachField.{each_field_at, each_field_from}
use Rattle.gw_ask_sets.specs.shapes.Meeting.{has_number}
use Rattle.gw_ask_sets.specs.shapes.Regions.{IsRegionOf, region_of, values_of}
use Rattle.gw_ask_sets.specs.shapes.Shape.{IsIn, IsOneOf, IsWithin, LiesIn, LiesInOne, Shape, is_key, key_ranges}
use Rattle.gw_ask_sets.specs.declared.shapes.side.Side.{Side}
use Rattle.gw_ask_sets.proofs.regions_lemmas.RangeLaw.{shared_law}

-- ---- one field

-- what follows from each of two follows from either
pub either : {A B C : Type 0} → (A → C) → (B → C) → A ⊎ B → C
either f g (inl a) = f a
either f g (inr b) = g b

-- the numbers of a side
abbrev numbers : Side → Bool → ℕ → Bool
numbers side c n = list_any (holds n) (if c then side.range ∷ [] else [])

number_in : (side : Side) (n : ℕ) (c : Bool) → numbers side c n ≡ true → IsIn side.range n
number_in side n false e = absurd (both_ways false refl e)
number_in side n true e = by (or_cases (holds n side.range) false e)
  where
    by : (holds n side.range ≡ true) ⊎ (false ≡ true) → IsIn side.range n
    by (inl held) =
        let parts = and_parts (nat_le side.range.low n) (nat_le n side.range.high) held in
        (leb-true side.range.low n parts.0, leb-true n side.range.high parts.1)
    by (inr never) = absurd (both_ways false refl never)

number_there : (side : Side) (n : ℕ) → IsIn side.range n → numbers side true n ≡ true
number_there side n (low, high) =
    or_left (holds n side.range) false (and_from (nat_le side.range.low n) (nat_le n side.range.high) (le-leb side.range.low n low) (le-leb n side.range.high high))

number_from : (side : Side) (n : ℕ) → IsIn side.range n → numbers side (has_number side) n ≡ true
number_from side n (low, high) =
    let some : has_number side ≡ true = le-leb side.range.low side.range.high (omega (arith, low, high)) in
    ap (λ c. numbers side c n) some
    ∙ or_left (holds n side.range) false (and_from (nat_le side.range.low n) (nat_le n side.range.high) (le-leb side.range.low n low) (le-leb n side.range.high high))

-- those of it that count
abbrev counting : Side → Bool → ℕ → Bool
counting side keyed n =
    list_any (holds n) (if keyed then shared key_ranges (side.range ∷ []) else if has_number side then side.range ∷ [] else [])

one_in : (side : Side) (n : ℕ) (keyed : Bool) → counting side keyed n ≡ true → IsOneOf keyed side.range n
one_in side n false e = number_in side n (has_number side) e
one_in side n true e =
    let parts = and_parts (is_key n) (numbers side true n) (sym (shared_law n key_ranges (side.range ∷ [])) ∙ e) in
    (number_in side n true parts.1, parts.0)

one_from : (side : Side) (n : ℕ) (keyed : Bool) → IsOneOf keyed side.range n → counting side keyed n ≡ true
one_from side n false is = number_from side n is
one_from side n true is =
    shared_law n key_ranges (side.range ∷ []) ∙ and_from (is_key n) (numbers side true n) is.1 (number_there side n is.0)

within : (side : Side) (value : Option ℕ) → has (values_of side) value ≡ true → IsWithin side value
within side None e = e
within side (Some n) e = one_in side n side.keyed e

has_within : (side : Side) (value : Option ℕ) → IsWithin side value → has (values_of side) value ≡ true
has_within side None is = is
has_within side (Some n) is = one_from side n side.keyed is

-- ---- a shape

pub at : (field : FieldName) (shape : Shape) → value_of field (region_of shape) ≡ values_of (value_of field shape)
at field shape = elim field as (λ f. value_of f (region_of shape) ≡ values_of (value_of f shape)) [ Operation ↦ refl | Port ↦ refl | SourceNetwork ↦ refl | SourceKey ↦ refl | DestinationNetwork ↦ refl | Service ↦ refl | ObjectType ↦ refl | Instance ↦ refl | Property ↦ refl | Priority ↦ refl | Sender ↦ refl | Station ↦ refl ]

pub is_inner : (shape : Shape) (ask : Ask) → lies (region_of shape) ask ≡ true → LiesIn shape ask
is_inner shape ask e field =
    within (value_of field shape) (value_of field ask)
    (ap (λ v. has v (value_of field ask)) (sym (at field shape)) ∙ each_field_at (λ f. has (value_of f (region_of shape)) (value_of f ask)) e field)

whole : (shape : Shape) (ask : Ask) → LiesIn shape ask → lies (region_of shape) ask ≡ true
whole shape ask is =
    each_field_from (λ f. has (value_of f (region_of shape)) (value_of f ask))
    (λ field. ap (λ v. has v (value_of field ask)) (at field shape) ∙ has_within (value_of field shape) (value_of field ask) (is field))

pub is_region_of : (shape : Shape) (region : Region) → region ≡ region_of shape → IsRegionOf shape region
is_region_of shape region e =
    subst (λ r. IsRegionOf shape r) (sym e) (record { inner = is_inner shape; whole = whole shape })

-- ---- several

pub inner_one : (boxes : List Shape) (ask : Ask) → lies_in_one (map region_of boxes) ask ≡ true → LiesInOne boxes ask
inner_one [] ask e = both_ways false refl e
inner_one (shape ∷ boxes) ask e =
    either (λ here. inl (is_inner shape ask here)) (λ there. inr (inner_one boxes ask there))
    (or_cases (lies (region_of shape) ask) (lies_in_one (map region_of boxes) ask) e)

pub whole_one : (boxes : List Shape) (ask : Ask) → LiesInOne boxes ask → lies_in_one (map region_of boxes) ask ≡ true
whole_one [] ask is = absurd is
whole_one (shape ∷ boxes) ask (inl here) = or_left (lies (region_of shape) ask) (lies_in_one (map region_of boxes) ask) (whole shape ask here)
whole_one (shape ∷ boxes) ask (inr there) = or_right (lies (region_of shape) ask) (lies_in_one (map region_of boxes) ask) (whole_one boxes ask there)
