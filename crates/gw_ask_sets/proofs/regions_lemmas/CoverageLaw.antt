-- A rule that meets no value of a field matches nothing of a region, and one that covers every field matches all of it.
use Rattle.std.proofs.Common.{◌≡◌, ◌∙◌, sym, ap, refl, ℕ, ◌<◌, ◌^◌, true, false, ◌&&◌, ◌||◌, ◌==◌, List, [], ◌∷◌, length, Option, Some, None, arith, nat_le, inl, inr}
use Rattle.std.specs.Prelude.{not}
use Rattle.std.specs.List.{list_any}
use Rattle.std.specs.Option.{option_map_or}
use Rattle.std.proofs.lemmas.Bool.{and_from, and_parts, both_ways, false_from_ne_true, le-leb, leb-true, not-true, or_cases, or_left, or_right}
use Rattle.gw_rules.specs.Ask.{Ask}
use Rattle.gw_rules.specs.Fields.{value_of}
use Rattle.gw_rules.specs.Range.{admits, holds}
use Rattle.gw_rules.specs.Rule.{each_field, matches, ranges_of}
use Rattle.gw_rules.specs.declared.range.Range.{Range}
use Rattle.gw_rules.specs.declared.rule.Rule.{Rule}
use Rattle.gw_rules.proofs.EachField.{each_field_at, each_field_from}
use Rattle.gw_ask_sets.specs.regions.Regions.{Region, lies}
use Rattle.gw_ask_sets.specs.regions.Coverage.{covers, holds_all, is_within, meets, overlap, overlaps}
use Rattle.gw_ask_sets.specs.regions.Values.{all_numbers, has, is_any}
use Rattle.gw_ask_sets.specs.declared.regions.values.Values.{Values}
use Rattle.gw_ask_sets.proofs.regions_lemmas.RangeLaw.{held, hold}
use Rattle.gw_ask_sets.proofs.regions_lemmas.ValueLaw.{not_empty, some_admits}

-- ---- a value

-- a range that holds what another one holds overlaps it
over_any : (n : ℕ) (x : Range) (ys : List Range) → holds n x ≡ true → list_any (holds n) ys ≡ true → list_any (overlap x) ys ≡ true
over_any n x [] h t = t
over_any n x (y ∷ ys) h t = elim (or_cases (holds n y) (list_any (holds n) ys) t) [
  | inl holding ↦
      let a = held n x h in
      let b = held n y holding in
      let al = a.0 in
      let ah = a.1 in
      let bl = b.0 in
      let bh = b.1 in
      or_left (overlap x y) (list_any (overlap x) ys)
      (and_from (nat_le x.low y.high) (nat_le y.low x.high) (le-leb x.low y.high (omega arith)) (le-leb y.low x.high (omega arith)))
  | inr later ↦ or_right (overlap x y) (list_any (overlap x) ys) (over_any n x ys h later)
]

over : (n : ℕ) (xs ys : List Range) → list_any (holds n) xs ≡ true → list_any (holds n) ys ≡ true → overlaps xs ys ≡ true
over n [] ys h t = h
over n (x ∷ xs) ys h t = elim (or_cases (holds n x) (list_any (holds n) xs) h) [
  | inl holding ↦ or_left (list_any (overlap x) ys) (overlaps xs ys) (over_any n x ys holding t)
  | inr later ↦ or_right (list_any (overlap x) ys) (overlaps xs ys) (over n xs ys later t)
]

-- values of which one is admitted are met
met : (v : Values) (ranges : List Range) (x : Option ℕ) → has v x ≡ true → admits ranges x ≡ true → meets v ranges ≡ true
met v [] x h t = refl
met v (r ∷ rs) x h t = by x h (sym (some_admits r rs x) ∙ t)
  where
    by : (x : Option ℕ) → has v x ≡ true → option_map_or (λ number. list_any (holds number) (r ∷ rs)) x false ≡ true → meets v (r ∷ rs) ≡ true
    by None h t = absurd (both_ways false refl t)
    by (Some n) h t = or_right (length (r ∷ rs) == 0) (overlaps v.ranges (r ∷ rs)) (over n v.ranges (r ∷ rs) h t)

in_any : (n : ℕ) (x : Range) (ys : List Range) → holds n x ≡ true → list_any (is_within x) ys ≡ true → list_any (holds n) ys ≡ true
in_any n x [] h t = t
in_any n x (y ∷ ys) h t = elim (or_cases (is_within x y) (list_any (is_within x) ys) t) [
  | inl holding ↦
      let a = held n x h in
      let al = a.0 in
      let ah = a.1 in
      let p = and_parts (nat_le y.low x.low) (nat_le x.high y.high) holding in
      let bl = leb-true y.low x.low p.0 in
      let bh = leb-true x.high y.high p.1 in
      or_left (holds n y) (list_any (holds n) ys) (hold n y (omega arith) (omega arith))
  | inr later ↦ or_right (holds n y) (list_any (holds n) ys) (in_any n x ys h later)
]

in_all : (n : ℕ) (xs ys : List Range) → holds_all xs ys ≡ true → list_any (holds n) xs ≡ true → list_any (holds n) ys ≡ true
in_all n [] ys c h = absurd (both_ways false refl h)
in_all n (x ∷ xs) ys c h =
    let parts = and_parts (list_any (is_within x) ys) (holds_all xs ys) c in
    elim (or_cases (holds n x) (list_any (holds n) xs) h) [
      | inl holding ↦ in_any n x ys holding parts.0
      | inr later ↦ in_all n xs ys parts.1 later
    ]

-- values that are covered are admitted
covered : (v : Values) (ranges : List Range) (x : Option ℕ) → covers v ranges ≡ true → has v x ≡ true → admits ranges x ≡ true
covered v [] x c h = refl
covered v (r ∷ rs) x c h =
    let inside : (not v.absent && holds_all v.ranges (r ∷ rs)) ≡ true = sym (ap (λ b. b || (not v.absent && holds_all v.ranges (r ∷ rs))) (not_empty r rs)) ∙ c in
    let parts = and_parts (not v.absent) (holds_all v.ranges (r ∷ rs)) inside in
    some_admits r rs x ∙ by x h (not-true v.absent parts.0) parts.1
  where
    by : (x : Option ℕ) → has v x ≡ true → v.absent ≡ false → holds_all v.ranges (r ∷ rs) ≡ true
        → option_map_or (λ number. list_any (holds number) (r ∷ rs)) x false ≡ true
    by None h a c = absurd (both_ways v.absent a h)
    by (Some n) h a c = in_all n v.ranges (r ∷ rs) c h

-- anything
pub any_absent : (v : Values) → is_any v ≡ true → has v None ≡ true
any_absent v t = (and_parts v.absent (list_any (is_within all_numbers) v.ranges) t).0

pub any_number : (v : Values) → is_any v ≡ true → (n : ℕ) → n < 2 ^ 64 → has v (Some n) ≡ true
any_number v t n below =
    in_any n all_numbers v.ranges (hold n all_numbers (omega arith) (omega arith)) (and_parts v.absent (list_any (is_within all_numbers) v.ranges) t).1

-- ---- a region

pub apart_law : (rule : Rule) (region : Region) (ask : Ask) → each_field (λ field. meets (value_of field region) (ranges_of field rule)) ≡ false
    → lies region ask ≡ true → matches rule ask ≡ false
unfolding matches
apart_law rule region ask none there =
    false_from_ne_true (matches rule ask) (
    λ t. both_ways (each_field (λ field. meets (value_of field region) (ranges_of field rule))) none
    (each_field_from (λ field. meets (value_of field region) (ranges_of field rule)) (
    λ field. met (value_of field region) (ranges_of field rule) (value_of field ask)
    (each_field_at (λ field. has (value_of field region) (value_of field ask)) there field)
    (each_field_at (λ field. admits (ranges_of field rule) (value_of field ask)) t field)
    ))
    )

pub whole_law : (rule : Rule) (region : Region) (ask : Ask) → each_field (λ field. covers (value_of field region) (ranges_of field rule)) ≡ true
    → lies region ask ≡ true → matches rule ask ≡ true
unfolding matches
whole_law rule region ask all there =
    each_field_from (λ field. admits (ranges_of field rule) (value_of field ask)) (
    λ field. covered (value_of field region) (ranges_of field rule) (value_of field ask)
    (each_field_at (λ field. covers (value_of field region) (ranges_of field rule)) all field)
    (each_field_at (λ field. has (value_of field region) (value_of field ask)) there field)
    )
