-- Two regions have a value in common in each field exactly if an ask lies in both.
use Rattle.std.proofs.Common.{◌≡◌, ◌∙◌, sym, ap, refl, ℕ, ◌≤◌, Bool, true, false, ◌&&◌, ◌||◌, List, [], ◌∷◌, Option, Some, None, arith, nat_le, inl, inr}
use Rattle.std.specs.Prelude.{not, if◌then◌else◌}
use Rattle.std.specs.List.{flat_map, list_all, list_any}
use Rattle.std.specs.Option.{option_to_list}
use Rattle.std.proofs.lemmas.Bool.{and_from, and_parts, both_ways, false_from_ne_true, leb-true, or_cases, or_left, or_right}
use Rattle.std.proofs.lemmas.List.Folds.{list_all-append}
use Rattle.gw_rules.specs.Ask.{Ask}
use Rattle.gw_rules.specs.Fields.{value_of}
use Rattle.gw_rules.specs.Range.{holds}
use Rattle.gw_rules.specs.declared.field.FieldName.{FieldName}
use Rattle.gw_rules.specs.declared.field.TheConstants.FieldName.{ALL}
use Rattle.gw_rules.specs.declared.range.Range.{Range}
use Rattle.gw_rules.proofs.EachField.{each_field_at, each_field_from}
use Rattle.gw_ask_sets.specs.regions.Meeting.{AreCommon, any_to, have_common}
use Rattle.gw_ask_sets.specs.regions.Ranges.{between, both, first_number, greater, lesser, shared, shared_with}
use Rattle.gw_ask_sets.specs.regions.Regions.{Region, lies, lies_in_one}
use Rattle.gw_ask_sets.specs.regions.Values.{common, has, shares}
use Rattle.gw_ask_sets.specs.declared.regions.values.Values.{Values}
use Rattle.gw_ask_sets.proofs.regions_lemmas.RangeLaw.{hold, shared_law}

-- ---- ranges

abbrev is_ordered : Range → Bool
is_ordered r = nat_le r.low r.high

all_made : {A : Type 0} (test : Range → Bool) (make : A → List Range) → ((x : A) → list_all test (make x) ≡ true) → (xs : List A) → list_all test (flat_map make xs) ≡ true
all_made test make e [] = refl
all_made test make e (x ∷ xs) =
    list_all-append test (make x) (flat_map make xs)
    ∙ and_from (list_all test (make x)) (list_all test (flat_map make xs)) (e x) (all_made test make e xs)

both_ordered : (a b : Range) → list_all is_ordered (option_to_list (both a b)) ≡ true
both_ordered a b = by (nat_le (greater a.low b.low) (lesser a.high b.high)) refl
  where
    by : (c : Bool) → nat_le (greater a.low b.low) (lesser a.high b.high) ≡ c
        → list_all is_ordered (option_to_list (if c then Some (between (greater a.low b.low) (lesser a.high b.high)) else None)) ≡ true
    by true e = ap (λ c. c && true) e
    by false e = refl

shared_ordered : (xs ys : List Range) → list_all is_ordered (shared xs ys) ≡ true
shared_ordered xs ys =
    all_made is_ordered (shared_with ys) (λ x. all_made is_ordered (λ y. option_to_list (both x y)) (λ y. both_ordered x y) ys) xs

-- a list that holds a number holds its first one
first_held : (n : ℕ) (rs : List Range) → list_all is_ordered rs ≡ true → list_any (holds n) rs ≡ true
    → (m : ℕ) × (first_number rs ≡ Some m) × (list_any (holds m) rs ≡ true)
first_held n [] o t = absurd (both_ways false refl t)
first_held n (r ∷ rs) o t =
    let parts = and_parts (is_ordered r) (list_all is_ordered rs) o in
    (r.low, refl, or_left (holds r.low r) (list_any (holds r.low) rs) (hold r.low r (omega arith) (leb-true r.low r.high parts.0)))

-- ---- values

-- lists that hold a number both have the first one that they share
numbers_law : (a b : Values) (n : ℕ) → list_any (holds n) (shared a.ranges b.ranges) ≡ true → shares a b ≡ true
numbers_law a b n there =
    let first = first_held n (shared a.ranges b.ranges) (shared_ordered a.ranges b.ranges) there in
    ap (λ y. has a y && has b y) first.1 ∙ sym (shared_law first.0 a.ranges b.ranges) ∙ first.2

-- values that have one in common have the one that is taken
pub common_law : (a b : Values) (x : Option ℕ) → has a x ≡ true → has b x ≡ true → shares a b ≡ true
common_law a b None s t = by (shared a.ranges b.ranges) refl
  where
    by : (rs : List Range) → shared a.ranges b.ranges ≡ rs → shares a b ≡ true
    by [] e = ap (λ (rs : List Range). has a (first_number rs) && has b (first_number rs)) e ∙ and_from a.absent b.absent s t
    by (r ∷ rs) e =
        let parts = and_parts (is_ordered r) (list_all is_ordered rs) (sym (ap (list_all is_ordered) e) ∙ shared_ordered a.ranges b.ranges) in
        numbers_law a b r.low
        (ap (list_any (holds r.low)) e
        ∙ or_left (holds r.low r) (list_any (holds r.low) rs) (hold r.low r (omega arith) (leb-true r.low r.high parts.0)))
common_law a b (Some n) s t =
    numbers_law a b n (shared_law n a.ranges b.ranges ∙ and_from (list_any (holds n) a.ranges) (list_any (holds n) b.ranges) s t)

-- ---- regions

-- the ask that is made lies in both
pub common_lies : (a b : Region) (ask : Ask) → AreCommon a b ask → have_common a b ≡ true → (lies a ask && lies b ask) ≡ true
common_lies a b ask is all =
    and_from (lies a ask) (lies b ask)
    (each_field_from (λ f. has (value_of f a) (value_of f ask)) (λ f. ap (has (value_of f a)) (is f) ∙ (at f).0))
    (each_field_from (λ f. has (value_of f b) (value_of f ask)) (λ f. ap (has (value_of f b)) (is f) ∙ (at f).1))
  where
    at : (field : FieldName) → (has (value_of field a) (common (value_of field a) (value_of field b)) ≡ true)
        × (has (value_of field b) (common (value_of field a) (value_of field b)) ≡ true)
    at field =
        and_parts (has (value_of field a) (common (value_of field a) (value_of field b))) (has (value_of field b) (common (value_of field a) (value_of field b)))
        (each_field_at (λ f. shares (value_of f a) (value_of f b)) all field)

-- and if there is none to be made, no ask lies in both
pub nothing_common : (a b : Region) (ask : Ask) → have_common a b ≡ false → (lies a ask && lies b ask) ≡ false
nothing_common a b ask none =
    false_from_ne_true (lies a ask && lies b ask) (
    λ t.
    let parts = and_parts (lies a ask) (lies b ask) t in
    both_ways (have_common a b) none
    (each_field_from (λ f. shares (value_of f a) (value_of f b)) (
    λ f. common_law (value_of f a) (value_of f b) (value_of f ask)
    (each_field_at (λ g. has (value_of g a) (value_of g ask)) parts.0 f)
    (each_field_at (λ g. has (value_of g b) (value_of g ask)) parts.1 f)
    ))
    )

-- a region has the asks that it shares with itself
pub twice : (b : Bool) → (b && b) ≡ b
twice true = refl
twice false = refl

-- ---- the start

-- an ask of a shape has in each field a value that a shape has there
in_field : (field : FieldName) (shapes : List Region) (ask : Ask) → lies_in_one shapes ask ≡ true
    → list_any (λ shape. has (value_of field shape) (value_of field ask)) shapes ≡ true
in_field field [] ask t = t
in_field field (s ∷ ss) ask t = elim (or_cases (lies s ask) (lies_in_one ss ask) t) [
  | inl there ↦
      or_left (has (value_of field s) (value_of field ask)) (list_any (λ shape. has (value_of field shape) (value_of field ask)) ss)
      (each_field_at (λ f. has (value_of f s) (value_of f ask)) there field)
  | inr later ↦
      or_right (has (value_of field s) (value_of field ask)) (list_any (λ shape. has (value_of field shape) (value_of field ask)) ss)
      (in_field field ss ask later)
]

-- a region to the last number of all shapes has every ask of theirs
pub reaches : (shapes : List Region) (region : Region) (last : ℕ) (ask : Ask)
    → ((field : FieldName) → value_of field region ≡ any_to last)
    → ((field : FieldName) (number : ℕ) → list_any (λ shape. has (value_of field shape) (Some number)) shapes ≡ true → number ≤ last)
    → lies_in_one shapes ask ≡ true → lies region ask ≡ true
reaches shapes region last ask is below there =
    each_field_from (λ f. has (value_of f region) (value_of f ask)) (
    λ f. ap (λ v. has v (value_of f ask)) (is f) ∙ by f (value_of f ask) (in_field f shapes ask there)
    )
  where
    by : (field : FieldName) (x : Option ℕ) → list_any (λ shape. has (value_of field shape) x) shapes ≡ true → has (any_to last) x ≡ true
    by field None t = refl
    by field (Some n) t = or_left (holds n (between 0 last)) false (hold n (between 0 last) (omega arith) (below field n t))

-- ---- a field of all

none_of : {A : Type 0} (test : A → Bool) (xs : List A) → list_any test xs ≡ false → list_all (λ x. not (test x)) xs ≡ true
none_of test [] e = refl
none_of test (x ∷ xs) e = by (none_of test xs) (test x) refl e
  where
    by : (list_any test xs ≡ false → list_all (λ y. not (test y)) xs ≡ true) → (b : Bool) → test x ≡ b → (b || list_any test xs) ≡ false → (not (test x) && list_all (λ y. not (test y)) xs) ≡ true
    by rest true t e = absurd (both_ways true e refl)
    by rest false t e = ap (λ b. not b && list_all (λ y. not (test y)) xs) t ∙ rest e

-- a test that one field passes
pub some_field : (test : FieldName → Bool) (field : FieldName) → test field ≡ true → list_any test ALL ≡ true
some_field test field t = by (list_any test ALL) refl
  where
    by : (b : Bool) → list_any test ALL ≡ b → b ≡ true
    by true e = refl
    by false e = absurd (both_ways (not (test field)) (ap not t) (each_field_at (λ f. not (test f)) (none_of test ALL e) field))
