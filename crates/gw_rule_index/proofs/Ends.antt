-- The bounds of a field: all values of an elementary range are admitted alike.
use Rattle.std.proofs.Common.{◌≡◌, ℕ, zero, suc, ◌+◌, ◌^◌, ◌≤◌, ◌<◌, Bool, true, false, ◌&&◌, ◌*◌, ◌++◌, cond, List, [], ◌∷◌, map, length, get_or, Some, arith, refl, sym, subst, ◌∙◌, ap, nat_le, nat_lt, inl, inr, eqb, ◌||◌, ◌==◌}
use Rattle.std.specs.List.{Contains, dedup, dedup_from, flat_map, list_any}
use Rattle.std.specs.List.Sorted.{IsNonDecreasing, IsPermutation, IsSorted, IsStrictlyIncreasing}
use Rattle.std.specs.Ordering.{nat_cmp}
use Rattle.std.proofs.lemmas.Bool.{cases_lt, lt-ltb, le-leb, lt-leb, leb-true}
use Rattle.std.proofs.lemmas.List.{get_or-map, length-append, length-map, get_or_default}
use Rattle.std.proofs.lemmas.List.Concat.{length-flat_map}
use Rattle.std.proofs.lemmas.List.Elements.{Contains-append_left, Contains-append_right}
use Rattle.std.proofs.lemmas.List.Kept.{Contains-dedup_nat}
use Rattle.std.proofs.lemmas.List.Sorted.{Contains-permutation, length_permutation, IsNonDecreasingBy-from_all_adjacent}
use Rattle.std.proofs.lemmas.List.Sums.{sum_by-cons, sum_by-le}
use Rattle.std.proofs.lemmas.Map.Keys.{IsStrictlyIncreasing-dedup}
use Rattle.gw_rules.specs.Range.{holds}
use Rattle.gw_rules.specs.Rule.{ranges_of}
use Rattle.gw_rules.specs.RuleList.{KeepsLongCounts, ranges_in_all}
use Rattle.gw_rules.specs.declared.field.FieldName.{FieldName}
use Rattle.gw_rules.specs.declared.range.Range.{Range}
use Rattle.gw_rules.specs.declared.rule.Rule.{Rule}
use Rattle.gw_rule_index.specs.declared.row.Row.{Row}
use Rattle.gw_rule_index.specs.Comparisons.{is_named}
use Rattle.gw_rule_index.specs.internal.Bounds.{AreSearchable, IsPlace, bound_at, ends, field_ends}
use Rattle.gw_rule_index.specs.internal.Field.{HasRows}
use Rattle.gw_rule_index.specs.internal.Row.{Marks, admits_in}
use Rattle.gw_rule_index.proofs.Fields.{marks_same}

-- ascending numbers, not too many, among them each end
pub record AreBounds (field : FieldName) (rules : List Rule) (numbers : List ℕ) : Type 0 where
  pub rises : (i j : ℕ) → i ≤ j → j < length numbers → get_or numbers i 0 ≤ get_or numbers j 0
  pub few : length numbers ≤ 4096
  pub covers : (x : ℕ) → Contains (field_ends field rules) x → Contains numbers x
  pub skipped : is_named rules field ≡ false → length numbers ≡ 0

-- ---- how many ends there are
ends_few : (range : Range) → length (ends range) ≤ 2
ends_few range = go (nat_lt (range.high + 1) (2 ^ 64))
  where
    go : (b : Bool) → length (range.low ∷ cond b ((range.high + 1) ∷ []) []) ≤ 2
    go true = omega arith
    go false = omega arith

rule_ends_few : (ranges : List Range) → length (flat_map ends ranges) ≤ 2 * length ranges
rule_ends_few ranges =
    let at = length-flat_map ends ranges in
    let most = sum_by-le (λ range. length (ends range)) 2 ranges (λ k d within. ends_few (get_or ranges k d)) in
    omega (arith, at, most)

-- two for each range of all rules together
all_ends_few : (field : FieldName) (rules : List Rule) → length (field_ends field rules) ≤ 2 * ranges_in_all rules field
all_ends_few field [] = omega arith
all_ends_few field (rule ∷ rules) =
    let here = rule_ends_few (ranges_of field rule) in
    let rest = all_ends_few field rules in
    let joined = length-append (flat_map ends (ranges_of field rule)) (field_ends field rules) in
    let more = sum_by-cons (λ (rule : Rule). length (ranges_of field rule)) rule rules in
    omega (arith, here, rest, joined, more)

field_ends_few : (field : FieldName) (rules : List Rule) → KeepsLongCounts rules → length (field_ends field rules) ≤ 4096
field_ends_few field rules keeps = omega (arith, all_ends_few field rules, keeps.in_all field)

-- none if no rule names the field
no_ends_here : (ranges : List Range) (others : Bool) (more : List ℕ) → (others ≡ false → length more ≡ 0) → (nat_lt 0 (length ranges) || others) ≡ false → length (flat_map ends ranges ++ more) ≡ 0
no_ends_here [] others more rest none = rest none
no_ends_here (range ∷ ranges) others more rest none =
    let named : nat_lt 0 (length (range ∷ ranges)) ≡ true = lt-ltb 0 (length (range ∷ ranges)) (omega arith) in
    let both : true ≡ false = sym (ap (λ b. b || others) named) ∙ none in
    absurd (cc)

no_ends : (field : FieldName) (rules : List Rule) → is_named rules field ≡ false → length (field_ends field rules) ≡ 0
no_ends field [] none = refl
no_ends field (rule ∷ rules) none =
    no_ends_here (ranges_of field rule) (is_named rules field) (field_ends field rules) (no_ends field rules) none

-- ---- each end of a range of a rule is among them
in_flat_map : {X : Type 0} (f : X → List ℕ) (xs : List X) (x : X) (n : ℕ) → Contains xs x → Contains (f x) n → Contains (flat_map f xs) n
in_flat_map f [] x n there inside = absurd (omega (arith, there.1))
in_flat_map f (y ∷ ys) x n (zero, within, is) inside =
    Contains-append_left (f y) (flat_map f ys) n (subst (λ z. Contains (f z) n) (sym is) inside)
in_flat_map f (y ∷ ys) x n (suc k, within, is) inside =
    Contains-append_right (f y) (flat_map f ys) n (in_flat_map f ys x n (k, omega arith, is) inside)

low_in : (range : Range) → Contains (ends range) range.low
low_in range = (0, omega arith, refl)

next_in : (range : Range) → range.high + 1 < 2 ^ 64 → Contains (ends range) (range.high + 1)
next_in range inside =
    subst (λ b. Contains (range.low ∷ cond b ((range.high + 1) ∷ []) []) (range.high + 1)) (sym (lt-ltb (range.high + 1) (2 ^ 64) inside)) (1, omega arith, refl)

-- ---- the bounds
one_shorter : (b : Bool) (x y : ℕ) (ys : List ℕ) → length (dedup_from eqb x ys) ≤ 1 + length ys → length (dedup_from eqb y ys) ≤ 1 + length ys → length (cond b (dedup_from eqb x ys) (x ∷ dedup_from eqb y ys)) ≤ 1 + length (y ∷ ys)
one_shorter true x y ys one two = omega arith
one_shorter false x y ys one two = omega arith

dedup_from_shorter : (x : ℕ) (xs : List ℕ) → length (dedup_from eqb x xs) ≤ 1 + length xs
dedup_from_shorter x [] = omega arith
dedup_from_shorter x (y ∷ ys) =
    one_shorter (eqb y x) x y ys (dedup_from_shorter x ys) (dedup_from_shorter y ys)

dedup_shorter : (xs : List ℕ) → length (dedup eqb xs) ≤ length xs
dedup_shorter [] = omega arith
dedup_shorter (x ∷ xs) = omega (arith, dedup_from_shorter x xs)

pub are_bounds : (field : FieldName) (rules : List Rule) (all sorted numbers : List ℕ) → all ≡ field_ends field rules → IsPermutation all sorted → IsSorted nat_cmp sorted → numbers ≡ dedup eqb sorted → KeepsLongCounts rules → AreBounds field rules numbers
are_bounds field rules all sorted numbers is moved up single keeps = record {
  rises = λ i j before within. rise i j 0 before within;
  few = omega (arith, field_ends_few field rules keeps, fewer);
  covers = λ x there.
      subst (λ xs. Contains xs x) (sym single)
      (Contains-dedup_nat sorted x (Contains-permutation all sorted x moved (subst (λ xs. Contains xs x) (sym is) there)));
  skipped = λ none. omega (arith, no_ends field rules none, fewer);
}
  where
    fewer : length numbers ≤ length (field_ends field rules)
    fewer =
        let long : length all ≡ length (field_ends field rules) = ap length is in
        let same : length sorted ≡ length all = length_permutation all sorted moved in
        let less : length numbers ≤ length sorted = subst (λ xs. length xs ≤ length sorted) (sym single) (dedup_shorter sorted) in
        omega (arith, long, same, less)

    strict : IsStrictlyIncreasing numbers
    strict = subst IsStrictlyIncreasing (sym single) (IsStrictlyIncreasing-dedup sorted up)

    rise : IsNonDecreasing numbers
    rise = IsNonDecreasingBy-from_all_adjacent (λ x. x) numbers (λ k d within.
        let step = strict k within in
        let here : k < length numbers = omega arith in
        let one = get_or_default numbers k d 0 here in
        let two = get_or_default numbers (k + 1) d 0 within in
        omega (arith, step, one, two))

pub searchable : (field : FieldName) (rules : List Rule) (numbers : List ℕ) → AreBounds field rules numbers → AreSearchable (map bound_at numbers)
searchable field rules numbers are = (
  λ i j d before within.
      let long = length-map numbers bound_at in
      let second : j < length numbers = omega (arith, long) in
      let first : i < length numbers = omega arith in
      let one = ap (λ b. b.number) (get_or-map bound_at numbers i 0 d first) in
      let two = ap (λ b. b.number) (get_or-map bound_at numbers j 0 d second) in
      let up = are.rises i j before second in
      omega (arith, one, two, up),
  let long = length-map numbers bound_at in omega (arith, long, are.few),
)

-- ---- no field without bounds is named
pub unnamed : (field : FieldName) (rules : List Rule) (numbers : List ℕ) → AreBounds field rules numbers → length numbers ≡ 0 → (rule : Rule) → Contains rules rule → ranges_of field rule ≡ []
unnamed field rules numbers are none rule there = go (ranges_of field rule) refl
  where
    go : (ranges : List Range) → ranges_of field rule ≡ ranges → ranges_of field rule ≡ []
    go [] e = e
    go (range ∷ ranges) e =
        let mine : Contains (ranges_of field rule) range = subst (λ rs. Contains rs range) (sym e) (0, omega arith, refl) in
        let found = are.covers range.low (in_flat_map (λ rule. flat_map ends (ranges_of field rule)) rules rule range.low there (in_flat_map ends (ranges_of field rule) range range.low mine (low_in range))) in
        absurd (omega (arith, found.1, none))

-- ---- a value and the number from which its elementary range goes
abbrev Alike : List ℕ → ℕ → ℕ → Type 0
Alike numbers value start = (x : ℕ) → Contains numbers x → nat_le x value ≡ nat_le x start

holds_alike : (numbers : List ℕ) (value start : ℕ) (range : Range) → Alike numbers value start → start ≤ value → value < 2 ^ 64 → Contains numbers range.low → (range.high + 1 < 2 ^ 64 → Contains numbers (range.high + 1)) → holds start range ≡ holds value range
holds_alike numbers value start range alike under fits low next =
    ap (λ b. b && nat_le start range.high) (sym (alike range.low low)) ∙ ap (λ b. nat_le range.low value && b) upper
  where
    upper : nat_le start range.high ≡ nat_le value range.high
    upper =
        elim (cases_lt range.high value) [
          | inl over ↦
              let inside : range.high + 1 < 2 ^ 64 = omega arith in
              let more : range.high + 1 ≤ value = omega arith in
              let reached : nat_le (range.high + 1) start ≡ true = sym (alike (range.high + 1) (next inside)) ∙ le-leb (range.high + 1) value more in
              let past : range.high + 1 ≤ start = leb-true (range.high + 1) start reached in
              lt-leb start range.high (omega (arith, past)) ∙ sym (lt-leb value range.high over)
          | inr inside ↦ le-leb start range.high (omega arith) ∙ sym (le-leb value range.high inside)
        ]

any_alike : (value start : ℕ) (ranges : List Range) → ((range : Range) → Contains ranges range → holds start range ≡ holds value range) → list_any (holds start) ranges ≡ list_any (holds value) ranges
any_alike value start [] same = refl
any_alike value start (range ∷ ranges) same =
    ap (λ b. b || list_any (holds start) ranges) (same range (0, omega arith, refl))
    ∙ ap (λ b. holds value range || b) (any_alike value start ranges (λ other there. same other (suc there.0, omega (arith, there.1), there.2)))

admits_alike : (field : FieldName) (rules : List Rule) (numbers : List ℕ) (value start : ℕ) → AreBounds field rules numbers → Alike numbers value start → start ≤ value → value < 2 ^ 64 → (rule : Rule) → Contains rules rule → admits_in field (Some start) rule ≡ admits_in field (Some value) rule
admits_alike field rules numbers value start are alike under fits rule there =
    ap (λ b. (length (ranges_of field rule) == 0) || b)
    (any_alike value start (ranges_of field rule) (λ range mine.
    let among : (x : ℕ) → Contains (ends range) x → Contains numbers x = λ x end. are.covers x (in_flat_map (λ rule. flat_map ends (ranges_of field rule)) rules rule x there (in_flat_map ends (ranges_of field rule) range x mine end)) in
    holds_alike numbers value start range alike under fits (among range.low (low_in range)) (λ inside. among (range.high + 1) (next_in range inside))))

-- ---- the start of the range at a place
start_alike : (field : FieldName) (rules : List Rule) (numbers : List ℕ) (value place : ℕ) → AreBounds field rules numbers → place ≤ length numbers → IsPlace (map bound_at numbers) value place → (get_or (0 ∷ numbers) place 0 ≤ value) × Alike numbers value (get_or (0 ∷ numbers) place 0)
start_alike field rules numbers value place are within at = (lower place within at, λ x there. side place within at x there)
  where
    below : (place k : ℕ) → IsPlace (map bound_at numbers) value place → k < place → k < length numbers → get_or numbers k 0 ≤ value
    below place k at less inside =
        let b = at.below k (bound_at 0) less in
        let is = ap (λ b. b.number) (get_or-map bound_at numbers k 0 (bound_at 0) inside) in
        omega (arith, b, is)

    above : (place k : ℕ) → IsPlace (map bound_at numbers) value place → place ≤ k → k < length numbers → value < get_or numbers k 0
    above place k at past inside =
        let long = length-map numbers bound_at in
        let mapped : k < length (map bound_at numbers) = omega (arith, long) in
        let b = at.above k (bound_at 0) past mapped in
        let is = ap (λ b. b.number) (get_or-map bound_at numbers k 0 (bound_at 0) inside) in
        omega (arith, b, is)

    lower : (place : ℕ) → place ≤ length numbers → IsPlace (map bound_at numbers) value place → get_or (0 ∷ numbers) place 0 ≤ value
    lower zero within at = omega arith
    lower (suc p) within at = below (suc p) p at (omega arith) (omega arith)

    reach : (place k : ℕ) → place ≤ length numbers → k < place → get_or numbers k 0 ≤ get_or (0 ∷ numbers) place 0
    reach zero k within less = absurd (omega arith)
    reach (suc p) k within less = are.rises k p (omega arith) (omega arith)

    side : (place : ℕ) → place ≤ length numbers → IsPlace (map bound_at numbers) value place → (x : ℕ) → Contains numbers x → nat_le x value ≡ nat_le x (get_or (0 ∷ numbers) place 0)
    side place within at x (k, inside, is) =
        let same : get_or numbers k 0 ≡ x = get_or_default numbers k 0 x inside ∙ is in
        elim (cases_lt k place) [
          | inl less ↦
              let v = below place k at less inside in
              let r = reach place k within less in
              le-leb x value (omega (arith, v, same)) ∙ sym (le-leb x (get_or (0 ∷ numbers) place 0) (omega (arith, r, same)))
          | inr past ↦
              let v = above place k at past inside in
              let r = lower place within at in
              lt-leb x value (omega (arith, v, same)) ∙ sym (lt-leb x (get_or (0 ∷ numbers) place 0) (omega (arith, v, r, same)))
        ]

-- the row that is found marks exactly the rules that admit the value
pub found_row : (field : FieldName) (rules : List Rule) (numbers : List ℕ) (rows : List Row) → AreBounds field rules numbers → length rows ≡ length numbers + 1 → HasRows rules field numbers rows → (value place : ℕ) (d : Row) → value < 2 ^ 64 → place ≤ length (map bound_at numbers) → IsPlace (map bound_at numbers) value place → Marks (get_or rows place d).words (admits_in field (Some value)) rules
found_row field rules numbers rows are long has value place d fits within at =
    let mapped = length-map numbers bound_at in
    let inside : place ≤ length numbers = omega (arith, mapped) in
    let alike = start_alike field rules numbers value place are inside at in
    marks_same (get_or rows place d).words (admits_in field (Some (get_or (0 ∷ numbers) place 0))) (admits_in field (Some value)) rules
    (admits_alike field rules numbers value (get_or (0 ∷ numbers) place 0) are alike.1 alike.0 fits)
    (has place d (omega arith))
