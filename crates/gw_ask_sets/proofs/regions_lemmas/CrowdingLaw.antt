-- Why a rule matches each ask of a region that is crowded with rules.
use Rattle.std.proofs.Common.{◌≡◌, ◌∙◌, sym, ap, refl, subst, ℕ, zero, suc, ◌+◌, ◌≤◌, ◌<◌, Bool, true, false, not, cond, ◌||◌, ◌==◌, List, [], ◌∷◌, length, Option, Some, None, add-one, arith, drop, get_or, inl, inr, take}
use Rattle.std.specs.List.{filter, list_all, list_any}
use Rattle.std.specs.Option.{option_map_or}
use Rattle.std.specs.Prelude.{slice_get}
use Rattle.std.proofs.lemmas.Bool.{both_ways, cases_order, eq-eqb, or_cases, or_left, or_right}
use Rattle.std.proofs.lemmas.List.{take_all}
use Rattle.std.proofs.lemmas.List.Folds.{list_any_at}
use Rattle.std.proofs.lemmas.Option.{get_or_from_slice_get, slice_get_within}
use Rattle.gw_rules.specs.Ask.{Ask}
use Rattle.gw_rules.specs.Fields.{value_of}
use Rattle.gw_rules.specs.Range.{admits, holds}
use Rattle.gw_rules.specs.Rule.{matches, ranges_of}
use Rattle.gw_rules.specs.declared.field.FieldName.{FieldName}
use Rattle.gw_rules.specs.declared.field.TheConstants.FieldName.{ALL}
use Rattle.gw_rules.specs.declared.range.Range.{Range}
use Rattle.gw_rules.specs.declared.rule.Rule.{Rule}
use Rattle.gw_rules.proofs.EachField.{each_field_at}
use Rattle.gw_ask_sets.specs.regions.Regions.{Region, lies}
use Rattle.gw_ask_sets.specs.regions.Unmatched.{is_matched}
use Rattle.gw_ask_sets.specs.regions.Values.{has}
use Rattle.gw_ask_sets.specs.regions.internal.Crowding.{AreFew, ends_at, miss_count, miss_sum, misses}
use Rattle.gw_ask_sets.specs.declared.regions.values.Values.{Values}
use Rattle.gw_ask_sets.proofs.regions_lemmas.Growing.{grown_any, next_item}
use Rattle.gw_ask_sets.proofs.regions_lemmas.RangeLaw.{held, hold}

neither : (a b : Bool) → (a || b) ≡ false → (a ≡ false) × (b ≡ false)
neither true b e = absurd cc
neither false b e = (refl, e)

-- ---- from one number to the next

-- ranges of which none ends with a number hold the next one too
next_held : (ranges : List Range) (k : ℕ) → list_any (λ (r : Range). r.high == k) ranges ≡ false → list_any (holds k) ranges ≡ true
    → list_any (holds (suc k)) ranges ≡ true
next_held [] k none there = there
next_held (r ∷ rs) k none there =
    let apart = neither (r.high == k) (list_any (λ (x : Range). x.high == k) rs) none in
    elim (or_cases (holds k r) (list_any (holds k) rs) there) [
      | inl here ↦
          let is = held k r here in
          let low = is.0 in
          let high = is.1 in
          let inside : suc k ≤ r.high = elim (cases_order r.high k) [
            | inl same ↦ absurd (both_ways (r.high == k) apart.0 (eq-eqb r.high k same))
            | inr other ↦ elim other [
              | inl below ↦ absurd (omega (arith, below, high))
              | inr above ↦ omega (arith, above)
            ]
          ] in
          or_left (holds (suc k) r) (list_any (holds (suc k)) rs) (hold (suc k) r (omega (arith, low)) inside)
      | inr later ↦ or_right (holds (suc k) r) (list_any (holds (suc k)) rs) (next_held rs k apart.1 later)
    ]

next_admitted : (ranges : List Range) (k : ℕ) → list_any (λ (r : Range). r.high == k) ranges ≡ false → admits ranges (Some k) ≡ true
    → admits ranges (Some (suc k)) ≡ true
next_admitted ranges k none there = by (length ranges == 0) there
  where
    by : (b : Bool) → (b || list_any (holds k) ranges) ≡ true → (b || list_any (holds (suc k)) ranges) ≡ true
    by true t = refl
    by false t = next_held ranges k none t

turned : (a b : Bool) → (a ≡ true → b ≡ true) → not b ≡ true → not a ≡ true
turned true true f e = absurd cc
turned true false f e =
    let wrong : false ≡ true = f refl in
    absurd cc
turned false b f e = refl

-- a rule that misses the next number misses this one
missed_before : (found : Option Rule) (field : FieldName) (k : ℕ)
    → option_map_or (λ (rule : Rule). list_any (λ (r : Range). r.high == k) (ranges_of field rule)) found false ≡ false
    → option_map_or (λ (rule : Rule). not (admits (ranges_of field rule) (Some (suc k)))) found true ≡ true
    → option_map_or (λ (rule : Rule). not (admits (ranges_of field rule) (Some k))) found true ≡ true
missed_before None field k none missed = refl
missed_before (Some rule) field k none missed =
    turned (admits (ranges_of field rule) (Some k)) (admits (ranges_of field rule) (Some (suc k))) (next_admitted (ranges_of field rule) k none) missed

-- so behind no end no more rules miss it
no_more : (rules : List Rule) (places : List ℕ) (field : FieldName) (k : ℕ) → list_any (ends_at rules field k) places ≡ false
    → miss_count rules places field (Some (suc k)) ≤ miss_count rules places field (Some k)
no_more rules [] field k none = omega arith
no_more rules (place ∷ places) field k none =
    let apart = neither (ends_at rules field k place) (list_any (ends_at rules field k) places) none in
    let rest = no_more rules places field k apart.1 in
    by (misses rules field (Some (suc k)) place) (misses rules field (Some k) place) (missed_before (slice_get rules place) field k apart.0) rest
  where
    by : (a b : Bool) → (a ≡ true → b ≡ true)
        → length (filter (misses rules field (Some (suc k))) places) ≤ length (filter (misses rules field (Some k)) places)
        → length (cond a (place ∷ filter (misses rules field (Some (suc k))) places) (filter (misses rules field (Some (suc k))) places))
        ≤ length (cond b (place ∷ filter (misses rules field (Some k)) places) (filter (misses rules field (Some k)) places))
    by true true f rest = omega (arith, rest)
    by true false f rest =
        let wrong : false ≡ true = f refl in
        absurd cc
    by false true f rest = omega (arith, rest)
    by false false f rest = rest

-- what bounds the first number of a range, and those behind an end, bounds each
pub few_in : (rules : List Rule) (places : List ℕ) (field : FieldName) (low high most : ℕ) → miss_count rules places field (Some low) ≤ most
    → ((k : ℕ) → list_any (ends_at rules field k) places ≡ true → (low ≤ k) × (k < high) → miss_count rules places field (Some (k + 1)) ≤ most)
    → (n : ℕ) → low ≤ n → n ≤ high → miss_count rules places field (Some n) ≤ most
few_in rules places field low high most first ends zero least within =
    let same : low ≡ 0 = omega (arith, least) in
    subst (λ (n : ℕ). miss_count rules places field (Some n) ≤ most) same first
few_in rules places field low high most first ends (suc k) least within =
    elim (cases_order low (suc k)) [
      | inl same ↦ subst (λ (n : ℕ). miss_count rules places field (Some n) ≤ most) same first
      | inr apart ↦ elim apart [
        | inl below ↦ by (list_any (ends_at rules field k) places) refl
            (λ (from : low ≤ k). few_in rules places field low high most first ends k from (omega (arith, within))) (omega (arith, below))
        | inr above ↦ absurd (omega (arith, above, least))
      ]
    ]
  where
    by : (b : Bool) → list_any (ends_at rules field k) places ≡ b → (low ≤ k → miss_count rules places field (Some k) ≤ most) → low ≤ k
        → miss_count rules places field (Some (suc k)) ≤ most
    by true e earlier from =
        subst (λ (n : ℕ). miss_count rules places field (Some n) ≤ most) (add-one k) (ends k e (from, omega (arith, within)))
    by false e earlier from =
        let fewer = no_more rules places field k e in
        let before = earlier from in
        omega (arith, fewer, before)

-- ---- one item more

-- a bound of what is counted for each number that passes a test of the items so far
pub bound_step : {A : Type 0} (test : ℕ → A → Bool) (Within : ℕ → Type 0) (counted : ℕ → ℕ) (items : List A) (place : ℕ) (d : A) (most next : ℕ)
    → place < length items → most ≤ next → ((k : ℕ) → test k (get_or items place d) ≡ true → Within k → counted k ≤ next)
    → ((k : ℕ) → list_any (test k) (take place items) ≡ true → Within k → counted k ≤ most)
    → (k : ℕ) → list_any (test k) (take (place + 1) items) ≡ true → Within k → counted k ≤ next
bound_step test Within counted items place d most next inside more one before k t within =
    elim (or_cases (list_any (test k) (take place items)) (test k (get_or items place d)) (sym (grown_any (test k) items place d inside) ∙ t)) [
      | inl early ↦ let below = before k early within in omega (arith, below, more)
      | inr now ↦ one k now within
    ]

pub bound_end : {A : Type 0} (test : ℕ → A → Bool) (Within : ℕ → Type 0) (counted : ℕ → ℕ) (items : List A) (place most : ℕ) → length items ≤ place
    → ((k : ℕ) → list_any (test k) (take place items) ≡ true → Within k → counted k ≤ most)
    → (k : ℕ) → list_any (test k) items ≡ true → Within k → counted k ≤ most
bound_end test Within counted items place most ends before k t within =
    before k (ap (list_any (test k)) (take_all place items ends) ∙ t) within

-- what bounds those that miss an ask without the field, and each number
pub few_of : (rules : List Rule) (places : List ℕ) (field : FieldName) (values : Values) (most : ℕ)
    → (values.absent ≡ true → miss_count rules places field None ≤ most)
    → ((n : ℕ) → list_any (holds n) values.ranges ≡ true → miss_count rules places field (Some n) ≤ most)
    → (value : Option ℕ) → has values value ≡ true → miss_count rules places field value ≤ most
few_of rules places field values most absent numbers None t = absent t
few_of rules places field values most absent numbers (Some n) t = numbers n t

-- ---- all fields

-- an ask is missed in one field at least by a rule that doesn't match it
one_missed : (test : FieldName → Bool) (fields : List FieldName) → list_all test fields ≡ false → 1 ≤ length (filter (λ field. not (test field)) fields)
one_missed test [] none = absurd cc
one_missed test (field ∷ fields) none = by (test field) refl (λ (rest : list_all test fields ≡ false). one_missed test fields rest)
  where
    by : (b : Bool) → test field ≡ b → (list_all test fields ≡ false → 1 ≤ length (filter (λ f. not (test f)) fields))
        → 1 ≤ length (cond (not b) (field ∷ filter (λ f. not (test f)) fields) (filter (λ f. not (test f)) fields))
    by true e others =
        let rest : list_all test fields ≡ false = rw e at none in
        others rest
    by false e others = omega arith

missed_by : (found : Option Rule) (ask : Ask) → ((rule : Rule) → found ≡ Some rule → matches rule ask ≡ false)
    → 1 ≤ length (filter (λ field. option_map_or (λ (rule : Rule). not (admits (ranges_of field rule) (value_of field ask))) found true) ALL)
unfolding matches
missed_by None ask none = omega arith
missed_by (Some rule) ask none = one_missed (λ field. admits (ranges_of field rule) (value_of field ask)) ALL (none rule refl)

-- one rule more is missed in so many fields more
one_more : (rules : List Rule) (place : ℕ) (places : List ℕ) (fields : List FieldName) (ask : Ask)
    → length (filter (λ field. misses rules field (value_of field ask) place) fields) + miss_sum rules places fields ask
    ≤ miss_sum rules (place ∷ places) fields ask
one_more rules place places [] ask = omega arith
one_more rules place places (field ∷ fields) ask = by (misses rules field (value_of field ask) place) (one_more rules place places fields ask)
  where
    by : (b : Bool)
        → length (filter (λ f. misses rules f (value_of f ask) place) fields) + miss_sum rules places fields ask
        ≤ miss_sum rules (place ∷ places) fields ask
        → length (cond b (field ∷ filter (λ f. misses rules f (value_of f ask) place) fields) (filter (λ f. misses rules f (value_of f ask) place) fields))
        + (length (filter (misses rules field (value_of field ask)) places) + miss_sum rules places fields ask)
        ≤ length (cond b (place ∷ filter (misses rules field (value_of field ask)) places) (filter (misses rules field (value_of field ask)) places))
        + miss_sum rules (place ∷ places) fields ask
    by true rest = omega (arith, rest)
    by false rest = omega (arith, rest)

-- no rule at a place matches what none matches
none_there : (rules : List Rule) (ask : Ask) (place : ℕ) → is_matched rules ask ≡ false → (rule : Rule) → slice_get rules place ≡ Some rule
    → matches rule ask ≡ false
none_there rules ask place none rule there = by (matches rule ask) refl
  where
    by : (b : Bool) → matches rule ask ≡ b → b ≡ false
    by false e = refl
    by true e =
        absurd (both_ways (is_matched rules ask) none
        (list_any_at (λ r. matches r ask) rules place rule (slice_get_within rules place rule there)
        (ap (λ (r : Rule). matches r ask) (get_or_from_slice_get rules place rule rule there) ∙ e)))

-- so those of all fields together are no fewer than the rules
all_missed : (rules : List Rule) (places : List ℕ) (ask : Ask) → is_matched rules ask ≡ false → length places ≤ miss_sum rules places ALL ask
all_missed rules [] ask none = omega arith
all_missed rules (place ∷ places) ask none =
    let rest = all_missed rules places ask none in
    let one = missed_by (slice_get rules place) ask (none_there rules ask place none) in
    let more = one_more rules place places ALL ask in
    omega (arith, rest, one, more)

pub crowded : (rules : List Rule) (places : List ℕ) (ask : Ask) (sum : ℕ) → miss_sum rules places ALL ask ≤ sum → sum < length places
    → is_matched rules ask ≡ true
crowded rules places ask sum few more = by (is_matched rules ask) refl
  where
    by : (b : Bool) → is_matched rules ask ≡ b → b ≡ true
    by true e = refl
    by false e =
        let all = all_missed rules places ask e in
        absurd (omega (arith, all, few, more))

-- at most so many miss what an ask of a region has in a field
pub few_at : (rules : List Rule) (places : List ℕ) (region : Region) (ask : Ask) (field : FieldName) (values : Values) (most : ℕ)
    → values ≡ value_of field region → AreFew rules places field values most → lies region ask ≡ true
    → miss_count rules places field (value_of field ask) ≤ most
few_at rules places region ask field values most same few there =
    few (value_of field ask)
    (ap (λ (v : Values). has v (value_of field ask)) same ∙ each_field_at (λ f. has (value_of f region) (value_of f ask)) there field)

-- what is missed in the fields that are left, before one of them and behind it
pub sum_step : (rules : List Rule) (places : List ℕ) (ask : Ask) (fields : List FieldName) (place : ℕ) (d : FieldName) (sum more next : ℕ)
    → place < length fields → miss_count rules places (get_or fields place d) (value_of (get_or fields place d) ask) ≤ more → next ≡ more + sum
    → miss_sum rules places fields ask ≤ sum + miss_sum rules places (drop place fields) ask
    → miss_sum rules places fields ask ≤ next + miss_sum rules places (drop (place + 1) fields) ask
sum_step rules places ask fields place d sum more next within few grown before =
    let field = get_or fields place d in
    let parted : miss_sum rules places (drop place fields) ask
    ≡ miss_count rules places field (value_of field ask) + miss_sum rules places (drop (place + 1) fields) ask =
    ap (λ (fs : List FieldName). miss_sum rules places fs ask) (next_item fields place d within) in
    omega (arith, few, grown, before, parted)
