-- What a rule matches of a shape, and when the rules before it match all of that.
use Rattle.std.proofs.Common.{◌≡◌, ℕ, ◌+◌, ◌-◌, ◌<◌, ◌≤◌, Bool, true, false, ◌&&◌, ◌||◌, ◌==◌, List, [], ◌∷◌, ◌++◌, length, Option, Some, None, refl, sym, ap, subst, ◌∙◌, arith, slice_get, nat_le, map, add-one, get_or, take}
use Rattle.std.specs.List.{Any, list_any}
use Rattle.std.specs.Option.{IsSomeAnd}
use Rattle.std.proofs.Math.Seq.{take-suc}
use Rattle.std.proofs.lemmas.List.{get_or-take, length-take}
use Rattle.std.proofs.lemmas.Option.{get_or_from_slice_get, slice_get-get_or, slice_get_within}
use Rattle.std.proofs.lemmas.Bool.{and_from, and_parts, both_ways, false_from_ne_true, le-leb, ne_eqb, or_left, or_right}
use Rattle.std.proofs.lemmas.List.Folds.{list_any-append, list_any-from_Any, list_any_at, list_any_none}
use Rattle.gw_ask_sets.specs.regions.Regions.{IsParted, Region, lies, lies_in_one}
use Rattle.gw_ask_sets.specs.regions.Unmatched.{AreAllMatched, IsUnmatched, is_matched}
use Rattle.gw_rules.specs.Ask.{Ask}
use Rattle.gw_rules.specs.Fields.{value_of}
use Rattle.gw_rules.specs.Rule.{Matches, matches, ranges_of}
use Rattle.gw_rules.specs.RuleList.{HasNumber, first}
use Rattle.gw_rules.specs.declared.range.Range.{Range}
use Rattle.gw_rules.specs.declared.rule.Rule.{Rule}
use Rattle.gw_rules.proofs.EachField.{each_field_from}
use Rattle.gw_rules.proofs.First.{first_iff}
use Rattle.gw_rules.proofs.Matching.{matches_iff}
use Rattle.gw_ask_sets.specs.shapes.Meeting.{has_number, meets, meets_side, overlaps}
use Rattle.gw_ask_sets.specs.shapes.Regions.{region_of}
use Rattle.gw_ask_sets.specs.shapes.Search.{AreMatched, IsFirstFor, IsNeverFirst}
use Rattle.gw_ask_sets.specs.shapes.Shape.{IsIn, IsWithin, LiesIn, Shape}
use Rattle.gw_ask_sets.specs.declared.shapes.side.Side.{Side}
use Rattle.gw_ask_sets.proofs.shapes_lemmas.Lying.{in_range}
use Rattle.gw_ask_sets.proofs.shapes_lemmas.RegionLaw.{inner_one, is_inner, whole_one}

-- the ranges admit the value, where there are some
abbrev pub Admitted : List Range → Option ℕ → Type 0
Admitted ranges value = 0 < length ranges → IsSomeAnd value (λ number. Any (λ range. IsIn range number) ranges)

pub not_empty : (range : Range) (ranges : List Range) → (length (range ∷ ranges) == 0) ≡ false
not_empty range ranges = ne_eqb (length (range ∷ ranges)) 0 (λ e. omega arith)

-- ---- a shape that a rule matches something of

met_side : (side : Side) (ranges : List Range) (value : Option ℕ) → IsWithin side value → Admitted ranges value → meets_side side ranges ≡ true
met_side side [] None is admitted = or_left side.absent (has_number side) is
met_side side [] (Some number) within admitted =
    let is = in_range side number within in
    let from = is.0 in
    let to = is.1 in
    or_right side.absent (has_number side) (le-leb side.range.low side.range.high (omega arith))
met_side side (range ∷ ranges) None is admitted = absurd (admitted (omega arith))
met_side side (range ∷ ranges) (Some number) within admitted =
    let is = in_range side number within in
    let from = is.0 in
    let to = is.1 in
    let all = range ∷ ranges in
    let some = admitted (omega arith) in
    let low = some.4.0 in
    let high = some.4.1 in
    let over : overlaps side.range some.1 ≡ true = and_from (nat_le side.range.low some.1.high) (nat_le some.1.low side.range.high)
    (le-leb side.range.low some.1.high (omega arith)) (le-leb some.1.low side.range.high (omega arith)) in
    rw (not_empty range ranges) (and_from (has_number side) (list_any (overlaps side.range) all)
    (le-leb side.range.low side.range.high (omega arith))
    (list_any-from_Any (overlaps side.range) all (some.0, some.1, some.2, some.3, over)))

pub met : (shape : Shape) (rule : Rule) (ask : Ask) → LiesIn shape ask → Matches rule ask → meets shape rule ≡ true
met shape rule ask lies matching =
    each_field_from (λ field. meets_side (value_of field shape) (ranges_of field rule))
    (λ field. met_side (value_of field shape) (ranges_of field rule) (value_of field ask) (lies field) (matching field))

-- ---- the start of a search

-- the rule that decides is the one of the number
pub deciding_rule : (rules : List Rule) (number : ℕ) (rule : Rule) (ask : Ask) → slice_get rules (number - 1) ≡ Some rule → first rules ask ≡ Some number
    → Matches rule ask
deciding_rule rules number rule ask there is =
    let deciding = (first_iff rules ask number).0 is in
    let both : Some deciding.rule ≡ Some rule = sym deciding.numbered.there ∙ there in
    let same : deciding.rule ≡ rule = cc in
    subst (λ (rule : Rule). Matches rule ask) same deciding.matching

-- a rule matches no ask of a shape that it doesn't meet
pub unmet : (shape : Shape) (rule : Rule) (ask : Ask) → meets shape rule ≡ false → (lies (region_of shape) ask && matches rule ask) ≡ false
unmet shape rule ask none =
    false_from_ne_true (lies (region_of shape) ask && matches rule ask) (
    λ t.
    let parts = and_parts (lies (region_of shape) ask) (matches rule ask) t in
    both_ways (meets shape rule) none (met shape rule ask (is_inner shape ask parts.0) ((matches_iff rule ask).0 parts.1))
    )

parted : (xs ys : List Region) (ask : Ask) → lies_in_one (xs ++ ys) ask ≡ (lies_in_one xs ask || lies_in_one ys ask)
parted xs ys ask = list_any-append (λ region. lies region ask) xs ys

plain : (b : Bool) → (b || false) ≡ b
plain true = refl
plain false = refl

-- the regions are as they were
pub none_pushed : (shape : Shape) (rule : Rule) (regions : List Region) → meets shape rule ≡ false → (ask : Ask)
    → lies_in_one regions ask ≡ (lies_in_one regions ask || (lies (region_of shape) ask && matches rule ask))
none_pushed shape rule regions none ask =
    sym (plain (lies_in_one regions ask)) ∙ ap (λ b. lies_in_one regions ask || b) (sym (unmet shape rule ask none))

-- there is one more
pub one_pushed : (shape : Shape) (rule : Rule) (within : Region) (outer former latter : List Region) → IsParted rule (region_of shape) within outer
    → latter ≡ former ++ within ∷ [] → (ask : Ask)
    → lies_in_one latter ask ≡ (lies_in_one former ask || (lies (region_of shape) ask && matches rule ask))
one_pushed shape rule within outer former latter is e ask =
    ap (λ (rs : List Region). lies_in_one rs ask) e ∙ parted former (within ∷ []) ask
    ∙ ap (λ b. lies_in_one former ask || b) (plain (lies within ask) ∙ is.inner ask)

over : (a b m : Bool) → ((a && m) || (b && m)) ≡ ((a || b) && m)
over true true true = refl
over true true false = refl
over true false true = refl
over true false false = refl
over false b m = refl

-- the asks of one shape more that the rule matches
pub matched_step : (done : List Shape) (shape : Shape) (rule : Rule) (former latter : List Region) → AreMatched done rule former
    → ((ask : Ask) → lies_in_one latter ask ≡ (lies_in_one former ask || (lies (region_of shape) ask && matches rule ask)))
    → AreMatched (done ++ shape ∷ []) rule latter
matched_step done shape rule former latter is pushed ask =
    pushed ask ∙ ap (λ b. b || (lies (region_of shape) ask && matches rule ask)) (is ask)
    ∙ over (lies_in_one (map region_of done) ask) (lies (region_of shape) ask) (matches rule ask)
    ∙ ap (λ b. b && matches rule ask) (sym (all_of done))
  where
    all_of : (done : List Shape) → lies_in_one (map region_of (done ++ shape ∷ [])) ask ≡ (lies_in_one (map region_of done) ask || lies (region_of shape) ask)
    all_of [] = plain (lies (region_of shape) ask)
    all_of (s ∷ done) =
        ap (λ b. lies (region_of s) ask || b) (all_of done)
        ∙ either (lies (region_of s) ask) (lies_in_one (map region_of done) ask) (lies (region_of shape) ask)
      where
        either : (a b c : Bool) → (a || (b || c)) ≡ ((a || b) || c)
        either true b c = refl
        either false b c = refl

pub matched_next : (shapes : List Shape) (place : ℕ) (d : Shape) (rule : Rule) (former latter : List Region) → place < length shapes
    → AreMatched (take place shapes) rule former
    → ((ask : Ask) → lies_in_one latter ask ≡ (lies_in_one former ask || (lies (region_of (get_or shapes place d)) ask && matches rule ask)))
    → AreMatched (take (place + 1) shapes) rule latter
matched_next shapes place d rule former latter within is pushed =
    let shape = get_or shapes place d in
    let more : take (place + 1) shapes ≡ take place shapes ++ shape ∷ [] = ap (λ n. take n shapes) (add-one place) ∙ take-suc shapes place d within in
    subst (λ (done : List Shape). AreMatched done rule latter) (sym more) (matched_step (take place shapes) shape rule former latter is pushed)

-- ---- the rules before one

-- those before the first that matches an ask don't match it
pub unmatched_before : (rules : List Rule) (number : ℕ) (ask : Ask) → first rules ask ≡ Some number → is_matched (take (number - 1) rules) ask ≡ false
unmatched_before rules number ask is =
    let deciding = (first_iff rules ask number).0 is in
    list_any_none (λ rule. matches rule ask) (take (number - 1) rules) (
    λ k d within.
    let long = length-take (number - 1) rules in
    let below : k < number - 1 = omega (arith, within, long) in
    let inside : k < length rules = omega (arith, within, long) in
    let same : get_or (take (number - 1) rules) k d ≡ get_or rules k d = get_or-take (number - 1) rules k d below in
    let other = get_or (take (number - 1) rules) k d in
    let place : k + 1 - 1 ≡ k = omega arith in
    let has : HasNumber rules (k + 1) other = record {
      counted = omega arith;
      there = ap (slice_get rules) place ∙ slice_get-get_or rules k d inside ∙ ap Some (sym same);
    } in
    false_from_ne_true (matches other ask) (λ t. deciding.least (k + 1) other (omega (arith, below)) has ((matches_iff other ask).0 t))
    )

-- a rule that matches an ask is the first if none before it does
pub first_before : (rules : List Rule) (number : ℕ) (rule : Rule) (ask : Ask) → HasNumber rules number rule → matches rule ask ≡ true
    → is_matched (take (number - 1) rules) ask ≡ false → first rules ask ≡ Some number
first_before rules number rule ask has is none =
    (first_iff rules ask number).1 (record {
      rule = rule;
      numbered = has;
      matching = (matches_iff rule ask).0 is;
      least = λ lower other below lies matching.
          let one = lies.counted in
          let long = slice_get_within rules (number - 1) rule has.there in
          let inside : lower - 1 < length (take (number - 1) rules) = omega (arith, one, below, long, length-take (number - 1) rules) in
          let there : get_or (take (number - 1) rules) (lower - 1) other ≡ other =
          get_or-take (number - 1) rules (lower - 1) other (omega (arith, one, below)) ∙ get_or_from_slice_get rules (lower - 1) other other lies.there in
          both_ways (is_matched (take (number - 1) rules) ask) none
          (list_any_at (λ r. matches r ask) (take (number - 1) rules) (lower - 1) other inside
          (ap (λ (r : Rule). matches r ask) there ∙ (matches_iff other ask).1 matching));
    })

-- if the rules before it match all asks of the shapes that it matches, it decides none
pub never_first : (shapes : List Shape) (rules : List Rule) (number : ℕ) (rule : Rule) (regions : List Region) → slice_get rules (number - 1) ≡ Some rule
    → AreMatched shapes rule regions → AreAllMatched regions (take (number - 1) rules) → IsNeverFirst shapes rules number
never_first shapes rules number rule regions there are all ask lies is =
    both_ways (is_matched (take (number - 1) rules) ask) (unmatched_before rules number ask is)
    (all ask (
    are ask
    ∙ and_from (lies_in_one (map region_of shapes) ask) (matches rule ask) (whole_one shapes ask lies)
    ((matches_iff rule ask).1 (deciding_rule rules number rule ask there is))
    ))

-- an ask of these that they don't match is one that it decides
pub is_first_for : (shapes : List Shape) (rules : List Rule) (number : ℕ) (rule : Rule) (regions : List Region) (ask : Ask) → HasNumber rules number rule
    → AreMatched shapes rule regions → IsUnmatched regions (take (number - 1) rules) ask → IsFirstFor shapes rules number ask
is_first_for shapes rules number rule regions ask has are is =
    let parts = and_parts (lies_in_one (map region_of shapes) ask) (matches rule ask) (sym (are ask) ∙ is.0) in (
      inner_one shapes ask parts.0,
      first_before rules number rule ask has parts.1 is.1,
    )

-- no ask has a rule as its first whose number no rule has
pub no_rule : (shapes : List Shape) (rules : List Rule) (number : ℕ) → ((rule : Rule) → HasNumber rules number rule → ⊥) → IsNeverFirst shapes rules number
no_rule shapes rules number none ask lies is =
    let deciding = (first_iff rules ask number).0 is in
    none deciding.rule deciding.numbered

-- a place of a list, as a number
pub numbered_at : (rules : List Rule) (number : ℕ) (rule : Rule) → 1 ≤ number → number ≤ length rules → rule ≡ get_or rules (number - 1) rule
    → HasNumber rules number rule
numbered_at rules number rule one within is = record {
  counted = one;
  there = slice_get-get_or rules (number - 1) rule (omega (arith, one, within)) ∙ ap Some (sym is);
}
