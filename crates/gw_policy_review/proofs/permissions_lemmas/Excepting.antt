-- An ask that a rule matches, and allows, is denied only by a rule before it that its line names.
use Rattle.std.proofs.Common.{◌≡◌, ◌∙◌, inl, inr, ℕ, ◌-◌, ◌<◌, Bool, true, false, not, ◌||◌, ◌==◌, List, Option, Some, None, ap, arith, get_or, length, nat_le, refl, slice_get, subst, sym}
use Rattle.std.specs.List.{list_any}
use Rattle.std.specs.Option.{option_map_or}
use Rattle.std.proofs.lemmas.Bool.{and_from, and_parts, both_ways, cases_order, false≢true, le-leb, leb-true}
use Rattle.std.proofs.lemmas.List.Folds.{Any-from_list_any, list_any-from_Any}
use Rattle.std.proofs.lemmas.Option.{get_or_from_slice_get, slice_get_within}
use Rattle.gw_rules.specs.Ask.{Ask}
use Rattle.gw_rules.specs.Fields.{value_of}
use Rattle.gw_rules.specs.Range.{admits, holds}
use Rattle.gw_rules.specs.Rule.{Matches, matches, ranges_of}
use Rattle.gw_rules.specs.RuleList.{HasNumber, IsFirst, allows, first}
use Rattle.gw_rules.specs.declared.range.Range.{Range}
use Rattle.gw_rules.specs.declared.rule.Rule.{Rule}
use Rattle.gw_rules.proofs.EachField.{each_field_at, each_field_from}
use Rattle.gw_rules.proofs.First.{allows_iff, first_iff, none_iff}
use Rattle.gw_rules.proofs.Matching.{matches_iff}
use Rattle.gw_ask_sets.specs.shapes.Meeting.{overlaps}
use Rattle.gw_policy_review.specs.permissions.Allowances.{meet, stops}
use Rattle.gw_policy_review.specs.permissions.Laws.{OnlyExceptionsDeny}
use Rattle.gw_policy_review.specs.permissions.Passing.{finding_at}
use Rattle.gw_policy_review.specs.warnings.Oversights.{share}
use Rattle.gw_policy_review.specs.declared.lint.finding.Finding.{Finding}
use Rattle.gw_policy_review.specs.declared.lint.finding.Finding.TheVariants as finding
use Rattle.gw_policy_review.proofs.permissions_lemmas.Letting.{MayDecide, deciding_found, finds_at}

-- two ranges that hold one number overlap
overlapping : (number : ℕ) (one other : Range) → holds number one ≡ true → holds number other ≡ true → overlaps one other ≡ true
overlapping number one other a b =
    let first = and_parts (nat_le one.low number) (nat_le number one.high) a in
    let second = and_parts (nat_le other.low number) (nat_le number other.high) b in
    let from = leb-true one.low number first.0 in
    let to = leb-true number one.high first.1 in
    let low = leb-true other.low number second.0 in
    let high = leb-true number other.high second.1 in
    and_from (nat_le one.low other.high) (nat_le other.low one.high) (le-leb one.low other.high (omega arith)) (le-leb other.low one.high (omega arith))

-- so do two lists, one of whose ranges each holds it
any_overlapping : (number : ℕ) (one other : List Range) → list_any (holds number) one ≡ true → list_any (holds number) other ≡ true
    → list_any (λ range. list_any (overlaps range) other) one ≡ true
any_overlapping number one other a b =
    let first = Any-from_list_any (holds number) one a in
    let second = Any-from_list_any (holds number) other b in
    let within : list_any (overlaps first.1) other ≡ true =
    list_any-from_Any (overlaps first.1) other (second.0, second.1, second.2, second.3, overlapping number first.1 second.1 first.4 second.4) in
    list_any-from_Any (λ range. list_any (overlaps range) other) one (first.0, first.1, first.2, first.3, within)

-- ranges that admit one value have it in common, unless there are none
sharing : (one other : List Range) (value : Option ℕ) → admits one value ≡ true → admits other value ≡ true → share one other ≡ true
sharing one other value a b = by (length one == 0) (length other == 0) value refl refl a b
  where
    by : (x y : Bool) (v : Option ℕ) → (length one == 0) ≡ x → (length other == 0) ≡ y
        → (x || option_map_or (λ n. list_any (holds n) one) v false) ≡ true
        → (y || option_map_or (λ n. list_any (holds n) other) v false) ≡ true
        → (x || (y || list_any (λ range. list_any (overlaps range) other) one)) ≡ true
    by true y v e f a b = refl
    by false true v e f a b = refl
    by false false None e f a b = absurd (false≢true a)
    by false false (Some number) e f a b = any_overlapping number one other a b

-- two rules that match one ask meet
meeting : (rule other : Rule) (ask : Ask) → Matches rule ask → Matches other ask → meet rule other ≡ true
unfolding matches
meeting rule other ask a b =
    let first = each_field_at (λ field. admits (ranges_of field rule) (value_of field ask)) ((matches_iff rule ask).1 a) in
    let second = each_field_at (λ field. admits (ranges_of field other) (value_of field ask)) ((matches_iff other ask).1 b) in
    each_field_from (λ field. share (ranges_of field rule) (ranges_of field other))
    (λ field. sharing (ranges_of field rule) (ranges_of field other) (value_of field ask) (first field) (second field))

stopping : (rule : Rule) (found : Finding) → rule.allow ≡ false → MayDecide found → stops rule found ≡ true
stopping rule finding.MatchesNothing denies may = absurd may
stopping rule (finding.TakenBy by) denies may = absurd may
stopping rule finding.TakenTogether denies may = absurd may
stopping rule (finding.Decides ask) denies may = ap not denies
stopping rule finding.Unknown denies may = ap not denies

-- a rule that matches an ask has a first one that does
pub some_first : (rules : List Rule) (ask : Ask) (number : ℕ) (rule : Rule) → HasNumber rules number rule → Matches rule ask
    → (lower : ℕ) × (first rules ask ≡ Some lower)
some_first rules ask number rule has matching = by (first rules ask) refl
  where
    by : (found : Option ℕ) → first rules ask ≡ found → (lower : ℕ) × (found ≡ Some lower)
    by (Some lower) e = (lower, refl)
    by None e =
        let place = number - 1 in
        let same : get_or rules place rule ≡ rule = get_or_from_slice_get rules place rule rule has.there in
        absurd (subst (λ (r : Rule). ¬ Matches r ask) same ((none_iff rules ask).0 e place rule (slice_get_within rules place rule has.there)) matching)

-- the first rule to match an ask that is denied denies
denying : (rules : List Rule) (ask : Ask) (lower : ℕ) (deciding : IsFirst rules ask lower) → allows rules ask ≡ false → deciding.rule.allow ≡ false
denying rules ask lower deciding denied = by deciding.rule.allow refl
  where
    by : (b : Bool) → deciding.rule.allow ≡ b → b ≡ false
    by false e = refl
    by true e = absurd (both_ways (allows rules ask) denied ((allows_iff rules ask).1 (lower, deciding, e)))

-- and comes before each that allows it
before : (rules : List Rule) (ask : Ask) (lower number : ℕ) (rule : Rule) (deciding : IsFirst rules ask lower) → deciding.rule.allow ≡ false
    → HasNumber rules number rule → rule.allow ≡ true → Matches rule ask → lower < number
before rules ask lower number rule deciding denies has allow matching =
    elim (cases_order lower number) [
      | inl same ↦
          let there : Some deciding.rule ≡ Some rule = sym deciding.numbered.there ∙ (ap (λ (n : ℕ). slice_get rules (n - 1)) same ∙ has.there) in
          let one : deciding.rule ≡ rule = cc in
          absurd (both_ways rule.allow (sym (ap (λ (r : Rule). r.allow) one) ∙ denies) allow)
      | inr apart ↦ elim apart [
        | inl below ↦ below
        | inr above ↦ absurd (deciding.least number rule above has matching)
      ]
    ]

pub only_exceptions_deny : OnlyExceptionsDeny
only_exceptions_deny shapes rules left rest findings number rule ask are has allow lies matching denied =
    let by = some_first rules ask number rule has matching in
    let lower = by.0 in
    let deciding = (first_iff rules ask lower).0 by.1 in
    let denies = denying rules ask lower deciding denied in
    let below = before rules ask lower number rule deciding denies has allow matching in
    let tells = finds_at shapes rules left rest findings lower deciding.rule are deciding.numbered in
    let may = deciding_found shapes rules ask lower (finding_at findings lower) deciding lies by.1 tells in (
      lower,
      deciding.rule,
      below,
      deciding.numbered,
      by.1,
      and_from (stops deciding.rule (finding_at findings lower)) (meet rule deciding.rule)
          (stopping deciding.rule (finding_at findings lower) denies may) (meeting rule deciding.rule ask matching deciding.matching),
    )
