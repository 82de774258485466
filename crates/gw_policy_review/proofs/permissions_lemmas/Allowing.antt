-- An ask of a shape is allowed only by a rule that may allow some of the shape and to which the asks of the shape come.
use Rattle.std.proofs.Common.{◌≡◌, ◌∙◌, inl, inr, ℕ, ◌+◌, ◌-◌, ◌<◌, ◌≤◌, zero, suc, Bool, true, false, not, List, [], ◌∷◌, Option, Some, None, ap, arith, get_or, length, refl, slice_get, take}
use Rattle.std.specs.List.{list_any, position}
use Rattle.std.specs.Option.{option_map_or}
use Rattle.std.proofs.lemmas.Bool.{and_from, and_parts, both_ways, cases_order, or_left, or_right}
use Rattle.std.proofs.lemmas.List.Quantifiers.{position-Some}
use Rattle.std.proofs.lemmas.Option.{slice_get-get_or, slice_get_within}
use Rattle.gw_rules.specs.Ask.{Ask}
use Rattle.gw_rules.specs.Fields.{value_of}
use Rattle.gw_rules.specs.Rule.{Matches, ranges_of}
use Rattle.gw_rules.specs.RuleList.{HasNumber, IsFirst, allows}
use Rattle.gw_rules.specs.declared.field.FieldName.{FieldName}
use Rattle.gw_rules.specs.declared.rule.Rule.{Rule}
use Rattle.gw_rules.proofs.EachField.{each_field_at}
use Rattle.gw_rules.proofs.First.{allows_iff, first_iff}
use Rattle.gw_ask_sets.specs.shapes.Cover.{takes_side}
use Rattle.gw_ask_sets.specs.shapes.Meeting.{meets}
use Rattle.gw_ask_sets.specs.shapes.Shape.{LiesIn, Shape}
use Rattle.gw_ask_sets.proofs.shapes_lemmas.Covering.{negated, sided}
use Rattle.gw_ask_sets.proofs.shapes_lemmas.Narrowing.{met}
use Rattle.gw_policy_review.specs.permissions.Laws.{EachAskIsAllowed, IsListed, NoAskIsAllowed, OnlyListedAllow}
use Rattle.gw_policy_review.specs.permissions.Passing.{matches_all, may_allow, may_pass, reached}

-- a test that holds of an item holds of one of the items up to it
any_taken : {A : Type 0} (test : A → Bool) (items : List A) (place count : ℕ) (item : A) → slice_get items place ≡ Some item → place < count
    → test item ≡ true → list_any test (take count items) ≡ true
any_taken test [] place count item there inside holds = absurd cc
any_taken test (x ∷ xs) place zero item there inside holds = absurd (omega (arith, inside))
any_taken test (x ∷ xs) zero (suc count) item there inside holds =
    let same : x ≡ item = cc in
    or_left (test x) (list_any test (take count xs)) (ap test same ∙ holds)
any_taken test (x ∷ xs) (suc place) (suc count) item there inside holds =
    or_right (test x) (list_any test (take count xs)) (any_taken test xs place count item there (omega (arith, inside)) holds)

-- a rule of which each range holds all of a shape matches each ask of it
pub matching_all : (shape : Shape) (rule : Rule) (ask : Ask) → matches_all shape rule ≡ true → LiesIn shape ask → Matches rule ask
matching_all shape rule ask t lies field =
    let test : FieldName → Bool = λ f. takes_side (value_of f shape) (ranges_of f rule) [] in
    sided (value_of field shape) (ranges_of field rule) [] (value_of field ask) (each_field_at test t field) (lies field) (λ named. absurd (omega (arith, named)))

-- a rule that is the first to match an ask of the shape is one of those that its asks come to
near : (shape : Shape) (rules : List Rule) (ask : Ask) (number : ℕ) (found : Option ℕ) → LiesIn shape ask → IsFirst rules ask number
    → position (matches_all shape) rules ≡ found → number ≤ option_map_or (λ place. place + 1) found (length rules)
near shape rules ask number None lies deciding is =
    let counted = deciding.numbered.counted in
    let within : number - 1 < length rules = slice_get_within rules (number - 1) deciding.rule deciding.numbered.there in
    omega (arith, counted, within)
near shape rules ask number (Some place) lies deciding is =
    let at = position-Some (matches_all shape) rules place deciding.rule is in
    let other : Rule = get_or rules place deciding.rule in
    let back : place + 1 - 1 ≡ place = omega arith in
    let has : HasNumber rules (place + 1) other = record { counted = omega arith; there = ap (slice_get rules) back ∙ slice_get-get_or rules place deciding.rule at.0 } in
    elim (cases_order number (place + 1)) [
      | inl same ↦ omega (arith, same)
      | inr apart ↦ elim apart [
        | inl below ↦ omega (arith, below)
        | inr above ↦ absurd (deciding.least (place + 1) other above has (matching_all shape other ask at.1 lies))
      ]
    ]

listed : (shape : Shape) (rules : List Rule) (ask : Ask) (number : ℕ) (deciding : IsFirst rules ask number) → LiesIn shape ask
    → deciding.rule.allow ≡ true → IsListed shape rules number
listed shape rules ask number deciding lies allow = record {
  rule = deciding.rule;
  numbered = deciding.numbered;
  near = near shape rules ask number (position (matches_all shape) rules) lies deciding refl;
  allows = and_from deciding.rule.allow (meets shape deciding.rule) allow (met shape deciding.rule ask lies deciding.matching);
}

pub only_listed_allow : OnlyListedAllow
only_listed_allow shape rules ask lies t =
    let by = (allows_iff rules ask).0 t in
    (by.0, (first_iff rules ask by.0).1 by.1, listed shape rules ask by.0 by.1 lies by.2)

pub no_ask_is_allowed : NoAskIsAllowed
no_ask_is_allowed shape rules ask none lies = by (allows rules ask) refl
  where
    by : (b : Bool) → allows rules ask ≡ b → b ≡ false
    by false e = refl
    by true e =
        let found = only_listed_allow shape rules ask lies e in
        let number = found.0 in
        let is = found.2 in
        let counted = is.numbered.counted in
        let close = is.near in
        absurd (both_ways (may_pass shape rules) none
        (any_taken (may_allow shape) rules (number - 1) (reached shape rules) is.rule is.numbered.there (omega (arith, counted, close)) is.allows))

pub each_ask_is_allowed : EachAskIsAllowed
each_ask_is_allowed shape rules number rule ask has may all lies =
    let parts = and_parts (matches_all shape rule) (not (list_any (meets shape) (take (number - 1) rules))) all in
    let none = negated (list_any (meets shape) (take (number - 1) rules)) parts.1 in
    let allow = (and_parts rule.allow (meets shape rule) may).0 in
    let deciding : IsFirst rules ask number = record {
      rule = rule;
      numbered = has;
      matching = matching_all shape rule ask parts.0 lies;
      least = λ lower other below there matching.
          let counted = there.counted in
          both_ways (list_any (meets shape) (take (number - 1) rules)) none
          (any_taken (meets shape) rules (lower - 1) (number - 1) other there.there (omega (arith, below, counted)) (met shape other ask lies matching));
    } in
    ((first_iff rules ask number).1 deciding, (allows_iff rules ask).1 (number, deciding, allow))
