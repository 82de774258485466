-- A configuration to begin with: what rules allow that are safe.
use Rattle.std.proofs.Common.{◌≡◌, ◌∙◌, ◌⊎◌, inl, inr, sym, ap, refl, ℕ, suc, zero, ◌-◌, ◌≤◌, Bool, true, false, ◌&&◌, ◌||◌, ◌==◌, List, [], ◌∷◌, Option, Some, None, length, nat_eq, nat_le, arith}
use Rattle.std.specs.Prelude.{if◌then◌else◌, not, slice_get}
use Rattle.std.specs.List.{list_all, list_any}
use Rattle.std.specs.Option.{option_map_or}
use Rattle.std.proofs.lemmas.Bool.{and_parts, eqb-true, leb-true, or_cases}
use Rattle.gw_configuration.specs.Assertion.{is_for, is_of_service, is_passed}
use Rattle.gw_configuration.specs.declared.assertion.TheConstants.{WRITING_SERVICES}
use Rattle.gw_ask_sets.specs.regions.Deciding.{decided}
use Rattle.gw_ask_sets.specs.assertions.Judging.{AreJudged}
use Rattle.gw_ask_sets.specs.declared.assertions.judging.Judged.{Judged}
use Rattle.gw_ask_sets.specs.declared.assertions.judging.TheConstants.{JUDGING_STEPS}
use Rattle.gw_configuration.specs.Configuration.{Configuration}
use Rattle.gw_rules.specs.declared.format.Format.TheVariants.{Three}
use Rattle.gw_ask_sets.proofs.regions_lemmas.AllowsLaw.{decided_allows}
use Rattle.gw_rules.proofs.EachField.{each_field_at}
use Rattle.gw_rules.proofs.Operations.{operation_places}
use Rattle.gw_rules.specs.Ask.{Ask}
use Rattle.gw_rules.specs.Fields.{value_of}
use Rattle.gw_rules.specs.Operation.{operation_number}
use Rattle.gw_rules.specs.Range.{admits, holds}
use Rattle.gw_rules.specs.Rule.{matches, ranges_of}
use Rattle.gw_rules.specs.RuleList.{allows}
use Rattle.gw_rules.specs.declared.field.FieldName.{FieldName}
use Rattle.gw_rules.specs.declared.field.FieldName.TheVariants as fields
use Rattle.gw_rules.specs.declared.operation.Operation.{Operation}
use Rattle.gw_rules.specs.declared.operation.Operation.TheVariants as operation
use Rattle.gw_rules.specs.declared.operation.TheConstants.Operation.{ALL}
use Rattle.gw_rules.specs.declared.range.Range.{Range}
use Rattle.gw_rules.specs.declared.rule.Rule.{Rule}
use Rattle.gw_policy_drafts.specs.beginning.Begun.{IsBegun, do_hold, is_closed, is_operator, is_operators}
use Rattle.gw_policy_drafts.specs.beginning.Ports.{ports_of, routes_of}
use Rattle.gw_policy_drafts.specs.beginning.Site.{Site}
use Rattle.gw_policy_drafts.specs.internal.Safe.{are_safe, is_one, is_safe, is_safe_for, may_allow}
use Rattle.gw_policy_drafts.specs.declared.beginning.part.SitePart.{SitePart}

apart : true ≡ false → ⊥
apart e = absurd cc

both_ways : (b : Bool) → not b ≡ true → b ≡ true → ⊥
both_ways true e t = apart (sym e)
both_ways false e t = apart (sym t)

-- ---- the rule that allows an ask

record Opens (test : Rule → Bool) (ask : Ask) : Type 0 where
  rule : Rule
  safe : test rule ≡ true
  allow : rule.allow ≡ true
  matching : matches rule ask ≡ true

opener_of : (test : Rule → Bool) (rules : List Rule) (ask : Ask) → list_all test rules ≡ true → decided rules false ask ≡ true → Opens test ask
opener_of test [] ask all e = absurd cc
opener_of test (rule ∷ rules) ask all e =
    let parts = and_parts (test rule) (list_all test rules) all in
    by parts.0 (opener_of test rules ask parts.1) (matches rule ask) refl
  where
    by : test rule ≡ true → (decided rules false ask ≡ true → Opens test ask) → (b : Bool) → matches rule ask ≡ b → Opens test ask
    by safe later true m = record {
      rule = rule;
      safe = safe;
      allow = sym (ap (λ (b : Bool). if b then rule.allow else decided rules false ask) m) ∙ e;
      matching = m;
    }
    by safe later false m = later (sym (ap (λ (b : Bool). if b then rule.allow else decided rules false ask) m) ∙ e)

opener : (test : Rule → Bool) (rules : List Rule) (ask : Ask) → list_all test rules ≡ true → allows rules ask ≡ true → Opens test ask
opener test rules ask all e = opener_of test rules ask all (decided_allows rules ask ∙ e)

-- it admits each field of the ask
admitting : (rule : Rule) (ask : Ask) (field : FieldName) → matches rule ask ≡ true → admits (ranges_of field rule) (value_of field ask) ≡ true
unfolding matches
admitting rule ask field m = each_field_at (λ f. admits (ranges_of f rule) (value_of f ask)) m field

-- ---- what a safe rule allows

all_at : {A : Type 0} (test : A → Bool) (xs : List A) (place : ℕ) (x : A) → list_all test xs ≡ true → slice_get xs place ≡ Some x → test x ≡ true
all_at test [] place x all e = absurd cc
all_at test (y ∷ ys) zero x all e =
    let is : y ≡ x = cc in
    ap test (sym is) ∙ (and_parts (test y) (list_all test ys) all).0
all_at test (y ∷ ys) (suc place) x all e = all_at test ys place x (and_parts (test y) (list_all test ys) all).1 e

-- an ask for an operation has its number
number_in : (o : Operation) (number : Option ℕ) → option_map_or (λ n. n == operation_number o) number false ≡ true → number ≡ Some (operation_number o)
number_in o None e = absurd cc
number_in o (Some n) e = ap (λ (m : ℕ). Some m) (eqb-true n (operation_number o) e)

-- what is no more than allowed, of what is admitted
second : (a b : Bool) → (not a || b) ≡ true → a ≡ true → b ≡ true
second true b e t = e
second false b e t = absurd cc

may_allow_of : (operators : List SitePart) (ask : Ask) (o : Operation) → is_for o ask ≡ true → (opens : Opens (is_safe operators) ask)
    → may_allow operators opens.rule o ≡ true
may_allow_of operators ask o asked opens =
    let rule = opens.rule in
    let each : list_all (is_safe_for operators rule) ALL ≡ true =
    second rule.allow (list_all (is_safe_for operators rule) ALL) opens.safe opens.allow in
    let one : is_safe_for operators rule o ≡ true = all_at (is_safe_for operators rule) ALL (operation_number o - 1) o each (operation_places o) in
    let has : ask.operation ≡ Some (operation_number o) = number_in o ask.operation asked in
    let admitted : admits rule.ranges.operation (Some (operation_number o)) ≡ true =
    ap (λ (n : Option ℕ). admits rule.ranges.operation n) (sym has) ∙ admitting rule ask fields.Operation opens.matching in
    second (admits rule.ranges.operation (Some (operation_number o))) (may_allow operators rule o) one admitted

-- ---- writes

-- a sender that ranges of one operator each hold is an operator's
held_by : (operators : List SitePart) (ranges : List Range) (key : ℕ) → list_all (is_one operators) ranges ≡ true → list_any (holds key) ranges ≡ true
    → is_operator operators key ≡ true
held_by operators [] key all any = absurd cc
held_by operators (range ∷ ranges) key all any =
    let parts = and_parts (is_one operators range) (list_all (is_one operators) ranges) all in
    let ends = and_parts (range.low == range.high) (is_operator operators range.low) parts.0 in
    by (eqb-true range.low range.high ends.0) ends.1 (held_by operators ranges key parts.1)
    (or_cases (holds key range) (list_any (holds key) ranges) any)
  where
    by : range.low ≡ range.high → is_operator operators range.low ≡ true → (list_any (holds key) ranges ≡ true → is_operator operators key ≡ true)
        → (holds key range ≡ true) ⊎ (list_any (holds key) ranges ≡ true) → is_operator operators key ≡ true
    by one operator later (inl held) =
        let both = and_parts (nat_le range.low key) (nat_le key range.high) held in
        let low : range.low ≤ key = leb-true range.low key both.0 in
        let high : key ≤ range.high = leb-true key range.high both.1 in
        let is : key ≡ range.low = omega (arith, low, high, one) in
        ap (is_operator operators) is ∙ operator
    by one operator later (inr any) = later any

-- a list of one or more isn't empty
of_some : (range : Range) (ranges : List Range) (b : Bool) → ((length (range ∷ ranges) == 0) || b) ≡ true → b ≡ true
of_some range ranges b e = by (or_cases (length (range ∷ ranges) == 0) b e)
  where
    by : ((length (range ∷ ranges) == 0) ≡ true) ⊎ (b ≡ true) → b ≡ true
    by (inl none) =
        let is : suc (length ranges) ≡ 0 = eqb-true (length (range ∷ ranges)) 0 none in
        absurd (omega (arith, is))
    by (inr holds_so) = holds_so

named_by : (operators : List SitePart) (ranges : List Range) (sender : Option ℕ) → (not (length ranges == 0) && list_all (is_one operators) ranges) ≡ true
    → admits ranges sender ≡ true → option_map_or (is_operator operators) sender false ≡ true
named_by operators [] sender named admitted = absurd (apart (sym named))
named_by operators (range ∷ ranges) None named admitted = absurd (apart (sym (of_some range ranges false admitted)))
named_by operators (range ∷ ranges) (Some key) named admitted =
    held_by operators (range ∷ ranges) key
    (and_parts (not (length (range ∷ ranges) == 0)) (list_all (is_one operators) (range ∷ ranges)) named).1
    (of_some range ranges (list_any (holds key) (range ∷ ranges)) admitted)

pub writes_of : (operators : List SitePart) (rules : List Rule) → are_safe operators rules ≡ true → (ask : Ask) → is_for operation.Write ask ≡ true
    → allows rules ask ≡ true → is_operators operators ask ≡ true
writes_of operators rules safe ask asked allowed =
    let opens = opener (is_safe operators) rules ask safe allowed in
    named_by operators opens.rule.ranges.sender ask.sender (may_allow_of operators ask operation.Write asked opens)
    (admitting opens.rule ask fields.Sender opens.matching)

-- ---- what is denied

-- what isn't allowed if it can't be
denied_by : (rules : List Rule) (ask : Ask) → (allows rules ask ≡ true → ⊥) → allows rules ask ≡ false
denied_by rules ask never = by (allows rules ask) refl
  where
    by : (b : Bool) → allows rules ask ≡ b → b ≡ false
    by false e = refl
    by true e = absurd (never e)

spared_one : (services : List ℕ) (ranges : List Range) (number : ℕ) → list_all (λ n. not (admits ranges (Some n))) services ≡ true
    → list_any (nat_eq number) services ≡ true → admits ranges (Some number) ≡ true → ⊥
spared_one [] ranges number all any admitted = apart (sym any)
spared_one (n ∷ more) ranges number all any admitted =
    let parts = and_parts (not (admits ranges (Some n))) (list_all (λ m. not (admits ranges (Some m))) more) all in
    by parts.0 (λ later. spared_one more ranges number parts.1 later admitted) (or_cases (nat_eq number n) (list_any (nat_eq number) more) any)
  where
    by : not (admits ranges (Some n)) ≡ true → (list_any (nat_eq number) more ≡ true → ⊥)
        → (nat_eq number n ≡ true) ⊎ (list_any (nat_eq number) more ≡ true) → ⊥
    by not_one later (inl same) =
        let is : n ≡ number = sym (eqb-true number n same) in
        both_ways (admits ranges (Some n)) not_one (ap (λ (m : ℕ). admits ranges (Some m)) is ∙ admitted)
    by not_one later (inr any) = later any

-- a service that changes a device isn't among those of a rule that spares it
spared : (services : List ℕ) (ranges : List Range) (service : Option ℕ) → list_all (λ n. not (admits ranges (Some n))) services ≡ true
    → option_map_or (λ number. list_any (nat_eq number) services) service false ≡ true → admits ranges service ≡ true → ⊥
spared services ranges None all any admitted = apart (sym any)
spared services ranges (Some number) all any admitted = spared_one services ranges number all any admitted

pub changes_of : (operators : List SitePart) (rules : List Rule) → are_safe operators rules ≡ true → (ask : Ask) → is_passed ask ≡ true
    → is_of_service WRITING_SERVICES ask ≡ true → allows rules ask ≡ false
changes_of operators rules safe ask passed changing = denied_by rules ask (λ allowed. by allowed (or_cases (is_for operation.Route ask) (is_for operation.Cast ask) passed))
  where
    by : allows rules ask ≡ true → (is_for operation.Route ask ≡ true) ⊎ (is_for operation.Cast ask ≡ true) → ⊥
    by allowed (inl asked) =
        let opens = opener (is_safe operators) rules ask safe allowed in
        spared WRITING_SERVICES opens.rule.ranges.service ask.service (may_allow_of operators ask operation.Route asked opens) changing
        (admitting opens.rule ask fields.Service opens.matching)
    by allowed (inr asked) =
        let opens = opener (is_safe operators) rules ask safe allowed in
        spared WRITING_SERVICES opens.rule.ranges.service ask.service (may_allow_of operators ask operation.Cast asked opens) changing
        (admitting opens.rule ask fields.Service opens.matching)

-- a rule may not allow what is closed
closed_to : (operators : List SitePart) (rule : Rule) (o : Operation) → is_closed o ≡ true → may_allow operators rule o ≡ false
closed_to operators rule operation.Cast e = absurd cc
closed_to operators rule operation.Route e = absurd cc
closed_to operators rule operation.Register e = refl
closed_to operators rule operation.Delete e = refl
closed_to operators rule operation.ReadTable e = refl
closed_to operators rule operation.WriteTable e = refl
closed_to operators rule operation.Learn e = refl
closed_to operators rule operation.Network e = absurd cc
closed_to operators rule operation.Read e = absurd cc
closed_to operators rule operation.Write e = absurd cc
closed_to operators rule operation.List e = absurd cc
closed_to operators rule operation.Enter e = refl
closed_to operators rule operation.Claim e = refl

pub closed_of : (operators : List SitePart) (rules : List Rule) → are_safe operators rules ≡ true → (o : Operation) (ask : Ask) → is_closed o ≡ true
    → is_for o ask ≡ true → allows rules ask ≡ false
closed_of operators rules safe o ask closed asked = denied_by rules ask (λ allowed.
    let opens = opener (is_safe operators) rules ask safe allowed in
    let may : may_allow operators opens.rule o ≡ true = may_allow_of operators ask o asked opens in
    let may_not : may_allow operators opens.rule o ≡ false = closed_to operators opens.rule o closed in
    apart (sym may ∙ may_not))

-- ---- the whole

pub begins : (s : Site) (c : Configuration) (found : List Judged) → c.format ≡ Three → c.announce ≡ false → c.ports ≡ ports_of s → c.routes ≡ routes_of s
    → are_safe s.operators c.rules ≡ true → AreJudged c JUDGING_STEPS found → do_hold found ≡ true → IsBegun s c
begins s c found format announce ports routes safe judged hold = record {
  format = format;
  announce = announce;
  ports = ports;
  routes = routes;
  writes = writes_of s.operators c.rules safe;
  changes = changes_of s.operators c.rules safe;
  closed = closed_of s.operators c.rules safe;
  found = found;
  judged = judged;
  hold = hold;
}
