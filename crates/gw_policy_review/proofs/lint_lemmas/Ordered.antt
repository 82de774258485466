-- What a search over rules with their ranges in order says of the rules.
use Rattle.std.proofs.Common.{◌≡◌, ◌∙◌, ℕ, ◌-◌, ◌≤◌, List, Option, Some, None, ap, arith, get_or, inl, inr, refl, subst, sym, true}
use Rattle.std.specs.Option.{option_map_or}
use Rattle.std.proofs.lemmas.Option.{get_or_from_slice_get}
use Rattle.gw_rules.specs.Ask.{Ask}
use Rattle.gw_rules.specs.RuleList.{HasNumber, first}
use Rattle.gw_rules.specs.declared.rule.Rule.{Rule}
use Rattle.gw_rules.proofs.First.{first_iff}
use Rattle.gw_ask_sets.specs.regions.Comparing.{decider}
use Rattle.gw_ask_sets.specs.regions.Tidying.{all_tidied}
use Rattle.gw_ask_sets.proofs.regions_lemmas.TidyLaw.{tidied_decider}
use Rattle.gw_ask_sets.specs.shapes.Cover.{is_met}
use Rattle.gw_ask_sets.specs.shapes.Search.{IsFound, IsMade, IsSought}
use Rattle.gw_ask_sets.specs.shapes.Shape.{Shape}
use Rattle.gw_ask_sets.specs.declared.shapes.search.Outcome.{Outcome}
use Rattle.gw_ask_sets.specs.declared.shapes.search.Outcome.TheVariants as outcome
use Rattle.gw_policy_review.specs.lint.Finding.{Finds, IsCounted, IsFinding, IsSearched, IsTakenByNone, finding_by}
use Rattle.gw_policy_review.specs.declared.lint.finding.Finding.{Finding}

-- the number of the rule that decides, and the number of the first that matches
decider_of : (rules : List Rule) (number : ℕ) (ask : Ask) → first rules ask ≡ Some number → decider rules ask ≡ number
decider_of rules number ask is = ap (λ (o : Option ℕ). option_map_or (λ n. n) o 0) is

first_of : (rules : List Rule) (number : ℕ) (ask : Ask) → 1 ≤ number → decider rules ask ≡ number → first rules ask ≡ Some number
first_of rules number ask one is = by (first rules ask) refl
  where
    by : (o : Option ℕ) → first rules ask ≡ o → first rules ask ≡ Some number
    by None e =
        let zero : decider rules ask ≡ 0 = ap (λ (o : Option ℕ). option_map_or (λ n. n) o 0) e in
        absurd (omega (arith, zero, is, one))
    by (Some n) e =
        let same : n ≡ number = sym (decider_of rules n ask e) ∙ is in
        e ∙ ap Some same

numbered_first : (rules : List Rule) (number : ℕ) (ask : Ask) → first rules ask ≡ Some number → 1 ≤ number
numbered_first rules number ask is = ((first_iff rules ask number).0 is).numbered.counted

pub first_in_order : (rules : List Rule) (number : ℕ) (ask : Ask) → first rules ask ≡ Some number → first (all_tidied rules) ask ≡ Some number
first_in_order rules number ask is =
    first_of (all_tidied rules) number ask (numbered_first rules number ask is) (tidied_decider rules ask ∙ decider_of rules number ask is)

pub first_as_given : (rules : List Rule) (number : ℕ) (ask : Ask) → first (all_tidied rules) ask ≡ Some number → first rules ask ≡ Some number
first_as_given rules number ask is =
    first_of rules number ask (numbered_first (all_tidied rules) number ask is) (sym (tidied_decider rules ask) ∙ decider_of (all_tidied rules) number ask is)

-- ---- findings

in_order : (shapes : List Shape) (rules : List Rule) (number given count : ℕ) (rule : Rule) (found : Outcome)
    → IsFound shapes (all_tidied rules) number found → IsSought shapes (all_tidied rules) number given count found → is_met shapes rule ≡ true
    → IsTakenByNone shapes rules number rule → Finds shapes rules number rule (finding_by found)
in_order shapes rules number given count rule outcome.Never is sought met none =
    (met, none, λ ask lies first. is ask lies (first_in_order rules number ask first))
in_order shapes rules number given count rule (outcome.Decides ask) is sought met none = (met, none, (is.0, first_as_given rules number ask is.1))
in_order shapes rules number given count rule outcome.Unknown is (inl made) met none =
    (met, none, (given, subst (λ (n : ℕ). IsMade shapes (all_tidied rules) number given n outcome.Unknown) made.ended.0 made))
in_order shapes rules number given count rule outcome.Unknown is (inr spared) met none =
    let never : outcome.Unknown ≡ outcome.Never = spared.never in
    absurd cc

counted_by : (shapes : List Shape) (rules : List Rule) (number given count : ℕ) (found : Outcome) → IsSought shapes (all_tidied rules) number given count found
    → IsCounted shapes rules number given count (finding_by found)
counted_by shapes rules number given count outcome.Never sought = sought
counted_by shapes rules number given count (outcome.Decides ask) sought = sought
counted_by shapes rules number given count outcome.Unknown sought = sought

-- what a search comes to, of a rule that no rule before it is seen to take
pub searched_found : (shapes : List Shape) (rules tidy : List Rule) (number given count : ℕ) (found : Finding) → tidy ≡ all_tidied rules
    → IsSearched shapes tidy number given count found
    → ((rule : Rule) → HasNumber rules number rule → (is_met shapes rule ≡ true) × IsTakenByNone shapes rules number rule)
    → IsFinding shapes rules number given count found
searched_found shapes rules tidy number given count found same is met =
    let searched = subst (λ (rs : List Rule). IsSearched shapes rs number given count found) same is in
    record {
      each = λ rule has.
          let so = met rule has in
          subst (λ (f : Finding). Finds shapes rules number rule f) (sym searched.shown)
          (in_order shapes rules number given count rule searched.outcome searched.right searched.sought so.0 so.1);
      counted = subst (λ (f : Finding). IsCounted shapes rules number given count f) (sym searched.shown)
          (counted_by shapes rules number given count searched.outcome searched.sought);
    }

-- the rule of a number is that at its place
pub rule_there : (rules : List Rule) (number count : ℕ) (rule one : Rule) → count ≡ number → HasNumber rules number rule → one ≡ get_or rules (count - 1) one
    → one ≡ rule
rule_there rules number count rule one e has is =
    is ∙ ap (λ (n : ℕ). get_or rules (n - 1) one) e ∙ get_or_from_slice_get rules (number - 1) rule one has.there
