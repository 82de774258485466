-- The first of the rules before one that is seen to take all of it.
use Rattle.std.proofs.Common.{◌≡◌, ◌∙◌, ℕ, ◌+◌, ◌-◌, ◌<◌, Bool, true, false, not, Some, List, length, take, get_or, sym, ap, arith, refl}
use Rattle.std.specs.List.{slice_get}
use Rattle.std.proofs.lemmas.List.{get_or-take, length-take-le}
use Rattle.std.proofs.lemmas.List.Quantifiers.{position-Some}
use Rattle.std.proofs.lemmas.Option.{slice_get-get_or, slice_get_within}
use Rattle.gw_rules.specs.RuleList.{HasNumber}
use Rattle.gw_rules.specs.declared.rule.Rule.{Rule}
use Rattle.gw_ask_sets.specs.shapes.Cover.{takes_all}
use Rattle.gw_policy_review.specs.lint.Finding.{IsTakenBy, taker}
use Rattle.gw_ask_sets.specs.shapes.Shape.{Shape}
use Rattle.gw_ask_sets.proofs.shapes_lemmas.Covering.{all_taken}

pub denied : (met nothing : Bool) → nothing ≡ not met → nothing ≡ false → met ≡ true
denied true nothing e f = refl
denied false nothing e f = absurd cc

minus_one : (n : ℕ) → n + 1 - 1 ≡ n
minus_one n = omega arith

pub taken_by : (shapes : List Shape) (rules : List Rule) (number place : ℕ) (later : Rule) → HasNumber rules number later
    → taker shapes (take (number - 1) rules) later ≡ Some place → IsTakenBy shapes rules number (place + 1) later
taken_by shapes rules number place later has found =
    let counted = has.counted in
    let test : Rule → Bool = λ rule. takes_all shapes rule later in
    let is = position-Some test (take (number - 1) rules) place later found in
    let within : number - 1 < length rules = slice_get_within rules (number - 1) later has.there in
    let front : length (take (number - 1) rules) ≡ number - 1 = length-take-le (number - 1) rules (omega arith) in
    let below : place < number - 1 = grind (is.0, front, arith) in
    let earlier : Rule = get_or rules place later in
    let same : get_or (take (number - 1) rules) place later ≡ earlier = get_or-take (number - 1) rules place later below in
    record {
      earlier = earlier;
      numbered = record {
        counted = omega arith;
        there = ap (slice_get rules) (minus_one place) ∙ slice_get-get_or rules place later (omega arith);
      };
      before = omega arith;
      takes = all_taken shapes earlier later (sym (ap test same) ∙ is.1);
      least = found ∙ ap Some (sym (minus_one place));
    }
