use Rattle.std.proofs.Common.{◌≡◌, ◌∙◌, ◌-◌, List, None, Option, Some, ap, not, refl, sym, take, true, ℕ}
use Rattle.gw_rules.specs.declared.rule.Rule.{Rule}
use Rattle.gw_ask_sets.specs.shapes.Cover.{is_met}
use Rattle.gw_ask_sets.specs.shapes.Shape.{Shape}
use Rattle.gw_policy_review.specs.lint.Finding.{taker}
use Rattle.gw_policy_review.proofs.lint_lemmas.Ordered.{rule_there, searched_found}
use Rattle.gw_policy_review.proofs.lint_lemmas.Taking.{denied, taken_by}
use Rattle.gw_policy_review.proofs.lint.finding.finding_of.Goals as goal

-- what was found of the rule at a place, of the rule of its number
taken_of : (shapes : List Shape) (rules : List Rule) (number count : ℕ) (rule one : Rule) (place : Option ℕ) → count ≡ number → one ≡ rule
    → place ≡ taker shapes (take (count - 1) rules) one → taker shapes (take (number - 1) rules) rule ≡ place
taken_of shapes rules number count rule one place e same is =
    ap (λ (r : Rule). taker shapes (take (number - 1) rules) r) (sym same) ∙ ap (λ (n : ℕ). taker shapes (take (n - 1) rules) one) (sym e) ∙ sym is

pub returns-in-Some-clause-found : goal.returns-in-Some-clause-found
returns-in-Some-clause-found c =
    let shapes = c.args.looked.now.shapes.now in
    let rules = c.args.looked.now.rules.now in
    record {
      each = λ rule has.
          let same = rule_there rules c.args.number c.from-place.result rule c.index-looked-place.result c.from-place.ensures has c.index-looked-place.is in
          let found : taker shapes (take (c.args.number - 1) rules) rule ≡ Some c.in-Some.place =
          taken_of shapes rules c.args.number c.from-place.result rule c.index-looked-place.result (Some c.in-Some.place) c.from-place.ensures same
          (c.in-Some.ensures.place ∙ ap (taker shapes (take (c.from-place.result - 1) rules)) (sym c.index-looked-place.is)) in (
            ap (is_met shapes) (sym same) ∙ denied (is_met shapes c.index-looked-place.result) c.matches_nothing.result (c.matches_nothing.ensures.exact ∙ ap (λ (r : Rule). not (is_met shapes r)) (sym c.index-looked-place.is)) c.if-matches_nothing.false,
            taken_by shapes rules c.args.number c.in-Some.place rule has found,
          );
      counted = refl;
    }

pub returns-clause-found : goal.returns-clause-found
returns-clause-found c =
    let shapes = c.args.looked.now.shapes.now in
    let rules = c.args.looked.now.rules.now in
    searched_found shapes rules c.args.looked.now.tidy.now c.args.number c.args.steps c.in_ok-found.found.steps c.in_ok-found.found.finding
    c.requires.tidy c.in_ok-found.ensures (
    λ rule has.
    let same = rule_there rules c.args.number c.from-place.result rule c.index-looked-place.result c.from-place.ensures has c.index-looked-place.is in
    let none : taker shapes (take (c.args.number - 1) rules) rule ≡ None =
    taken_of shapes rules c.args.number c.from-place.result rule c.index-looked-place.result None c.from-place.ensures same
    (sym c.in_default.is ∙ c.taker.ensures.place ∙ ap (taker shapes (take (c.from-place.result - 1) rules)) (sym c.index-looked-place.is)) in
    let met : is_met shapes rule ≡ true =
    ap (is_met shapes) (sym same) ∙ denied (is_met shapes c.index-looked-place.result) c.matches_nothing.result (c.matches_nothing.ensures.exact ∙ ap (λ (r : Rule). not (is_met shapes r)) (sym c.index-looked-place.is)) c.if-matches_nothing.false in
    (met, none)
    )

pub returns-clause-most : goal.returns-clause-most
returns-clause-most c = c.in_ok-found.ensures.most
