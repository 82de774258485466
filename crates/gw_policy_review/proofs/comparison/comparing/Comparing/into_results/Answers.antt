use Rattle.std.proofs.Common.{◌≡◌, ◌∙◌, ◌==◌, ℕ, List, ap, arith, length, subst, sym}
use Rattle.std.specs.Prelude.{IfSome, not}
use Rattle.gw_ask_sets.specs.regions.Comparing.{IsComparison, IsSummary}
use Rattle.gw_ask_sets.specs.regions.Pairs.{AreSought}
use Rattle.gw_ask_sets.specs.regions.Presence.{OrNoneIsMeant}
use Rattle.gw_ask_sets.specs.regions.Regions.{Region}
use Rattle.gw_ask_sets.specs.regions.Steps.{IsReached, stage}
use Rattle.gw_ask_sets.specs.regions.Tidying.{all_tidied}
use Rattle.gw_rules.specs.declared.rule.Rule.{Rule}
use Rattle.gw_policy_review.specs.comparison.Asks.{asks_of}
use Rattle.gw_policy_review.specs.comparison.Comparing.{IsUnderWay, Progress}
use Rattle.gw_policy_review.specs.comparison.Comparison.{AreResults, IsLeftAfter}
use Rattle.gw_policy_review.specs.comparison.Operations.{OperationsAreMeant}
use Rattle.gw_policy_review.specs.comparison.PairLines.{known_of}
use Rattle.gw_policy_review.proofs.comparison.comparing.Comparing.into_results.Goals as goal

pub returns-clause-results : goal.returns-clause-results
returns-clause-results c =
    let it = c.self.inside in
    let one = it.before.now in
    let two = it.after.now in
    let asks = asks_of one two in
    let old = one.rules in
    let new = two.rules in
    let was = it.comparison in
    let summary = c.in_ok-summary.summary in
    let found = summary.found.items in
    let left = summary.left.items in
    let known = known_of c.in_ok-pairs.pairs in
    let is = c.in_ok-summary.ensures in
    let shapes = c.deref.result.now in
    let same_shapes = c.deref.ensures.value ∙ c.self.invariant.0 in
    let same_asks = c.deref-2.ensures.value ∙ c.self.invariant.0 in
    let same_old = c.rules-2.ensures.rules ∙ c.rules.ensures.rules in
    let same_new = c.rules-4.ensures.rules ∙ c.rules-3.ensures.rules in
    let count : c.len.result ≡ length was.left.items = omega (arith, was.left.ok.0, c.len.ensures) in
    subst (λ (p : Progress). IsUnderWay p → AreResults p.old_one p.new_one found left summary.steps known) c.self.view_is
    (λ under.
    let reached : IsLeftAfter one two summary.steps left = record {
      found = was.found.items;
      reached = subst (λ (n : ℕ). IsReached asks (all_tidied old) (all_tidied new) n (stage was.found.items left)) (sym is.steps)
          (subst (λ (rest : List Region). IsReached asks (all_tidied old) (all_tidied new) was.steps (stage was.found.items rest)) (sym is.left) under.reached);
    } in
    record {
      reached = reached;
      summary = subst (λ (xs : List Region). IsComparison xs old new was.found.items was.left.items → IsSummary xs old new found left) same_asks
          (is.summary old new) under.is_right;
      or_none = λ lines. subst (λ (xs : List Region). OrNoneIsMeant xs found) same_asks (is.or_none (c.have_lines.ensures ∙ lines));
      operations = λ lines. subst (λ (xs : List Region). OperationsAreMeant xs found) same_asks (is.operations (c.have_lines.ensures ∙ lines));
      in_order = λ lines. is.in_order (c.have_lines.ensures ∙ lines);
      asked = c.in_ok-pairs.ensures.asked ∙ ap (λ (n : ℕ). not (n == 0)) (count ∙ ap (λ (xs : List Region). length xs) (sym is.left));
      are_pairs = subst (λ (xs : List Region). IfSome known (λ k. AreSought xs old new k)) same_shapes
          (subst (λ (a : List Rule). IfSome known (λ k. AreSought shapes a new k)) same_old
          (subst (λ (b : List Rule). IfSome known (λ k. AreSought shapes c.rules-2.result.now b k)) same_new c.in_ok-pairs.ensures.pairs));
    })
