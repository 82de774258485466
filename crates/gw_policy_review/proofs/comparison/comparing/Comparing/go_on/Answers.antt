use Rattle.std.proofs.Common.{◌∙◌, subst, sym, true}
use Rattle.gw_ask_sets.specs.regions.Steps.{stage}
use Rattle.gw_ask_sets.specs.regions.Tidying.{all_tidied}
use Rattle.gw_ask_sets.proofs.regions_lemmas.TidyLaw.{of_tidied, to_tidied}
use Rattle.gw_policy_review.specs.comparison.Asks.{asks_of}
use Rattle.gw_policy_review.specs.comparison.Comparing.{IsUnderWay}
use Rattle.gw_policy_review.proofs.comparison_lemmas.PortionLaw.{both_ok, goes_on, reached_on}
use Rattle.gw_policy_review.proofs.comparison.comparing.Comparing.go_on.Goals as goal

pub returns-clause-is_right : goal.returns-clause-is_right
returns-clause-is_right c =
    let it = c.self.inside in
    let asks = asks_of it.before.now it.after.now in
    let old = it.before.now.rules in
    let new = it.after.now.rules in
    let found = it.comparison.found.items in
    let left = it.comparison.left.items in
    let more = c.go_on.new.self.found.items in
    let rest = c.go_on.new.self.left.items in
    let same_asks = c.deref-3.ensures.value ∙ c.self.invariant.0 in
    let same_old = c.deref.ensures.value ∙ c.self.invariant.1 in
    let same_new = c.deref-2.ensures.value ∙ c.self.invariant.2 in
    both_ok c.go_on.result
    (λ goes counted was.
    let under = subst IsUnderWay (sym c.self.view_is) was in
    record {
      is_right = of_tidied (λ ask. true) asks old new more rest
          (goes_on asks c.deref-3.result.now (all_tidied old) c.deref.result.now (all_tidied new) c.deref-2.result.now found more left rest
          same_asks same_old same_new goes (to_tidied (λ ask. true) asks old new found left under.is_right));
      reached = reached_on asks c.deref-3.result.now (all_tidied old) c.deref.result.now (all_tidied new) c.deref-2.result.now
          (stage found left) (stage more rest) it.comparison.steps c.go_on.new.self.steps same_asks same_old same_new counted under.reached;
    }) c.go_on.ensures.comparison c.go_on.ensures.counted
