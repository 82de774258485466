use Rattle.std.proofs.Common.{◌∙◌, List, subst}
use Rattle.gw_ask_sets.specs.regions.Comparing.{IsComparison}
use Rattle.gw_ask_sets.specs.regions.Regions.{Region}
use Rattle.gw_ask_sets.specs.regions.Tidying.{all_tidied}
use Rattle.gw_policy_review.specs.comparison.Asks.{asks_of}
use Rattle.gw_policy_review.proofs.comparison_lemmas.PortionLaw.{begun}
use Rattle.gw_policy_review.proofs.comparison.comparing.Comparing.new.Goals as goal

pub returns-clause-is_right : goal.returns-clause-is_right
returns-clause-is_right c =
    let made = c.in_ok-comparison.comparison in
    let old = c.args.old.now in
    let new = c.args.new.now in
    let same = c.deref.ensures.value ∙ c.in_ok-asks.ensures.regions in
    record {
      is_right = subst (λ (asks : List Region). IsComparison asks old.rules new.rules made.found.items made.left.items) same
          (c.in_ok-comparison.ensures.comparison old.rules new.rules);
      reached = begun (asks_of old new) c.deref.result.now (all_tidied old.rules) (all_tidied new.rules) _ made.steps same
          c.in_ok-comparison.ensures.steps c.in_ok-comparison.ensures.beginning;
    }
