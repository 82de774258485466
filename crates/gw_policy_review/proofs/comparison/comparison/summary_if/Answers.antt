use Rattle.std.proofs.Common.{List, subst, sym}
use Rattle.gw_ask_sets.specs.regions.Comparing.{IsSummary}
use Rattle.gw_ask_sets.specs.regions.Regions.{Region}
use Rattle.gw_ask_sets.specs.declared.regions.comparison.Found.{Found}
use Rattle.gw_ask_sets.proofs.regions_lemmas.MergingLaw.{summary_of}
use Rattle.gw_policy_review.proofs.comparison.comparison.summary_if.Goals as goal

pub returns-clause-summary : goal.returns-clause-summary
returns-clause-summary c = λ old new is.
    let asks = c.args.asks.now in
    let was = c.args.comparison in
    let parts = c.into_parts-found.result in
    subst (λ (found : List Found). IsSummary asks old new found parts.1.items) (sym c.into_parts-found.ensures.found)
    (subst (λ (left : List Region). IsSummary asks old new was.found.items left) (sym c.into_parts-found.ensures.left)
    (summary_of asks old new was.found.items was.left.items is))
