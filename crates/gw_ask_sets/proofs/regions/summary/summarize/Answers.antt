use Rattle.std.proofs.Common.{◌∙◌, List, subst}
use Rattle.gw_rules.specs.declared.rule.Rule.{Rule}
use Rattle.gw_ask_sets.specs.regions.Comparing.{IsComparison}
use Rattle.gw_ask_sets.specs.regions.Regions.{lies_in_one}
use Rattle.gw_ask_sets.specs.regions.Tidying.{all_tidied}
use Rattle.gw_ask_sets.proofs.regions_lemmas.TidyLaw.{of_tidied}
use Rattle.std.proofs.lemmas.Result.{IfOk-weaker}
use Rattle.gw_ask_sets.proofs.regions.summary.summarize.Goals as goal

pub returns-clause-summary : goal.returns-clause-summary
returns-clause-summary c =
    let shapes = c.args.shapes.now in
    let old = c.args.old.now in
    let new = c.args.new.now in
    let made = c.in_ok-comparison.comparison in
    let compared : IsComparison shapes (all_tidied old) (all_tidied new) made.found.items made.left.items =
    subst (λ (r : List Rule). IsComparison shapes r (all_tidied new) made.found.items made.left.items) (c.deref.ensures.value ∙ c.in_ok-before.ensures)
    (subst (λ (r : List Rule). IsComparison shapes c.deref.result.now r made.found.items made.left.items) (c.deref-2.ensures.value ∙ c.in_ok-after.ensures)
    c.in_ok-comparison.ensures.comparison) in
    IfOk-weaker c.summary_of.result _ _
    (λ s is. of_tidied (lies_in_one shapes) shapes old new s.found.items s.left.items (is (all_tidied old) (all_tidied new) compared))
    c.summary_of.ensures.summary
