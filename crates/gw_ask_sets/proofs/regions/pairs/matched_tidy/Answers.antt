use Rattle.std.proofs.Common.{◌∙◌, ◌&&◌, ap}
use Rattle.gw_rules.specs.Rule.{matches}
use Rattle.gw_rules.specs.declared.rule.Rule.{Rule}
use Rattle.gw_ask_sets.specs.regions.Regions.{lies_in_one}
use Rattle.gw_ask_sets.proofs.regions_lemmas.TidyLaw.{tidied_matches_the_same}
use Rattle.gw_ask_sets.proofs.regions.pairs.matched_tidy.Goals as goal

pub returns : goal.returns
returns c = λ ask.
    c.in_ok-made.ensures ask
    ∙ ap (λ b. lies_in_one c.args.regions.now ask && b)
    (ap (λ (r : Rule). matches r ask) c.in_ok-tidy.ensures ∙ tidied_matches_the_same c.args.rule.now ask)
