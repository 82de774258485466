use Rattle.gw_ask_sets.proofs.regions_lemmas.StepLaw.{reached_by}
use Rattle.gw_ask_sets.proofs.regions.comparing.compare.Goals as goal

pub returns-clause-comparison : goal.returns-clause-comparison
returns-clause-comparison c = c.in_ok-go_on.ensures.comparison (c.in_ok-comparison.ensures.comparison c.args.old.now c.args.new.now)

pub returns-clause-reached : goal.returns-clause-reached
returns-clause-reached c = reached_by _ _ _ _ _ _ _ c.in_ok-comparison.ensures.beginning c.in_ok-comparison.ensures.steps c.in_ok-go_on.ensures.counted
