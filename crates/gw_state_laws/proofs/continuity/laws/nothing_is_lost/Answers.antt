use Rattle.gw_state_laws.proofs.continuity_lemmas.Whole.{nothing_is_lost, runs_go_on}
use Rattle.gw_state_laws.proofs.continuity.laws.nothing_is_lost.Goals as goal

pub returns-clause-same : goal.returns-clause-same
returns-clause-same c = nothing_is_lost c.args.config.now c.accepted.ensures

pub returns-clause-runs : goal.returns-clause-runs
returns-clause-runs c = runs_go_on c.args.config.now c.accepted.ensures
