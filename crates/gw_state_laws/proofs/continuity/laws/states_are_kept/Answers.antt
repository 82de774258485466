use Rattle.gw_state_laws.proofs.continuity_lemmas.States.{states_are_carried, states_are_kept, states_go_on}
use Rattle.gw_state_laws.proofs.continuity.laws.states_are_kept.Goals as goal

pub returns-clause-histories : goal.returns-clause-histories
returns-clause-histories c = states_are_kept c.args.config.now c.accepted.ensures

pub returns-clause-carried : goal.returns-clause-carried
returns-clause-carried c = states_are_carried c.args.config.now c.accepted.ensures

pub returns-clause-runs : goal.returns-clause-runs
returns-clause-runs c = states_go_on c.args.config.now
