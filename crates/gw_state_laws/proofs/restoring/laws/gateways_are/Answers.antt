use Rattle.gw_state_laws.proofs.restoring_lemmas.Whole.{counts_leave_them_so, new_ones_are, reloaded_ones_are, resumed_ones_are, they_stay_so}
use Rattle.gw_state_laws.proofs.restoring.laws.gateways_are.Goals as goal

pub returns-clause-new : goal.returns-clause-new
returns-clause-new c = new_ones_are c.args.config.now c.states_are_kept.ensures.histories c.slots_are_kept.ensures.histories

pub returns-clause-resumed : goal.returns-clause-resumed
returns-clause-resumed c = resumed_ones_are c.args.config.now c.states_are_kept.ensures.carried c.slots_are_kept.ensures.carried

pub returns-clause-reloaded : goal.returns-clause-reloaded
returns-clause-reloaded c = reloaded_ones_are c.args.config.now c.states_are_kept.ensures.carried c.slots_are_kept.ensures.carried

pub returns-clause-runs : goal.returns-clause-runs
returns-clause-runs c = they_stay_so c.args.config.now c.states_are_kept.ensures.runs c.slots_are_kept.ensures.runs

pub returns-clause-counts : goal.returns-clause-counts
returns-clause-counts c = counts_leave_them_so c.args.config.now
