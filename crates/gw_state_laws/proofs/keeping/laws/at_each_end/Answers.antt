use Rattle.gw_state_laws.proofs.keeping_lemmas.Runs.{runs_end_current, runs_keep_last}
use Rattle.gw_state_laws.proofs.keeping.laws.at_each_end.Goals as goal

pub returns-clause-ended : goal.returns-clause-ended
returns-clause-ended g c = runs_end_current

pub returns-clause-last : goal.returns-clause-last
returns-clause-last g c = λ given. runs_keep_last given
