use Rattle.gw_state_laws.proofs.keeping_lemmas.Currency.{current_is_up_to_date, faults_keep, pauses_keep}
use Rattle.gw_state_laws.proofs.keeping.laws.at_each_pause.Goals as goal

pub returns-clause-pauses : goal.returns-clause-pauses
returns-clause-pauses g c = pauses_keep g.S.Store.held

pub returns-clause-faults : goal.returns-clause-faults
returns-clause-faults g c = faults_keep g.S.Store.held

pub returns-clause-current : goal.returns-clause-current
returns-clause-current g c = current_is_up_to_date g.S.Store.held
