use Rattle.gw_state_laws.proofs.keeping_lemmas.Currency.{ticks_keep_current, tried_is_current, tried_last_is_current}
use Rattle.gw_state_laws.proofs.keeping.laws.at_each_try.Goals as goal

pub returns-clause-tried : goal.returns-clause-tried
returns-clause-tried g c = tried_is_current g.S.Store.held

pub returns-clause-last : goal.returns-clause-last
returns-clause-last g c = tried_last_is_current g.S.Store.held

pub returns-clause-ticked : goal.returns-clause-ticked
returns-clause-ticked g c = ticks_keep_current g.S.Store.held
