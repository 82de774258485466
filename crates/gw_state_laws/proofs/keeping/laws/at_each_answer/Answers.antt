use Rattle.gw_state_laws.proofs.keeping_lemmas.Currency.{answered_is_kept, held_stays, withheld_is_old_or_new}
use Rattle.gw_state_laws.proofs.keeping.laws.at_each_answer.Goals as goal

pub returns-clause-answered : goal.returns-clause-answered
returns-clause-answered g c = answered_is_kept g.S.Store.held

pub returns-clause-withheld : goal.returns-clause-withheld
returns-clause-withheld g c = withheld_is_old_or_new g.S.Store.held

pub returns-clause-held : goal.returns-clause-held
returns-clause-held g c = held_stays g.S.Store.held
