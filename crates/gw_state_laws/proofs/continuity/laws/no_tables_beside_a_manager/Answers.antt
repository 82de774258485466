use Rattle.gw_state_laws.proofs.continuity_lemmas.PortStates.{tables_agree}
use Rattle.gw_state_laws.proofs.continuity_lemmas.Whole.{no_tables_are_saved}
use Rattle.gw_state_laws.proofs.continuity.laws.no_tables_beside_a_manager.Goals as goal

pub returns-clause-saved : goal.returns-clause-saved
returns-clause-saved c = no_tables_are_saved c.args.config.now

pub returns-clause-agree : goal.returns-clause-agree
returns-clause-agree c = tables_agree
