use Rattle.gw_turns.proofs.AnnouncingLemmas.{nothing_due_nothing_done, unannounced_is_silent}
use Rattle.gw_turns.proofs.laws.unannounced.Goals as goal

pub returns-clause-silent : goal.returns-clause-silent
returns-clause-silent c = unannounced_is_silent

pub returns-clause-nothing_due : goal.returns-clause-nothing_due
returns-clause-nothing_due c = nothing_due_nothing_done
