use Rattle.gw_turns.proofs.KeepingLemmas.{fresh_is_spared, recent_is_young, ticks_keep_young}
use Rattle.gw_turns.proofs.laws.renewing.Goals as goal

pub returns-clause-recent : goal.returns-clause-recent
returns-clause-recent g c = recent_is_young

pub returns-clause-ticks : goal.returns-clause-ticks
returns-clause-ticks g c = ticks_keep_young g.S.Store.held

pub returns-clause-fresh : goal.returns-clause-fresh
returns-clause-fresh g c = fresh_is_spared g.S.Store.held
