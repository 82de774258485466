use Rattle.gw_turns.proofs.KeepingLemmas.{ahead_is_unreached, ticks_keep_ahead}
use Rattle.gw_turns.proofs.laws.numbering.Goals as goal

pub returns-clause-ticks : goal.returns-clause-ticks
returns-clause-ticks g c = ticks_keep_ahead g.S.Store.held

pub returns-clause-unreached : goal.returns-clause-unreached
returns-clause-unreached g c = ahead_is_unreached
