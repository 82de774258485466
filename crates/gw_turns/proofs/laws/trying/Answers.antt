use Rattle.gw_turns.proofs.PaceLemmas.{events_try_few, failing_is_spared, pauses_grow, rests_at_ticks, rests_end, ticks_begin_anew}
use Rattle.gw_turns.proofs.laws.trying.Goals as goal

pub returns-clause-few : goal.returns-clause-few
returns-clause-few g c = events_try_few g.S.Store.held

pub returns-clause-anew : goal.returns-clause-anew
returns-clause-anew g c = ticks_begin_anew g.S.Store.held

pub returns-clause-spared : goal.returns-clause-spared
returns-clause-spared g c = failing_is_spared g.S.Store.held

pub returns-clause-rests : goal.returns-clause-rests
returns-clause-rests g c = rests_at_ticks g.S.Store.held

pub returns-clause-ends : goal.returns-clause-ends
returns-clause-ends g c = rests_end g.S.Store.held

pub returns-clause-pauses : goal.returns-clause-pauses
returns-clause-pauses g c = pauses_grow
