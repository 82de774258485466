use Rattle.gw_turns.proofs.AlikeLemmas.{alike_but_ticks_is_equal, alike_is_equal, equal_but_ticks_is_alike, equal_is_alike}
use Rattle.gw_turns.proofs.KeepingLemmas.{ticks_keep_recent}
use Rattle.gw_turns.proofs.laws.keeping.Goals as goal

pub returns-clause-lasting : goal.returns-clause-lasting
returns-clause-lasting g c = alike_is_equal

pub returns-clause-alike : goal.returns-clause-alike
returns-clause-alike g c = equal_is_alike

pub returns-clause-but_ticks : goal.returns-clause-but_ticks
returns-clause-but_ticks g c = alike_but_ticks_is_equal

pub returns-clause-alike_but_ticks : goal.returns-clause-alike_but_ticks
returns-clause-alike_but_ticks g c = equal_but_ticks_is_alike

pub returns-clause-recent : goal.returns-clause-recent
returns-clause-recent g c = ticks_keep_recent g.S.Store.held
