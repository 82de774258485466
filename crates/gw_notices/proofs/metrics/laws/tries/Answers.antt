use Rattle.gw_notices.proofs.metrics_lemmas.Metered.{ticks_are_metered, tries_are_metered}
use Rattle.gw_notices.proofs.metrics.laws.tries.Goals as goal

pub returns-clause-ticks : goal.returns-clause-ticks
returns-clause-ticks g c = ticks_are_metered g.S.Store.held

pub returns-clause-tries : goal.returns-clause-tries
returns-clause-tries g c = tries_are_metered g.S.Store.held
