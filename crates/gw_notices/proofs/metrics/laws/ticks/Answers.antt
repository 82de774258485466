use Rattle.gw_notices.proofs.metrics_lemmas.Ticks.{ticks_keep_recent}
use Rattle.gw_notices.proofs.metrics.laws.ticks.Goals as goal

pub returns : goal.returns
returns g c = ticks_keep_recent g.S.Store.held
