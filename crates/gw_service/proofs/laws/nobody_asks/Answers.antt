use Rattle.gw_service.specs.Chain.{manner}
use Rattle.gw_service.specs.Metering.{meters_by}
use Rattle.gw_service.proofs.ServedLemmas.{nobody_asks}
use Rattle.gw_service.proofs.laws.nobody_asks.Goals as goal

pub returns : goal.returns
returns g c = λ start report status.
    nobody_asks (manner g.K.Guard.Passes g.K.StateKeeper.conduct.Ticks g.K.StateKeeper.conduct.Adopts g.K.StateKeeper.conduct.troubles report status (meters_by start) g.K.StateKeeper.conduct.Lasts)
