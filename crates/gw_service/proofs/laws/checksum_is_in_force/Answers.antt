use Rattle.gw_service.specs.Chain.{manner}
use Rattle.gw_service.specs.Metering.{meters_by}
use Rattle.gw_service.proofs.LawLemmas.{checksum_in_force}
use Rattle.gw_service.proofs.laws.checksum_is_in_force.Goals as goal

pub returns : goal.returns
returns g c = λ start report status.
    checksum_in_force (manner g.K.Guard.Passes g.K.StateKeeper.conduct.Ticks g.K.StateKeeper.conduct.Adopts g.K.StateKeeper.conduct.troubles report status (meters_by start) g.K.StateKeeper.conduct.Lasts)
