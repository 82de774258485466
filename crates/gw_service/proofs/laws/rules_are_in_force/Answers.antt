use Rattle.gw_service.specs.Chain.{manner}
use Rattle.gw_service.specs.Metering.{meters_by}
use Rattle.gw_service.proofs.LawLemmas.{rules_in_force, rules_stay}
use Rattle.gw_service.proofs.laws.rules_are_in_force.Goals as goal

pub returns-clause-chain : goal.returns-clause-chain
returns-clause-chain g c = λ start report status.
    rules_in_force (manner g.K.Guard.Passes g.K.StateKeeper.conduct.Ticks g.K.StateKeeper.conduct.Adopts g.K.StateKeeper.conduct.troubles report status (meters_by start) g.K.StateKeeper.conduct.Lasts)

pub returns-clause-stretch : goal.returns-clause-stretch
returns-clause-stretch g c = rules_stay
