use Rattle.gw_service.specs.Holding.{holding_manner}
use Rattle.gw_service.proofs.HoldingLemmas.{chains_log_first, chains_lose_nothing, steps_log_first, steps_lose_nothing}
use Rattle.gw_service.proofs.laws.holding.Goals as goal

pub returns-clause-step_first : goal.returns-clause-step_first
returns-clause-step_first g c = λ how. steps_log_first g.K.Guard.Passes
    (holding_manner g.K.Guard.Passes g.K.StateKeeper.conduct how)
    (λ x y w event passes p. p)

pub returns-clause-step_whole : goal.returns-clause-step_whole
returns-clause-step_whole g c = λ how. steps_lose_nothing
    (holding_manner g.K.Guard.Passes g.K.StateKeeper.conduct how)

pub returns-clause-first : goal.returns-clause-first
returns-clause-first g c = λ how. chains_log_first g.K.Guard.Passes
    (holding_manner g.K.Guard.Passes g.K.StateKeeper.conduct how)
    (λ x y w event passes p. p)

pub returns-clause-whole : goal.returns-clause-whole
returns-clause-whole g c = λ how. chains_lose_nothing
    (holding_manner g.K.Guard.Passes g.K.StateKeeper.conduct how)
