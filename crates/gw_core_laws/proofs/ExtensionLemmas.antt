-- Each step extends a history, and what is configured stays.
use Rattle.std.proofs.Common.{◌≡◌, List, [], ◌∷◌, refl, ap, ◌∙◌}
use Rattle.gw_objects.specs.Objects.{Database, database_of}
use Rattle.gw_objects.specs.Write.{Write}
use Rattle.gw_core.specs.Effects.{effects_at}
use Rattle.gw_core.specs.History.{acts_of, written}
use Rattle.gw_core_laws.specs.Laws.{ConfigurationStays, StepsExtendHistories, RunsExtendHistories}
use Rattle.gw_core.specs.State.{State}
use Rattle.gw_core.proofs.HistoryLemmas.{after_next, run_from-after, state_from-after}

pub steps_extend : StepsExtendHistories
steps_extend before event given after step c k h is =
    (step.effects ∙ ap (λ (w : State). effects_at w event) is, after_next before after c k h event step.state is)

pub runs_extend : RunsExtendHistories
runs_extend c k h l = (run_from-after c k h l, state_from-after c k h l)

-- what is configured of the device stays, whatever is written
written_stays : (writes : List Write) (d : Database) → (written writes d).configured ≡ d.configured
unfolding written
written_stays [] d = refl
written_stays (write ∷ writes) d = written_stays writes d

pub configuration_stays : ConfigurationStays
configuration_stays c k h = written_stays (acts_of c k h).writes (database_of c)
