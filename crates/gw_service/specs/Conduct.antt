-- What something that keeps the state of a gateway does, and what it says of itself.
use Rattle.std.specs.Prelude.{ℕ, Bool, List, Option}
use Rattle.gw_configuration.specs.Configuration.{Configuration}
use Rattle.gw_core.specs.State.{State}
use Rattle.gw_script.specs.Event.{Event}
use Rattle.gw_notices.specs.declared.losses.Losses.{Losses}
use Rattle.gw_notices.specs.declared.metrics.counts.StateTries.{StateTries}
use Rattle.gw_notices.specs.declared.troubles.Troubles.{Troubles}
use Rattle.gw_service.specs.Chain.{Manner, manner}
use Rattle.gw_service.specs.Metering.{meters_by}
use Rattle.gw_service.specs.Stats.{Reporting, all_stats, due_stats}

-- What it does at a tick in a state of the gateway, if a gateway of another configuration goes on in a state, and at the end; what
-- isn't kept or recorded; how many tries failed so far; what it reports of itself beside that, with how many asks each rule decided
-- or without, by the state of the gateway; how the state is kept, if it is; how many asks each rule decided, if that is counted; and
-- how much of what is watched was lost.
pub record Conduct (K : Type 0) : Type 1 where
  pub Ticks : K → State → K → Type 0
  pub Adopts : K → Configuration → State → K → Type 0
  pub Lasts : K → State → K → Type 0
  pub troubles : K → Troubles
  pub unkept : K → ℕ
  pub more : K → (rules : Bool) → State → List ℕ
  pub tries : K → Option StateTries
  pub decisions : K → Option (List ℕ)
  pub losses : K → Losses

-- what a run does by it, if that is what is done at an event
abbrev pub manner_by : {K : Type 0} → (Passes : K → State → Event → K → Bool → Type 0) → Conduct K → Reporting → Manner K
manner_by Passes conduct how =
    manner Passes conduct.Ticks conduct.Adopts conduct.troubles (due_stats conduct.unkept conduct.more how)
    (all_stats conduct.unkept conduct.more how) (meters_by how.start) conduct.Lasts
