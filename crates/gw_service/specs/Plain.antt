-- The plain run: nothing is watched. Each run that watches nothing is this one (`IsAsPlain`).
use Rattle.std.specs.Prelude.{◌≡◌, ℕ, Bool, true, false, List, [], Option, None, Result}
use Rattle.gw_configuration.specs.Configuration.{Configuration}
use Rattle.gw_core.specs.State.{State}
use Rattle.gw_turns.specs.declared.serving.ServeFault.{ServeFault}
use Rattle.gw_watchers.specs.Watching.{Watching}
use Rattle.gw_service.specs.Chain.{Manner}
use Rattle.gw_service.specs.Conduct.{Conduct, manner_by}
use Rattle.gw_service.specs.Holding.{holding_manner, more_holding, unheld}
use Rattle.gw_service.specs.Keeping.{IsKeptAtTick, IsKeptFor, IsKeptLast, IsPassed, failing_in, tries_in, troubles_in, unkept_in}
use Rattle.gw_service.specs.Kept.{Given, KeepsFirst, Rest, RunsFrom, RunsFromHolding, first_stage, outcome_by, reporting_of}
use Rattle.gw_service.specs.Serving.{Ends, Service}
use Rattle.gw_service.specs.Start.{BeginsAs, counts_of}
use Rattle.gw_service.specs.Stats.{Reporting, end_stats}
use Rattle.gw_service.specs.declared.fault.ServiceFault.{ServiceFault}
use Rattle.gw_service.specs.declared.holding.Holding.{Holding}
use Rattle.gw_service.specs.declared.keeping.Kept.{Kept}
use Rattle.gw_service.specs.declared.running.RunEnd.{RunEnd}

-- what keeps the state of a gateway, by a store, reports no more of itself
abbrev pub no_more : {S : Type 0} → Kept S → (rules : Bool) → State → List ℕ
no_more k rules w = []

-- what it does, and nothing is watched
abbrev pub conduct_alone : {S : Type 0} → (S → Option (List ℕ)) → Conduct (Kept S)
conduct_alone held = record {
  Ticks = IsKeptAtTick held;
  Adopts = IsKeptFor held;
  Lasts = IsKeptLast held;
  troubles = troubles_in;
  unkept = unkept_in;
  more = no_more;
  tries = tries_in;
  decisions = λ _. None;
  losses = λ _. record { unwatched = 0; trial_lines = 0; audit_lines = 0 };
}

abbrev pub manner_of : {S : Type 0} → (S → Option (List ℕ)) → Reporting → Manner (Kept S)
manner_of held how = manner_by (IsPassed held) (conduct_alone held) how

-- A gateway of this configuration begins with what was saved, its state is kept at once, and then it runs for so many turns, and
-- reports what it did.
pub record RunsKept {S Q L : Type 0} (given : Given S Q L) (c : Configuration) (how : Service) (before after : Ends) (text : List ℕ)
    (outcome : Result (Unit {0}) ServiceFault) : Type 0 where
  pub gateway : State
  pub begins : BeginsAs c given.saved given.line gateway
  pub keeper : Kept S
  pub keeps : KeepsFirst given.held given.store c gateway keeper
  pub answer : Result RunEnd ServeFault
  pub left : Rest (Kept S)
  pub runs : RunsFrom (manner_of given.held (reporting_of given how gateway)) (end_stats unkept_in no_more (reporting_of given how gateway))
      (counts_of gateway) how.turns (first_stage given c gateway keeper (troubles_in keeper) before) answer after left text
  pub answers : outcome ≡ outcome_by answer (failing_in left.keeper)

-- It may go on if its log fails: what keeps the state is in what withholds what is denied while lines wait.
abbrev pub holding_manner_of : {S : Type 0} → (S → Option (List ℕ)) → Reporting → Manner (Holding (Kept S))
holding_manner_of held how =
    holding_manner (IsPassed held) (conduct_alone held) how

pub record HoldsKept {S Q L : Type 0} (given : Given S Q L) (c : Configuration) (how : Service) (before after : Ends) (text : List ℕ)
    (outcome : Result (Unit {0}) ServiceFault) : Type 0 where
  pub gateway : State
  pub begins : BeginsAs c given.saved given.line gateway
  pub keeper : Kept S
  pub keeps : KeepsFirst given.held given.store c gateway keeper
  pub answer : Result RunEnd ServeFault
  pub left : Rest (Holding (Kept S))
  pub runs : RunsFromHolding (holding_manner_of given.held (reporting_of given how gateway))
      (end_stats (λ h. unkept_in h.keeper) (more_holding no_more) (reporting_of given how gateway))
      (counts_of gateway) how.turns (first_stage given c gateway (unheld keeper) (troubles_in keeper) before) answer after left text
  pub answers : outcome ≡ outcome_by answer (failing_in left.keeper.keeper)

-- by whether it goes on if its log fails
abbrev pub RunsPlain : {S Q L : Type 0} → Given S Q L → (holds : Bool) → Configuration → Service → Ends → Ends → List ℕ
    → Result (Unit {0}) ServiceFault → Type 0
RunsPlain given false c how before after text outcome = RunsKept given c how before after text outcome
RunsPlain given true c how before after text outcome = HoldsKept given c how before after text outcome

-- nothing is watched, and no trial ended
pub record WatchesNothing {T A : Type 0} (w : Watching T A) : Type 0 where
  pub trial : w.trial ≡ None
  pub audit : w.audit ≡ None
  pub counts : w.counts ≡ None
  pub ended : w.ended ≡ false
