-- What keeps the state of a gateway from stretch to stretch, if something does.
use Rattle.std.specs.Prelude.{◌≡◌, ⊤, ℕ, Bool, true, is_some, not, List, [], Option, Some, None}
use Rattle.gw_configuration.specs.Configuration.{Configuration}
use Rattle.gw_core.specs.State.{State}
use Rattle.gw_state.specs.Saved.{origin_of}
use Rattle.gw_script.specs.Event.{Event}
use Rattle.gw_turns.specs.Keeping.{HasPassed, IsTried, IsTriedLast, KeepsAtTick, failing_of}
use Rattle.gw_wire.specs.declared.store.StoreFault.{StoreFault}
use Rattle.gw_notices.specs.declared.metrics.counts.StateTries.{StateTries}
use Rattle.gw_service.specs.declared.keeping.Kept.{Kept}
use Rattle.gw_service.specs.declared.keeping.Kept.TheVariants.{Nowhere, In}
use Rattle.gw_service.specs.declared.successor.Successor.{Successor}
use Rattle.gw_notices.specs.declared.troubles.Troubles.{Troubles}
use Rattle.gw_notices.specs.Notices.{of_state}
use Rattle.gw_decisions.specs.tally.Tally.{IsTally}

-- what is made of this configuration: what can be written, which rules are audited, counts of which none began, and its format
pub record IsSuccessor (c : Configuration) (s : Successor) : Type 0 where
  pub origin : s.origin ≡ origin_of c
  pub marks : s.marks ≡ c.audits
  pub counts : IsTally c.rules [] s.counts
  pub format : s.format ≡ c.format

-- at an event
abbrev pub IsPassed : {S : Type 0} → (S → Option (List ℕ)) → Kept S → State → Event → Kept S → Bool → Type 0
IsPassed held Nowhere w e Nowhere passes = passes ≡ true
IsPassed held (In k) w e (In l) passes = HasPassed held k w e l passes
IsPassed held _ w e _ passes = ⊥

-- at a tick
abbrev pub IsKeptAtTick : {S : Type 0} → (S → Option (List ℕ)) → Kept S → State → Kept S → Type 0
IsKeptAtTick held Nowhere w Nowhere = ⊤
IsKeptAtTick held (In k) w (In l) = KeepsAtTick held k w l
IsKeptAtTick held _ w _ = ⊥

-- if the gateway goes on as one of this configuration: its state is kept at once
abbrev pub IsKeptFor : {S : Type 0} → (S → Option (List ℕ)) → Kept S → Configuration → State → Kept S → Type 0
IsKeptFor held Nowhere c w Nowhere = ⊤
IsKeptFor held (In k) c w (In l) = IsTried held (record k { origin = origin_of c }) w l
IsKeptFor held _ c w _ = ⊥

-- at the end: its state is kept at once, with the number of its last denial
abbrev pub IsKeptLast : {S : Type 0} → (S → Option (List ℕ)) → Kept S → State → Kept S → Type 0
IsKeptLast held Nowhere w Nowhere = ⊤
IsKeptLast held (In k) w (In l) = IsTriedLast held k w l
IsKeptLast held _ w _ = ⊥

-- why the last try failed, if it did
abbrev pub failing_in : {S : Type 0} → Kept S → Option StoreFault
failing_in Nowhere = None
failing_in (In k) = failing_of k.kept

abbrev pub troubles_in : {S : Type 0} → Kept S → Troubles
troubles_in k = of_state (failing_in k)

-- how many tries failed
abbrev pub unkept_in : {S : Type 0} → Kept S → ℕ
unkept_in Nowhere = 0
unkept_in (In k) = k.unkept

-- how the state is kept, if it is
abbrev pub tries_in : {S : Type 0} → Kept S → Option StateTries
tries_in Nowhere = None
tries_in (In k) = Some (record { is_kept = not (is_some (failing_of k.kept)); unkept = k.unkept })
