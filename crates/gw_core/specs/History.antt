-- The state of a gateway after a history, which is the list of the events that it took, newest first; and
-- what it does then.
use Rattle.std.specs.Prelude.{◌≡◌, ℕ, ◌+◌, true, false, List, [], ◌∷◌, length, map, take, Option, Some, None, slice_get}
use Rattle.std.specs.List.{flat_map}
use Rattle.gw_audit.specs.declared.denial.Denial.{Denial}
use Rattle.gw_core.specs.declared.effects.Effects.{Effects}
use Rattle.gw_core.specs.declared.event.Counts.{Counts}
use Rattle.gw_script.specs.Event.{Event}
use Rattle.gw_configuration.specs.Configuration.{Configuration}
use Rattle.gw_objects.specs.History.{IsStateAfter as AreSlotsAfter}
use Rattle.gw_objects.specs.Objects.{Database, database_of, defaults_of}
use Rattle.gw_objects.specs.Write.{Write}
use Rattle.gw_tables.specs.routes.History.{History as Learned}
use Rattle.gw_tables.specs.routes.History.{IsStateAfter as IsTableAfter}
use Rattle.gw_relay.specs.History.{Acts as PortActs}
use Rattle.gw_relay.specs.History.{AreStatesAfter, acts_moved, initial_acts, learned_moved, ports_from}
use Rattle.gw_relay.specs.Initial.{direct_of, initial, routed_of}
use Rattle.gw_relay.specs.State.{Move, moved, moved_by}
use Rattle.gw_core.specs.Denials.{denials_at}
use Rattle.gw_core.specs.Effects.{change_at, changed, effects_at, move_at, passes_end, ticks_of}
use Rattle.gw_core.specs.State.{State}

-- ---- after a history

-- What came of a history for each part of a gateway: the moves of the ports' tables and the routes, which
-- are the changes that were granted and the ticks, and the writes to the device that were granted, each
-- newest first; and how many ticks there were and how many denials.
pub record Acts : Type 0 where
  pub moves : List Move
  pub writes : List Write
  pub ticks : ℕ
  pub denials : ℕ

abbrev pub no_acts : Acts
no_acts = record { moves = []; writes = []; ticks = 0; denials = 0 }

-- the device once these writes were made, of which the first is the newest
unfoldable pub written : List Write → Database → Database
written [] d = d
written (write ∷ writes) d = changed (Some write) (written writes d)

-- the state once these acts were done
abbrev pub state_of : Configuration → Counts → Acts → State
state_of c k acts = record {
  relay = moved_by acts.moves (initial c);
  device = written acts.writes (database_of c);
  rules = c.rules;
  ticks = k.ticks + acts.ticks;
  denials = k.denials + acts.denials;
}

-- these writes, and before them one more where it is granted
abbrev pub with_granted : Option Write → List Write → List Write
with_granted None writes = writes
with_granted (Some write) writes = write ∷ writes

-- these moves, and before them one more where there is one
abbrev pub with_move : Option Move → List Move → List Move
with_move None moves = moves
with_move (Some move) moves = move ∷ moves

-- what an event adds to the acts
abbrev pub grants : State → Event → Acts → Acts
grants w e acts = record {
  moves = with_move (move_at w e) acts.moves;
  writes = with_granted (change_at w e) acts.writes;
  ticks = acts.ticks + ticks_of e;
  denials = acts.denials + length (denials_at w e);
}

unfoldable pub acts_of : Configuration → Counts → List Event → Acts
acts_of c k [] = no_acts
acts_of c k (e ∷ h) = grants (state_of c k (acts_of c k h)) e (acts_of c k h)

-- the state of a gateway that was configured so, went on from these counts, and took this history
abbrev pub state_after : Configuration → Counts → List Event → State
state_after c k h = state_of c k (acts_of c k h)

-- a gateway that nothing came to
abbrev pub no_counts : Counts
no_counts = record { ticks = 0; denials = 0 }

-- a gateway is in the state after a history
abbrev pub IsStateAfter : State → Configuration → Counts → List Event → Type 0
IsStateAfter w c k h = w ≡ state_after c k h

-- what an event does after a history
abbrev pub effects : Configuration → Counts → List Event → Event → Effects
effects c k h e = effects_at (state_after c k h) e

-- what each event of a list does, after a history and the events before it
unfoldable pub run_after : Configuration → Counts → List Event → List Event → List Effects
run_after c k h [] = []
run_after c k h (e ∷ l) = effects c k h e ∷ run_after c k (e ∷ h) l

-- what each event of a list does to a fresh gateway
abbrev pub run : Configuration → Counts → List Event → List Effects
run c k l = run_after c k [] l

-- the log of a run: its denials, one after the other
abbrev pub log : List Effects → List Denial
log given = flat_map (λ x. x.denials) given

-- the history once the events of a list have come after it, in order
unfoldable pub history_after : List Event → List Event → List Event
history_after h [] = h
history_after h (e ∷ l) = history_after (e ∷ h) l

-- Each slot and each default of the device's objects is what these granted writes left, newest first: the
-- last write to it, or the default that is configured (clause 19.2).
abbrev pub WritesStand : Configuration → List Write → State → Type 0
WritesStand c writes w = AreSlotsAfter (defaults_of c) writes w.device.states

-- The ports' tables are those that the last granted entries, the granted registrations and deletions and
-- the ticks left (Annex J.4, J.5).
abbrev pub TablesStand : Configuration → List PortActs → State → Type 0
TablesStand c acts w = AreStatesAfter w.relay.ports (ports_from 1 c.ports) acts

-- The routes are the configured ones, and those of the networks that were granted to be learned (clause 6.6).
abbrev pub RoutesStand : Configuration → Learned → State → Type 0
RoutesStand c learned w =
    IsTableAfter w.relay.routes (direct_of c) (map routed_of c.routes) learned

-- What came of a history on each port: the entries of the last granted table of peers, or the configured ones,
-- and the granted registrations and deletions and the ticks, newest first.
unfoldable pub port_acts : Configuration → Counts → List Event → List PortActs
port_acts c k [] = map initial_acts c.ports
port_acts c k (e ∷ h) = acts_moved (move_at (state_after c k h) e) (port_acts c k h)

-- the networks that were granted to be learned in a history, each with its route, newest first
unfoldable pub learnings : Configuration → Counts → List Event → Learned
learnings c k [] = []
learnings c k (e ∷ h) =
    learned_moved (move_at (state_after c k h) e) (state_after c k h).relay.routes (learnings c k h)

-- the writes that were granted in a history, newest first
unfoldable pub writes : Configuration → Counts → List Event → List Write
writes c k [] = []
writes c k (e ∷ h) = with_granted (change_at (state_after c k h) e) (writes c k h)

-- ---- from a state

-- the state one event later
unfoldable pub next : State → Event → State
next w e = record w {
  relay = moved (move_at w e) w.relay;
  device = changed (change_at w e) w.device;
  ticks = w.ticks + ticks_of e;
  denials = w.denials + length (denials_at w e);
}

-- the state once the events of a list have come, in order
unfoldable pub state_from : State → List Event → State
state_from w [] = w
state_from w (e ∷ l) = state_from (next w e) l

-- what each event of a list does, one after the other
unfoldable pub run_from : State → List Event → List Effects
run_from w [] = []
run_from w (e ∷ l) = effects_at w e ∷ run_from (next w e) l

-- A gateway took an event: it answered what the event does, is then in the next state, and no count
-- passed its end.
pub record IsStep (before : State) (event : Event) (given : Effects) (after : State) : Type 0 where
  pub effects : given ≡ effects_at before event
  pub state : after ≡ next before event
  pub counts : passes_end before event ≡ false

-- A gateway took the first events of a list, so many, and no more.
abbrev pub HasTaken : State → List Event → ℕ → State → Type 0
HasTaken before events n after = after ≡ state_from before (take n events)

-- A gateway took some first events of a list, and the next of them would pass the end of a count.
pub record StopsAtEnd (before : State) (events : List Event) (after : State) : Type 0 where
  pub count : ℕ
  pub event : Event
  pub took : HasTaken before events count after
  pub next_is : slice_get events count ≡ Some event
  pub passes : passes_end after event ≡ true
