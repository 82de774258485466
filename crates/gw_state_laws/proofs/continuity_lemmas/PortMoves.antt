-- The states stay those of the ports, whatever moves them.
use Rattle.std.proofs.Common.{◌≡◌, ◌∙◌, ap, refl, ℕ, zero, suc, ◌+◌, ◌-◌, ◌≤◌, arith, Bool, true, false, List, [], ◌∷◌, length, map, if◌then◌else◌, Option, Some, None}
use Rattle.std.specs.Prelude.{◌==◌}
use Rattle.std.specs.List.{AllByRecursion}
use Rattle.gw_addr.specs.declared.bip.BipAddr.{BipAddr}
use Rattle.gw_tables.specs.bdt_fdt.Registrations.{Registrations, contains, has_room, with_registration, without}
use Rattle.gw_configuration.specs.declared.port.Port.{Port as ConfiguredPort}
use Rattle.gw_relay.specs.Initial.{port_states_from}
use Rattle.gw_relay.specs.State.{Move, Relay, changed_at, changed_of, deleted, port_later, moved, registered}
use Rattle.gw_relay.specs.State as move
use Rattle.gw_relay.specs.declared.change.Change.TheVariants.{Entries, Registration, Deletion, Learnings}
use Rattle.gw_relay.specs.declared.port.Port.{Port}
use Rattle.gw_relay.specs.declared.port.PortState.{PortState}
use Rattle.gw_state_laws.specs.continuity.StateOf.{AreStatesOf}

-- ---- a change

-- a change of a state that leaves the port, its stations and the ticks of its table
record Keeps (f : PortState → PortState) : Type 0 where
  port : (state : PortState) → (f state).port ≡ state.port
  stations : (state : PortState) → (f state).stations ≡ state.stations
  ticks : (state : PortState) → (f state).fdt.ticks ≡ state.fdt.ticks

at_stays : (f : PortState → PortState) (since number place : ℕ) (ports : List ConfiguredPort) (states : List PortState) → Keeps f
    → AreStatesOf since number ports states → AreStatesOf since number ports (changed_at place f states)
at_stays f since number place [] [] keeps are = tt
at_stays f since number place [] (state ∷ states) keeps are = absurd are
at_stays f since number place (p ∷ ports) [] keeps are = absurd are
at_stays f since number zero (p ∷ ports) (state ∷ states) keeps are =
    (keeps.port state ∙ are.0, keeps.stations state ∙ are.1, keeps.ticks state ∙ are.2, are.3)
at_stays f since number (suc place) (p ∷ ports) (state ∷ states) keeps are =
    (are.0, are.1, are.2, at_stays f since (number + 1) place ports states keeps are.3)

of_stays : (f : PortState → PortState) (since at : ℕ) (ports : List ConfiguredPort) (states : List PortState) → Keeps f
    → AreStatesOf since 1 ports states → AreStatesOf since 1 ports (changed_of at f states)
of_stays f since at ports states keeps are = by (at == 0)
  where
    by : (b : Bool) → AreStatesOf since 1 ports (if b then states else changed_at (at - 1) f states)
    by true = are
    by false = at_stays f since 1 (at - 1) ports states keeps are

registered_ticks : (address : BipAddr) (time_to_live : ℕ) (t : Registrations) → (registered address time_to_live t).ticks ≡ t.ticks
registered_ticks address time_to_live t = by (has_room t address)
  where
    by : (b : Bool) → (if b then with_registration t address time_to_live else t).ticks ≡ t.ticks
    by true = refl
    by false = refl

deleted_ticks : (address : BipAddr) (t : Registrations) → (deleted address t).ticks ≡ t.ticks
deleted_ticks address t = by (contains t address)
  where
    by : (b : Bool) → (if b then without t address else t).ticks ≡ t.ticks
    by true = refl
    by false = refl

abbrev keeps_by : (f : PortState → PortState) → ((state : PortState) → (f state).port ≡ state.port)
    → ((state : PortState) → (f state).stations ≡ state.stations) → ((state : PortState) → (f state).fdt.ticks ≡ state.fdt.ticks) → Keeps f
keeps_by f port stations ticks = record { port = port; stations = stations; ticks = ticks }

-- ---- a tick

later_stays : (since number : ℕ) (ports : List ConfiguredPort) (states : List PortState) → AreStatesOf since number ports states
    → AreStatesOf (since + 1) number ports (map port_later states)
later_stays since number [] [] are = tt
later_stays since number [] (state ∷ states) are = absurd are
later_stays since number (p ∷ ports) [] are = absurd are
later_stays since number (p ∷ ports) (state ∷ states) are =
    (are.0, are.1, ap (λ n. n + 1) are.2, later_stays since (number + 1) ports states are.3)

-- ---- a move

pub ports_stay : (m : Option Move) (relay : Relay) (ports : List ConfiguredPort) → AreStatesOf relay.ticks 1 ports relay.ports
    → AreStatesOf (moved m relay).ticks 1 ports (moved m relay).ports
ports_stay None relay ports are = are
ports_stay (Some (move.Commit (Entries port bdt))) relay ports are =
    of_stays _ relay.ticks port ports relay.ports (keeps_by _ (λ state. refl) (λ state. refl) (λ state. refl)) are
ports_stay (Some (move.Commit (Registration port address time_to_live))) relay ports are =
    of_stays _ relay.ticks port ports relay.ports
    (keeps_by _ (λ state. refl) (λ state. refl) (λ state. registered_ticks address time_to_live state.fdt)) are
ports_stay (Some (move.Commit (Deletion port address))) relay ports are =
    of_stays _ relay.ticks port ports relay.ports (keeps_by _ (λ state. refl) (λ state. refl) (λ state. deleted_ticks address state.fdt)) are
ports_stay (Some (move.Commit (Learnings port next networks))) relay ports are = are
ports_stay (Some move.Tick) relay ports are = later_stays relay.ticks 1 ports relay.ports are

pub format_moved : (m : Option Move) (relay : Relay) → (moved m relay).format ≡ relay.format
format_moved None relay = refl
format_moved (Some (move.Commit change)) relay = refl
format_moved (Some move.Tick) relay = refl

pub announce_moved : (m : Option Move) (relay : Relay) → (moved m relay).announce ≡ relay.announce
announce_moved None relay = refl
announce_moved (Some (move.Commit change)) relay = refl
announce_moved (Some move.Tick) relay = refl

-- ---- before any event

pub ports_begin : (number : ℕ) (ports : List ConfiguredPort) → AreStatesOf 0 number ports (port_states_from number ports)
ports_begin number [] = tt
ports_begin number (p ∷ ports) = (refl, refl, refl, ports_begin (number + 1) ports)

-- ---- the numbers of the ports

-- a port is one of so many
abbrev pub IsOneOf : ℕ → Port → Type 0
IsOneOf ports port = (1 ≤ port.number) × (port.number ≤ ports)

numbered : (since number most : ℕ) (ports : List ConfiguredPort) (states : List PortState) → AreStatesOf since number ports states
    → 1 ≤ number → number + length ports ≤ most + 1 → AllByRecursion (λ state. IsOneOf most state.port) states
numbered since number most [] [] are low high = tt
numbered since number most [] (state ∷ states) are low high = absurd are
numbered since number most (p ∷ ports) [] are low high = absurd are
numbered since number most (p ∷ ports) (state ∷ states) are low high =
    let is : state.port.number ≡ number = ap (λ (port : Port). port.number) are.0 in
    ((omega (arith, is, low), omega (arith, is, high)), numbered since (number + 1) most ports states are.3 (omega arith) (omega (arith, high)))

pub ports_numbered : (since : ℕ) (ports : List ConfiguredPort) (states : List PortState) → AreStatesOf since 1 ports states
    → AllByRecursion (λ state. IsOneOf (length ports) state.port) states
ports_numbered since ports states are = numbered since 1 (length ports) ports states are (omega arith) (omega arith)
