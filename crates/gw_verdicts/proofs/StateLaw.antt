-- What is configured of a gateway stays, whatever comes, and is that of the configuration that it goes by.
use Rattle.std.proofs.Common.{◌≡◌, ◌∙◌, sym, ap, refl, subst, ℕ, zero, suc, ◌+◌, ◌-◌, Bool, true, false, List, [], ◌∷◌, map, Option, Some, None}
use Rattle.std.specs.Prelude.{◌==◌, if◌then◌else◌}
use Rattle.gw_configuration.specs.Configuration.{Configuration}
use Rattle.gw_configuration.specs.declared.port.Port.{Port as ConfiguredPort}
use Rattle.gw_core.specs.Effects.{change_at, changed, move_at}
use Rattle.gw_core.specs.History.{acts_of, next, state_after, state_from, written}
use Rattle.gw_core.specs.State.{State}
use Rattle.gw_core.specs.declared.event.Counts.{Counts}
use Rattle.gw_core.proofs.HistoryLemmas.{state_next}
use Rattle.gw_objects.specs.Objects.{Database}
use Rattle.gw_objects.specs.Write.{Write}
use Rattle.gw_relay.specs.Initial.{direct_of, port_states_from, port_states_with, routed_of}
use Rattle.gw_relay.specs.State.{Move, Relay, changed_at, changed_of, deleted, moved, moved_by, port_later, registered}
use Rattle.gw_relay.specs.State as move
use Rattle.gw_tables.specs.routes.Table.{Routed, Table, grants, learned_by, route_by, table_of, with_each, with_granted, with_learned}
use Rattle.gw_tables.specs.declared.routes.route.Route.{Route}
use Rattle.gw_relay.specs.declared.change.Change.TheVariants.{Entries, Registration, Deletion, Learnings}
use Rattle.gw_relay.specs.declared.port.PortState.{PortState}
use Rattle.gw_script.specs.Event.{Event}
use Rattle.gw_state.specs.Carried.{routes_carried, tables_carried}
use Rattle.gw_state.specs.declared.port.SavedPort.{SavedPort}
use Rattle.gw_verdicts.specs.States.{ArePortsOf, CarriedAreUnder, HistoriesAreUnder, IsStateUnder, StatesStayUnder}

-- ---- the ports

-- a change of a state that leaves the port and its stations
record Keeps (f : PortState → PortState) : Type 0 where
  port : (state : PortState) → (f state).port ≡ state.port
  stations : (state : PortState) → (f state).stations ≡ state.stations

abbrev keeps_by : (f : PortState → PortState) → ((state : PortState) → (f state).port ≡ state.port)
    → ((state : PortState) → (f state).stations ≡ state.stations) → Keeps f
keeps_by f port stations = record { port = port; stations = stations }

at_stays : (f : PortState → PortState) (number place : ℕ) (ports : List ConfiguredPort) (states : List PortState) → Keeps f
    → ArePortsOf number ports states → ArePortsOf number ports (changed_at place f states)
at_stays f number place [] [] keeps are = tt
at_stays f number place [] (state ∷ states) keeps are = absurd are
at_stays f number place (p ∷ ports) [] keeps are = absurd are
at_stays f number zero (p ∷ ports) (state ∷ states) keeps are = (keeps.port state ∙ are.0, keeps.stations state ∙ are.1, are.2)
at_stays f number (suc place) (p ∷ ports) (state ∷ states) keeps are =
    (are.0, are.1, at_stays f (number + 1) place ports states keeps are.2)

of_stays : (f : PortState → PortState) (at : ℕ) (ports : List ConfiguredPort) (states : List PortState) → Keeps f
    → ArePortsOf 1 ports states → ArePortsOf 1 ports (changed_of at f states)
of_stays f at ports states keeps are = by (at == 0)
  where
    by : (b : Bool) → ArePortsOf 1 ports (if b then states else changed_at (at - 1) f states)
    by true = are
    by false = at_stays f 1 (at - 1) ports states keeps are

later_stays : (number : ℕ) (ports : List ConfiguredPort) (states : List PortState) → ArePortsOf number ports states
    → ArePortsOf number ports (map port_later states)
later_stays number [] [] are = tt
later_stays number [] (state ∷ states) are = absurd are
later_stays number (p ∷ ports) [] are = absurd are
later_stays number (p ∷ ports) (state ∷ states) are = (are.0, are.1, later_stays (number + 1) ports states are.2)

ports_stay : (m : Option Move) (relay : Relay) (ports : List ConfiguredPort) → ArePortsOf 1 ports relay.ports
    → ArePortsOf 1 ports (moved m relay).ports
ports_stay None relay ports are = are
ports_stay (Some (move.Commit (Entries port bdt))) relay ports are =
    of_stays _ port ports relay.ports (keeps_by _ (λ state. refl) (λ state. refl)) are
ports_stay (Some (move.Commit (Registration port address time_to_live))) relay ports are =
    of_stays _ port ports relay.ports (keeps_by _ (λ state. refl) (λ state. refl)) are
ports_stay (Some (move.Commit (Deletion port address))) relay ports are =
    of_stays _ port ports relay.ports (keeps_by _ (λ state. refl) (λ state. refl)) are
ports_stay (Some (move.Commit (Learnings port next networks))) relay ports are = are
ports_stay (Some move.Tick) relay ports are = later_stays 1 ports relay.ports are

format_moved : (m : Option Move) (relay : Relay) → (moved m relay).format ≡ relay.format
format_moved None relay = refl
format_moved (Some (move.Commit change)) relay = refl
format_moved (Some move.Tick) relay = refl

announce_moved : (m : Option Move) (relay : Relay) → (moved m relay).announce ≡ relay.announce
announce_moved None relay = refl
announce_moved (Some (move.Commit change)) relay = refl
announce_moved (Some move.Tick) relay = refl

-- what is learned leaves the networks that the gateway reaches itself
direct_granted : (t : Table) (net : ℕ) (route : Route) → (with_granted t net route).direct ≡ t.direct
direct_granted t net route = by (grants t net)
  where
    by : (b : Bool) → (if b then with_learned t net route else t).direct ≡ t.direct
    by true = refl
    by false = refl

direct_each : (nets : List ℕ) (t : Table) (route : Route) → (with_each t nets route).direct ≡ t.direct
direct_each [] t route = refl
direct_each (net ∷ nets) t route = direct_each nets (with_granted t net route) route ∙ direct_granted t net route

direct_by : (learned : Routed) (t : Table) → (learned_by t learned).direct ≡ t.direct
direct_by [] t = refl
direct_by (learning ∷ learned) t =
    direct_by learned (with_granted t learning.0 learning.1) ∙ direct_granted t learning.0 learning.1

direct_moved : (m : Option Move) (relay : Relay) → (moved m relay).routes.direct ≡ relay.routes.direct
direct_moved None relay = refl
direct_moved (Some (move.Commit (Entries port bdt))) relay = refl
direct_moved (Some (move.Commit (Registration port address time_to_live))) relay = refl
direct_moved (Some (move.Commit (Deletion port address))) relay = refl
direct_moved (Some (move.Commit (Learnings port next networks))) relay = direct_each networks relay.routes (route_by port next)
direct_moved (Some move.Tick) relay = refl

device_stays : (granted : Option Write) (d : Database) → (changed granted d).configured ≡ d.configured
device_stays None d = refl
device_stays (Some write) d = refl

-- ---- an event later

next_is : (c : Configuration) (w : State) (e : Event) → IsStateUnder c w → IsStateUnder c (next w e)
unfolding next
next_is c w e is = record {
  format = format_moved (move_at w e) w.relay ∙ is.format;
  announce = announce_moved (move_at w e) w.relay ∙ is.announce;
  direct = direct_moved (move_at w e) w.relay ∙ is.direct;
  ports = ports_stay (move_at w e) w.relay c.ports is.ports;
  device = device_stays (change_at w e) w.device ∙ is.device;
  rules = is.rules;
}

-- ---- at first

ports_begin : (number : ℕ) (ports : List ConfiguredPort) → ArePortsOf number ports (port_states_from number ports)
ports_begin number [] = tt
ports_begin number (p ∷ ports) = (refl, refl, ports_begin (number + 1) ports)

begins : (c : Configuration) (k : Counts) → IsStateUnder c (state_after c k [])
unfolding acts_of moved_by written
begins c k = record { format = refl; announce = refl; direct = refl; ports = ports_begin 1 c.ports; device = refl; rules = refl }

ports_carried : (since number : ℕ) (ports : List ConfiguredPort) (saved : List SavedPort)
    → ArePortsOf number ports (port_states_with number ports (tables_carried since ports saved))
ports_carried since number [] saved = tt
ports_carried since number (p ∷ ports) saved = (refl, refl, ports_carried since (number + 1) ports saved)

-- ---- the laws

pub histories_are_under : HistoriesAreUnder
histories_are_under c k [] = begins c k
histories_are_under c k (e ∷ h) =
    subst (IsStateUnder c) (sym (state_next c k h e)) (next_is c (state_after c k h) e (histories_are_under c k h))

pub carried_are_under : CarriedAreUnder
carried_are_under c s =
    record {
      format = refl;
      announce = refl;
      direct = direct_by (routes_carried c.ports s) (table_of (direct_of c) (map routed_of c.routes) []);
      ports = ports_carried s.counts.since 1 c.ports s.ports;
      device = refl;
      rules = refl;
    }

pub states_stay_under : StatesStayUnder
unfolding state_from
states_stay_under c w [] is = is
states_stay_under c w (e ∷ l) is = states_stay_under c (next w e) l (next_is c w e is)

pub next_under : (c : Configuration) (w : State) (e : Event) → IsStateUnder c w → IsStateUnder c (next w e)
next_under = next_is
