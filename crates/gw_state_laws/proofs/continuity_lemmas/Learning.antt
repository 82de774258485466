-- What an event is granted to learn is learned by one of the ports.
use Rattle.std.proofs.Common.{◌≡◌, ap, refl, subst, ℕ, ◌≤◌, Bool, true, false, List, if◌then◌else◌, Option, Some, None}
use Rattle.std.specs.Option.{option_map}
use Rattle.std.specs.List.{AllByRecursion}
use Rattle.gw_addr.specs.declared.bip.BipAddr.{BipAddr}
use Rattle.gw_frames.specs.bvll.Bvll.{Message as Frame}
use Rattle.gw_frames.specs.bvll.Bvll as frames
use Rattle.gw_relay.specs.Link.{change_of, link_change, link_grants}
use Rattle.gw_relay.specs.Manage.{is_i_am_router, keep_allowed, named_networks}
use Rattle.gw_relay.specs.State.{Move, Relay, moved}
use Rattle.gw_relay.specs.State as move
use Rattle.gw_relay.specs.declared.change.Change.{Change}
use Rattle.gw_relay.specs.declared.change.Change.TheVariants.{Entries, Registration, Deletion, Learnings}
use Rattle.gw_relay.specs.declared.port.Port.{Port}
use Rattle.gw_relay.specs.declared.port.PortState.{PortState}
use Rattle.gw_tables.specs.routes.Table.{Routed, route_by}
use Rattle.gw_rules.specs.declared.format.Format.{Format}
use Rattle.gw_rules.specs.declared.rule.Rule.{Rule}
use Rattle.gw_script.specs.Event.{Event, Datagram, Tick}
use Rattle.gw_core.specs.Effects.{move_at, relay_change_for}
use Rattle.gw_core.specs.Receive.{Received, barred, dropped, managed, message, receive, unregistered}
use Rattle.gw_core.specs.State.{State, device_network}
use Rattle.gw_state_laws.specs.continuity.StateOf.{IsTableOf}
use Rattle.gw_state_laws.proofs.continuity_lemmas.PortMoves.{IsOneOf}
use Rattle.gw_state_laws.proofs.continuity_lemmas.Routes.{each_stays}
use Rattle.gw_core_laws.proofs.Whence.{Heard, heard_at}

-- the port that a change learns by
abbrev port_learned : Option Change → ℕ
port_learned (Some (Learnings port next networks)) = port
port_learned _ = 0

abbrev Learns : ℕ → Option Change → Type 0
Learns ports change =
    (port : ℕ) (next : BipAddr) (networks : List ℕ) → change ≡ Some (Learnings port next networks) → (1 ≤ port) × (port ≤ ports)

of_frame : (ports : ℕ) (port : Port) (from : BipAddr) (frame : Frame) → Learns ports (change_of port from frame)
of_frame ports port from (frames.result_code code) = λ number next networks e. absurd cc
of_frame ports port from (frames.write_bdt entries) = λ number next networks e. absurd cc
of_frame ports port from frames.read_bdt = λ number next networks e. absurd cc
of_frame ports port from (frames.read_bdt_ack entries) = λ number next networks e. absurd cc
of_frame ports port from (frames.forwarded originator npdu) = λ number next networks e. absurd cc
of_frame ports port from (frames.register time_to_live) = λ number next networks e. absurd cc
of_frame ports port from frames.read_fdt = λ number next networks e. absurd cc
of_frame ports port from (frames.read_fdt_ack entries) = λ number next networks e. absurd cc
of_frame ports port from (frames.delete address) = λ number next networks e. absurd cc
of_frame ports port from (frames.distribute npdu) = λ number next networks e. absurd cc
of_frame ports port from (frames.original_unicast npdu) = λ number next networks e. absurd cc
of_frame ports port from (frames.original_broadcast npdu) = λ number next networks e. absurd cc

of_managed : (ports : ℕ) (rules : List Rule) (format : Format) (on : PortState) (from : BipAddr) (frame : Frame)
    → Learns ports (link_change rules format on from frame)
unfolding link_change
of_managed ports rules format on from frame = by (link_grants rules format on from frame)
  where
    by : (b : Bool) → Learns ports (if b then change_of on.port from frame else None)
    by true = of_frame ports on.port from frame
    by false = λ port next networks e. absurd cc

of_received : (ports : ℕ) (rules : List Rule) (relay : Relay) (device : ℕ) (received : Received)
    → Heard relay.ports device (λ state. IsOneOf ports state.port) received → Learns ports (relay_change_for rules relay received)
of_received ports rules relay device dropped heard = λ port next networks e. absurd cc
of_received ports rules relay device (managed on from frame) heard = of_managed ports rules relay.format on from frame
of_received ports rules relay device (unregistered m) heard = λ port next networks e. absurd cc
of_received ports rules relay device (barred m) heard = λ port next networks e. absurd cc
of_received ports rules relay device (message m) heard = by (is_i_am_router m.npdu)
  where
    by : (b : Bool) → Learns ports (if b
        then Some (Learnings m.here.port.number m.link (keep_allowed rules relay.format m (named_networks m)))
        else None)
    by true = λ port next networks e.
        let same : m.here.port.number ≡ port = ap port_learned e in
        subst (λ (n : ℕ). (1 ≤ n) × (n ≤ ports)) same heard.port
    by false = λ port next networks e. absurd cc

changed_stays : (ports : ℕ) (direct : List ℕ) (configured : Routed) (change : Option Change) (relay : Relay) → Learns ports change
    → IsTableOf ports direct configured relay.routes → IsTableOf ports direct configured (moved (option_map move.Commit change) relay).routes
changed_stays ports direct configured None relay learns is = is
changed_stays ports direct configured (Some (Entries port bdt)) relay learns is = is
changed_stays ports direct configured (Some (Registration port address time_to_live)) relay learns is = is
changed_stays ports direct configured (Some (Deletion port address)) relay learns is = is
changed_stays ports direct configured (Some (Learnings port next networks)) relay learns is =
    let within = learns port next networks refl in
    each_stays ports direct configured networks relay.routes (route_by port next) within.0 within.1 is

-- the table of the next state is one of the ports
pub table_stays : (ports : ℕ) (direct : List ℕ) (configured : Routed) (w : State) (e : Event)
    → AllByRecursion (λ state. IsOneOf ports state.port) w.relay.ports → IsTableOf ports direct configured w.relay.routes
    → IsTableOf ports direct configured (moved (move_at w e) w.relay).routes
unfolding move_at
table_stays ports direct configured w (Datagram port from octets) each is =
    changed_stays ports direct configured (relay_change_for w.rules w.relay (receive w (Datagram port from octets))) w.relay
    (of_received ports w.rules w.relay (device_network w.device) (receive w (Datagram port from octets))
    (heard_at w (λ state. IsOneOf ports state.port) (Datagram port from octets) each)) is
table_stays ports direct configured w Tick each is = is
