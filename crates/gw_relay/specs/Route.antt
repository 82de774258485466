-- Routing (clauses 6.2.2, 6.4.4, 6.5): by the way of its destination, what is asked for a message
-- and what is then sent.
use Rattle.std.specs.Prelude.{ℕ, Bool, true, false, not, ◌&&◌, ◌||◌, ◌==◌, List, [], ◌∷◌, ◌++◌, length, filter, map, nat_eq}
use Rattle.std.specs.Prelude.{nat_lt, Option, Some, None, if◌then◌else◌}
use Rattle.std.specs.Int.{w16, to_be_bytes}
use Rattle.std.specs.List.{flat_map}
use Rattle.std.specs.Option.{option_map, option_map_or}
use Rattle.gw_addr.specs.declared.bip.BipAddr.{BipAddr}
use Rattle.gw_addr.specs.Address.{address_in, octets_of}
use Rattle.gw_frames.specs.declared.npdu.kind.MessageKind.{MessageKind}
use Rattle.gw_frames.specs.declared.npdu.kind.MessageKind.TheVariants.{NetworkNumberIs, RejectMessageToNetwork}
use Rattle.gw_frames.specs.declared.npdu.kind.MessageKind.TheVariants.{WhatIsNetworkNumber, WhoIsRouterToNetwork}
use Rattle.gw_frames.specs.npdu.Kind.{kind_number}
use Rattle.gw_frames.specs.npdu.Npdu.{Address, Destination, Fields, Payload, apdu, message}
use Rattle.gw_frames.specs.npdu.Onward.{onward}
use Rattle.gw_tables.specs.routes.Table.{way}
use Rattle.gw_tables.specs.declared.routes.route.Route.{Route}
use Rattle.gw_tables.specs.declared.routes.route.Way.{Way}
use Rattle.gw_tables.specs.declared.routes.route.Way.TheVariants.{Port, Router, Everywhere, Unknown}
use Rattle.gw_rules.specs.Ask.{Ask}
use Rattle.gw_rules.specs.declared.format.Format.{Format}
use Rattle.gw_rules.specs.declared.operation.Operation.TheVariants as operations
use Rattle.gw_rules.specs.declared.rule.Rule.{Rule}
use Rattle.gw_relay.specs.Asks.{bound_for, passing_ask}
use Rattle.gw_relay.specs.Message.{Message}
use Rattle.gw_relay.specs.Named.{forward_asks}
use Rattle.gw_relay.specs.Response.{Response}
use Rattle.gw_relay.specs.Sends.{Sending}
use Rattle.gw_relay.specs.State.{Relay, at_port}
use Rattle.gw_relay.specs.Stations.{belongs}
use Rattle.gw_relay.specs.Steps.{Step, asks_of, broadcast, sends_of, taken, unicast}
use Rattle.gw_relay.specs.declared.port.PortState.{PortState}
use Rattle.gw_relay.specs.declared.port.Port.{Port as RelayPort}

-- ---- fields that change (clause 6.5.4)

-- a node of a port's network, as a source names it
abbrev pub node : RelayPort → BipAddr → Address
node port address = record { network = port.network; mac = octets_of address }

-- for the next hop: DNET, DADR and hop count removed, or kept with one hop less; the source added
-- if absent
abbrev pub hop : Bool → Message → Fields
hop keeps m =
    onward (record { keeps_destination = keeps; source = node m.here.port m.link }) m.npdu

-- on the destination's own network
abbrev pub last_hop : Message → Fields
last_hop m = hop false m

-- before another router
abbrev pub next_hop : Message → Fields
next_hop m = hop true m

-- a count that is 0, or becomes 0, ends the way
abbrev pub has_hops : Destination → Bool
has_hops d = nat_lt 1 d.hops

-- ---- messages that the gateway makes (clause 6.4); they are of normal priority

-- whether a payload is a network layer message of a type
abbrev pub is_kind : MessageKind → Payload → Bool
is_kind kind (apdu octets) = false
is_kind kind (message m) = m.kind == kind_number kind

-- a network layer message of a type
abbrev pub made : Option Destination → Option Address → MessageKind → List ℕ → Fields
made destination source kind octets = record {
  destination = destination;
  source = source;
  reply_expected = false;
  priority = 0;
  payload = message (record { kind = kind_number kind; vendor = None; octets = octets });
}

-- the hop count that a message begins with (6.2.3)
abbrev pub max_hops : ℕ
max_hops = 255

-- back to a station behind another router
abbrev pub back_to : Address → Destination
back_to a = record { address = a; hops = max_hops }

-- reason 1: no way to the network is known (6.4.4)
abbrev pub unreachable : ℕ
unreachable = 1

-- Reject-Message-To-Network for a message, with the network that can't be reached (6.4.4)
abbrev pub reject : ℕ → Fields → Fields
reject network npdu =
    made (option_map back_to npdu.source) None RejectMessageToNetwork
    (unreachable ∷ to_be_bytes w16 network)

-- Who-Is-Router-To-Network for a network (6.4.1)
abbrev pub who_is_router : Option Address → ℕ → Fields
who_is_router source network = made None source WhoIsRouterToNetwork (to_be_bytes w16 network)

-- ---- what is sent by each way

-- the ports but that of this number, in order
abbrev pub others : ℕ → List PortState → List PortState
others number ports = filter (λ state. not (nat_eq state.port.number number)) ports

-- on a port's own network: to all if there is no DADR, to a BACnet/IP address that belongs to the port, or
-- to nobody
abbrev pub delivered : Format → List ℕ → Fields → PortState → List Sending
delivered format mac npdu state =
    if length mac == 0 then broadcast npdu state
    else if length mac == 6 && belongs format state (address_in mac)
    then unicast state.port.number (address_in mac) npdu
    else []

-- No way is known: the sender gets a reject, and each other port's routers are asked for one. There is
-- none of it for a Reject-Message-To-Network. The message itself isn't kept (ours).
abbrev pub reject_and_search : Relay → Message → ℕ → List Sending
reject_and_search relay m network =
    if is_kind RejectMessageToNetwork m.npdu.payload then []
    else unicast m.here.port.number m.link (reject network m.npdu)
    ++ flat_map (broadcast (who_is_router None network)) (others m.here.port.number relay.ports)

-- to the next router
abbrev pub routed : Message → Destination → Route → List Sending
routed m d route =
    if has_hops d then unicast route.port route.next (next_hop m) else []

-- by the way of the destination's network, which is one
abbrev pub forward : Relay → Message → Destination → Way → List Sending
forward relay m d (Port number) =
    at_port [] (delivered relay.format d.address.mac (last_hop m)) relay.ports number
forward relay m d (Router route) = routed m d route
forward relay m d Unknown = reject_and_search relay m d.address.network
forward relay m d other = []

-- ---- what is asked

-- the ask of a message that goes to a network
abbrev pub route_ask : Format → Message → Option ℕ → Ask
route_ask format m network = passing_ask format operations.Route m network

-- a way that doesn't lead back by the port of this number, nor to the device, which the gateway is
abbrev pub leaves : ℕ → Way → Bool
leaves number (Port other) = not (other == number)
leaves number (Router route) = not (route.port == number)
leaves number Unknown = true
leaves number other = false

-- one way, and what hangs on its asks
abbrev pub on_way : Relay → Message → Destination → Way → Step
on_way relay m d way = record {
  asks = forward_asks relay.format (route_ask relay.format m (bound_for m.npdu)) m.npdu.payload;
  sends = forward relay m d way;
}

-- what is sent on another port of a global broadcast
abbrev pub copy_to_port : Message → Destination → PortState → List Sending
copy_to_port m d state = if has_hops d then broadcast (next_hop m) state else []

-- the copy of a global broadcast for another port
abbrev pub copy : Format → Message → Destination → PortState → Step
copy format m d state = record {
  asks = forward_asks format (route_ask format m (Some state.port.network)) m.npdu.payload;
  sends = copy_to_port m d state;
}

-- by the way of DNET: a copy for each other port, or one way
abbrev pub steps_by : Relay → Message → Destination → Way → List Step
steps_by relay m d Everywhere = map (copy relay.format m d) (others m.here.port.number relay.ports)
steps_by relay m d way =
    if leaves m.here.port.number way then on_way relay m d way ∷ [] else []

-- What-Is-Network-Number and Network-Number-Is are for one network (6.4.19, 6.4.20).
abbrev pub is_local : Payload → Bool
is_local payload = is_kind WhatIsNetworkNumber payload || is_kind NetworkNumberIs payload

-- a message without DNET isn't routed
abbrev pub route_steps : Relay → Message → List Step
route_steps relay m =
    if is_local m.npdu.payload then []
    else option_map_or (λ d. steps_by relay m d (way relay.routes d.address.network))
    m.npdu.destination []

-- the asks of routing
abbrev pub route_asks : Relay → Message → List Ask
route_asks relay m = asks_of (route_steps relay m)

-- the sends of routing
abbrev pub route_sends : List Rule → Relay → Message → List Sending
route_sends rules relay m = sends_of rules (route_steps relay m)

-- what routing answers
abbrev pub route_response : List Rule → Relay → Message → Response
route_response rules relay m = taken rules (route_steps relay m)
