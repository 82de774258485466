-- What the relay asks and does under the first two formats of a policy, as it was before there was a third: no ask names
-- a station, a broadcast is asked for once, and a message is delivered to whatever address its DADR names.
use Rattle.std.specs.Prelude.{ℕ, Bool, not, ◌&&◌, ◌||◌, ◌==◌, List, [], ◌∷◌, length, filter, map, Option, Some, None}
use Rattle.std.specs.Prelude.{if◌then◌else◌}
use Rattle.std.specs.Int.{from_be_bytes, w16}
use Rattle.std.specs.List.{list_all}
use Rattle.std.specs.Option.{option_map_or}
use Rattle.gw_addr.specs.declared.bip.BipAddr.{BipAddr}
use Rattle.gw_addr.specs.Address.{address_in, big_endian, octets_of}
use Rattle.gw_addr.specs.Station.{key48, network_of}
use Rattle.gw_frames.specs.bvll.Bvll.{function_of, octet_of}
use Rattle.gw_frames.specs.bvll.Bvll.{Message as Frame}
use Rattle.gw_frames.specs.npdu.Npdu.{Destination, Fields, payload_octets}
use Rattle.gw_tables.specs.routes.Table.{reachable_from, way}
use Rattle.gw_tables.specs.declared.routes.route.Way.{Way}
use Rattle.gw_tables.specs.declared.routes.route.Way.TheVariants.{Port, Everywhere}
use Rattle.gw_rules.specs.Ask.{Ask, ask_of}
use Rattle.gw_rules.specs.RuleList.{allows}
use Rattle.gw_rules.specs.Service.{service_number}
use Rattle.gw_rules.specs.declared.format.Format.{Format}
use Rattle.gw_rules.specs.declared.operation.Operation.{Operation}
use Rattle.gw_rules.specs.declared.operation.Operation.TheVariants.{Cast, Route, Network, Learn}
use Rattle.gw_rules.specs.declared.rule.Rule.{Rule}
use Rattle.gw_rules.specs.declared.service.Service.TheVariants.{BvllFunction}
use Rattle.gw_relay.specs.Asks.{bound_for, management_of, service_of}
use Rattle.gw_relay.specs.Cast.{is_broadcast, passed_on, targets}
use Rattle.gw_relay.specs.Link.{answer_to, change_of, granted, is_granted, refused}
use Rattle.gw_relay.specs.Manage.{answer_who_is_router, i_am_router, is_i_am_router, is_what_is_network_number}
use Rattle.gw_relay.specs.Manage.{is_who_is_router, named_networks, network_number_is}
use Rattle.gw_relay.specs.Message.{Message}
use Rattle.gw_relay.specs.Named.{forward_asks}
use Rattle.gw_relay.specs.Plain.{plain_accepts, plain_goes_on, plain_is_unregistered}
use Rattle.gw_relay.specs.Response.{Response}
use Rattle.gw_relay.specs.Route.{copy_to_port, forward, is_local, last_hop, leaves, others}
use Rattle.gw_relay.specs.Sends.{Sending, sent}
use Rattle.gw_relay.specs.State.{Relay, at_port}
use Rattle.gw_relay.specs.Steps.{Step, asks_of, broadcast, sends_of, step, taken, unicast}
use Rattle.gw_relay.specs.declared.change.Change.{Change}
use Rattle.gw_relay.specs.declared.change.Change.TheVariants.{Learnings}
use Rattle.gw_relay.specs.declared.port.Port.{Port as RelayPort}
use Rattle.gw_relay.specs.declared.port.PortState.{PortState}

-- ---- tables of a port

abbrev pub link_ask_before : RelayPort → BipAddr → Frame → Operation → Ask
link_ask_before port from frame operation = record (ask_of operation) {
  port = Some port.number;
  source_network = Some port.network;
  source_key = Some (big_endian (octets_of from));
  service = Some (service_number (BvllFunction (octet_of (function_of frame))));
}

abbrev pub link_asks_before : RelayPort → BipAddr → Frame → List Ask
link_asks_before port from frame =
    option_map_or (λ operation. link_ask_before port from frame operation ∷ []) (management_of frame) []

abbrev pub link_grants_before : List Rule → PortState → BipAddr → Frame → Bool
link_grants_before rules state from frame =
    list_all (allows rules) (link_asks_before state.port from frame) && is_granted state from frame

abbrev pub link_response_before : List Rule → PortState → BipAddr → Frame → Response
link_response_before rules state from frame = record {
  asks = link_asks_before state.port from frame;
  sends = map (answer_to state.port from)
      (if link_grants_before rules state from frame then granted state frame else refused frame);
  change = if link_grants_before rules state from frame then change_of state.port from frame else None;
}

-- ---- broadcasts

-- the ask of a message that goes to a network
abbrev pub message_ask_before : Operation → Message → Option ℕ → Ask
message_ask_before operation m destination = record (ask_of operation) {
  port = Some m.here.port.number;
  source_network = Some m.claim.net;
  source_key = key48 m.claim.mac;
  destination_network = destination;
  service = service_of m.npdu.payload;
}

abbrev pub cast_asks_before : Message → List Ask
cast_asks_before m =
    if plain_goes_on m.here m.from m.frame && is_broadcast m.frame
    then message_ask_before Cast m (bound_for m.npdu) ∷ [] else []

abbrev pub cast_sends_before : List Rule → Message → List Sending
cast_sends_before rules m =
    if not (plain_accepts m.here m.from m.frame) then []
    else if plain_is_unregistered m.here m.from m.frame || not (list_all (allows rules) (cast_asks_before m))
    then map (answer_to m.here.port m.from) (refused m.frame)
    else sent m.here.port.number (targets m.here m.from m.frame) (passed_on m.from m.frame)

abbrev pub cast_response_before : List Rule → Message → Response
cast_response_before rules m =
    record { asks = cast_asks_before m; sends = cast_sends_before rules m; change = None }

-- ---- routing

-- on a port's own network: to all if there is no DADR, to a BACnet/IP address, or to nobody
abbrev pub delivered_before : List ℕ → Fields → PortState → List Sending
delivered_before mac npdu state =
    if length mac == 0 then broadcast npdu state
    else if length mac == 6 then unicast state.port.number (address_in mac) npdu
    else []

abbrev pub forward_before : Relay → Message → Destination → Way → List Sending
forward_before relay m d (Port number) =
    at_port [] (delivered_before d.address.mac (last_hop m)) relay.ports number
forward_before relay m d other = forward relay m d other

abbrev pub on_way_before : Relay → Message → Destination → Way → Step
on_way_before relay m d by = record {
  asks = forward_asks relay.format (message_ask_before Route m (bound_for m.npdu)) m.npdu.payload;
  sends = forward_before relay m d by;
}

abbrev pub copy_before : Format → Message → Destination → PortState → Step
copy_before format m d state = record {
  asks = forward_asks format (message_ask_before Route m (Some state.port.network)) m.npdu.payload;
  sends = copy_to_port m d state;
}

abbrev pub steps_before : Relay → Message → Destination → Way → List Step
steps_before relay m d Everywhere =
    map (copy_before relay.format m d) (others m.here.port.number relay.ports)
steps_before relay m d by = if leaves m.here.port.number by then on_way_before relay m d by ∷ [] else []

abbrev pub route_steps_before : Relay → Message → List Step
route_steps_before relay m =
    if is_local m.npdu.payload then []
    else option_map_or (λ d. steps_before relay m d (way relay.routes d.address.network)) m.npdu.destination []

abbrev pub route_response_before : List Rule → Relay → Message → Response
route_response_before rules relay m = taken rules (route_steps_before relay m)

-- ---- network layer messages

abbrev pub question_before : Relay → Message → ℕ → Step
question_before relay m network =
    step (message_ask_before Network m (Some network))
    (answer_who_is_router relay m network (way relay.routes network))

abbrev pub questions_before : Relay → Message → List ℕ → List Step
questions_before relay m [] =
    step (message_ask_before Network m None)
    (broadcast (i_am_router (reachable_from relay.routes m.here.port.number)) m.here) ∷ []
questions_before relay m (octet ∷ []) = []
questions_before relay m (high ∷ low ∷ []) =
    option_map_or (λ network. question_before relay m network ∷ [])
    (network_of (from_be_bytes w16 (high ∷ low ∷ []))) []
questions_before relay m (a ∷ b ∷ c ∷ octets) = []

abbrev pub answers_before : Relay → Message → List Step
answers_before relay m =
    if is_who_is_router m.npdu then questions_before relay m (payload_octets m.npdu.payload)
    else if is_what_is_network_number m.npdu
    then step (message_ask_before Network m None) (broadcast (network_number_is m.here.port.network) m.here) ∷ []
    else []

-- the ask of a network that is to be learned
abbrev pub learn_ask_before : Message → ℕ → Ask
learn_ask_before m network = message_ask_before Learn m (Some network)

abbrev pub manage_steps_before : Relay → Message → List Step
manage_steps_before relay m =
    if is_i_am_router m.npdu then map (λ n. step (learn_ask_before m n) []) (named_networks m)
    else answers_before relay m

abbrev pub manage_change_before : List Rule → Message → Option Change
manage_change_before rules m =
    if is_i_am_router m.npdu
    then Some (Learnings m.here.port.number m.link
    (filter (λ n. allows rules (learn_ask_before m n)) (named_networks m)))
    else None

abbrev pub manage_response_before : List Rule → Relay → Message → Response
manage_response_before rules relay m = record {
  asks = asks_of (manage_steps_before relay m);
  sends = sends_of rules (manage_steps_before relay m);
  change = manage_change_before rules m;
}
