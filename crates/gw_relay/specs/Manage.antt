-- Network layer messages that a router answers or learns from (clauses 6.4.1, 6.4.2, 6.4.19,
-- 6.4.20): what is asked for each, what is sent, and what changes.
use Rattle.std.specs.Prelude.{ℕ, Bool, true, false, not, ◌&&◌, ◌==◌, List, [], ◌∷◌, ◌++◌, length, filter, map, Option}
use Rattle.std.specs.Prelude.{Some, None, is_some, unwrap_or, if◌then◌else◌}
use Rattle.std.specs.Int.{w16, from_be_bytes, to_be_bytes}
use Rattle.std.specs.List.{flat_map}
use Rattle.std.specs.Option.{option_map_or}
use Rattle.gw_addr.specs.Station.{is_network, network_of}
use Rattle.gw_frames.specs.declared.npdu.kind.MessageKind.TheVariants.{IAmRouterToNetwork, NetworkNumberIs}
use Rattle.gw_frames.specs.declared.npdu.kind.MessageKind.TheVariants.{WhatIsNetworkNumber, WhoIsRouterToNetwork}
use Rattle.gw_frames.specs.npdu.Npdu.{Address, Fields, payload_octets}
use Rattle.gw_frames.specs.npdu.Numbers.{every_network}
use Rattle.gw_tables.specs.routes.Table.{new_networks, reachable_from, route_by, way}
use Rattle.gw_tables.specs.declared.routes.route.Way.{Way}
use Rattle.gw_tables.specs.declared.routes.route.Way.TheVariants.{Port, Device, Router, Everywhere, Unknown}
use Rattle.gw_rules.specs.Ask.{Ask}
use Rattle.gw_rules.specs.RuleList.{allows}
use Rattle.gw_rules.specs.declared.format.Format.{Format}
use Rattle.gw_rules.specs.declared.operation.Operation.TheVariants as operations
use Rattle.gw_rules.specs.declared.rule.Rule.{Rule}
use Rattle.gw_relay.specs.Asks.{message_ask}
use Rattle.gw_relay.specs.Message.{Message}
use Rattle.gw_relay.specs.Response.{Response}
use Rattle.gw_relay.specs.Route.{is_kind, made, node, others, who_is_router}
use Rattle.gw_relay.specs.Sends.{Sending}
use Rattle.gw_relay.specs.State.{Relay}
use Rattle.gw_relay.specs.Steps.{Step, asks_of, broadcast, sends_of, step}
use Rattle.gw_relay.specs.declared.change.Change.{Change}
use Rattle.gw_relay.specs.declared.port.PortState.{PortState}
use Rattle.gw_relay.specs.declared.change.Change.TheVariants.{Learnings}

-- ---- networks in the octets of a message, each two octets (6.4.1, 6.4.2)

abbrev pub network_octets : List ℕ → List ℕ
network_octets networks = flat_map (to_be_bytes w16) networks

-- the octets are numbers of networks, from 1 to 65534, and nothing else
abbrev pub are_networks : List ℕ → Bool
are_networks [] = true
are_networks (octet ∷ []) = false
are_networks (high ∷ low ∷ octets) =
    is_network (from_be_bytes w16 (high ∷ low ∷ [])) && are_networks octets

abbrev pub networks_in : List ℕ → List ℕ
networks_in [] = []
networks_in (octet ∷ []) = []
networks_in (high ∷ low ∷ octets) = from_be_bytes w16 (high ∷ low ∷ []) ∷ networks_in octets

-- ---- messages that the gateway makes

-- I-Am-Router-To-Network for these networks (6.4.2)
abbrev pub i_am_router : List ℕ → Fields
i_am_router networks = made None None IAmRouterToNetwork (network_octets networks)

-- the number of a network is configured, not learned (6.4.20)
abbrev pub configured : ℕ
configured = 1

-- Network-Number-Is (6.4.20)
abbrev pub network_number_is : ℕ → Fields
network_number_is network =
    made None None NetworkNumberIs (to_be_bytes w16 network ++ configured ∷ [])

-- ---- messages that are for the gateway

-- no DNET, or every network
abbrev pub is_for_all : Fields → Bool
is_for_all npdu = option_map_or (λ d. d.address.network == every_network) npdu.destination true

-- Who-Is-Router-To-Network
abbrev pub is_who_is_router : Fields → Bool
is_who_is_router npdu = is_kind WhoIsRouterToNetwork npdu.payload && is_for_all npdu

-- I-Am-Router-To-Network of a router on the port's own network, for one network or more
abbrev pub is_i_am_router : Fields → Bool
is_i_am_router npdu =
    is_kind IAmRouterToNetwork npdu.payload && is_for_all npdu && not (is_some npdu.source)
    && not (length (payload_octets npdu.payload) == 0) && are_networks (payload_octets npdu.payload)

-- What-Is-Network-Number, which is for one network alone
abbrev pub is_what_is_network_number : Fields → Bool
is_what_is_network_number npdu =
    is_kind WhatIsNetworkNumber npdu.payload && not (is_some npdu.destination)
    && not (is_some npdu.source) && length (payload_octets npdu.payload) == 0

-- ---- what is asked, and what is sent

-- the ask of a network layer message, of a network if it names one
abbrev pub network_ask : Format → Message → Option ℕ → Ask
network_ask format m network = message_ask format operations.Network m network

-- the question that is passed on names who asked
abbrev pub asker : Message → Address
asker m = unwrap_or m.npdu.source (node m.here.port m.link)

-- the answer for a network, by its way: none if it is reached by the port of the question, and
-- if no way is known the other ports' routers are asked for one
abbrev pub answer_who_is_router : Relay → Message → ℕ → Way → List Sending
answer_who_is_router relay m network (Port other) =
    if other == m.here.port.number then [] else broadcast (i_am_router (network ∷ [])) m.here
answer_who_is_router relay m network Device = broadcast (i_am_router (network ∷ [])) m.here
answer_who_is_router relay m network (Router route) =
    if route.port == m.here.port.number then [] else broadcast (i_am_router (network ∷ [])) m.here
answer_who_is_router relay m network Unknown =
    flat_map (broadcast (who_is_router (Some (asker m)) network))
    (others m.here.port.number relay.ports)
answer_who_is_router relay m network Everywhere = []

-- one network is asked for
abbrev pub question_of : Relay → Message → ℕ → Step
question_of relay m network =
    step (network_ask relay.format m (Some network))
    (answer_who_is_router relay m network (way relay.routes network))

-- all networks are asked for that aren't reached by the port
abbrev pub question_of_all : Relay → Message → Step
question_of_all relay m =
    step (network_ask relay.format m None)
    (broadcast (i_am_router (reachable_from relay.routes m.here.port.number)) m.here)

-- by the octets of a Who-Is-Router-To-Network: all networks, one, or another shape
abbrev pub question_steps : Relay → Message → List ℕ → List Step
question_steps relay m [] = question_of_all relay m ∷ []
question_steps relay m (octet ∷ []) = []
question_steps relay m (high ∷ low ∷ []) =
    option_map_or (λ network. question_of relay m network ∷ [])
    (network_of (from_be_bytes w16 (high ∷ low ∷ []))) []
question_steps relay m (a ∷ b ∷ c ∷ octets) = []

-- the ask of a network that is to be learned
abbrev pub learn_ask : Format → Message → ℕ → Ask
learn_ask format m network = message_ask format operations.Learn m (Some network)

-- the number of the port's network is asked for
abbrev pub number_step : Format → Message → Step
number_step format m =
    step (network_ask format m None) (broadcast (network_number_is m.here.port.network) m.here)

-- the questions, a line a type; every other message asks nothing and gets no answer
abbrev pub answer_steps : Relay → Message → List Step
answer_steps relay m =
    if is_who_is_router m.npdu then question_steps relay m (payload_octets m.npdu.payload)
    else if is_what_is_network_number m.npdu then number_step relay.format m ∷ []
    else []

-- the networks that a router names
abbrev pub named_networks : Message → List ℕ
named_networks m = networks_in (payload_octets m.npdu.payload)

-- one ask for each of them, in order, on which no send hangs
abbrev pub learn_steps : Format → Message → List Step
learn_steps format m = map (λ n. step (learn_ask format m n) []) (named_networks m)

abbrev pub manage_steps : Relay → Message → List Step
manage_steps relay m = if is_i_am_router m.npdu then learn_steps relay.format m else answer_steps relay m

-- the asks of a network layer message
abbrev pub manage_asks : Relay → Message → List Ask
manage_asks relay m = asks_of (manage_steps relay m)

-- the networks that the policy lets be learned
abbrev pub keep_allowed : List Rule → Format → Message → List ℕ → List ℕ
keep_allowed rules format m networks = filter (λ n. allows rules (learn_ask format m n)) networks

-- ---- what is announced of it onward (6.6.3.3)

-- the networks that the table of routes learns of it for the first time
abbrev pub first_learned : List Rule → Relay → Message → List ℕ
first_learned rules relay m =
    new_networks relay.routes (keep_allowed rules relay.format m (named_networks m)) (route_by m.here.port.number m.link)

-- networks are announced on each port but that of a number; if there is none nothing is sent
abbrev pub announced_but : ℕ → List PortState → List ℕ → List Sending
announced_but number ports networks =
    if length networks == 0 then [] else flat_map (broadcast (i_am_router networks)) (others number ports)

-- Where networks are announced, those that are learned for the first time are, on each other port. One that moves to
-- another port or router isn't (ours): two gateways between two networks would pass it on without end.
unfoldable pub onward_sends : List Rule → Relay → Message → List Sending
onward_sends rules relay m =
    if relay.announce && is_i_am_router m.npdu
    then announced_but m.here.port.number relay.ports (first_learned rules relay m) else []

-- its sends
abbrev pub manage_sends : List Rule → Relay → Message → List Sending
manage_sends rules relay m = sends_of rules (manage_steps relay m) ++ onward_sends rules relay m

-- its change: they are reached by the port, and the link source is the next router
abbrev pub manage_change : List Rule → Relay → Message → Option Change
manage_change rules relay m =
    if is_i_am_router m.npdu
    then Some (Learnings m.here.port.number m.link (keep_allowed rules relay.format m (named_networks m)))
    else None

-- what is answered to it
abbrev pub manage_response : List Rule → Relay → Message → Response
manage_response rules relay m = record {
  asks = manage_asks relay m;
  sends = manage_sends rules relay m;
  change = manage_change rules relay m;
}
