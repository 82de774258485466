-- No ask of distribution, of routing and of a network layer message is to list an object.
use Rattle.std.proofs.Common.{ℕ, Bool, true, false, List, [], ◌∷◌, ◌++◌, map, Option, Some, None, Result, Ok, Err}
use Rattle.std.specs.Prelude.{◌&&◌, ◌||◌, ◌==◌, is_some, if◌then◌else◌}
use Rattle.std.specs.Int.{w16, from_be_bytes}
use Rattle.std.specs.List.{AllByRecursion, list_all}
use Rattle.std.specs.Option.{option_map_or}
use Rattle.gw_addr.specs.Station.{network_of}
use Rattle.gw_codecs.specs.apdu.Apdu.{Fields as Apdu}
use Rattle.gw_codecs.specs.apdu.Reading.{apdu_at}
use Rattle.gw_codecs.specs.declared.apdu.fault.ApduFault.{ApduFault}
use Rattle.gw_codecs.specs.declared.apdu.header.ConfirmedRequest.{ConfirmedRequest as Request}
use Rattle.gw_codecs.specs.declared.apdu.header.Header.{Header}
use Rattle.gw_codecs.specs.declared.apdu.header.Header.TheVariants as header
use Rattle.gw_rules.specs.declared.format.Format.{Format}
use Rattle.gw_rules.specs.declared.format.Format.TheVariants.{One, Two, Three}
use Rattle.gw_frames.specs.npdu.Npdu.{Destination, Payload, apdu, message, payload_octets}
use Rattle.gw_relay.specs.Asks.{bound_for}
use Rattle.gw_relay.specs.Cast.{cast_ask, cast_asks, goes_on, is_carried}
use Rattle.gw_relay.specs.Entry.{claim_asks, enter_asks, entry_asks, is_stranger, speaks_for_others}
use Rattle.gw_relay.specs.Manage.{is_i_am_router, is_what_is_network_number, is_who_is_router, learn_ask, learn_steps, manage_asks, named_networks, question_of, question_steps}
use Rattle.gw_relay.specs.Message.{Message}
use Rattle.gw_relay.specs.Named.{apdu_asks, forward_asks, header_asks, multi_asks, named_asks, payload_asks, read_asks, reference_ask, request_asks, write_asks}
use Rattle.gw_relay.specs.Route.{copy, is_local, leaves, others, route_ask, route_asks, steps_by}
use Rattle.gw_relay.specs.State.{Relay}
use Rattle.gw_relay.specs.Steps.{Step, asks_of}
use Rattle.gw_relay.specs.declared.port.PortState.{PortState}
use Rattle.gw_tables.specs.routes.Table.{way}
use Rattle.gw_tables.specs.declared.routes.route.Way.{Way}
use Rattle.gw_tables.specs.declared.routes.route.Way.TheVariants as ways
use Rattle.gw_rules.specs.Ask.{Ask, IsFor}
use Rattle.gw_rules.specs.Format.{names_stations}
use Rattle.gw_rules.specs.RuleList.{allows}
use Rattle.gw_rules.specs.declared.rule.Rule.{Rule}
use Rattle.gw_rules.specs.declared.operation.Operation.TheVariants as operations
use Rattle.gw_rules.proofs.EachAsk.{each_both}
use Rattle.gw_codecs.specs.services.Choices.{read_property, read_property_multiple, write_property}
use Rattle.gw_codecs.specs.services.Multi.{Reference}
use Rattle.gw_codecs.specs.services.MultiReading.{multi_at}
use Rattle.gw_codecs.specs.services.Read.{Read, read_at}
use Rattle.gw_codecs.specs.services.Write.{Write, write_at}
use Rattle.gw_codecs.specs.declared.services.fault.BodyFault.{BodyFault}

-- an ask that isn't to list
abbrev pub IsElse : Ask → Type 0
IsElse ask = IsFor operations.List ask → ⊥

-- none of these is
abbrev pub Else : List Ask → Type 0
Else asks = AllByRecursion IsElse asks

else_if : (b : Bool) (xs ys : List Ask) → Else xs → Else ys → Else (if b then xs else ys)
else_if true xs ys f g = f
else_if false xs ys f g = g

steps_if : (b : Bool) (xs ys : List Step) → Else (asks_of xs) → Else (asks_of ys) → Else (asks_of (if b then xs else ys))
steps_if true xs ys f g = f
steps_if false xs ys f g = g

-- ---- what is asked after a `route` ask

else_read : (route : Ask) (read : Result Read BodyFault) → Else (read_asks route read)
else_read route (Ok r) = (λ e. absurd cc, tt)
else_read route (Err fault) = (λ e. absurd cc, tt)

else_references : (route : Ask) (rs : List Reference) → Else (map (reference_ask route) rs)
else_references route [] = tt
else_references route (r ∷ rs) = (λ e. absurd cc, else_references route rs)

else_multi : (route : Ask) (read : Result (List Reference) BodyFault) → Else (multi_asks route read)
else_multi route (Ok rs) = else_references route rs
else_multi route (Err fault) = (λ e. absurd cc, tt)

else_write : (route : Ask) (read : Result Write BodyFault) → Else (write_asks route read)
else_write route (Ok w) = (λ e. absurd cc, tt)
else_write route (Err fault) = (λ e. absurd cc, tt)

else_request : (route : Ask) (request : Request) (body : List ℕ) → Else (request_asks route request body)
else_request route request body =
    else_if (is_some request.segment) _ _
    (else_if (request.service == read_property || request.service == read_property_multiple) _ _ (λ e. absurd cc, tt)
    (else_if (request.service == write_property) _ [] (λ e. absurd cc, tt) tt))
    (else_if (request.service == read_property) _ _ (else_read route (read_at body))
    (else_if (request.service == read_property_multiple) _ _ (else_multi route (multi_at body))
    (else_if (request.service == write_property) _ [] (else_write route (write_at body)) tt)))

else_header : (route : Ask) (h : Header) (body : List ℕ) → Else (header_asks route h body)
else_header route (header.ConfirmedRequest request) body = else_request route request body
else_header route (header.UnconfirmedRequest service) body = tt
else_header route (header.SimpleAck invoke service) body = tt
else_header route (header.ComplexAck segment invoke service) body = tt
else_header route (header.SegmentAck invoke sequence window) body = tt
else_header route (header.Error invoke service) body = tt
else_header route (header.Reject invoke reason) body = tt
else_header route (header.Abort invoke reason) body = tt

else_apdu : (route : Ask) (read : Result Apdu ApduFault) → Else (apdu_asks route read)
else_apdu route (Ok a) = else_header route a.header a.rest
else_apdu route (Err fault) = tt

else_payload : (route : Ask) (payload : Payload) → Else (payload_asks route payload)
else_payload route (message m) = tt
else_payload route (apdu octets) = else_apdu route (apdu_at octets)

else_behind : (format : Format) (route : Ask) (payload : Payload) → Else (named_asks format route payload)
else_behind One route payload = tt
else_behind Two route payload = else_payload route payload
else_behind Three route payload = else_payload route payload

-- ---- distribution

pub cast_is_else : (format : Format) (m : Message) → Else (cast_asks format m)
unfolding cast_asks
cast_is_else format m =
    else_if (goes_on m.here m.from m.frame && is_carried m.here m.frame) _ []
    (λ e. absurd cc, else_if (names_stations format) _ [] (else_behind format (cast_ask format m) m.npdu.payload) tt) tt

-- ---- who enters and who claims

else_enter : (format : Format) (m : Message) → Else (enter_asks format m)
else_enter format m = else_if (is_stranger format m) _ [] (λ e. absurd cc, tt) tt

else_claim : (relay : Relay) (m : Message) → Else (claim_asks relay m)
else_claim relay m = else_if (speaks_for_others relay m) _ [] (λ e. absurd cc, tt) tt

pub entry_is_else : (rules : List Rule) (relay : Relay) (m : Message) → Else (entry_asks rules relay m)
entry_is_else rules relay m =
    each_both IsElse (enter_asks relay.format m) _ (else_enter relay.format m)
    (else_if (list_all (allows rules) (enter_asks relay.format m)) _ [] (else_claim relay m) tt)

-- ---- routing

else_forward : (format : Format) (m : Message) (network : Option ℕ) → Else (forward_asks format (route_ask format m network) m.npdu.payload)
else_forward format m network = (λ e. absurd cc, else_behind format (route_ask format m network) m.npdu.payload)

else_one : (format : Format) (m : Message) (network : Option ℕ) → Else (forward_asks format (route_ask format m network) m.npdu.payload ++ [])
else_one format m network = each_both IsElse (forward_asks format (route_ask format m network) m.npdu.payload) [] (else_forward format m network) tt

else_copies : (format : Format) (m : Message) (d : Destination) (ports : List PortState) → Else (asks_of (map (copy format m d) ports))
else_copies format m d [] = tt
else_copies format m d (state ∷ ports) =
    each_both IsElse (forward_asks format (route_ask format m (Some state.port.network)) m.npdu.payload) _
    (else_forward format m (Some state.port.network)) (else_copies format m d ports)

else_way : (relay : Relay) (m : Message) (d : Destination) (by : Way) → Else (asks_of (steps_by relay m d by))
else_way relay m d ways.Everywhere = else_copies relay.format m d (others m.here.port.number relay.ports)
else_way relay m d (ways.Port other) =
    steps_if (leaves m.here.port.number (ways.Port other)) _ [] (else_one relay.format m (bound_for m.npdu)) tt
else_way relay m d (ways.Router route) =
    steps_if (leaves m.here.port.number (ways.Router route)) _ [] (else_one relay.format m (bound_for m.npdu)) tt
else_way relay m d ways.Device = tt
else_way relay m d ways.Unknown = else_one relay.format m (bound_for m.npdu)

pub routing_is_else : (relay : Relay) (m : Message) → Else (route_asks relay m)
routing_is_else relay m = steps_if (is_local m.npdu.payload) [] _ tt (by m.npdu.destination)
  where
    by : (d : Option Destination) → Else (asks_of (option_map_or (λ d. steps_by relay m d (way relay.routes d.address.network)) d []))
    by None = tt
    by (Some d) = else_way relay m d (way relay.routes d.address.network)

-- ---- network layer messages

else_learning : (format : Format) (m : Message) (networks : List ℕ)
    → Else (asks_of (map (λ n. record { asks = learn_ask format m n ∷ []; sends = [] }) networks))
else_learning format m [] = tt
else_learning format m (n ∷ networks) = (λ e. absurd cc, else_learning format m networks)

else_question : (relay : Relay) (m : Message) (octets : List ℕ) → Else (asks_of (question_steps relay m octets))
else_question relay m [] = (λ e. absurd cc, tt)
else_question relay m (a ∷ []) = tt
else_question relay m (a ∷ b ∷ []) = by (network_of (from_be_bytes w16 (a ∷ b ∷ [])))
  where
    by : (network : Option ℕ) → Else (asks_of (option_map_or (λ n. question_of relay m n ∷ []) network []))
    by None = tt
    by (Some n) = (λ e. absurd cc, tt)
else_question relay m (a ∷ b ∷ c ∷ octets) = tt

pub messages_are_else : (relay : Relay) (m : Message) → Else (manage_asks relay m)
messages_are_else relay m =
    steps_if (is_i_am_router m.npdu) (learn_steps relay.format m) _ (else_learning relay.format m (named_networks m))
    (steps_if (is_who_is_router m.npdu) (question_steps relay m (payload_octets m.npdu.payload)) _
    (else_question relay m (payload_octets m.npdu.payload))
    (steps_if (is_what_is_network_number m.npdu) _ [] (λ e. absurd cc, tt) tt))
