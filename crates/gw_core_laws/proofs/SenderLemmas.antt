-- Each ask says who sent the datagram, and which station it is bound for, where the format names stations.
use Rattle.std.proofs.Common.{◌≡◌, sym, refl, subst, ℕ, Bool, true, false, List, [], ◌∷◌, ◌++◌, map, Option, Some, None, Result, Ok, Err}
use Rattle.std.specs.Prelude.{◌&&◌, ◌||◌, ◌==◌, is_some, not, if◌then◌else◌}
use Rattle.std.specs.Int.{w16, from_be_bytes}
use Rattle.std.specs.List.{AllByRecursion, list_all}
use Rattle.std.specs.Option.{option_map_or}
use Rattle.gw_addr.specs.declared.bip.BipAddr.{BipAddr}
use Rattle.gw_addr.specs.Station.{network_of}
use Rattle.gw_codecs.specs.apdu.Apdu.{Fields as Apdu}
use Rattle.gw_codecs.specs.apdu.Reading.{apdu_at}
use Rattle.gw_codecs.specs.declared.apdu.fault.ApduFault.{ApduFault}
use Rattle.gw_codecs.specs.declared.apdu.header.ConfirmedRequest.{ConfirmedRequest as Request}
use Rattle.gw_codecs.specs.declared.apdu.header.Header.{Header}
use Rattle.gw_codecs.specs.declared.apdu.header.Header.TheVariants as header
use Rattle.gw_codecs.specs.services.Choices.{read_property, read_property_multiple, write_property}
use Rattle.gw_codecs.specs.services.Multi.{Reference}
use Rattle.gw_codecs.specs.services.MultiReading.{multi_at}
use Rattle.gw_codecs.specs.services.Read.{Read, read_at}
use Rattle.gw_codecs.specs.services.Write.{Write, write_at}
use Rattle.gw_codecs.specs.declared.services.fault.BodyFault.{BodyFault}
use Rattle.gw_device.specs.declared.context.Context.{Context}
use Rattle.gw_device.specs.Laws.{IsSentBy}
use Rattle.gw_device.proofs.Changes.{asks_have_their_sender}
use Rattle.gw_frames.specs.declared.bvll.fault.BvllFault.{BvllFault}
use Rattle.gw_frames.specs.bvll.Bvll.{Message as Frame}
use Rattle.gw_frames.specs.bvll.Reading.{bvll_at}
use Rattle.gw_frames.specs.npdu.Npdu.{Destination, Fields, Payload, apdu, message, payload_octets}
use Rattle.gw_objects.specs.Objects.{Database}
use Rattle.gw_relay.specs.Asks.{bound_for, deleted_station, link_ask, link_asks, management_of, sender_of, station_of}
use Rattle.gw_relay.specs.Cast.{accepts, cast_ask, cast_asks, goes_on, is_carried, is_unregistered}
use Rattle.gw_relay.specs.Entry.{admits, claim_asks, enter_asks, entry_asks, is_stranger, speaks_for_others}
use Rattle.gw_relay.specs.Manage.{is_i_am_router, is_what_is_network_number, is_who_is_router, learn_ask, learn_steps, manage_asks, named_networks, question_of, question_steps}
use Rattle.gw_relay.specs.Message.{Message, message_of}
use Rattle.gw_relay.specs.Named.{apdu_asks, forward_asks, header_asks, multi_asks, named_asks, payload_asks, read_asks, reference_ask, request_asks, write_asks}
use Rattle.gw_relay.specs.Route.{copy, is_local, leaves, others, route_ask, route_asks, steps_by}
use Rattle.gw_relay.specs.State.{Relay, is_manager, port_at}
use Rattle.gw_relay.specs.Steps.{Step, asks_of}
use Rattle.gw_relay.specs.declared.port.Port.{Port}
use Rattle.gw_relay.specs.declared.port.PortState.{PortState}
use Rattle.gw_tables.specs.routes.Table.{way}
use Rattle.gw_tables.specs.declared.routes.route.Way.{Way}
use Rattle.gw_tables.specs.declared.routes.route.Way.TheVariants as ways
use Rattle.gw_rules.specs.Ask.{Ask}
use Rattle.gw_rules.specs.Format.{names_stations}
use Rattle.gw_rules.specs.RuleList.{allows}
use Rattle.gw_rules.specs.declared.format.Format.{Format}
use Rattle.gw_rules.specs.declared.format.Format.TheVariants.{One, Two, Three}
use Rattle.gw_rules.specs.declared.operation.Operation.{Operation}
use Rattle.gw_rules.specs.declared.rule.Rule.{Rule}
use Rattle.gw_rules.proofs.EachAsk.{each_both, each_weaker}
use Rattle.gw_core.specs.Asks.{asks, asks_for, message_asks}
use Rattle.gw_core.specs.Asks.{apdu_asks as apdu_asks_of}
use Rattle.gw_core.specs.Receive.{Received, admit, barred, comes_in, dropped, managed, manages, npdu_of, payload_of, receive, receive_datagram, receive_frame, receive_npdu, receive_on, unregistered}
use Rattle.gw_core.specs.Receive.{message as received_message}
use Rattle.gw_core.specs.Reply.{apdu_for, context_of}
use Rattle.gw_core.specs.State.{device_network}
use Rattle.gw_core.proofs.RespondLemmas.{four_none}
use Rattle.gw_core_laws.specs.FormatThree.{AsksNameTheirSender, AsksNameTheirStation}
use Rattle.gw_core_laws.proofs.BlindLemmas.{each_part}

-- an ask has this sender and this station
abbrev IsSent : Option ℕ → Option ℕ → Ask → Type 0
IsSent s t ask = (ask.sender ≡ s) × (ask.station ≡ t)

-- each of these has
abbrev Sent : Option ℕ → Option ℕ → List Ask → Type 0
Sent s t asks = AllByRecursion (IsSent s t) asks

sent_if : (s t : Option ℕ) (b : Bool) (xs ys : List Ask) → Sent s t xs → Sent s t ys → Sent s t (if b then xs else ys)
sent_if s t true xs ys f g = f
sent_if s t false xs ys f g = g

steps_sent_if : (s t : Option ℕ) (b : Bool) (xs ys : List Step) → Sent s t (asks_of xs) → Sent s t (asks_of ys) → Sent s t (asks_of (if b then xs else ys))
steps_sent_if s t true xs ys f g = f
steps_sent_if s t false xs ys f g = g

-- ---- what is asked after a `route` ask

sent_read : (s t : Option ℕ) (route : Ask) → IsSent s t route → (read : Result Read BodyFault) → Sent s t (read_asks route read)
sent_read s t route is (Ok r) = (is, tt)
sent_read s t route is (Err fault) = (is, tt)

sent_references : (s t : Option ℕ) (route : Ask) → IsSent s t route → (rs : List Reference) → Sent s t (map (reference_ask route) rs)
sent_references s t route is [] = tt
sent_references s t route is (r ∷ rs) = (is, sent_references s t route is rs)

sent_multi : (s t : Option ℕ) (route : Ask) → IsSent s t route → (read : Result (List Reference) BodyFault) → Sent s t (multi_asks route read)
sent_multi s t route is (Ok rs) = sent_references s t route is rs
sent_multi s t route is (Err fault) = (is, tt)

sent_write : (s t : Option ℕ) (route : Ask) → IsSent s t route → (read : Result Write BodyFault) → Sent s t (write_asks route read)
sent_write s t route is (Ok w) = (is, tt)
sent_write s t route is (Err fault) = (is, tt)

sent_request : (s t : Option ℕ) (route : Ask) → IsSent s t route → (request : Request) (body : List ℕ) → Sent s t (request_asks route request body)
sent_request s t route is request body =
    sent_if s t (is_some request.segment) _ _
    (sent_if s t (request.service == read_property || request.service == read_property_multiple) _ _ (is, tt)
    (sent_if s t (request.service == write_property) _ [] (is, tt) tt))
    (sent_if s t (request.service == read_property) _ _ (sent_read s t route is (read_at body))
    (sent_if s t (request.service == read_property_multiple) _ _ (sent_multi s t route is (multi_at body))
    (sent_if s t (request.service == write_property) _ [] (sent_write s t route is (write_at body)) tt)))

sent_header : (s t : Option ℕ) (route : Ask) → IsSent s t route → (h : Header) (body : List ℕ) → Sent s t (header_asks route h body)
sent_header s t route is (header.ConfirmedRequest request) body = sent_request s t route is request body
sent_header s t route is (header.UnconfirmedRequest service) body = tt
sent_header s t route is (header.SimpleAck invoke service) body = tt
sent_header s t route is (header.ComplexAck segment invoke service) body = tt
sent_header s t route is (header.SegmentAck invoke sequence window) body = tt
sent_header s t route is (header.Error invoke service) body = tt
sent_header s t route is (header.Reject invoke reason) body = tt
sent_header s t route is (header.Abort invoke reason) body = tt

sent_apdu : (s t : Option ℕ) (route : Ask) → IsSent s t route → (read : Result Apdu ApduFault) → Sent s t (apdu_asks route read)
sent_apdu s t route is (Ok a) = sent_header s t route is a.header a.rest
sent_apdu s t route is (Err fault) = tt

sent_payload : (s t : Option ℕ) (route : Ask) → IsSent s t route → (payload : Payload) → Sent s t (payload_asks route payload)
sent_payload s t route is (message m) = tt
sent_payload s t route is (apdu octets) = sent_apdu s t route is (apdu_at octets)

sent_behind : (s t : Option ℕ) (format : Format) (route : Ask) → IsSent s t route → (payload : Payload) → Sent s t (named_asks format route payload)
sent_behind s t One route is payload = tt
sent_behind s t Two route is payload = sent_payload s t route is payload
sent_behind s t Three route is payload = sent_payload s t route is payload

-- ---- distribution

cast_is_sent : (format : Format) (m : Message) → Sent (sender_of format m.from) (station_of format m.npdu) (cast_asks format m)
unfolding cast_asks
cast_is_sent format m =
    sent_if (sender_of format m.from) (station_of format m.npdu) (goes_on m.here m.from m.frame && is_carried m.here m.frame) _ []
    ((refl, refl), sent_if (sender_of format m.from) (station_of format m.npdu) (names_stations format) _ [] (sent_behind (sender_of format m.from) (station_of format m.npdu) format (cast_ask format m) (refl, refl) m.npdu.payload) tt) tt

-- ---- who enters and who claims

sent_enter : (format : Format) (m : Message) → Sent (sender_of format m.from) None (enter_asks format m)
sent_enter format m = sent_if (sender_of format m.from) None (is_stranger format m) _ [] ((refl, refl), tt) tt

sent_claim : (relay : Relay) (m : Message) → Sent (sender_of relay.format m.from) None (claim_asks relay m)
sent_claim relay m = sent_if (sender_of relay.format m.from) None (speaks_for_others relay m) _ [] ((refl, refl), tt) tt

entry_is_sent : (rules : List Rule) (relay : Relay) (m : Message) → Sent (sender_of relay.format m.from) None (entry_asks rules relay m)
entry_is_sent rules relay m =
    each_both (IsSent (sender_of relay.format m.from) None) (enter_asks relay.format m) _ (sent_enter relay.format m)
    (sent_if (sender_of relay.format m.from) None (list_all (allows rules) (enter_asks relay.format m)) _ [] (sent_claim relay m) tt)

-- ---- routing

sent_forward : (format : Format) (m : Message) (network : Option ℕ) → Sent (sender_of format m.from) (station_of format m.npdu) (forward_asks format (route_ask format m network) m.npdu.payload)
sent_forward format m network = ((refl, refl), sent_behind (sender_of format m.from) (station_of format m.npdu) format (route_ask format m network) (refl, refl) m.npdu.payload)

sent_one : (format : Format) (m : Message) (network : Option ℕ) → Sent (sender_of format m.from) (station_of format m.npdu) (forward_asks format (route_ask format m network) m.npdu.payload ++ [])
sent_one format m network = each_both (IsSent (sender_of format m.from) (station_of format m.npdu)) (forward_asks format (route_ask format m network) m.npdu.payload) [] (sent_forward format m network) tt

sent_copies : (format : Format) (m : Message) (d : Destination) (ports : List PortState) → Sent (sender_of format m.from) (station_of format m.npdu) (asks_of (map (copy format m d) ports))
sent_copies format m d [] = tt
sent_copies format m d (state ∷ ports) =
    each_both (IsSent (sender_of format m.from) (station_of format m.npdu)) (forward_asks format (route_ask format m (Some state.port.network)) m.npdu.payload) _
    (sent_forward format m (Some state.port.network)) (sent_copies format m d ports)

sent_way : (relay : Relay) (m : Message) (d : Destination) (by : Way) → Sent (sender_of relay.format m.from) (station_of relay.format m.npdu) (asks_of (steps_by relay m d by))
sent_way relay m d ways.Everywhere = sent_copies relay.format m d (others m.here.port.number relay.ports)
sent_way relay m d (ways.Port other) =
    steps_sent_if (sender_of relay.format m.from) (station_of relay.format m.npdu) (leaves m.here.port.number (ways.Port other)) _ [] (sent_one relay.format m (bound_for m.npdu)) tt
sent_way relay m d (ways.Router route) =
    steps_sent_if (sender_of relay.format m.from) (station_of relay.format m.npdu) (leaves m.here.port.number (ways.Router route)) _ [] (sent_one relay.format m (bound_for m.npdu)) tt
sent_way relay m d ways.Device = tt
sent_way relay m d ways.Unknown = sent_one relay.format m (bound_for m.npdu)

routing_is_sent : (relay : Relay) (m : Message) → Sent (sender_of relay.format m.from) (station_of relay.format m.npdu) (route_asks relay m)
routing_is_sent relay m = steps_sent_if (sender_of relay.format m.from) (station_of relay.format m.npdu) (is_local m.npdu.payload) [] _ tt (by m.npdu.destination)
  where
    by : (d : Option Destination) → Sent (sender_of relay.format m.from) (station_of relay.format m.npdu) (asks_of (option_map_or (λ d. steps_by relay m d (way relay.routes d.address.network)) d []))
    by None = tt
    by (Some d) = sent_way relay m d (way relay.routes d.address.network)

-- ---- network layer messages

sent_learning : (format : Format) (m : Message) (networks : List ℕ)
    → Sent (sender_of format m.from) None (asks_of (map (λ n. record { asks = learn_ask format m n ∷ []; sends = [] }) networks))
sent_learning format m [] = tt
sent_learning format m (n ∷ networks) = ((refl, refl), sent_learning format m networks)

sent_question : (relay : Relay) (m : Message) (octets : List ℕ) → Sent (sender_of relay.format m.from) None (asks_of (question_steps relay m octets))
sent_question relay m [] = ((refl, refl), tt)
sent_question relay m (a ∷ []) = tt
sent_question relay m (a ∷ b ∷ []) = by (network_of (from_be_bytes w16 (a ∷ b ∷ [])))
  where
    by : (network : Option ℕ) → Sent (sender_of relay.format m.from) None (asks_of (option_map_or (λ n. question_of relay m n ∷ []) network []))
    by None = tt
    by (Some n) = ((refl, refl), tt)
sent_question relay m (a ∷ b ∷ c ∷ octets) = tt

messages_are_sent : (relay : Relay) (m : Message) → Sent (sender_of relay.format m.from) None (manage_asks relay m)
messages_are_sent relay m =
    steps_sent_if (sender_of relay.format m.from) None (is_i_am_router m.npdu) (learn_steps relay.format m) _ (sent_learning relay.format m (named_networks m))
    (steps_sent_if (sender_of relay.format m.from) None (is_who_is_router m.npdu) (question_steps relay m (payload_octets m.npdu.payload)) _
    (sent_question relay m (payload_octets m.npdu.payload))
    (steps_sent_if (sender_of relay.format m.from) None (is_what_is_network_number m.npdu) _ [] ((refl, refl), tt) tt))

-- ---- tables of a port, and the device

sent_table : (format : Format) (port : Port) (from : BipAddr) (frame : Frame) (operation : Option Operation)
    → Sent (sender_of format from) (deleted_station format frame) (option_map_or (λ operation. if is_manager port then link_ask format port from frame operation ∷ [] else []) operation [])
sent_table format port from frame None = tt
sent_table format port from frame (Some operation) =
    sent_if (sender_of format from) (deleted_station format frame) (is_manager port) (link_ask format port from frame operation ∷ []) [] ((refl, refl), tt) tt

sent_served : (rules : List Rule) (d : Database) (context : Context) (octets : Option (List ℕ)) → Sent context.sender None (apdu_asks_of rules d context octets)
sent_served rules d context None = tt
sent_served rules d context (Some octets) =
    each_weaker (IsSentBy context.sender) (IsSent context.sender None) (λ ask by. (by.sender, by.station)) _ (asks_have_their_sender rules d context octets)

-- ---- whatever is received

-- what this address sent
abbrev Whence : BipAddr → Received → Type 0
Whence from dropped = Unit {0}
Whence from (managed on sender frame) = sender ≡ from
Whence from (unregistered m) = Unit {0}
Whence from (barred m) = m.from ≡ from
Whence from (received_message m) = m.from ≡ from

whence_npdu : (ports : List PortState) (device : ℕ) (on : PortState) (from : BipAddr) (frame : Frame) (octets : List ℕ)
    → Whence from (receive_npdu ports device on from frame octets)
whence_npdu ports device on from frame octets = by (npdu_of ports device octets)
  where
    either : (b : Bool) (m : Message) → m.from ≡ from → Whence from (if b then unregistered m else received_message m)
    either true m is = tt
    either false m is = is

    by : (npdu : Option Fields) → Whence from (elim npdu [
      | Some npdu ↦
          if is_unregistered on from frame then unregistered (message_of on from frame npdu)
          else received_message (message_of on from frame npdu)
      | None ↦ dropped
    ])
    by None = tt
    by (Some npdu) = either (is_unregistered on from frame) (message_of on from frame npdu) refl

whence_frame : (ports : List PortState) (device : ℕ) (on : PortState) (from : BipAddr) (frame : Frame)
    → Whence from (receive_frame ports device on from frame)
whence_frame ports device on from frame = by (manages frame) (accepts on from frame) (payload_of frame)
  where
    by : (manages heard : Bool) (payload : Option (List ℕ)) → Whence from (if manages then managed on from frame
        else if not heard then dropped
        else (elim payload [
          | Some octets ↦ receive_npdu ports device on from frame octets
          | None ↦ dropped
        ]))
    by true heard payload = refl
    by false false payload = tt
    by false true None = tt
    by false true (Some octets) = whence_npdu ports device on from frame octets

whence_datagram : (ports : List PortState) (device : ℕ) (on : PortState) (from : BipAddr) (octets : List ℕ)
    → Whence from (receive_datagram ports device on from octets)
whence_datagram ports device on from octets = by (comes_in on.port.address from octets) (bvll_at octets)
  where
    by : (comes : Bool) (frame : Result Frame BvllFault) → Whence from (if comes then (elim frame [
      | Ok frame ↦ receive_frame ports device on from frame
      | Err fault ↦ dropped
    ]) else dropped)
    by false frame = tt
    by true (Err fault) = tt
    by true (Ok frame) = whence_frame ports device on from frame

whence_on : (ports : List PortState) (device number : ℕ) (from : BipAddr) (octets : List ℕ)
    → Whence from (receive_on ports device number from octets)
whence_on ports device number from octets = by (port_at ports number)
  where
    by : (on : Option PortState) → Whence from (elim on [
      | Some on ↦ receive_datagram ports device on from octets
      | None ↦ dropped
    ])
    by None = tt
    by (Some on) = whence_datagram ports device on from octets

whence_admitted : (rules : List Rule) (relay : Relay) (from : BipAddr) (received : Received) → Whence from received
    → Whence from (admit rules relay received)
whence_admitted rules relay from dropped is = tt
whence_admitted rules relay from (managed on sender frame) is = is
whence_admitted rules relay from (unregistered m) is = tt
whence_admitted rules relay from (barred m) is = is
whence_admitted rules relay from (received_message m) is = by (admits rules relay m)
  where
    by : (b : Bool) → Whence from (if b then received_message m else barred m)
    by true = is
    by false = is

-- each of these has this sender
abbrev Named : Option ℕ → List Ask → Type 0
Named s asks = AllByRecursion (λ ask. ask.sender ≡ s) asks

named : (s t : Option ℕ) (asks : List Ask) → Sent s t asks → Named s asks
named s t asks each = each_weaker (IsSent s t) (λ ask. ask.sender ≡ s) (λ ask is. is.0) asks each

named_all : (rules : List Rule) (relay : Relay) (d : Database) (from : BipAddr) (received : Received) → Whence from received
    → Named (sender_of relay.format from) (asks_for rules relay d received)
named_all rules relay d from dropped is = tt
named_all rules relay d from (unregistered m) is = tt
named_all rules relay d from (managed on sender frame) is =
    subst (λ (a : BipAddr). Named (sender_of relay.format a) (asks_for rules relay d (managed on sender frame))) is
    (subst (Named (sender_of relay.format sender)) (sym (four_none (link_asks relay.format on.port sender frame)))
    (named (sender_of relay.format sender) (deleted_station relay.format frame) (link_asks relay.format on.port sender frame)
    (sent_table relay.format on.port sender frame (management_of frame))))
named_all rules relay d from (barred m) is =
    subst (λ (a : BipAddr). Named (sender_of relay.format a) (asks_for rules relay d (barred m))) is
    (subst (Named (sender_of relay.format m.from)) (sym (four_none (entry_asks rules relay m)))
    (named (sender_of relay.format m.from) None (entry_asks rules relay m) (entry_is_sent rules relay m)))
named_all rules relay d from (received_message m) is =
    let network = device_network d in
    let s = sender_of relay.format m.from in
    let t = station_of relay.format m.npdu in
    subst (λ (a : BipAddr). Named (sender_of relay.format a) (asks_for rules relay d (received_message m))) is
    (each_part (λ ask. ask.sender ≡ s) rules relay d m (named s None _ (entry_is_sent rules relay m))
    (named s t _ (cast_is_sent relay.format m)) (named s t _ (routing_is_sent relay m)) (named s None _ (messages_are_sent relay m))
    (named s None _ (sent_served rules d (context_of relay.format network m) (apdu_for network m.npdu))))

pub asks_name_their_sender : AsksNameTheirSender
unfolding asks receive
asks_name_their_sender w port from octets =
    named_all w.rules w.relay w.device from (admit w.rules w.relay (receive_on w.relay.ports (device_network w.device) port from octets))
    (whence_admitted w.rules w.relay from _ (whence_on w.relay.ports (device_network w.device) port from octets))

-- ---- the station

-- each of these has this station
abbrev Bound : Option ℕ → List Ask → Type 0
Bound t asks = AllByRecursion (λ ask. ask.station ≡ t) asks

bound : (s t : Option ℕ) (asks : List Ask) → Sent s t asks → Bound t asks
bound s t asks each = each_weaker (IsSent s t) (λ ask. ask.station ≡ t) (λ ask is. is.1) asks each

pub asks_name_their_station : AsksNameTheirStation
asks_name_their_station = record {
  deletions = λ relay on from frame.
      bound (sender_of relay.format from) (deleted_station relay.format frame) (link_asks relay.format on.port from frame)
      (sent_table relay.format on.port from frame (management_of frame));
  broadcasts = λ relay m.
      bound (sender_of relay.format m.from) (station_of relay.format m.npdu) (cast_asks relay.format m) (cast_is_sent relay.format m);
  routed = λ relay m.
      bound (sender_of relay.format m.from) (station_of relay.format m.npdu) (route_asks relay m) (routing_is_sent relay m);
  entered = λ rules relay m. bound (sender_of relay.format m.from) None (entry_asks rules relay m) (entry_is_sent rules relay m);
  answered = λ relay m. bound (sender_of relay.format m.from) None (manage_asks relay m) (messages_are_sent relay m);
  served = λ rules relay d m.
      let context = context_of relay.format (device_network d) m in
      bound context.sender None (message_asks rules relay.format d m) (sent_served rules d context (apdu_for (device_network d) m.npdu));
}
