-- Under the third format the relay asks and does what it does under the second, but for the two fields, where no port has
-- stations and no rule says anything of the two fields.
use Rattle.std.proofs.Common.{◌≡◌, ◌∙◌, sym, ap, ap₂, refl, ℕ, zero, suc, ◌-◌, Bool, true, false, ◌&&◌, ◌||◌, cond, not, List, [], ◌∷◌, ◌++◌, length, map, slice_get, Option, Some, None, Result, Ok, Err}
use Rattle.std.specs.Prelude.{◌==◌, if◌then◌else◌, is_some, IfSome}
use Rattle.std.specs.Int.{from_be_bytes, w16}
use Rattle.std.specs.List.{list_all}
use Rattle.std.specs.Option.{option_map_or}
use Rattle.std.proofs.lemmas.List.{map-append}
use Rattle.gw_addr.specs.declared.bip.BipAddr.{BipAddr}
use Rattle.gw_addr.specs.Address.{address_in}
use Rattle.gw_addr.specs.Station.{network_of}
use Rattle.gw_codecs.specs.apdu.Apdu.{Fields as Apdu}
use Rattle.gw_codecs.specs.apdu.Reading.{apdu_at}
use Rattle.gw_codecs.specs.declared.apdu.fault.ApduFault.{ApduFault}
use Rattle.gw_codecs.specs.declared.apdu.header.Header.{Header}
use Rattle.gw_codecs.specs.declared.apdu.header.Header.TheVariants as header
use Rattle.gw_codecs.specs.declared.services.fault.BodyFault.{BodyFault}
use Rattle.gw_codecs.specs.services.Choices.{read_property, read_property_multiple, write_property}
use Rattle.gw_codecs.specs.services.Multi.{Reference}
use Rattle.gw_codecs.specs.services.MultiReading.{multi_at}
use Rattle.gw_codecs.specs.services.Read.{Read, read_at}
use Rattle.gw_codecs.specs.services.Write.{Write, write_at}
use Rattle.gw_frames.specs.bvll.Bvll.{Message as Frame}
use Rattle.gw_frames.specs.bvll.Bvll as bvll
use Rattle.gw_frames.specs.npdu.Npdu.{Destination, Fields, Payload, apdu, message, payload_octets}
use Rattle.gw_tables.specs.routes.Table.{reachable_from, way}
use Rattle.gw_tables.specs.declared.routes.route.Way.{Way}
use Rattle.gw_tables.specs.declared.routes.route.Way.TheVariants as ways
use Rattle.gw_tables.specs.bdt_fdt.Registrations.{contains}
use Rattle.gw_configuration.specs.Subnet.{Subnet}
use Rattle.gw_rules.specs.Ask.{Ask}
use Rattle.gw_rules.specs.Format.{names_stations}
use Rattle.gw_rules.specs.RuleList.{allows}
use Rattle.gw_rules.specs.declared.format.Format.TheVariants.{Two, Three}
use Rattle.gw_rules.specs.declared.operation.Operation.{Operation}
use Rattle.gw_rules.specs.declared.operation.Operation.TheVariants as operations
use Rattle.gw_rules.specs.declared.rule.Rule.{Rule}
use Rattle.gw_relay.specs.Asks.{bound_for, deleted_station, link_ask, link_asks, management_of, message_ask}
use Rattle.gw_relay.specs.Cast.{accepts, cast_ask, cast_asks, cast_sends, carried_asks, goes_on, is_broadcast, is_carried, is_unregistered, passed_on, targets}
use Rattle.gw_relay.specs.Entry.{claim_asks, enter_ask, enters, entry_asks, is_stranger}
use Rattle.gw_relay.specs.Link.{answer_to, change_of, granted, is_granted, is_misplaced, link_answer, link_change, refused}
use Rattle.gw_tables.specs.routes.Table.{new_networks, route_by}
use Rattle.gw_relay.specs.Manage.{announced_but, onward_sends, answer_steps, answer_who_is_router, i_am_router, is_i_am_router, network_number_is, is_what_is_network_number, is_who_is_router, keep_allowed, learn_ask, learn_steps, manage_change, manage_steps, named_networks, network_ask, number_step, question_of, question_steps}
use Rattle.gw_relay.specs.Message.{Message}
use Rattle.gw_relay.specs.Named.{apdu_asks, body_asks, forward_asks, header_asks, multi_asks, payload_asks, read_asks, reference_ask, segment_asks, write_asks}
use Rattle.gw_relay.specs.Route.{copy, copy_to_port, delivered, forward, is_local, last_hop, leaves, on_way, others, route_ask, route_steps, steps_by}
use Rattle.gw_relay.specs.Sends.{Sending, sent}
use Rattle.gw_relay.specs.State.{Relay, is_manager, port_at}
use Rattle.gw_relay.specs.Stations.{belongs, is_station}
use Rattle.gw_relay.specs.Steps.{Step, asks_of, broadcast, sends_of, step, unicast}
use Rattle.gw_relay.specs.declared.change.Change.TheVariants.{Learnings}
use Rattle.gw_relay.specs.declared.port.Port.{Port}
use Rattle.gw_relay.specs.declared.port.PortState.{PortState}
use Rattle.gw_core_laws.specs.FormatThree.{HaveNoStations, IsKeyedAlike, NameNoStation, apdu_names, header_names, is_property_request, unstationed}
use Rattle.gw_core_laws.proofs.UnstationedLemmas.{all_alike, allowed_alike}

-- a relay of the third format, and of the second
abbrev pub relay_three : Relay → Relay
relay_three relay = record relay { format = Three }

abbrev pub relay_two : Relay → Relay
relay_two relay = record relay { format = Two }

-- a step whose asks are without the two fields
abbrev pub unstationed_step : Step → Step
unstationed_step s = record s { asks = map unstationed s.asks }

-- a step of these asks and these sends
abbrev step_so : List Ask → List Sending → Step
step_so asks sends = record { asks = asks; sends = sends }

-- the ask of a message whose source has one key in both formats
message_alike : (m : Message) → IsKeyedAlike m → (operation : Operation) (destination : Option ℕ)
    → unstationed (message_ask Three operation m destination) ≡ message_ask Two operation m destination
message_alike m keyed operation destination =
    ap (λ (key : Option ℕ). record (message_ask Two operation m destination) { source_key = key }) keyed

-- a port without stations
abbrev pub HasNone : PortState → Type 0
HasNone state = state.stations ≡ []

-- ---- a request that names properties

named_read : (route : Ask) (read : Result Read BodyFault) → map unstationed (read_asks route read) ≡ read_asks (unstationed route) read
named_read route (Ok r) = refl
named_read route (Err fault) = refl

named_references : (route : Ask) (rs : List Reference)
    → map unstationed (map (reference_ask route) rs) ≡ map (reference_ask (unstationed route)) rs
named_references route [] = refl
named_references route (r ∷ rs) =
    ap (λ (l : List Ask). reference_ask (unstationed route) r ∷ l) (named_references route rs)

named_multi : (route : Ask) (read : Result (List Reference) BodyFault) → map unstationed (multi_asks route read) ≡ multi_asks (unstationed route) read
named_multi route (Ok rs) = named_references route rs
named_multi route (Err fault) = refl

named_write : (route : Ask) (read : Result Write BodyFault) → map unstationed (write_asks route read) ≡ write_asks (unstationed route) read
named_write route (Ok w) = refl
named_write route (Err fault) = refl

if_asks : (b : Bool) (x y v w : List Ask) → map unstationed x ≡ v → map unstationed y ≡ w
    → map unstationed (if b then x else y) ≡ (if b then v else w)
if_asks true x y v w e f = e
if_asks false x y v w e f = f

named_body : (route : Ask) (service : ℕ) (body : List ℕ) → map unstationed (body_asks route service body) ≡ body_asks (unstationed route) service body
named_body route service body =
    if_asks (service == read_property) _ _ _ _ (named_read route (read_at body))
    (if_asks (service == read_property_multiple) _ _ _ _ (named_multi route (multi_at body))
    (if_asks (service == write_property) _ [] _ [] (named_write route (write_at body)) refl))

named_segment : (route : Ask) (service : ℕ) → map unstationed (segment_asks route service) ≡ segment_asks (unstationed route) service
named_segment route service =
    if_asks (service == read_property || service == read_property_multiple) _ _ _ _ refl
    (if_asks (service == write_property) _ [] _ [] refl refl)

named_header : (route : Ask) (by : Header) (body : List ℕ) → map unstationed (header_asks route by body) ≡ header_asks (unstationed route) by body
named_header route (header.ConfirmedRequest request) body =
    if_asks (is_some request.segment) _ _ _ _ (named_segment route request.service) (named_body route request.service body)
named_header route (header.UnconfirmedRequest service) body = refl
named_header route (header.SimpleAck invoke service) body = refl
named_header route (header.ComplexAck segment invoke service) body = refl
named_header route (header.SegmentAck invoke sequence window) body = refl
named_header route (header.Error invoke service) body = refl
named_header route (header.Reject invoke reason) body = refl
named_header route (header.Abort invoke reason) body = refl

named_apdu : (route : Ask) (x : Result Apdu ApduFault) → map unstationed (apdu_asks route x) ≡ apdu_asks (unstationed route) x
named_apdu route (Ok x) = named_header route x.header x.rest
named_apdu route (Err fault) = refl

named_payload : (route : Ask) (payload : Payload) → map unstationed (payload_asks route payload) ≡ payload_asks (unstationed route) payload
named_payload route (message m) = refl
named_payload route (apdu octets) = named_apdu route (apdu_at octets)

forwarded : (route : Ask) (payload : Payload)
    → map unstationed (forward_asks Three route payload) ≡ forward_asks Two (unstationed route) payload
forwarded route payload = ap (λ (l : List Ask). unstationed route ∷ l) (named_payload route payload)

-- ---- a payload that names none

by_service : (a b c : Bool) (x y z : List Ask) → (a || (b || c)) ≡ false
    → (if a then x else if b then y else if c then z else []) ≡ []
by_service true b c x y z e = absurd cc
by_service false true c x y z e = absurd cc
by_service false false true x y z e = absurd cc
by_service false false false x y z e = refl

by_segment : (a b c : Bool) (x y : List Ask) → (a || (b || c)) ≡ false
    → (if a || b then x else if c then y else []) ≡ []
by_segment true b c x y e = absurd cc
by_segment false true c x y e = absurd cc
by_segment false false true x y e = absurd cc
by_segment false false false x y e = refl

either_none : (b : Bool) (x y : List Ask) → x ≡ [] → y ≡ [] → (if b then x else y) ≡ []
either_none true x y e f = e
either_none false x y e f = f

none_header : (route : Ask) (by : Header) (body : List ℕ) → header_names by ≡ false → header_asks route by body ≡ []
none_header route (header.ConfirmedRequest request) body e =
    let service = request.service in
    either_none (is_some request.segment) (segment_asks route service) (body_asks route service body)
    (by_segment (service == read_property) (service == read_property_multiple) (service == write_property) _ _ e)
    (by_service (service == read_property) (service == read_property_multiple) (service == write_property) _ _ _ e)
none_header route (header.UnconfirmedRequest service) body e = refl
none_header route (header.SimpleAck invoke service) body e = refl
none_header route (header.ComplexAck segment invoke service) body e = refl
none_header route (header.SegmentAck invoke sequence window) body e = refl
none_header route (header.Error invoke service) body e = refl
none_header route (header.Reject invoke reason) body e = refl
none_header route (header.Abort invoke reason) body e = refl

none_apdu : (route : Ask) (x : Result Apdu ApduFault) → apdu_names x ≡ false
    → apdu_asks route x ≡ []
none_apdu route (Ok x) e = none_header route x.header x.rest e
none_apdu route (Err fault) e = refl

none_payload : (route : Ask) (payload : Payload) → is_property_request payload ≡ false → payload_asks route payload ≡ []
none_payload route (message m) e = refl
none_payload route (apdu octets) e = none_apdu route (apdu_at octets) e

-- ---- tables of a port

none_deleted : (frame : Frame) → deleted_station Two frame ≡ None
none_deleted (bvll.delete address) = refl
none_deleted (bvll.result_code code) = refl
none_deleted (bvll.write_bdt entries) = refl
none_deleted bvll.read_bdt = refl
none_deleted (bvll.read_bdt_ack entries) = refl
none_deleted (bvll.forwarded originator npdu) = refl
none_deleted (bvll.register time_to_live) = refl
none_deleted bvll.read_fdt = refl
none_deleted (bvll.read_fdt_ack entries) = refl
none_deleted (bvll.distribute npdu) = refl
none_deleted (bvll.original_unicast npdu) = refl
none_deleted (bvll.original_broadcast npdu) = refl

link_by : (port : Port) (from : BipAddr) (frame : Frame) (operation : Option Operation)
    → map unstationed (option_map_or (λ operation. if is_manager port then link_ask Three port from frame operation ∷ [] else []) operation [])
    ≡ option_map_or (λ operation. if is_manager port then link_ask Two port from frame operation ∷ [] else []) operation []
link_by port from frame None = refl
link_by port from frame (Some operation) = by (is_manager port)
  where
    by : (b : Bool) → map unstationed (if b then link_ask Three port from frame operation ∷ [] else [])
        ≡ (if b then link_ask Two port from frame operation ∷ [] else [])
    by true =
        ap (λ (station : Option ℕ). record (unstationed (link_ask Three port from frame operation)) { station = station } ∷ [])
        (sym (none_deleted frame))
    by false = refl

pub link_asks_alike : (port : Port) (from : BipAddr) (frame : Frame)
    → map unstationed (link_asks Three port from frame) ≡ link_asks Two port from frame
link_asks_alike port from frame = link_by port from frame (management_of frame)

-- ---- broadcasts, routing and network layer messages

cast_by : (m : Message) (on wide : Bool) → IsKeyedAlike m → (wide && is_property_request m.npdu.payload) ≡ false
    → map unstationed (if on && wide then cast_ask Three m ∷ carried_asks Three m else [])
    ≡ (if on && wide then cast_ask Two m ∷ carried_asks Two m else [])
cast_by m true true keyed e =
    ap (λ (l : List Ask). unstationed (cast_ask Three m) ∷ map unstationed l) (none_payload (cast_ask Three m) m.npdu.payload e)
    ∙ ap (λ (ask : Ask). ask ∷ []) (message_alike m keyed operations.Cast (bound_for m.npdu))
cast_by m true false keyed e = refl
cast_by m false wide keyed e = refl

narrower : (a b c : Bool) → (b && c) ≡ false → ((a && b) && c) ≡ false
narrower true b c e = e
narrower false b c e = refl

pub cast_asks_alike : (m : Message) → IsKeyedAlike m → (is_broadcast m.frame && is_property_request m.npdu.payload) ≡ false
    → map unstationed (cast_asks Three m) ≡ cast_asks Two m
unfolding cast_asks
cast_asks_alike m keyed e =
    cast_by m (goes_on m.here m.from m.frame) (is_carried m.here m.frame) keyed
    (narrower (is_manager m.here.port) (is_broadcast m.frame) (is_property_request m.npdu.payload) e)

-- a sender who isn't registered is refused whatever is asked
strange_by : (heard : Bool) (a b : Bool) (x y : List Sending)
    → (if not heard then [] else if true || not a then x else y) ≡ (if not heard then [] else if true || not b then x else y)
strange_by true a b x y = refl
strange_by false a b x y = refl

pub steps_asked : (steps : List Step) → map unstationed (asks_of steps) ≡ asks_of (map unstationed_step steps)
steps_asked [] = refl
steps_asked (s ∷ steps) =
    map-append unstationed s.asks (asks_of steps) ∙ ap (λ (l : List Ask). map unstationed s.asks ++ l) (steps_asked steps)

if_steps : (b : Bool) (x y v w : List Step) → map unstationed_step x ≡ v → map unstationed_step y ≡ w
    → map unstationed_step (if b then x else y) ≡ (if b then v else w)
if_steps true x y v w e f = e
if_steps false x y v w e f = f

slice_open : (ports : List PortState) (place : ℕ) → HaveNoStations ports → IfSome (slice_get ports place) HasNone
slice_open [] place all = tt
slice_open (state ∷ ports) zero all = all.0
slice_open (state ∷ ports) (suc place) all = slice_open ports place all.1

pub port_open : (ports : List PortState) (number : ℕ) → HaveNoStations ports → IfSome (port_at ports number) HasNone
port_open ports number all = by (number == 0)
  where
    by : (b : Bool) → IfSome (if b then None else slice_get ports (number - 1)) HasNone
    by true = tt
    by false = slice_open ports (number - 1) all

pub all_belong : (state : PortState) (address : BipAddr) → HasNone state → belongs Three state address ≡ true
all_belong state address open_so =
    ap (λ (stations : List Subnet). not (names_stations Three) || length stations == 0 || is_station state.port stations address || contains state.fdt address) open_so

delivered_alike : (mac : List ℕ) (npdu : Fields) (state : PortState) → HasNone state
    → delivered Three mac npdu state ≡ delivered Two mac npdu state
delivered_alike mac npdu state open_so =
    ap (λ (b : Bool). if length mac == 0 then broadcast npdu state
    else if length mac == 6 && b then unicast state.port.number (address_in mac) npdu else []) (all_belong state (address_in mac) open_so)

at_alike : (mac : List ℕ) (npdu : Fields) (state : Option PortState) → IfSome state HasNone
    → option_map_or (delivered Three mac npdu) state [] ≡ option_map_or (delivered Two mac npdu) state []
at_alike mac npdu None open_so = refl
at_alike mac npdu (Some state) open_so = delivered_alike mac npdu state open_so

forward_alike : (relay : Relay) (m : Message) (d : Destination) (by : Way) → HaveNoStations relay.ports
    → forward (relay_three relay) m d by ≡ forward (relay_two relay) m d by
forward_alike relay m d (ways.Port number) all =
    at_alike d.address.mac (last_hop m) (port_at relay.ports number) (port_open relay.ports number all)
forward_alike relay m d (ways.Router route) all = refl
forward_alike relay m d ways.Unknown all = refl
forward_alike relay m d ways.Everywhere all = refl
forward_alike relay m d ways.Device all = refl

routed : (m : Message) → IsKeyedAlike m → (network : Option ℕ)
    → map unstationed (forward_asks Three (route_ask Three m network) m.npdu.payload) ≡ forward_asks Two (route_ask Two m network) m.npdu.payload
routed m keyed network =
    forwarded (route_ask Three m network) m.npdu.payload
    ∙ ap (λ (route : Ask). forward_asks Two route m.npdu.payload) (message_alike m keyed operations.Route network)

way_alike : (relay : Relay) (m : Message) (d : Destination) (by : Way) → HaveNoStations relay.ports → IsKeyedAlike m
    → unstationed_step (on_way (relay_three relay) m d by) ≡ on_way (relay_two relay) m d by
way_alike relay m d by all keyed =
    ap₂ (λ (asks : List Ask) (sends : List Sending). step_so asks sends)
    (routed m keyed (bound_for m.npdu)) (forward_alike relay m d by all)

copies_alike : (m : Message) (d : Destination) (ports : List PortState) → IsKeyedAlike m
    → map unstationed_step (map (copy Three m d) ports) ≡ map (copy Two m d) ports
copies_alike m d [] keyed = refl
copies_alike m d (state ∷ ports) keyed =
    ap₂ (λ (asks : List Ask) (l : List Step). step_so asks (copy_to_port m d state) ∷ l)
    (routed m keyed (Some state.port.network)) (copies_alike m d ports keyed)

one_way : (relay : Relay) (m : Message) (d : Destination) (by : Way) → HaveNoStations relay.ports → IsKeyedAlike m
    → map unstationed_step (if leaves m.here.port.number by then on_way (relay_three relay) m d by ∷ [] else [])
    ≡ (if leaves m.here.port.number by then on_way (relay_two relay) m d by ∷ [] else [])
one_way relay m d by all keyed =
    if_steps (leaves m.here.port.number by) (on_way (relay_three relay) m d by ∷ []) [] (on_way (relay_two relay) m d by ∷ []) []
    (ap (λ (s : Step). s ∷ []) (way_alike relay m d by all keyed)) refl

steps_alike : (relay : Relay) (m : Message) (d : Destination) (by : Way) → HaveNoStations relay.ports → IsKeyedAlike m
    → map unstationed_step (steps_by (relay_three relay) m d by) ≡ steps_by (relay_two relay) m d by
steps_alike relay m d ways.Everywhere all keyed = copies_alike m d (others m.here.port.number relay.ports) keyed
steps_alike relay m d (ways.Port number) all keyed = one_way relay m d (ways.Port number) all keyed
steps_alike relay m d (ways.Router route) all keyed = one_way relay m d (ways.Router route) all keyed
steps_alike relay m d ways.Unknown all keyed = one_way relay m d ways.Unknown all keyed
steps_alike relay m d ways.Device all keyed = one_way relay m d ways.Device all keyed

pub route_steps_alike : (relay : Relay) (m : Message) → HaveNoStations relay.ports → IsKeyedAlike m
    → map unstationed_step (route_steps (relay_three relay) m) ≡ route_steps (relay_two relay) m
route_steps_alike relay m all keyed = by (is_local m.npdu.payload) m.npdu.destination
  where
    by : (local : Bool) (d : Option Destination)
        → map unstationed_step (if local then [] else option_map_or (λ d. steps_by (relay_three relay) m d (way relay.routes d.address.network)) d [])
        ≡ (if local then [] else option_map_or (λ d. steps_by (relay_two relay) m d (way relay.routes d.address.network)) d [])
    by true d = refl
    by false None = refl
    by false (Some d) = steps_alike relay m d (way relay.routes d.address.network) all keyed

answers_alike : (relay : Relay) (m : Message) (network : ℕ) (by : Way)
    → answer_who_is_router (relay_three relay) m network by ≡ answer_who_is_router (relay_two relay) m network by
answers_alike relay m network (ways.Port number) = refl
answers_alike relay m network ways.Device = refl
answers_alike relay m network (ways.Router route) = refl
answers_alike relay m network ways.Unknown = refl
answers_alike relay m network ways.Everywhere = refl

question_alike : (relay : Relay) (m : Message) (network : ℕ) → IsKeyedAlike m
    → unstationed_step (question_of (relay_three relay) m network) ≡ question_of (relay_two relay) m network
question_alike relay m network keyed =
    ap₂ (λ (ask : Ask) (sends : List Sending). step ask sends) (message_alike m keyed operations.Network (Some network))
    (answers_alike relay m network (way relay.routes network))

questions_alike : (relay : Relay) (m : Message) (octets : List ℕ) → IsKeyedAlike m
    → map unstationed_step (question_steps (relay_three relay) m octets) ≡ question_steps (relay_two relay) m octets
questions_alike relay m [] keyed =
    ap (λ (ask : Ask). step ask (broadcast (i_am_router (reachable_from relay.routes m.here.port.number)) m.here) ∷ []) (message_alike m keyed operations.Network None)
questions_alike relay m (octet ∷ []) keyed = refl
questions_alike relay m (high ∷ low ∷ []) keyed = by (network_of (from_be_bytes w16 (high ∷ low ∷ [])))
  where
    by : (network : Option ℕ) → map unstationed_step (option_map_or (λ network. question_of (relay_three relay) m network ∷ []) network [])
        ≡ option_map_or (λ network. question_of (relay_two relay) m network ∷ []) network []
    by None = refl
    by (Some network) = ap (λ (s : Step). s ∷ []) (question_alike relay m network keyed)
questions_alike relay m (a ∷ b ∷ c ∷ octets) keyed = refl

learned_alike : (m : Message) (networks : List ℕ) → IsKeyedAlike m
    → map unstationed_step (map (λ n. step (learn_ask Three m n) []) networks) ≡ map (λ n. step (learn_ask Two m n) []) networks
learned_alike m [] keyed = refl
learned_alike m (n ∷ networks) keyed =
    ap₂ (λ (ask : Ask) (l : List Step). step ask [] ∷ l) (message_alike m keyed operations.Learn (Some n)) (learned_alike m networks keyed)

pub manage_steps_alike : (relay : Relay) (m : Message) → IsKeyedAlike m
    → map unstationed_step (manage_steps (relay_three relay) m) ≡ manage_steps (relay_two relay) m
manage_steps_alike relay m keyed =
    if_steps (is_i_am_router m.npdu) (learn_steps Three m) (answer_steps (relay_three relay) m) (learn_steps Two m) (answer_steps (relay_two relay) m)
    (learned_alike m (named_networks m) keyed)
    (if_steps (is_who_is_router m.npdu) (question_steps (relay_three relay) m (payload_octets m.npdu.payload)) _ (question_steps (relay_two relay) m (payload_octets m.npdu.payload)) _
    (questions_alike relay m (payload_octets m.npdu.payload) keyed)
    (if_steps (is_what_is_network_number m.npdu) (number_step Three m ∷ []) [] (number_step Two m ∷ []) []
    (ap (λ (ask : Ask). step ask (broadcast (network_number_is m.here.port.network) m.here) ∷ []) (message_alike m keyed operations.Network None)) refl))

-- ---- who enters, and who claims

and_false : (b : Bool) → (b && false) ≡ false
and_false true = refl
and_false false = refl

-- nobody is a stranger to a port without stations, so an ask to claim is all that is asked
pub claims_alone : (rules : List Rule) (relay : Relay) (m : Message) → HasNone m.here
    → entry_asks rules (relay_three relay) m ≡ claim_asks (relay_three relay) m
claims_alone rules relay m open_so =
    let e = enter_ask Three m in
    let known : is_stranger Three m ≡ false =
    ap (λ (stations : List Subnet). enters m.frame && not (not (names_stations Three) || length stations == 0 || is_station m.here.port stations m.link || contains m.here.fdt m.link)) open_so
    ∙ and_false (enters m.frame) in
    ap (λ (strange : Bool). (if strange then e ∷ [] else [])
    ++ (if list_all (allows rules) (if strange then e ∷ [] else []) then claim_asks (relay_three relay) m else [])) known

-- ---- under rules that say nothing of the two fields

module _ (rules : List Rule) (none : NameNoStation rules) where
  table_allowed : (on : PortState) (from : BipAddr) (frame : Frame)
      → list_all (allows rules) (link_asks Three on.port from frame) ≡ list_all (allows rules) (link_asks Two on.port from frame)
  table_allowed on from frame =
      all_alike rules none (link_asks Three on.port from frame) ∙ ap (list_all (allows rules)) (link_asks_alike on.port from frame)

  pub link_answer_alike : (on : PortState) (from : BipAddr) (frame : Frame)
      → link_answer rules Three on from frame ≡ link_answer rules Two on from frame
  unfolding link_answer
  link_answer_alike on from frame =
      ap (λ (b : Bool). map (answer_to on.port from) (if not (is_misplaced on.port frame) && (b && is_granted on from frame) then granted on frame else refused frame))
      (table_allowed on from frame)

  pub link_change_alike : (on : PortState) (from : BipAddr) (frame : Frame)
      → link_change rules Three on from frame ≡ link_change rules Two on from frame
  unfolding link_change
  link_change_alike on from frame =
      ap (λ (b : Bool). if not (is_misplaced on.port frame) && (b && is_granted on from frame) then change_of on.port from frame else None) (table_allowed on from frame)

  pub cast_sends_alike : (m : Message) → IsKeyedAlike m → (is_broadcast m.frame && is_property_request m.npdu.payload) ≡ false
      → cast_sends rules Three m ≡ cast_sends rules Two m
  unfolding cast_sends
  cast_sends_alike m keyed e =
      ap (λ (b : Bool). if not (accepts m.here m.from m.frame) then []
      else if is_unregistered m.here m.from m.frame || not b
      then map (answer_to m.here.port m.from) (refused m.frame)
      else if is_manager m.here.port
      then sent m.here.port.number (targets m.here m.from m.frame) (passed_on m.from m.frame)
      else [])
      (all_alike rules none (cast_asks Three m) ∙ ap (list_all (allows rules)) (cast_asks_alike m keyed e))

  pub strange_sends_alike : (m : Message) → is_unregistered m.here m.from m.frame ≡ true → cast_sends rules Three m ≡ cast_sends rules Two m
  unfolding cast_sends
  strange_sends_alike m strange =
      let heard = accepts m.here m.from m.frame in
      let x = map (answer_to m.here.port m.from) (refused m.frame) in
      let y = if is_manager m.here.port then sent m.here.port.number (targets m.here m.from m.frame) (passed_on m.from m.frame) else [] in
      let a = list_all (allows rules) (cast_asks Three m) in
      let b = list_all (allows rules) (cast_asks Two m) in
      ap (λ (s : Bool). if not heard then [] else if s || not a then x else y) strange
      ∙ strange_by heard a b x y
      ∙ ap (λ (s : Bool). if not heard then [] else if s || not b then x else y) (sym strange)

  pub steps_sent : (steps : List Step) → sends_of rules steps ≡ sends_of rules (map unstationed_step steps)
  steps_sent [] = refl
  steps_sent (s ∷ steps) =
      ap₂ (λ (b : Bool) (l : List Sending). (if b then s.sends else []) ++ l) (all_alike rules none s.asks) (steps_sent steps)

  kept_alike : (m : Message) (networks : List ℕ) → IsKeyedAlike m → keep_allowed rules Three m networks ≡ keep_allowed rules Two m networks
  kept_alike m [] keyed = refl
  kept_alike m (n ∷ networks) keyed =
      ap₂ (λ (b : Bool) (l : List ℕ). cond b (n ∷ l) l)
      (allowed_alike rules none (learn_ask Three m n) ∙ ap (allows rules) (message_alike m keyed operations.Learn (Some n))) (kept_alike m networks keyed)

  pub onward_alike : (relay : Relay) (m : Message) → IsKeyedAlike m → onward_sends rules (relay_three relay) m ≡ onward_sends rules (relay_two relay) m
  unfolding onward_sends
  onward_alike relay m keyed =
      ap (λ (l : List ℕ). if relay.announce && is_i_am_router m.npdu
      then announced_but m.here.port.number relay.ports (new_networks relay.routes l (route_by m.here.port.number m.link)) else [])
      (kept_alike m (named_networks m) keyed)

  pub manage_change_alike : (relay : Relay) (m : Message) → IsKeyedAlike m → manage_change rules (relay_three relay) m ≡ manage_change rules (relay_two relay) m
  manage_change_alike relay m keyed =
      ap (λ (l : List ℕ). if is_i_am_router m.npdu then Some (Learnings m.here.port.number m.link l) else None) (kept_alike m (named_networks m) keyed)
