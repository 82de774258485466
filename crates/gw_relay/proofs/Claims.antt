-- What changes a table or a route, and whose asks a message raises.
use Rattle.std.proofs.Common.{◌≡◌, ap, refl, subst, sym, ℕ, Bool, true, false, List, [], ◌∷◌, ◌++◌, map, Option, Some, None, Result, Ok, Err}
use Rattle.std.specs.Prelude.{◌&&◌, ◌||◌, ◌==◌, is_some, if◌then◌else◌}
use Rattle.std.specs.Int.{w16, from_be_bytes}
use Rattle.std.specs.Option.{option_map, option_map_or}
use Rattle.gw_addr.specs.declared.station.Source.{Source}
use Rattle.gw_addr.specs.Station.{network_of}
use Rattle.gw_addr.specs.declared.bip.BipAddr.{BipAddr}
use Rattle.gw_frames.specs.bvll.Bvll.{Message as Frame}
use Rattle.gw_frames.specs.bvll.Bvll as bvll
use Rattle.gw_codecs.specs.apdu.Apdu.{Fields as Apdu}
use Rattle.gw_codecs.specs.apdu.Reading.{apdu_at}
use Rattle.gw_codecs.specs.declared.apdu.fault.ApduFault.{ApduFault}
use Rattle.gw_codecs.specs.declared.apdu.header.ConfirmedRequest.{ConfirmedRequest as Request}
use Rattle.gw_codecs.specs.declared.apdu.header.Header.{Header}
use Rattle.gw_codecs.specs.declared.apdu.header.Header.TheVariants as header
use Rattle.gw_frames.specs.npdu.Npdu.{Destination, Payload, apdu, message, payload_octets}
use Rattle.gw_rules.specs.declared.format.Format.{Format}
use Rattle.gw_rules.specs.declared.format.Format.TheVariants.{One, Two, Three}
use Rattle.gw_codecs.specs.services.Choices.{read_property, read_property_multiple, write_property}
use Rattle.gw_codecs.specs.services.Limits.{priority_of}
use Rattle.gw_codecs.specs.services.Multi.{Reference}
use Rattle.gw_codecs.specs.services.MultiReading.{multi_at}
use Rattle.gw_codecs.specs.services.Read.{Read, read_at}
use Rattle.gw_codecs.specs.services.Write.{Write, write_at}
use Rattle.gw_codecs.specs.declared.services.fault.BodyFault.{BodyFault}
use Rattle.gw_codecs.specs.tags.Object.{Object}
use Rattle.gw_tables.specs.routes.Table.{way}
use Rattle.gw_tables.specs.declared.routes.route.Way.{Way}
use Rattle.gw_tables.specs.declared.routes.route.Way.TheVariants as ways
use Rattle.std.specs.List.{AllByRecursion}
use Rattle.gw_rules.specs.Operation.{changes}
use Rattle.gw_rules.specs.Allowed.{NoChangeAllowed, NoneAllowed}
use Rattle.gw_rules.specs.Ask.{Ask, IsFor, IsFrom}
use Rattle.gw_rules.specs.Format.{key_in, names_stations}
use Rattle.gw_rules.specs.RuleList.{allows}
use Rattle.gw_rules.specs.declared.operation.Operation.{Operation}
use Rattle.gw_rules.specs.declared.operation.Operation.TheVariants as operations
use Rattle.gw_rules.specs.declared.rule.Rule.{Rule}
use Rattle.gw_relay.specs.Asks.{bound_for, link_ask, link_asks, management_of}
use Rattle.gw_relay.specs.Cast.{carried_asks, cast_ask, cast_asks, goes_on, is_carried}
use Rattle.gw_relay.specs.Laws.{AreFrom, BroadcastsCarryTheirClaim, NetworkMessagesCarryTheirClaim, RoutesAreKept, RoutingCarriesTheClaim, TableAsksReadNothing, TablesAreKept}
use Rattle.gw_relay.specs.Link.{link_change}
use Rattle.gw_relay.specs.Manage.{is_i_am_router, is_what_is_network_number, is_who_is_router, keep_allowed, learn_ask, learn_steps, manage_asks, named_networks, question_of, question_steps}
use Rattle.gw_relay.specs.Message.{Message}
use Rattle.gw_relay.specs.Named.{apdu_asks, forward_asks, header_asks, multi_asks, named_ask, named_asks, payload_asks, read_asks, reference_ask, request_asks, unnamed_ask, write_asks}
use Rattle.gw_relay.specs.Route.{copy, is_local, leaves, others, route_ask, steps_by}
use Rattle.gw_relay.specs.State.{Commit, Relay, after, is_manager, moved}
use Rattle.gw_relay.specs.Steps.{Step, asks_of}
use Rattle.gw_relay.specs.declared.change.Change.{Change}
use Rattle.gw_relay.specs.declared.change.Change.TheVariants.{Learnings}
use Rattle.gw_relay.specs.declared.port.PortState.{PortState}
use Rattle.gw_relay.proofs.Asking.{link_asked, link_changed, misplaced_change}
use Rattle.gw_relay.proofs.Learning.{learned_asks}

-- ---- the tables of a port

-- a frame that manages a table changes none if its ask is denied
kept_by : (rules : List Rule) (format : Format) (on : PortState) (from : BipAddr) (frame : Frame) (op : Operation) → management_of frame ≡ Some op
    → (b : Bool) → is_manager on.port ≡ b → changes op ≡ true → NoChangeAllowed rules (link_asks format on.port from frame)
    → link_change rules format on from frame ≡ None
kept_by rules format on from frame op managed false e c h = misplaced_change rules format on from frame op managed e
kept_by rules format on from frame op managed true e c h =
    let denied : allows rules (link_ask format on.port from frame op) ≡ false =
    (subst (NoChangeAllowed rules) (link_asked format on from frame op managed e) h op c).0 refl in
    link_changed rules format on from frame op false managed e (sym denied)

pub tables_are_kept : TablesAreKept
unfolding link_change
tables_are_kept rules format on from (bvll.write_bdt entries) h = kept_by rules format on from (bvll.write_bdt entries) operations.WriteTable refl (is_manager on.port) refl refl h
tables_are_kept rules format on from (bvll.register time_to_live) h = kept_by rules format on from (bvll.register time_to_live) operations.Register refl (is_manager on.port) refl refl h
tables_are_kept rules format on from (bvll.delete address) h = kept_by rules format on from (bvll.delete address) operations.Delete refl (is_manager on.port) refl refl h
tables_are_kept rules format on from bvll.read_bdt h = none_either _
  where
    none_either : (b : Bool) → ◌≡◌ {A = Option Change} (if b then None else None) None
    none_either true = refl
    none_either false = refl
tables_are_kept rules format on from bvll.read_fdt h = none_either _
  where
    none_either : (b : Bool) → ◌≡◌ {A = Option Change} (if b then None else None) None
    none_either true = refl
    none_either false = refl
tables_are_kept rules format on from (bvll.result_code code) h = refl
tables_are_kept rules format on from (bvll.read_bdt_ack entries) h = refl
tables_are_kept rules format on from (bvll.forwarded originator npdu) h = refl
tables_are_kept rules format on from (bvll.read_fdt_ack entries) h = refl
tables_are_kept rules format on from (bvll.distribute npdu) h = refl
tables_are_kept rules format on from (bvll.original_unicast npdu) h = refl
tables_are_kept rules format on from (bvll.original_broadcast npdu) h = refl

one_if : (b : Bool) (ask : Ask) → (IsFor operations.Read ask → ⊥) → AllByRecursion (λ ask. IsFor operations.Read ask → ⊥) (if b then ask ∷ [] else [])
one_if true ask h = (h, tt)
one_if false ask h = tt

-- and no ask about one is to read a property
pub table_asks_read_nothing : TableAsksReadNothing
table_asks_read_nothing format port from (bvll.write_bdt entries) =
    one_if (is_manager port) (link_ask format port from (bvll.write_bdt entries) operations.WriteTable) (λ e. absurd cc)
table_asks_read_nothing format port from (bvll.register time_to_live) =
    one_if (is_manager port) (link_ask format port from (bvll.register time_to_live) operations.Register) (λ e. absurd cc)
table_asks_read_nothing format port from (bvll.delete address) =
    one_if (is_manager port) (link_ask format port from (bvll.delete address) operations.Delete) (λ e. absurd cc)
table_asks_read_nothing format port from bvll.read_bdt =
    one_if (is_manager port) (link_ask format port from bvll.read_bdt operations.ReadTable) (λ e. absurd cc)
table_asks_read_nothing format port from bvll.read_fdt =
    one_if (is_manager port) (link_ask format port from bvll.read_fdt operations.ReadTable) (λ e. absurd cc)
table_asks_read_nothing format port from (bvll.result_code code) = tt
table_asks_read_nothing format port from (bvll.read_bdt_ack entries) = tt
table_asks_read_nothing format port from (bvll.forwarded originator npdu) = tt
table_asks_read_nothing format port from (bvll.read_fdt_ack entries) = tt
table_asks_read_nothing format port from (bvll.distribute npdu) = tt
table_asks_read_nothing format port from (bvll.original_unicast npdu) = tt
table_asks_read_nothing format port from (bvll.original_broadcast npdu) = tt

-- ---- the routes

pub none_learned : (rules : List Rule) (format : Format) (m : Message) (networks : List ℕ)
    → NoneAllowed (IsFor operations.Learn) rules (map (learn_ask format m) networks) → keep_allowed rules format m networks ≡ []
none_learned rules format m [] h = refl
none_learned rules format m (n ∷ networks) h =
    let denied : allows rules (learn_ask format m n) ≡ false = h.0 refl in
    rw denied (none_learned rules format m networks h.1)

moved_by : (b : Bool) (rules : List Rule) (relay : Relay) (m : Message) → is_i_am_router m.npdu ≡ b
    → NoneAllowed (IsFor operations.Learn) rules (manage_asks relay m)
    → moved (option_map Commit (if b then Some (Learnings m.here.port.number m.link (keep_allowed rules relay.format m (named_networks m))) else None)) relay ≡ relay
moved_by true rules relay m is h =
    ap (λ (networks : List ℕ). after (Learnings m.here.port.number m.link networks) relay)
    (none_learned rules relay.format m (named_networks m) (subst (NoneAllowed (IsFor operations.Learn) rules) (learned_asks relay m is) h))
moved_by false rules relay m is h = refl

pub routes_are_kept : RoutesAreKept
routes_are_kept rules relay m h = moved_by (is_i_am_router m.npdu) rules relay m refl h

-- ---- whose asks

-- an ask that says so
said : (format : Format) (source : Source) (ask : Ask) → ask.source_network ≡ Some source.net → ask.source_key ≡ key_in format source.mac
    → IsFrom source.net (key_in format source.mac) ask
said format source ask net key = record { source_network = net; source_key = key }

asks_if : (format : Format) (source : Source) (b : Bool) (xs ys : List Ask) → AreFrom format source xs → AreFrom format source ys → AreFrom format source (if b then xs else ys)
asks_if format source true xs ys f g = f
asks_if format source false xs ys f g = g

steps_if : (format : Format) (source : Source) (b : Bool) (xs ys : List Step) → AreFrom format source (asks_of xs) → AreFrom format source (asks_of ys)
    → AreFrom format source (asks_of (if b then xs else ys))
steps_if format source true xs ys f g = f
steps_if format source false xs ys f g = g

-- what is asked after a `route` ask is of its source
from_unnamed : (format : Format) (source : Source) (route : Ask) (operation : Operation) → IsFrom source.net (key_in format source.mac) route
    → AreFrom format source (unnamed_ask route operation ∷ [])
from_unnamed format source route operation is = (said format source _ is.source_network is.source_key, tt)

from_named : (format : Format) (source : Source) (route : Ask) (operation : Operation) (object : Object) (property : ℕ) (priority : Option ℕ)
    → IsFrom source.net (key_in format source.mac) route → AreFrom format source (named_ask route operation object property priority ∷ [])
from_named format source route operation object property priority is = (said format source _ is.source_network is.source_key, tt)

from_references : (format : Format) (source : Source) (route : Ask) (rs : List Reference) → IsFrom source.net (key_in format source.mac) route
    → AreFrom format source (map (reference_ask route) rs)
from_references format source route [] is = tt
from_references format source route (r ∷ rs) is = (said format source _ is.source_network is.source_key, from_references format source route rs is)

from_read : (format : Format) (source : Source) (route : Ask) (read : Result Read BodyFault) → IsFrom source.net (key_in format source.mac) route
    → AreFrom format source (read_asks route read)
from_read format source route (Ok r) is = from_named format source route operations.Read r.object r.property None is
from_read format source route (Err fault) is = from_unnamed format source route operations.Read is

from_multi : (format : Format) (source : Source) (route : Ask) (read : Result (List Reference) BodyFault) → IsFrom source.net (key_in format source.mac) route
    → AreFrom format source (multi_asks route read)
from_multi format source route (Ok rs) is = from_references format source route rs is
from_multi format source route (Err fault) is = from_unnamed format source route operations.Read is

from_write : (format : Format) (source : Source) (route : Ask) (read : Result Write BodyFault) → IsFrom source.net (key_in format source.mac) route
    → AreFrom format source (write_asks route read)
from_write format source route (Ok w) is = from_named format source route operations.Write w.object w.property (Some (priority_of w.priority)) is
from_write format source route (Err fault) is = from_unnamed format source route operations.Write is

from_request : (format : Format) (source : Source) (route : Ask) (request : Request) (body : List ℕ) → IsFrom source.net (key_in format source.mac) route
    → AreFrom format source (request_asks route request body)
from_request format source route request body is =
    let reads = from_unnamed format source route operations.Read is in
    let writes = from_unnamed format source route operations.Write is in
    asks_if format source (is_some request.segment) _ _
    (asks_if format source (request.service == read_property || request.service == read_property_multiple) _ _ reads
    (asks_if format source (request.service == write_property) _ [] writes tt))
    (asks_if format source (request.service == read_property) _ _ (from_read format source route (read_at body) is)
    (asks_if format source (request.service == read_property_multiple) _ _ (from_multi format source route (multi_at body) is)
    (asks_if format source (request.service == write_property) _ [] (from_write format source route (write_at body) is) tt)))

from_header : (format : Format) (source : Source) (route : Ask) (h : Header) (body : List ℕ) → IsFrom source.net (key_in format source.mac) route
    → AreFrom format source (header_asks route h body)
from_header format source route (header.ConfirmedRequest request) body is = from_request format source route request body is
from_header format source route (header.UnconfirmedRequest service) body is = tt
from_header format source route (header.SimpleAck invoke service) body is = tt
from_header format source route (header.ComplexAck segment invoke service) body is = tt
from_header format source route (header.SegmentAck invoke sequence window) body is = tt
from_header format source route (header.Error invoke service) body is = tt
from_header format source route (header.Reject invoke reason) body is = tt
from_header format source route (header.Abort invoke reason) body is = tt

from_apdu : (format : Format) (source : Source) (route : Ask) (read : Result Apdu ApduFault) → IsFrom source.net (key_in format source.mac) route
    → AreFrom format source (apdu_asks route read)
from_apdu format source route (Ok a) is = from_header format source route a.header a.rest is
from_apdu format source route (Err fault) is = tt

from_payload : (format : Format) (source : Source) (route : Ask) (payload : Payload) → IsFrom source.net (key_in format source.mac) route
    → AreFrom format source (payload_asks route payload)
from_payload format source route (message m) is = tt
from_payload format source route (apdu octets) is = from_apdu format source route (apdu_at octets) is

from_behind : (format : Format) (source : Source) (route : Ask) (payload : Payload) → IsFrom source.net (key_in format source.mac) route
    → AreFrom format source (named_asks format route payload)
from_behind One source route payload is = tt
from_behind Two source route payload is = from_payload Two source route payload is
from_behind Three source route payload is = from_payload Three source route payload is

pub broadcasts_carry_their_claim : BroadcastsCarryTheirClaim
unfolding cast_asks
broadcasts_carry_their_claim format m =
    let is = said format m.claim (cast_ask format m) refl refl in
    asks_if format m.claim (goes_on m.here m.from m.frame && is_carried m.here m.frame) (cast_ask format m ∷ carried_asks format m) []
    (is, asks_if format m.claim (names_stations format) _ [] (from_behind format m.claim (cast_ask format m) m.npdu.payload is) tt) tt

-- a message's asks for one way
from_forward : (m : Message) (format : Format) (network : Option ℕ)
    → AreFrom format m.claim (forward_asks format (route_ask format m network) m.npdu.payload)
from_forward m format network =
    let is = said format m.claim (route_ask format m network) refl refl in
    (is, from_behind format m.claim (route_ask format m network) m.npdu.payload is)

from_both : (format : Format) (source : Source) (xs ys : List Ask) → AreFrom format source xs → AreFrom format source ys → AreFrom format source (xs ++ ys)
from_both format source [] ys f g = g
from_both format source (x ∷ xs) ys f g = (f.0, from_both format source xs ys f.1 g)

from_one : (m : Message) (format : Format) (network : Option ℕ)
    → AreFrom format m.claim (forward_asks format (route_ask format m network) m.npdu.payload ++ [])
from_one m format network = from_both format m.claim (forward_asks format (route_ask format m network) m.npdu.payload) [] (from_forward m format network) tt

from_copies : (format : Format) (m : Message) (d : Destination) (ports : List PortState)
    → AreFrom format m.claim (asks_of (map (copy format m d) ports))
from_copies format m d [] = tt
from_copies format m d (state ∷ ports) =
    from_both format m.claim (forward_asks format (route_ask format m (Some state.port.network)) m.npdu.payload) _
    (from_forward m format (Some state.port.network)) (from_copies format m d ports)

from_way : (relay : Relay) (m : Message) (d : Destination) (by : Way) → AreFrom relay.format m.claim (asks_of (steps_by relay m d by))
from_way relay m d ways.Everywhere = from_copies relay.format m d (others m.here.port.number relay.ports)
from_way relay m d (ways.Port other) =
    steps_if relay.format m.claim (leaves m.here.port.number (ways.Port other)) _ [] (from_one m relay.format (bound_for m.npdu)) tt
from_way relay m d (ways.Router route) =
    steps_if relay.format m.claim (leaves m.here.port.number (ways.Router route)) _ [] (from_one m relay.format (bound_for m.npdu)) tt
from_way relay m d ways.Device = tt
from_way relay m d ways.Unknown = from_one m relay.format (bound_for m.npdu)

pub routing_carries_the_claim : RoutingCarriesTheClaim
routing_carries_the_claim relay m = steps_if relay.format m.claim (is_local m.npdu.payload) [] _ tt (by m.npdu.destination)
  where
    by : (d : Option Destination) → AreFrom relay.format m.claim
        (asks_of (option_map_or (λ d. steps_by relay m d (way relay.routes d.address.network)) d []))
    by None = tt
    by (Some d) = from_way relay m d (way relay.routes d.address.network)

from_learning : (format : Format) (m : Message) (networks : List ℕ)
    → AreFrom format m.claim (asks_of (map (λ n. record { asks = learn_ask format m n ∷ []; sends = [] }) networks))
from_learning format m [] = tt
from_learning format m (n ∷ networks) = (said format m.claim _ refl refl, from_learning format m networks)

from_question : (relay : Relay) (m : Message) (octets : List ℕ) → AreFrom relay.format m.claim (asks_of (question_steps relay m octets))
from_question relay m [] = (said relay.format m.claim _ refl refl, tt)
from_question relay m (a ∷ []) = tt
from_question relay m (a ∷ b ∷ []) = by (network_of (from_be_bytes w16 (a ∷ b ∷ [])))
  where
    by : (network : Option ℕ) → AreFrom relay.format m.claim (asks_of (option_map_or (λ n. question_of relay m n ∷ []) network []))
    by None = tt
    by (Some n) = (said relay.format m.claim _ refl refl, tt)
from_question relay m (a ∷ b ∷ c ∷ octets) = tt

pub network_messages_carry_their_claim : NetworkMessagesCarryTheirClaim
network_messages_carry_their_claim relay m =
    steps_if relay.format m.claim (is_i_am_router m.npdu) (learn_steps relay.format m) _ (from_learning relay.format m (named_networks m))
    (steps_if relay.format m.claim (is_who_is_router m.npdu) (question_steps relay m (payload_octets m.npdu.payload)) _
    (from_question relay m (payload_octets m.npdu.payload))
    (steps_if relay.format m.claim (is_what_is_network_number m.npdu) _ [] (said relay.format m.claim _ refl refl, tt) tt))
