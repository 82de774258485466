-- What holds of each ask that the relay can raise holds of all that it raises for a message.
use Rattle.std.proofs.Common.{◌≡◌, ◌≢◌, ◌∙◌, ◌⊎◌, inl, inr, ◌+◌, sym, ap, refl, subst, ℕ, Bool, true, false, List, [], ◌∷◌, ◌++◌, length, map, Option, Some, None, Result, Ok, Err}
use Rattle.std.specs.Prelude.{◌&&◌, ◌||◌, ◌==◌, IfSome, is_some, nat_eq, not, if◌then◌else◌}
use Rattle.std.specs.Int.{w16, from_be_bytes}
use Rattle.std.specs.List.{AllByRecursion}
use Rattle.std.specs.Option.{option_map, option_map_or}
use Rattle.std.proofs.lemmas.Bool.{and_parts, eq-eqb, eqb-true}
use Rattle.gw_addr.specs.Station.{is_network, network_of}
use Rattle.gw_codecs.specs.apdu.Apdu.{code_of}
use Rattle.gw_codecs.specs.apdu.Apdu.{Fields as Apdu}
use Rattle.gw_codecs.specs.apdu.Reading.{apdu_at, code_at}
use Rattle.gw_codecs.specs.declared.apdu.fault.ApduFault.{ApduFault}
use Rattle.gw_codecs.specs.declared.apdu.header.ConfirmedRequest.{ConfirmedRequest as Request}
use Rattle.gw_codecs.specs.declared.apdu.header.Header.{Header}
use Rattle.gw_codecs.specs.declared.apdu.header.Header.TheVariants as header
use Rattle.gw_frames.specs.declared.npdu.kind.MessageKind.{MessageKind}
use Rattle.gw_frames.specs.declared.npdu.kind.MessageKind.TheVariants.{IAmRouterToNetwork, WhatIsNetworkNumber, WhoIsRouterToNetwork}
use Rattle.gw_frames.specs.npdu.Kind.{kind_number}
use Rattle.gw_frames.specs.npdu.Npdu.{Address, Destination, Payload, apdu, message, payload_octets}
use Rattle.gw_rules.specs.declared.format.Format.{Format}
use Rattle.gw_rules.specs.declared.format.Format.TheVariants.{One, Two, Three}
use Rattle.gw_tables.specs.routes.Table.{Table, way}
use Rattle.gw_tables.specs.declared.routes.route.TheConstants.{EVERYWHERE}
use Rattle.gw_tables.specs.declared.routes.route.Way.{Way}
use Rattle.gw_tables.specs.declared.routes.route.Way.TheVariants as ways
use Rattle.gw_rules.specs.Ask.{Ask}
use Rattle.gw_rules.specs.Format.{names_stations}
use Rattle.gw_rules.specs.declared.operation.Operation.TheVariants as operations
use Rattle.gw_rules.proofs.EachAsk.{each_both}
use Rattle.gw_codecs.specs.services.Choices.{read_property, read_property_multiple, write_property}
use Rattle.gw_codecs.specs.services.Limits.{priority_of}
use Rattle.gw_codecs.specs.services.Multi.{Reference}
use Rattle.gw_codecs.specs.services.MultiReading.{multi_at}
use Rattle.gw_codecs.specs.services.Read.{Read, read_at}
use Rattle.gw_codecs.specs.services.Write.{Write, write_at}
use Rattle.gw_codecs.specs.declared.services.fault.BodyFault.{BodyFault}
use Rattle.gw_codecs.specs.tags.Object.{Object}
use Rattle.gw_relay.specs.Asks.{bound_for, service_of}
use Rattle.gw_relay.specs.Cast.{cast_ask, cast_asks, goes_on, is_broadcast}
use Rattle.gw_relay.specs.State.{is_manager}
use Rattle.gw_relay.specs.Manage.{are_networks, is_for_all, is_i_am_router, is_what_is_network_number, is_who_is_router, learn_ask, manage_asks, named_networks, network_ask, networks_in, question_of, question_steps}
use Rattle.gw_relay.specs.Message.{Message}
use Rattle.gw_relay.specs.Named.{apdu_asks, body_asks, forward_asks, header_asks, multi_asks, named_ask, named_asks, payload_asks, read_asks, reference_ask, request_asks, segment_asks, unnamed_ask, write_asks}
use Rattle.gw_relay.specs.Route.{copy, is_kind, is_local, leaves, others, route_ask, route_asks, steps_by}
use Rattle.gw_relay.specs.State.{Relay}
use Rattle.gw_relay.specs.Steps.{Step, asks_of}
use Rattle.gw_relay.specs.declared.port.PortState.{PortState}
use Rattle.gw_verdicts.proofs.Knowing.{Known}

each_if : (P : Ask → Type 0) (b : Bool) (xs ys : List Ask) → (b ≡ true → AllByRecursion P xs) → (b ≡ false → AllByRecursion P ys)
    → AllByRecursion P (if b then xs else ys)
each_if P true xs ys f g = f refl
each_if P false xs ys f g = g refl

-- ---- what is asked after a `route` or `cast` ask

-- a format in which requests that are passed on are judged by what they name
abbrev pub JudgesRequests : Format → Type 0
JudgesRequests One = ⊥
JudgesRequests Two = Unit {0}
JudgesRequests Three = Unit {0}

-- a service of a read
abbrev pub IsReading : ℕ → Type 0
IsReading service = (service ≡ 12) ⊎ (service ≡ 14)

-- it holds of each ask that can come after one, by the service of that
pub record NamedCases (P : Ask → Type 0) (K : Known) (route : Ask) : Type 0 where
  pub unnamed_read : (service : ℕ) → route.service ≡ Some service → IsReading service → P (unnamed_ask route operations.Read)
  pub named_read : (service : ℕ) → route.service ≡ Some service → IsReading service → (object : Object) (p : ℕ) → K.IsNamed object p
      → P (named_ask route operations.Read object p None)
  pub unnamed_write : route.service ≡ Some 15 → P (unnamed_ask route operations.Write)
  pub named_write : route.service ≡ Some 15 → (object : Object) (p priority : ℕ) → K.IsNamed object p → K.IsRank priority
      → P (named_ask route operations.Write object p (Some priority))

each_read : (P : Ask → Type 0) (K : Known) (route : Ask) (read : Result Read BodyFault) → NamedCases P K route → route.service ≡ Some 12
    → ((r : Read) → read ≡ Ok r → K.IsNamed r.object r.property) → AllByRecursion P (read_asks route read)
each_read P K route (Ok r) cases is known = (cases.named_read 12 is (inl refl) r.object r.property (known r refl), tt)
each_read P K route (Err fault) cases is known = (cases.unnamed_read 12 is (inl refl), tt)

each_reference : (P : Ask → Type 0) (K : Known) (route : Ask) (rs : List Reference) → NamedCases P K route → route.service ≡ Some 14
    → AllByRecursion (λ r. K.IsNamed r.object r.property) rs → AllByRecursion P (map (reference_ask route) rs)
each_reference P K route [] cases is known = tt
each_reference P K route (r ∷ rs) cases is known =
    (cases.named_read 14 is (inr refl) r.object r.property known.0, each_reference P K route rs cases is known.1)

each_multi : (P : Ask → Type 0) (K : Known) (route : Ask) (read : Result (List Reference) BodyFault) → NamedCases P K route
    → route.service ≡ Some 14 → ((rs : List Reference) → read ≡ Ok rs → AllByRecursion (λ r. K.IsNamed r.object r.property) rs)
    → AllByRecursion P (multi_asks route read)
each_multi P K route (Ok rs) cases is known = each_reference P K route rs cases is (known rs refl)
each_multi P K route (Err fault) cases is known = (cases.unnamed_read 14 is (inr refl), tt)

each_write : (P : Ask → Type 0) (K : Known) (route : Ask) (read : Result Write BodyFault) → NamedCases P K route → route.service ≡ Some 15
    → ((w : Write) → read ≡ Ok w → K.IsNamed w.object w.property × K.IsRank (priority_of w.priority)) → AllByRecursion P (write_asks route read)
each_write P K route (Ok w) cases is known =
    let both = known w refl in
    (cases.named_write is w.object w.property (priority_of w.priority) both.0 both.1, tt)
each_write P K route (Err fault) cases is known = (cases.unnamed_write is, tt)

translated : (route : Ask) (service choice : ℕ) → route.service ≡ Some service → (service == choice) ≡ true → route.service ≡ Some choice
translated route service choice is e = is ∙ ap (λ (n : ℕ). Some n) (eqb-true service choice e)

either_read : (service : ℕ) (b : Bool) → (service == 12) ≡ b → (b || service == 14) ≡ true → IsReading service
either_read service true e t = inl (eqb-true service 12 e)
either_read service false e t = inr (eqb-true service 14 t)

each_segment : (P : Ask → Type 0) (K : Known) (route : Ask) (service : ℕ) → NamedCases P K route → route.service ≡ Some service
    → AllByRecursion P (segment_asks route service)
each_segment P K route service cases is =
    each_if P (service == read_property || service == read_property_multiple) _ _
    (λ t. (cases.unnamed_read service is (either_read service (service == 12) refl t), tt))
    (λ t. each_if P (service == write_property) _ []
    (λ e. (cases.unnamed_write (translated route service 15 is e), tt)) (λ e. tt))

each_body : (P : Ask → Type 0) (K : Known) (route : Ask) (service : ℕ) (body : List ℕ) → NamedCases P K route → route.service ≡ Some service
    → K.IsText body → AllByRecursion P (body_asks route service body)
each_body P K route service body cases is fits =
    each_if P (service == read_property) _ _
    (λ e. each_read P K route (read_at body) cases (translated route service 12 is e) (λ r at. K.read body r fits at))
    (λ e. each_if P (service == read_property_multiple) _ _
    (λ e. each_multi P K route (multi_at body) cases (translated route service 14 is e) (λ rs at. K.multi body rs fits at))
    (λ e. each_if P (service == write_property) _ []
    (λ e. each_write P K route (write_at body) cases (translated route service 15 is e) (λ w at. K.write body w fits at)) (λ e. tt)))

each_request : (P : Ask → Type 0) (K : Known) (route : Ask) (request : Request) (body : List ℕ) → NamedCases P K route
    → route.service ≡ Some request.service → K.IsText body → AllByRecursion P (request_asks route request body)
each_request P K route request body cases is fits =
    each_if P (is_some request.segment) _ _ (λ e. each_segment P K route request.service cases is)
    (λ e. each_body P K route request.service body cases is fits)

each_header : (P : Ask → Type 0) (K : Known) (route : Ask) (h : Header) (body : List ℕ) → NamedCases P K route → route.service ≡ Some (code_of h)
    → K.IsText body → AllByRecursion P (header_asks route h body)
each_header P K route (header.ConfirmedRequest request) body cases is fits = each_request P K route request body cases is fits
each_header P K route (header.UnconfirmedRequest service) body cases is fits = tt
each_header P K route (header.SimpleAck invoke service) body cases is fits = tt
each_header P K route (header.ComplexAck segment invoke service) body cases is fits = tt
each_header P K route (header.SegmentAck invoke sequence window) body cases is fits = tt
each_header P K route (header.Error invoke service) body cases is fits = tt
each_header P K route (header.Reject invoke reason) body cases is fits = tt
each_header P K route (header.Abort invoke reason) body cases is fits = tt

each_apdu : (P : Ask → Type 0) (K : Known) (route : Ask) (read : Result Apdu ApduFault) → NamedCases P K route → route.service ≡ code_at read
    → ((a : Apdu) → read ≡ Ok a → K.IsText a.rest) → AllByRecursion P (apdu_asks route read)
each_apdu P K route (Ok a) cases is fits = each_header P K route a.header a.rest cases is (fits a refl)
each_apdu P K route (Err fault) cases is fits = tt

each_payload : (P : Ask → Type 0) (K : Known) (route : Ask) (payload : Payload) → NamedCases P K route → route.service ≡ service_of payload
    → K.IsText (payload_octets payload) → AllByRecursion P (payload_asks route payload)
each_payload P K route (message m) cases is fits = tt
each_payload P K route (apdu octets) cases is fits = each_apdu P K route (apdu_at octets) cases is (λ a at. K.rest octets a fits at)

each_following : (P : Ask → Type 0) (K : Known) (format : Format) (route : Ask) (payload : Payload)
    → (JudgesRequests format → NamedCases P K route) → route.service ≡ service_of payload → K.IsText (payload_octets payload)
    → AllByRecursion P (named_asks format route payload)
each_following P K One route payload cases is fits = tt
each_following P K Two route payload cases is fits = each_payload P K route payload (cases tt) is fits
each_following P K Three route payload cases is fits = each_payload P K route payload (cases tt) is fits

-- ---- distribution

-- it holds of the ask of a broadcast, and of those after it
pub record CastCases (P : Ask → Type 0) (K : Known) (format : Format) (m : Message) : Type 0 where
  pub cast : P (cast_ask format m)
  pub follows : names_stations format ≡ true → NamedCases P K (cast_ask format m)

-- of a broadcast on a port that is a broadcast manager
pub each_cast : (P : Ask → Type 0) (K : Known) (format : Format) (m : Message) → (is_manager m.here.port ≡ true → CastCases P K format m)
    → K.IsText (payload_octets m.npdu.payload) → AllByRecursion P (cast_asks format m)
unfolding cast_asks
each_cast P K format m cases fits =
    each_if P (goes_on m.here m.from m.frame && (is_manager m.here.port && is_broadcast m.frame)) _ [] (λ e. (
      (cases (managed e)).cast,
      each_if P (names_stations format) _ []
          (λ t. each_following P K format (cast_ask format m) m.npdu.payload (λ judges. (cases (managed e)).follows t) refl fits) (λ f. tt),
    )) (λ e. tt)
  where
    managed : (goes_on m.here m.from m.frame && (is_manager m.here.port && is_broadcast m.frame)) ≡ true → is_manager m.here.port ≡ true
    managed e =
        (and_parts (is_manager m.here.port) (is_broadcast m.frame)
        (and_parts (goes_on m.here m.from m.frame) (is_manager m.here.port && is_broadcast m.frame) e).1).0

-- ---- routing

-- it holds of each ask for a network, and of those after it
pub record RouteCases (P : Ask → Type 0) (K : Known) (format : Format) (m : Message) : Type 0 where
  pub route : (network : ℕ) → K.IsNet network → P (route_ask format m (Some network))
  pub follows : (network : ℕ) → K.IsNet network → JudgesRequests format → NamedCases P K (route_ask format m (Some network))

-- what is known of the networks that a message can go to
pub record Reached (K : Known) (relay : Relay) (m : Message) : Type 0 where
  pub ports : AllByRecursion (λ state. K.IsNet state.port.network) relay.ports
  pub bound : (d : Destination) → m.npdu.destination ≡ Some d → way relay.routes d.address.network ≢ ways.Everywhere
      → way relay.routes d.address.network ≢ ways.Device → K.IsNet d.address.network
  pub text : K.IsText (payload_octets m.npdu.payload)

each_forward : (P : Ask → Type 0) (K : Known) (format : Format) (m : Message) (network : ℕ) → RouteCases P K format m → K.IsNet network
    → K.IsText (payload_octets m.npdu.payload) → AllByRecursion P (forward_asks format (route_ask format m (Some network)) m.npdu.payload)
each_forward P K format m network cases net fits =
    (cases.route network net, each_following P K format (route_ask format m (Some network)) m.npdu.payload (cases.follows network net) refl fits)

each_one : (P : Ask → Type 0) (K : Known) (format : Format) (m : Message) (network : ℕ) → bound_for m.npdu ≡ Some network → RouteCases P K format m
    → K.IsNet network → K.IsText (payload_octets m.npdu.payload)
    → AllByRecursion P (forward_asks format (route_ask format m (bound_for m.npdu)) m.npdu.payload ++ [])
each_one P K format m network is cases net fits =
    each_both P (forward_asks format (route_ask format m (bound_for m.npdu)) m.npdu.payload) []
    (subst (λ (to : Option ℕ). AllByRecursion P (forward_asks format (route_ask format m to) m.npdu.payload)) (sym is)
    (each_forward P K format m network cases net fits)) tt

each_copy : (P : Ask → Type 0) (K : Known) (format : Format) (m : Message) (d : Destination) (states : List PortState) → RouteCases P K format m
    → AllByRecursion (λ state. K.IsNet state.port.network) states → K.IsText (payload_octets m.npdu.payload)
    → AllByRecursion P (asks_of (map (copy format m d) states))
each_copy P K format m d [] cases nets fits = tt
each_copy P K format m d (state ∷ states) cases nets fits =
    each_both P (forward_asks format (route_ask format m (Some state.port.network)) m.npdu.payload) _
    (each_forward P K format m state.port.network cases nets.0 fits) (each_copy P K format m d states cases nets.1 fits)

-- what holds of each port holds of the others
each_other : (Is : PortState → Type 0) (number : ℕ) (states : List PortState) → AllByRecursion Is states → AllByRecursion Is (others number states)
each_other Is number [] each = tt
each_other Is number (state ∷ states) each = by (not (nat_eq state.port.number number)) (each_other Is number states each.1)
  where
    by : (b : Bool) → AllByRecursion Is (others number states) → AllByRecursion Is (if b then state ∷ others number states else others number states)
    by true rest = (each.0, rest)
    by false rest = rest

-- 65535 is everywhere
pub everywhere : (t : Table) (n : ℕ) → n ≡ EVERYWHERE → way t n ≡ ways.Everywhere
everywhere t n e = rw (eq-eqb n EVERYWHERE e) refl

steps_if : (P : Ask → Type 0) (b : Bool) (xs ys : List Step) → (b ≡ true → AllByRecursion P (asks_of xs)) → AllByRecursion P (asks_of ys)
    → AllByRecursion P (asks_of (if b then xs else ys))
steps_if P true xs ys f g = f refl
steps_if P false xs ys f g = g

each_way : (P : Ask → Type 0) (K : Known) (relay : Relay) (m : Message) (d : Destination) (by : Way) → m.npdu.destination ≡ Some d
    → way relay.routes d.address.network ≡ by → RouteCases P K relay.format m → Reached K relay m → AllByRecursion P (asks_of (steps_by relay m d by))
each_way P K relay m d by is at cases reached = each by at
  where
    to : bound_for m.npdu ≡ Some d.address.network
    to = ap (λ (x : Option Destination). option_map (λ d. d.address.network) x) is

    one : way relay.routes d.address.network ≢ ways.Everywhere → way relay.routes d.address.network ≢ ways.Device
        → AllByRecursion P (forward_asks relay.format (route_ask relay.format m (bound_for m.npdu)) m.npdu.payload ++ [])
    one other home = each_one P K relay.format m d.address.network to cases (reached.bound d is other home) reached.text

    each : (by : Way) → way relay.routes d.address.network ≡ by → AllByRecursion P (asks_of (steps_by relay m d by))
    each ways.Everywhere at =
        each_copy P K relay.format m d (others m.here.port.number relay.ports) cases
        (each_other (λ state. K.IsNet state.port.network) m.here.port.number relay.ports reached.ports) reached.text
    each (ways.Port other) at =
        steps_if P (leaves m.here.port.number (ways.Port other)) _ []
        (λ t. one (λ e. let both = sym at ∙ e in cc) (λ e. let both = sym at ∙ e in cc)) tt
    each (ways.Router route) at =
        steps_if P (leaves m.here.port.number (ways.Router route)) _ []
        (λ t. one (λ e. let both = sym at ∙ e in cc) (λ e. let both = sym at ∙ e in cc)) tt
    each ways.Device at = tt
    each ways.Unknown at = one (λ e. let both = sym at ∙ e in cc) (λ e. let both = sym at ∙ e in cc)

pub each_route : (P : Ask → Type 0) (K : Known) (relay : Relay) (m : Message) → RouteCases P K relay.format m → Reached K relay m
    → AllByRecursion P (route_asks relay m)
each_route P K relay m cases reached = steps_if P (is_local m.npdu.payload) [] _ (λ e. tt) (by m.npdu.destination refl)
  where
    by : (d : Option Destination) → m.npdu.destination ≡ d
        → AllByRecursion P (asks_of (option_map_or (λ d. steps_by relay m d (way relay.routes d.address.network)) d []))
    by None is = tt
    by (Some d) is = each_way P K relay m d (way relay.routes d.address.network) is refl cases reached

-- ---- network layer messages

-- it holds of each ask for one, by its type
pub record NetworkCases (P : Ask → Type 0) (format : Format) (m : Message) : Type 0 where
  pub learn : service_of m.npdu.payload ≡ Some 513 → m.npdu.source ≡ None → (network : ℕ) → is_network network ≡ true
      → P (learn_ask format m network)
  pub question : service_of m.npdu.payload ≡ Some 512 → (network : Option ℕ) → IfSome network (λ n. is_network n ≡ true)
      → P (network_ask format m network)
  pub number : service_of m.npdu.payload ≡ Some 530 → m.npdu.source ≡ None → P (network_ask format m None)

-- the service of a message of a type
kind_service : (kind : MessageKind) (payload : Payload) → is_kind kind payload ≡ true → service_of payload ≡ Some (512 + kind_number kind)
kind_service kind (apdu octets) e = absurd cc
kind_service kind (message m) e = ap (λ (n : ℕ). Some (512 + n)) (eqb-true m.kind (kind_number kind) e)

each_learning : (P : Ask → Type 0) (format : Format) (m : Message) (networks : List ℕ) → service_of m.npdu.payload ≡ Some 513
    → m.npdu.source ≡ None → AllByRecursion (λ n. is_network n ≡ true) networks → NetworkCases P format m
    → AllByRecursion P (asks_of (map (λ n. record { asks = learn_ask format m n ∷ []; sends = [] }) networks))
each_learning P format m [] is silent nets cases = tt
each_learning P format m (n ∷ networks) is silent nets cases =
    (cases.learn is silent n nets.0, each_learning P format m networks is silent nets.1 cases)

-- the networks of a message that names nothing else
each_in : (octets : List ℕ) → are_networks octets ≡ true → AllByRecursion (λ n. is_network n ≡ true) (networks_in octets)
each_in [] e = tt
each_in (octet ∷ []) e = tt
each_in (high ∷ low ∷ octets) e =
    let both = and_parts (is_network (from_be_bytes w16 (high ∷ low ∷ []))) (are_networks octets) e in
    (both.0, each_in octets both.1)

-- a number that is one of a network
network_is : (n : ℕ) → IfSome (network_of n) (λ m. is_network m ≡ true)
network_is n = by (is_network n) refl
  where
    by : (b : Bool) → is_network n ≡ b → IfSome (if b then Some n else None) (λ m. is_network m ≡ true)
    by true e = e
    by false e = tt

each_question : (P : Ask → Type 0) (relay : Relay) (m : Message) (octets : List ℕ) → service_of m.npdu.payload ≡ Some 512 → NetworkCases P relay.format m
    → AllByRecursion P (asks_of (question_steps relay m octets))
each_question P relay m [] is cases = (cases.question is None tt, tt)
each_question P relay m (a ∷ []) is cases = tt
each_question P relay m (a ∷ b ∷ []) is cases = by (network_of (from_be_bytes w16 (a ∷ b ∷ []))) (network_is (from_be_bytes w16 (a ∷ b ∷ [])))
  where
    by : (network : Option ℕ) → IfSome network (λ n. is_network n ≡ true)
        → AllByRecursion P (asks_of (option_map_or (λ n. question_of relay m n ∷ []) network []))
    by None net = tt
    by (Some n) net = (cases.question is (Some n) net, tt)
each_question P relay m (a ∷ b ∷ c ∷ octets) is cases = tt

first_part : (x y : Bool) → (x && y) ≡ true → x ≡ true
first_part true y e = refl
first_part false y e = e

last_part : (x y : Bool) → (x && y) ≡ true → y ≡ true
last_part true y e = e
last_part false y e = absurd cc

silent : (source : Option Address) → not (is_some source) ≡ true → source ≡ None
silent None e = refl
silent (Some s) e = absurd cc

pub each_network : (P : Ask → Type 0) (relay : Relay) (m : Message) → NetworkCases P relay.format m → AllByRecursion P (manage_asks relay m)
each_network P relay m cases =
    let payload = m.npdu.payload in
    steps_if P (is_i_am_router m.npdu) _ _
    (λ e. each_learning P relay.format m (named_networks m) (kind_service IAmRouterToNetwork payload (i_am e)) (from_router e)
    (each_in (payload_octets payload) (nets e)) cases)
    (steps_if P (is_who_is_router m.npdu) (question_steps relay m (payload_octets payload)) _
    (λ e. each_question P relay m (payload_octets payload) (kind_service WhoIsRouterToNetwork payload (first_part _ _ e)) cases)
    (steps_if P (is_what_is_network_number m.npdu) _ []
    (λ e. (cases.number (kind_service WhatIsNetworkNumber payload (what e)) (from_asker e), tt)) tt))
  where
    i_am : is_i_am_router m.npdu ≡ true → is_kind IAmRouterToNetwork m.npdu.payload ≡ true
    i_am e = first_part _ _ (first_part _ _ (first_part _ _ (first_part _ _ e)))

    what : is_what_is_network_number m.npdu ≡ true → is_kind WhatIsNetworkNumber m.npdu.payload ≡ true
    what e = first_part _ _ (first_part _ _ (first_part _ _ e))

    from_router : is_i_am_router m.npdu ≡ true → m.npdu.source ≡ None
    from_router e =
        let kind = is_kind IAmRouterToNetwork m.npdu.payload in
        let all = is_for_all m.npdu in
        let none = not (is_some m.npdu.source) in
        let some = not (length (payload_octets m.npdu.payload) == 0) in
        silent m.npdu.source (last_part (kind && all) none (first_part (kind && all && none) some
        (first_part (kind && all && none && some) (are_networks (payload_octets m.npdu.payload)) e)))

    nets : is_i_am_router m.npdu ≡ true → are_networks (payload_octets m.npdu.payload) ≡ true
    nets e =
        let kind = is_kind IAmRouterToNetwork m.npdu.payload in
        let all = is_for_all m.npdu in
        let none = not (is_some m.npdu.source) in
        let some = not (length (payload_octets m.npdu.payload) == 0) in
        last_part (kind && all && none && some) (are_networks (payload_octets m.npdu.payload)) e

    from_asker : is_what_is_network_number m.npdu ≡ true → m.npdu.source ≡ None
    from_asker e =
        let kind = is_kind WhatIsNetworkNumber m.npdu.payload in
        let here = not (is_some m.npdu.destination) in
        let none = not (is_some m.npdu.source) in
        silent m.npdu.source (last_part (kind && here) none
        (first_part (kind && here && none) (length (payload_octets m.npdu.payload) == 0) e))
