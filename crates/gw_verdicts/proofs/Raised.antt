-- The asks of a message lie in the shapes of whence it comes.
use Rattle.std.proofs.Common.{◌≡◌, ◌≤◌, ◌∙◌, ◌⊎◌, sym, ap, refl, subst, ℕ, Bool, true, false, List, [], ◌∷◌, ◌++◌, length, nat_le, Option, Some, None, inl, inr, arith}
use Rattle.std.specs.Prelude.{◌==◌, ◌||◌, if◌then◌else◌, IfSome}
use Rattle.std.specs.List.{AllByRecursion}
use Rattle.std.specs.Option.{option_map, option_map_or}
use Rattle.std.proofs.lemmas.Bool.{and_parts, leb-true}
use Rattle.gw_addr.specs.declared.bip.BipAddr.{BipAddr}
use Rattle.gw_addr.specs.Address.{IsAddress, big_endian, octets_of}
use Rattle.gw_addr.specs.Reading.{AreOctets}
use Rattle.gw_addr.specs.Station.{is_network}
use Rattle.gw_addr.proofs.Addresses.{keys_below}
use Rattle.gw_frames.specs.bvll.Bvll.{HasFields}
use Rattle.gw_frames.specs.bvll.Bvll.{Message as Frame}
use Rattle.gw_frames.specs.bvll.Bvll as bvll
use Rattle.gw_frames.specs.npdu.Npdu.{Destination, Fields, Payload, apdu, payload_octets}
use Rattle.gw_frames.specs.npdu.Npdu.{message as network_message}
use Rattle.gw_rules.specs.declared.format.Format.{Format}
use Rattle.gw_rules.specs.declared.format.Format.TheVariants.{One, Two, Three}
use Rattle.gw_rules.specs.Format.{key_in, names_stations}
use Rattle.gw_rules.specs.Ask.{Ask}
use Rattle.gw_rules.specs.Operation.{operation_number}
use Rattle.gw_rules.specs.declared.field.FieldName.TheVariants as fields
use Rattle.gw_rules.specs.declared.operation.Operation.{Operation}
use Rattle.gw_rules.specs.declared.operation.Operation.TheVariants as operations
use Rattle.gw_rules.specs.declared.rule.Rule.{Rule}
use Rattle.gw_rules.proofs.EachAsk.{each_weaker}
use Rattle.gw_codecs.specs.services.Limits.{last_property}
use Rattle.gw_codecs.specs.tags.Object.{IsObject, Object}
use Rattle.gw_objects.specs.Objects.{Database, device_id}
use Rattle.gw_relay.specs.Cast.{cast_ask}
use Rattle.gw_relay.specs.Entry.{claim_ask, enter_ask, entry_asks}
use Rattle.gw_relay.specs.Asks as table
use Rattle.gw_relay.specs.Asks.{service_of}
use Rattle.gw_relay.specs.Manage.{learn_ask, network_ask}
use Rattle.gw_relay.specs.Message.{Message}
use Rattle.gw_relay.specs.Named.{named_ask, unnamed_ask}
use Rattle.gw_relay.specs.Route.{route_ask}
use Rattle.gw_relay.proofs.SourceKeys.{node_key}
use Rattle.gw_relay.specs.State.{Relay, is_manager}
use Rattle.gw_relay.specs.declared.port.Port.{Port}
use Rattle.gw_core.specs.Asks.{apdu_asks, asks_for}
use Rattle.gw_core.specs.Receive.{message}
use Rattle.gw_core.specs.Reply.{apdu_for, apdu_of, apdu_towards, context_of, is_broadcast, is_device}
use Rattle.gw_core.specs.State.{device_network}
use Rattle.gw_ask_sets.specs.shapes.Shape.{IsWithin, LiesIn, LiesInOne, Shape}
use Rattle.gw_ask_sets.specs.shapes.Shapes.{address, address_in, aimed, answer, any_key, bound, broadcast_shapes, cast_shapes, claim_shapes, enter_shapes, frame_shapes, message_shapes, named, near_shapes, network as any_network, nothing, only, own, passed_shapes, passed_to, perhaps, plain, request_or_message, request_shapes, shapes_from, some, source_in, station_in, table_shapes}
use Rattle.gw_ask_sets.specs.declared.shapes.shapes.Origin.{Origin}
use Rattle.gw_ask_sets.specs.declared.shapes.side.Side.{Side}
use Rattle.gw_ask_sets.proofs.shapes_lemmas.KeyLaw.{key_within}
use Rattle.gw_ask_sets.proofs.shapes_lemmas.Lying.{in_front, in_rest, lies_by}
use Rattle.gw_verdicts.proofs.Brought.{IsBrought}
use Rattle.gw_verdicts.proofs.DeviceAsks.{DeviceCases, DeviceKnown, each_device}
use Rattle.gw_verdicts.proofs.Knowing.{bounds_known}
use Rattle.gw_verdicts.proofs.Octets.{AreNamed, IsAskedFor, IsPlace, IsRead, payload_asks}
use Rattle.gw_verdicts.proofs.Parts.{each_part}
use Rattle.gw_verdicts.proofs.RelayAsks.{CastCases, JudgesRequests, NamedCases, Reached, RouteCases, each_cast, each_network, each_route}

-- what is to be shown of each ask
abbrev pub Lies : Format → ℕ → Origin → Ask → Type 0
Lies format device from ask = LiesInOne (shapes_from format device from) ask

-- a message comes from there
pub record Comes (format : Format) (from : Origin) (m : Message) : Type 0 where
  pub port : IsWithin from.port (Some m.here.port.number)
  pub network : IsWithin from.network (Some m.claim.net)
  pub key : IsWithin from.key (key_in format m.claim.mac)
  pub sender : from.sender ≡ address_in format
  pub manages : from.manages ≡ is_manager m.here.port
  pub brought : IsBrought m

-- ---- sides

exactly : (n : ℕ) → IsWithin (only n) (Some n)
exactly n = (omega arith, omega arith)

is_exactly : (n : ℕ) (value : Option ℕ) → value ≡ Some n → IsWithin (only n) value
is_exactly n value is = subst (IsWithin (only n)) (sym is) (exactly n)

-- the key of an address
address_key : (a : BipAddr) → IsAddress a → IsWithin address (Some (big_endian (octets_of a)))
address_key a is =
    let small = keys_below a is in
    (omega arith, omega (arith, small))

pub six_octets : (format : Format) (a : BipAddr) → IsAddress a → IsWithin address (key_in format (octets_of a))
six_octets format a is = subst (IsWithin address) (sym (node_key format a is.four)) (address_key a is)

-- an address as a station, where the format names stations
address_within : (b : Bool) (a : BipAddr) → IsAddress a
    → IsWithin (if b then address else nothing) (if b then Some (big_endian (octets_of a)) else None)
address_within true a is = address_key a is
address_within false a is = refl

sent : (format : Format) (side : Side) (sender : BipAddr) → side ≡ address_in format → IsAddress sender
    → IsWithin side (table.sender_of format sender)
sent format side sender is fits =
    subst (λ (s : Side). IsWithin s (table.sender_of format sender)) (sym is) (address_within (names_stations format) sender fits)

-- the one station that a message is bound for
at_station : (format : Format) (npdu : Fields) → IsRead npdu → IsWithin (station_in format) (table.station_of format npdu)
at_station One npdu read = refl
at_station Two npdu read = refl
at_station Three npdu read = by npdu.destination read.destination
  where
    by : (d : Option Destination) → IfSome d (λ d. IsPlace d.address)
        → IsWithin any_key (option_map_or (λ d. key_in Three d.address.mac) d None)
    by None place = refl
    by (Some d) place = key_within d.address.mac place.1.1

-- the network that it is bound for
bound_within : (npdu : Fields) → IsRead npdu → IsWithin (perhaps fields.DestinationNetwork) (table.bound_for npdu)
bound_within npdu read = by npdu.destination read.destination
  where
    by : (d : Option Destination) → IfSome d (λ d. IsPlace d.address)
        → IsWithin (perhaps fields.DestinationNetwork) (option_map (λ d. d.address.network) d)
    by None place = refl
    by (Some d) place = (place.0, place.1.0)

-- a network of the standard
net_within : (n : ℕ) → is_network n ≡ true → IsWithin any_network (Some n)
net_within n e =
    let both = and_parts (nat_le 1 n) (nat_le n 65534) e in
    (leb-true 1 n both.0, leb-true n 65534 both.1)

net_or_none : (network : Option ℕ) → IfSome network (λ n. is_network n ≡ true) → IsWithin (record any_network { absent = true }) network
net_or_none None net = refl
net_or_none (Some n) net = net_within n net

-- what a message asks for
asked_for : (value : Option ℕ) → IsAskedFor value → IsWithin request_or_message value ⊎ IsWithin answer value
asked_for None is = inl refl
asked_for (Some n) (inl small) = inl (omega arith, small)
asked_for (Some n) (inr both) = inr both

-- ---- places in the lists

in_message : (format : Format) (device : ℕ) (from : Origin) (ask : Ask) → LiesInOne (message_shapes format device from) ask
    → LiesInOne (shapes_from format device from) ask
in_message format device from ask lies =
    in_rest (cast_shapes format from) (message_shapes format device from ++ request_shapes format from) ask
    (in_front (message_shapes format device from) (request_shapes format from) ask lies)

-- a broadcast of broadcast managers
in_cast : (format : Format) (device : ℕ) (from : Origin) (ask : Ask) → from.manages ≡ true → LiesInOne (broadcast_shapes format from) ask
    → LiesInOne (shapes_from format device from) ask
in_cast format device from ask manages lies =
    in_front (cast_shapes format from) (message_shapes format device from ++ request_shapes format from) ask
    (subst (λ (b : Bool). LiesInOne (if b then broadcast_shapes format from else []) ask) (sym manages) lies)

in_request : (format : Format) (device : ℕ) (from : Origin) (to : Side) (ask : Ask) → request_shapes format from ≡ passed_shapes format to from
    → LiesInOne (passed_shapes format to from) ask → LiesInOne (shapes_from format device from) ask
in_request format device from to ask is lies =
    in_rest (cast_shapes format from) (message_shapes format device from ++ request_shapes format from) ask
    (in_rest (message_shapes format device from) (request_shapes format from) ask
    (subst (λ (shapes : List Shape). LiesInOne shapes ask) (sym is) lies))

-- where requests of broadcast managers go, and what they route
anywhere : (from : Origin) (network : Option ℕ) → from.manages ≡ true → IsWithin (perhaps fields.DestinationNetwork) network
    → IsWithin (passed_to from) network
anywhere from network manages within =
    subst (λ (b : Bool). IsWithin (if b then perhaps fields.DestinationNetwork else any_network) network) (sym manages) within

routed_to : (from : Origin) (network : ℕ) → (1 ≤ network) × (network ≤ 65534) → IsWithin (passed_to from) (Some network)
routed_to from network net = by from.manages
  where
    by : (b : Bool) → IsWithin (if b then perhaps fields.DestinationNetwork else any_network) (Some network)
    by true =
        let below = net.1 in
        (net.0, omega (arith, below))
    by false = net

-- ---- requests that are passed on

-- an object and a property, as a request names them
object_kind : (object : Object) → IsObject object → IsWithin (some fields.ObjectType) (Some object.kind)
object_kind object is =
    let small = is.kind in
    (omega arith, omega (arith, small))

object_instance : (object : Object) → IsObject object → IsWithin (some fields.Instance) (Some object.instance)
object_instance object is =
    let small = is.instance in
    (omega arith, omega (arith, small))

property_within : (p : ℕ) → p ≤ last_property → IsWithin (some fields.Property) (Some p)
property_within p small = (omega arith, omega (arith, small))

-- after an ask of a message that is passed on to a network, or to none
named_cases : (format : Format) (device : ℕ) (from : Origin) (to : Side) (m : Message) (operation : Operation) (network : Option ℕ)
    → Comes format from m → request_shapes format from ≡ passed_shapes format to from → IsWithin to network
    → NamedCases (Lies format device from) bounds_known (table.passing_ask format operation m network)
named_cases format device from to m operation network comes is bound_to = record {
  unnamed_read = λ service at reading. in_request format device from to _ is (elim reading [
    | inl first ↦ inl (unnamed 12 (at ∙ ap (λ (n : ℕ). Some n) first))
    | inr second ↦ inr (inr (inl (unnamed 14 (at ∙ ap (λ (n : ℕ). Some n) second))))
  ]);
  named_read = λ service at reading object p known. in_request format device from to _ is (elim reading [
    | inl first ↦ inr (inl (of_property 12 object p (at ∙ ap (λ (n : ℕ). Some n) first) known))
    | inr second ↦ inr (inr (inr (inl (of_property 14 object p (at ∙ ap (λ (n : ℕ). Some n) second) known))))
  ]);
  unnamed_write = λ at. in_request format device from to _ is (inr (inr (inr (inr (inl
      (lies_by (aimed format (bound from operations.Write (only 15) to)) (unnamed_ask route operations.Write)
      (exactly 10) comes.port comes.network comes.key bound_to (is_exactly 15 route.service at) refl refl refl refl
      (sent format from.sender m.from comes.sender comes.brought.from) (at_station format m.npdu comes.brought.npdu)))))));
  named_write = λ at object p priority known rank. in_request format device from to _ is (inr (inr (inr (inr (inr (inl
      (lies_by (aimed format (named from operations.Write (only 15) to (some fields.Priority)))
      (named_ask route operations.Write object p (Some priority))
      (exactly 10) comes.port comes.network comes.key bound_to (is_exactly 15 route.service at)
      (object_kind object known.0) (object_instance object known.0) (property_within p known.1) rank
      (sent format from.sender m.from comes.sender comes.brought.from) (at_station format m.npdu comes.brought.npdu))))))));
}
  where
    route : Ask
    route = table.passing_ask format operation m network

    unnamed : (service : ℕ) → (table.passing_ask format operation m network).service ≡ Some service
        → LiesIn (aimed format (bound from operations.Read (only service) to)) (unnamed_ask (table.passing_ask format operation m network) operations.Read)
    unnamed service at =
        lies_by (aimed format (bound from operations.Read (only service) to)) (unnamed_ask (table.passing_ask format operation m network) operations.Read)
        (exactly 9) comes.port comes.network comes.key bound_to (is_exactly service _ at) refl refl refl refl
        (sent format from.sender m.from comes.sender comes.brought.from) (at_station format m.npdu comes.brought.npdu)

    of_property : (service : ℕ) (object : Object) (p : ℕ) → (table.passing_ask format operation m network).service ≡ Some service
        → AreNamed object p
        → LiesIn (aimed format (named from operations.Read (only service) to nothing))
        (named_ask (table.passing_ask format operation m network) operations.Read object p None)
    of_property service object p at known =
        lies_by (aimed format (named from operations.Read (only service) to nothing))
        (named_ask (table.passing_ask format operation m network) operations.Read object p None)
        (exactly 9) comes.port comes.network comes.key bound_to (is_exactly service _ at)
        (object_kind object known.0) (object_instance object known.0) (property_within p known.1) refl
        (sent format from.sender m.from comes.sender comes.brought.from) (at_station format m.npdu comes.brought.npdu)

-- ---- the relay's asks

cast_follows : (format : Format) (device : ℕ) (from : Origin) (m : Message) → Comes format from m → from.manages ≡ true → names_stations format ≡ true
    → NamedCases (Lies format device from) bounds_known (cast_ask format m)
cast_follows One device from m comes manages e = absurd cc
cast_follows Two device from m comes manages e = absurd cc
cast_follows Three device from m comes manages e =
    named_cases Three device from (passed_to from) m operations.Cast (table.bound_for m.npdu) comes refl
    (anywhere from (table.bound_for m.npdu) manages (bound_within m.npdu comes.brought.npdu))

-- a message that is passed on, by what it asks for
passes : (format : Format) (from : Origin) (m : Message) (operation : Operation) (network : Option ℕ) (services to : Side)
    → Comes format from m → IsWithin (only (operation_number operation)) (Some (operation_number operation)) → IsWithin to network
    → IsWithin services (table.service_of m.npdu.payload)
    → LiesIn (aimed format (bound from operation services to)) (table.passing_ask format operation m network)
passes format from m operation network services to comes at bound_to asked =
    lies_by (aimed format (bound from operation services to)) (table.passing_ask format operation m network)
    at comes.port comes.network comes.key bound_to asked refl refl refl refl
    (sent format from.sender m.from comes.sender comes.brought.from) (at_station format m.npdu comes.brought.npdu)

service_read : (m : Message) → IsBrought m → IsWithin request_or_message (table.service_of m.npdu.payload) ⊎ IsWithin answer (table.service_of m.npdu.payload)
service_read m is = asked_for (table.service_of m.npdu.payload) (payload_asks m.npdu.payload is.npdu.fits is.npdu.octets)

cast_cases : (format : Format) (device : ℕ) (from : Origin) (m : Message) → Comes format from m → is_manager m.here.port ≡ true
    → CastCases (Lies format device from) bounds_known format m
cast_cases format device from m comes managed = record {
  cast = in_cast format device from (cast_ask format m) (comes.manages ∙ managed) (elim (service_read m comes.brought) [
    | inl asked ↦ inl (passes format from m operations.Cast (table.bound_for m.npdu) request_or_message (perhaps fields.DestinationNetwork) comes
        (exactly 1) (bound_within m.npdu comes.brought.npdu) asked)
    | inr asked ↦ inr (inl (passes format from m operations.Cast (table.bound_for m.npdu) answer (perhaps fields.DestinationNetwork) comes
        (exactly 1) (bound_within m.npdu comes.brought.npdu) asked))
  ]);
  follows = cast_follows format device from m comes (comes.manages ∙ managed);
}

-- what a message that names no source asks
pub record NearCases (P : Ask → Type 0) (format : Format) (m : Message) : Type 0 where
  pub learn : service_of m.npdu.payload ≡ Some 513 → m.npdu.source ≡ None → (network : ℕ) → is_network network ≡ true → P (learn_ask format m network)
  pub number : service_of m.npdu.payload ≡ Some 530 → m.npdu.source ≡ None → P (network_ask format m None)

question_lies : (format : Format) (device : ℕ) (from : Origin) (m : Message) → Comes format from m → service_of m.npdu.payload ≡ Some 512
    → (network : Option ℕ) → IfSome network (λ n. is_network n ≡ true) → Lies format device from (network_ask format m network)
question_lies format device from m comes is network net =
    in_message format device from _ (inr (inr (inl
    (lies_by (bound from operations.Network (only 512) (record any_network { absent = true })) (network_ask format m network)
    (exactly 8) comes.port comes.network comes.key (net_or_none network net) (is_exactly 512 _ is)
    refl refl refl refl (sent format from.sender m.from comes.sender comes.brought.from) refl))))

pub near_cases : (format : Format) (from : Origin) (m : Message) → Comes format from m → NearCases (LiesInOne (near_shapes from)) format m
near_cases format from m comes = record {
  learn = λ is silent network net. inl
      (lies_by (bound from operations.Learn (only 513) any_network) (learn_ask format m network)
      (exactly 7) comes.port comes.network comes.key (net_within network net) (is_exactly 513 _ is)
      refl refl refl refl (sent format from.sender m.from comes.sender comes.brought.from) refl);
  number = λ is silent. inr (inl
      (lies_by (bound from operations.Network (only 530) nothing) (network_ask format m None)
      (exactly 8) comes.port comes.network comes.key refl (is_exactly 530 _ is)
      refl refl refl refl (sent format from.sender m.from comes.sender comes.brought.from) refl));
}

route_follows : (format : Format) (device : ℕ) (from : Origin) (m : Message) (network : ℕ) → Comes format from m
    → (1 ≤ network) × (network ≤ 65534) → JudgesRequests format
    → NamedCases (Lies format device from) bounds_known (route_ask format m (Some network))
route_follows One device from m network comes net judges = absurd judges
route_follows Two device from m network comes net judges =
    named_cases Two device from any_network m operations.Route (Some network) comes refl net
route_follows Three device from m network comes net judges =
    named_cases Three device from (passed_to from) m operations.Route (Some network) comes refl (routed_to from network net)

route_cases : (format : Format) (device : ℕ) (from : Origin) (m : Message) → Comes format from m
    → RouteCases (Lies format device from) bounds_known format m
route_cases format device from m comes = record {
  route = λ network net. in_message format device from (route_ask format m (Some network)) (elim (service_read m comes.brought) [
    | inl asked ↦ inl (passes format from m operations.Route (Some network) request_or_message any_network comes (exactly 2) net asked)
    | inr asked ↦ inr (inl (passes format from m operations.Route (Some network) answer any_network comes (exactly 2) net asked))
  ]);
  follows = λ network net judges. route_follows format device from m network comes net judges;
}

-- ---- the device's asks

device_cases : (format : Format) (from : Origin) (d : Database) (m : Message) → Comes format from m
    → IsObject (device_id d.configured.device)
    → DeviceCases (Lies format (device_network d) from) bounds_known d (context_of format (device_network d) m)
device_cases format from d m comes own =
    let device = device_network d in record {
      read = λ object p known. in_message format device from _ (inr (inr (inr (inl
          (lies_by (named from operations.Read (only 12) (only device) nothing) _
          (exactly 9) comes.port comes.network comes.key (exactly device) (exactly 12)
          (object_kind object known.0) (object_instance object known.0) (property_within p known.1) refl
          (sent format from.sender m.from comes.sender comes.brought.from) refl)))));
      multi = λ object p known. in_message format device from _ (inr (inr (inr (inr (inl
          (lies_by (named from operations.Read (only 14) (only device) nothing) _
          (exactly 9) comes.port comes.network comes.key (exactly device) (exactly 14)
          (object_kind object known.0) (object_instance object known.0) (property_within p known.1) refl
          (sent format from.sender m.from comes.sender comes.brought.from) refl))))));
      write = λ object p priority known rank. in_message format device from _ (inr (inr (inr (inr (inr (inl
          (lies_by (named from operations.Write (only 15) (only device) (some fields.Priority)) _
          (exactly 10) comes.port comes.network comes.key (exactly device) (exactly 15)
          (object_kind object known.0) (object_instance object known.0) (property_within p known.1) rank
          (sent format from.sender m.from comes.sender comes.brought.from) refl)))))));
      who_has = λ object known. in_message format device from _ (inr (inr (inr (inr (inr (inr (inl
          (lies_by (record (named from operations.List (only 263) (only device) nothing) { property = only 77 }) _
          (exactly 11) comes.port comes.network comes.key (exactly device) (exactly 263)
          (object_kind object known) (object_instance object known) (exactly 77) refl
          (sent format from.sender m.from comes.sender comes.brought.from) refl))))))));
      who_is = in_message format device from _ (inr (inr (inr (inr (inr (inr (inr (inl
          (lies_by (record (named from operations.List (only 264) (only device) nothing) { object_type = only 8; property = only 75 }) _
          (exactly 11) comes.port comes.network comes.key (exactly device) (exactly 264)
          (exactly 8) (object_instance (device_id d.configured.device) own) (exactly 75) refl
          (sent format from.sender m.from comes.sender comes.brought.from) refl)))))))));
    }

device_lies : (format : Format) (rules : List Rule) (d : Database) (from : Origin) (m : Message) → Comes format from m
    → DeviceKnown bounds_known d.configured
    → AllByRecursion (Lies format (device_network d) from) (apdu_asks rules d (context_of format (device_network d) m) (apdu_for (device_network d) m.npdu))
device_lies format rules d from m comes own =
    by (apdu_for (device_network d) m.npdu) (towards (device_network d) m.npdu.payload m.npdu.destination comes.brought.npdu.octets)
  where
    -- the APDU is the payload's octets
    of_payload : (payload : Payload) → AreOctets (payload_octets payload) → IfSome (apdu_of payload) AreOctets
    of_payload (apdu octets) fits = fits
    of_payload (network_message other) fits = tt

    if_to : (b : Bool) (payload : Payload) → AreOctets (payload_octets payload) → IfSome (if b then apdu_of payload else None) AreOctets
    if_to true payload fits = of_payload payload fits
    if_to false payload fits = tt

    towards : (network : ℕ) (payload : Payload) (d : Option Destination) → AreOctets (payload_octets payload)
        → IfSome (apdu_towards network payload d) AreOctets
    towards network payload None fits = tt
    towards network payload (Some d) fits = if_to (is_device network d || is_broadcast network d) payload fits

    by : (apdu : Option (List ℕ)) → IfSome apdu AreOctets
        → AllByRecursion (Lies format (device_network d) from) (apdu_asks rules d (context_of format (device_network d) m) apdu)
    by None fits = tt
    by (Some octets) fits =
        each_device (Lies format (device_network d) from) bounds_known rules d (context_of format (device_network d) m) octets
        (device_cases format from d m comes own.device) own fits

-- ---- all of a message

-- what holds of what lies there holds of each of its asks, if it holds of those before it is taken, and of those of a message
-- that names no source
pub message_lies : (rules : List Rule) (relay : Relay) (d : Database) (from : Origin) (m : Message) (P : Ask → Type 0)
    → Comes relay.format from m → Reached bounds_known relay m → DeviceKnown bounds_known d.configured
    → ((ask : Ask) → Lies relay.format (device_network d) from ask → P ask) → NearCases P relay.format m
    → AllByRecursion P (entry_asks rules relay m) → AllByRecursion P (asks_for rules relay d (message m))
message_lies rules relay d from m P comes reached own so near entered =
    let format = relay.format in
    let device = device_network d in
    let L = Lies format device from in
    each_part P rules relay d m entered
    (each_weaker L P so _ (each_cast L bounds_known format m (λ managed. cast_cases format device from m comes managed) comes.brought.npdu.octets))
    (each_weaker L P so _ (each_route L bounds_known relay m (route_cases format device from m comes) reached))
    (each_network P relay m (record {
      learn = near.learn;
      question = λ is network net. so (network_ask format m network) (question_lies format device from m comes is network net);
      number = near.number;
    }))
    (each_weaker L P so _ (device_lies format rules d from m comes own))

-- ---- who enters and who claims

in_if : (b : Bool) (shape : Shape) (ask : Ask) → b ≡ true → LiesIn shape ask → LiesInOne (if b then shape ∷ [] else []) ask
in_if true shape ask e lies = inl lies
in_if false shape ask e lies = absurd cc

pub enter_lies : (format : Format) (number network : ℕ) (m : Message) → names_stations format ≡ true → number ≡ m.here.port.number
    → network ≡ m.here.port.network → (manages : Bool) → IsBrought m
    → LiesInOne (enter_shapes format (own format number network manages)) (enter_ask format m)
enter_lies format number network m names at net manages brought =
    let from = own format number network manages in
    in_if (names_stations format) (plain from operations.Enter nothing) (enter_ask format m) names
    (lies_by (plain from operations.Enter nothing) (enter_ask format m) (exactly 12) (omega (arith, at), omega (arith, at))
    (omega (arith, net), omega (arith, net)) (six_octets format m.link brought.link)
    refl refl refl refl refl refl (sent format from.sender m.from refl brought.from) refl)

pub claim_lies : (format : Format) (from : Origin) (m : Message) → names_stations format ≡ true → Comes format from m
    → LiesInOne (claim_shapes format from) (claim_ask format m)
claim_lies format from m names comes =
    in_if (names_stations format) (plain from operations.Claim nothing) (claim_ask format m) names
    (lies_by (plain from operations.Claim nothing) (claim_ask format m) (exactly 13) comes.port comes.network comes.key
    refl refl refl refl refl refl (sent format from.sender m.from comes.sender comes.brought.from) refl)

-- ---- frames that manage a table

table_lies : (format : Format) (number network : ℕ) (port : Port) (sender : BipAddr) (frame : Frame) → number ≡ port.number → network ≡ port.network
    → IsAddress sender → HasFields frame
    → AllByRecursion (LiesInOne (table_shapes format (own format number network (is_manager port)))) (table.link_asks format port sender frame)
table_lies format number network port sender frame at net is fits = each frame fits
  where
    from : Origin
    from = own format number network (is_manager port)

    -- an ask is raised at a broadcast manager alone
    managed : (b : Bool) (ask : Ask) → LiesInOne (frame_shapes format from) ask
        → AllByRecursion (LiesInOne (if b then frame_shapes format from else [])) (if b then ask ∷ [] else [])
    managed true ask lies = (lies, tt)
    managed false ask lies = tt

    each : (frame : Frame) → HasFields frame
        → AllByRecursion (LiesInOne (table_shapes format (own format number network (is_manager port)))) (table.link_asks format port sender frame)
    each (bvll.write_bdt entries) fits =
        managed (is_manager port) _ (inl
        (lies_by (plain (own format number network (is_manager port)) operations.WriteTable (only 769)) _
        (exactly 6) (omega (arith, at), omega (arith, at)) (omega (arith, net), omega (arith, net)) (address_key sender is) refl (exactly 769) refl refl refl refl
        (sent format (address_in format) sender refl is) refl))
    each bvll.read_bdt fits =
        managed (is_manager port) _ (inr (inl
        (lies_by (plain (own format number network (is_manager port)) operations.ReadTable (only 770)) _
        (exactly 5) (omega (arith, at), omega (arith, at)) (omega (arith, net), omega (arith, net)) (address_key sender is) refl (exactly 770) refl refl refl refl
        (sent format (address_in format) sender refl is) refl)))
    each (bvll.register time_to_live) fits =
        managed (is_manager port) _ (inr (inr (inl
        (lies_by (plain (own format number network (is_manager port)) operations.Register (only 773)) _
        (exactly 3) (omega (arith, at), omega (arith, at)) (omega (arith, net), omega (arith, net)) (address_key sender is) refl (exactly 773) refl refl refl refl
        (sent format (address_in format) sender refl is) refl))))
    each bvll.read_fdt fits =
        managed (is_manager port) _ (inr (inr (inr (inl
        (lies_by (plain (own format number network (is_manager port)) operations.ReadTable (only 774)) _
        (exactly 5) (omega (arith, at), omega (arith, at)) (omega (arith, net), omega (arith, net)) (address_key sender is) refl (exactly 774) refl refl refl refl
        (sent format (address_in format) sender refl is) refl)))))
    each (bvll.delete address) fits =
        managed (is_manager port) _ (inr (inr (inr (inr (inl
        (lies_by (record (plain (own format number network (is_manager port)) operations.Delete (only 776)) { station = address_in format }) _
        (exactly 4) (omega (arith, at), omega (arith, at)) (omega (arith, net), omega (arith, net)) (address_key sender is) refl (exactly 776) refl refl refl refl
        (sent format (address_in format) sender refl is) (address_within (names_stations format) address fits)))))))
    each (bvll.result_code code) fits = tt
    each (bvll.read_bdt_ack entries) fits = tt
    each (bvll.forwarded originator npdu) fits = tt
    each (bvll.read_fdt_ack entries) fits = tt
    each (bvll.distribute npdu) fits = tt
    each (bvll.original_unicast npdu) fits = tt
    each (bvll.original_broadcast npdu) fits = tt

pub link_lies : (format : Format) (port : Port) (sender : BipAddr) (frame : Frame) → IsAddress sender → HasFields frame
    → AllByRecursion (LiesInOne (table_shapes format (own format port.number port.network (is_manager port)))) (table.link_asks format port sender frame)
link_lies format port sender frame is fits = table_lies format port.number port.network port sender frame refl refl is fits
