-- Where the format names no stations, each part is as it was before there was such a format.
use Rattle.std.proofs.Common.{◌≡◌, ◌∙◌, ap, refl, ℕ, Bool, true, false, ◌&&◌, List, [], ◌∷◌, map, length, Option, Some, None}
use Rattle.std.specs.Prelude.{◌==◌, if◌then◌else◌}
use Rattle.std.specs.List.{list_all}
use Rattle.std.specs.Option.{option_map_or}
use Rattle.gw_addr.specs.declared.bip.BipAddr.{BipAddr}
use Rattle.gw_addr.specs.Address.{big_endian, octets_of}
use Rattle.gw_frames.specs.bvll.Bvll.{function_of, octet_of}
use Rattle.gw_frames.specs.bvll.Bvll.{Message as Frame}
use Rattle.gw_frames.specs.bvll.Bvll as bvll
use Rattle.gw_frames.specs.npdu.Npdu.{Destination, Fields, payload_octets}
use Rattle.gw_tables.specs.routes.Table.{way}
use Rattle.gw_tables.specs.declared.routes.route.Way.{Way}
use Rattle.gw_tables.specs.declared.routes.route.Way.TheVariants as ways
use Rattle.gw_rules.specs.Ask.{Ask, ask_of}
use Rattle.gw_rules.specs.Format.{names_stations}
use Rattle.gw_rules.specs.RuleList.{allows}
use Rattle.gw_rules.specs.Service.{service_number}
use Rattle.gw_rules.specs.declared.format.Format.{Format}
use Rattle.gw_rules.specs.declared.format.Format.TheVariants.{One, Two, Three}
use Rattle.gw_rules.specs.declared.operation.Operation.TheVariants.{Route}
use Rattle.gw_rules.specs.declared.rule.Rule.{Rule}
use Rattle.gw_rules.specs.declared.service.Service.TheVariants.{BvllFunction}
use Rattle.gw_relay.specs.Asks.{bound_for, deleted_station, management_of, sender_of}
use Rattle.gw_relay.specs.FormatTwo.{cast_response_before, delivered_before, link_asks_before, manage_response_before, message_ask_before, questions_before, steps_before}
use Rattle.gw_relay.specs.Laws.{BroadcastsAreAsBefore, NetworkMessagesAreAsBefore, RoutingIsAsBefore, TablesAreAsBefore}
use Rattle.gw_relay.specs.Link.{answer_to, change_of, granted, is_granted, refused}
use Rattle.gw_relay.specs.Manage.{is_i_am_router, is_what_is_network_number, is_who_is_router, learn_steps, manage_change, number_step, question_steps}
use Rattle.gw_relay.specs.Message.{Message}
use Rattle.gw_relay.specs.Named.{forward_asks}
use Rattle.gw_relay.specs.Plain.{plain_cast_response, plain_link_asks, plain_manage_response}
use Rattle.gw_relay.specs.Response.{Response}
use Rattle.gw_relay.specs.Route.{delivered, is_local, last_hop, leaves, steps_by}
use Rattle.gw_relay.specs.Sends.{Sending}
use Rattle.gw_relay.specs.State.{Relay, port_at}
use Rattle.gw_relay.specs.Steps.{Step, asks_of, sends_of, taken}
use Rattle.gw_relay.specs.declared.port.Port.{Port}
use Rattle.gw_relay.specs.declared.port.PortState.{PortState}
use Rattle.gw_relay.proofs.PlainLemmas.{plain_broadcasts, plain_network_messages, plain_tables}

-- ---- tables of a port

none_deleted : (format : Format) (frame : Frame) → names_stations format ≡ false → deleted_station format frame ≡ None
none_deleted format (bvll.delete address) e = rw e refl
none_deleted format (bvll.result_code code) e = refl
none_deleted format (bvll.write_bdt entries) e = refl
none_deleted format bvll.read_bdt e = refl
none_deleted format (bvll.read_bdt_ack entries) e = refl
none_deleted format (bvll.forwarded originator npdu) e = refl
none_deleted format (bvll.register time_to_live) e = refl
none_deleted format bvll.read_fdt e = refl
none_deleted format (bvll.read_fdt_ack entries) e = refl
none_deleted format (bvll.distribute npdu) e = refl
none_deleted format (bvll.original_unicast npdu) e = refl
none_deleted format (bvll.original_broadcast npdu) e = refl

-- the asks with this sender and this station
asks_of_stations : Port → BipAddr → Frame → Option ℕ → Option ℕ → List Ask
asks_of_stations port from frame sender station =
    option_map_or (λ operation. record (ask_of operation) {
      port = Some port.number;
      source_network = Some port.network;
      source_key = Some (big_endian (octets_of from));
      service = Some (service_number (BvllFunction (octet_of (function_of frame))));
      sender = sender;
      station = station;
    } ∷ []) (management_of frame) []

no_sender : (format : Format) (from : BipAddr) → names_stations format ≡ false → sender_of format from ≡ None
no_sender format from e = rw e refl

link_asks_as_before : (format : Format) (port : Port) (from : BipAddr) (frame : Frame) → names_stations format ≡ false
    → plain_link_asks format port from frame ≡ link_asks_before port from frame
unfolding asks_of_stations
link_asks_as_before format port from frame e =
    ap (λ (sender : Option ℕ). asks_of_stations port from frame sender (deleted_station format frame)) (no_sender format from e)
    ∙ ap (asks_of_stations port from frame None) (none_deleted format frame e)

-- what is answered if these are the asks
answered : List Rule → PortState → BipAddr → Frame → List Ask → Response
answered rules state from frame asks = record {
  asks = asks;
  sends = map (answer_to state.port from)
      (if list_all (allows rules) asks && is_granted state from frame then granted state frame else refused frame);
  change = if list_all (allows rules) asks && is_granted state from frame then change_of state.port from frame else None;
}

pub tables_are_as_before : TablesAreAsBefore
unfolding answered
tables_are_as_before rules format on from frame e manager =
    plain_tables rules format on from frame manager ∙ ap (answered rules on from frame) (link_asks_as_before format on.port from frame e)

-- ---- broadcasts

plain_as_before : (rules : List Rule) (format : Format) (m : Message) → names_stations format ≡ false
    → plain_cast_response rules format m ≡ cast_response_before rules m
plain_as_before rules One m e = refl
plain_as_before rules Two m e = refl
plain_as_before rules Three m e = cc

pub broadcasts_are_as_before : BroadcastsAreAsBefore
broadcasts_are_as_before rules format m e manager = plain_broadcasts rules format m manager ∙ plain_as_before rules format m e

-- ---- routing

delivered_either : (one six : Bool) (all some : List Sending)
    → (if one then all else if six && true then some else []) ≡ (if one then all else if six then some else [])
delivered_either true six all some = refl
delivered_either false true all some = refl
delivered_either false false all some = refl

delivered_as_before : (format : Format) (mac : List ℕ) (npdu : Fields) (state : PortState) → names_stations format ≡ false
    → delivered format mac npdu state ≡ delivered_before mac npdu state
delivered_as_before One mac npdu state e = delivered_either (length mac == 0) (length mac == 6) _ _
delivered_as_before Two mac npdu state e = delivered_either (length mac == 0) (length mac == 6) _ _
delivered_as_before Three mac npdu state e = cc

at_as_before : (format : Format) (mac : List ℕ) (npdu : Fields) (state : Option PortState) → names_stations format ≡ false
    → option_map_or (delivered format mac npdu) state [] ≡ option_map_or (delivered_before mac npdu) state []
at_as_before format mac npdu None e = refl
at_as_before format mac npdu (Some state) e = delivered_as_before format mac npdu state e

-- a relay of this format
with_format : Format → Relay → Relay
with_format format relay = record relay { format = format }

-- one way, if it leads on
steps_of_way : Format → Message → Bool → List Sending → List Step
steps_of_way format m on sends =
    let asks = forward_asks format (message_ask_before Route m (bound_for m.npdu)) m.npdu.payload in
    if on then record { asks = asks; sends = sends } ∷ [] else []

steps_as_before : (format : Format) (relay : Relay) (m : Message) (d : Destination) (by : Way) → names_stations format ≡ false
    → steps_by (with_format format relay) m d by ≡ steps_before (with_format format relay) m d by
unfolding with_format steps_of_way
steps_as_before One relay m d ways.Everywhere e = refl
steps_as_before Two relay m d ways.Everywhere e = refl
steps_as_before One relay m d ways.Device e = refl
steps_as_before Two relay m d ways.Device e = refl
steps_as_before One relay m d ways.Unknown e = refl
steps_as_before Two relay m d ways.Unknown e = refl
steps_as_before One relay m d (ways.Router route) e = refl
steps_as_before Two relay m d (ways.Router route) e = refl
steps_as_before One relay m d (ways.Port number) e =
    ap (λ (sends : List Sending). steps_of_way One m (leaves m.here.port.number (ways.Port number)) sends)
    (at_as_before One d.address.mac (last_hop m) (port_at relay.ports number) e)
steps_as_before Two relay m d (ways.Port number) e =
    ap (λ (sends : List Sending). steps_of_way Two m (leaves m.here.port.number (ways.Port number)) sends)
    (at_as_before Two d.address.mac (last_hop m) (port_at relay.ports number) e)
steps_as_before Three relay m d by e = cc

routing_by : (rules : List Rule) (format : Format) (relay : Relay) (m : Message) (local : Bool) (d : Option Destination)
    → names_stations format ≡ false
    → taken rules (if local then [] else option_map_or (λ d. steps_by (with_format format relay) m d (way relay.routes d.address.network)) d [])
    ≡ taken rules (if local then [] else option_map_or (λ d. steps_before (with_format format relay) m d (way relay.routes d.address.network)) d [])
routing_by rules format relay m true d e = refl
routing_by rules format relay m false None e = refl
routing_by rules format relay m false (Some d) e =
    ap (λ (steps : List Step). taken rules steps) (steps_as_before format relay m d (way relay.routes d.address.network) e)

pub routing_is_as_before : RoutingIsAsBefore
unfolding with_format
routing_is_as_before rules relay m e = routing_by rules relay.format relay m (is_local m.npdu.payload) m.npdu.destination e

-- ---- network layer messages

questions_as_before : (format : Format) (relay : Relay) (m : Message) (octets : List ℕ) → names_stations format ≡ false
    → question_steps (with_format format relay) m octets ≡ questions_before (with_format format relay) m octets
unfolding with_format
questions_as_before One relay m [] e = refl
questions_as_before Two relay m [] e = refl
questions_as_before One relay m (a ∷ []) e = refl
questions_as_before Two relay m (a ∷ []) e = refl
questions_as_before One relay m (a ∷ b ∷ []) e = refl
questions_as_before Two relay m (a ∷ b ∷ []) e = refl
questions_as_before One relay m (a ∷ b ∷ c ∷ octets) e = refl
questions_as_before Two relay m (a ∷ b ∷ c ∷ octets) e = refl
questions_as_before Three relay m octets e = cc

-- what is answered, if these are the questions' steps
managed : Format → List Rule → Relay → Message → List Step → Response
managed format rules relay m questions =
    let steps = if is_i_am_router m.npdu then learn_steps format m
    else if is_who_is_router m.npdu then questions
    else if is_what_is_network_number m.npdu then number_step format m ∷ [] else [] in record {
      asks = asks_of steps;
      sends = sends_of rules steps;
      change = manage_change rules (with_format format relay) m;
    }

managed_as_before : (format : Format) (rules : List Rule) (relay : Relay) (m : Message) → names_stations format ≡ false
    → plain_manage_response rules (with_format format relay) m ≡ manage_response_before rules (with_format format relay) m
unfolding with_format managed
managed_as_before One rules relay m e =
    ap (managed One rules relay m) (questions_as_before One relay m (payload_octets m.npdu.payload) e)
managed_as_before Two rules relay m e =
    ap (managed Two rules relay m) (questions_as_before Two relay m (payload_octets m.npdu.payload) e)
managed_as_before Three rules relay m e = cc

pub network_messages_are_as_before : NetworkMessagesAreAsBefore
unfolding with_format
network_messages_are_as_before rules relay m e announced =
    plain_network_messages rules relay m announced ∙ managed_as_before relay.format rules relay m e
