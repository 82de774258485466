-- A line of the log says which rule denied it.
use Rattle.std.proofs.Common.{◌≡◌, ◌∙◌, ◌⊎◌, inl, inr, sym, ap, refl, subst, ℕ, ◌+◌, ◌-◌, ◌≤◌, Bool, true, false, List, [], ◌∷◌, ◌++◌, Option, Some, None, Result, Ok, Err, arith}
use Rattle.std.specs.Prelude.{◌==◌, ◌&&◌, not, if◌then◌else◌, slice_get, codes, filter, map, ⊤}
use Rattle.std.specs.List.{AllByRecursion}
use Rattle.std.specs.Option.{option_and_then, option_map}
use Rattle.std.proofs.lemmas.Bool.{eqb-true}
use Rattle.gw_addr.specs.declared.bip.BipAddr.{BipAddr}
use Rattle.gw_addr.specs.Address.{IsAddress, big_endian, octets_of}
use Rattle.gw_audit.specs.Entry.{IsLineOf, IsShowable, ShowsAsk, ask_shown, format_shown, shown_ask}
use Rattle.gw_audit.specs.declared.denial.Denial.{Denial}
use Rattle.gw_audit.specs.declared.entry.ShownAsk.{ShownAsk}
use Rattle.gw_audit.specs.declared.entry.Stations.{Stations}
use Rattle.gw_audit.specs.internal.Reading.{shown_by}
use Rattle.gw_audit.proofs.TranslatingLemmas.{line_again, shown_again, told_again}
use Rattle.gw_frames.specs.declared.bvll.fault.BvllFault.{BvllFault}
use Rattle.gw_frames.specs.bvll.Bvll.{Message as Frame}
use Rattle.gw_frames.specs.bvll.Bvll as bvll
use Rattle.gw_frames.specs.bvll.Reading.{bvll_at}
use Rattle.gw_frames.specs.npdu.Npdu.{Fields}
use Rattle.gw_objects.specs.Objects.{Database}
use Rattle.gw_objects.specs.Property.{properties}
use Rattle.gw_objects.specs.declared.configured.Configured.{Configured}
use Rattle.gw_rules.specs.declared.format.Format.{Format}
use Rattle.gw_relay.specs.Cast.{accepts, is_unregistered}
use Rattle.gw_relay.specs.Entry.{admits, entry_asks}
use Rattle.gw_relay.specs.Asks as table
use Rattle.gw_relay.proofs.SourceKeys.{node_key}
use Rattle.gw_relay.specs.Message.{Message, message_of}
use Rattle.gw_relay.specs.State.{Relay, is_manager, port_at}
use Rattle.gw_relay.specs.declared.port.PortState.{PortState}
use Rattle.gw_rules.specs.Ask.{Ask}
use Rattle.gw_rules.specs.Format.{key_in, names_stations}
use Rattle.gw_rules.specs.declared.format.Format.TheVariants.{One, Two, Three}
use Rattle.gw_rules.specs.declared.operation.Operation.{Operation}
use Rattle.gw_rules.specs.declared.operation.Operation.TheVariants as operations
use Rattle.gw_rules.specs.Authorizer.{denied_of, refusal}
use Rattle.gw_rules.specs.RuleList.{allows, first, is_logged, is_quiet_by}
use Rattle.gw_rules.specs.declared.refusal.Refusal.{Refusal}
use Rattle.gw_rules.specs.declared.rule.Rule.{Rule}
use Rattle.gw_rules.proofs.EachAsk.{each_weaker}
use Rattle.gw_rules.proofs.First.{first_iff}
use Rattle.gw_script.specs.Event.{Event, Datagram, Tick}
use Rattle.gw_core.specs.Asks.{apdu_asks, asks_for}
use Rattle.gw_core.specs.Denials.{default_name, denials_at, denials_for, denials_from, name_at, rule_name}
use Rattle.gw_core.specs.Effects.{effects_at}
use Rattle.gw_core.specs.Receive.{Origin, Received, admit, barred, comes_in, dropped, managed, manages, message, message_origin, node_origin, npdu_of, payload_of, receive, receive_datagram, receive_frame, receive_npdu, receive_on, source_of, unregistered}
use Rattle.gw_core.specs.Reply.{apdu_for, context_of}
use Rattle.gw_core.specs.State.{State, device_network}
use Rattle.gw_verdicts.specs.Laws.{IsSent, NamesTheRule, WhyNamesTheRule, denied_by}
use Rattle.gw_core.specs.Explained.{by_text}
use Rattle.gw_verdicts.specs.Why.{answer, answer_to, said_text}
use Rattle.gw_verdicts.proofs.DeviceAsks.{DeviceCases, DeviceKnown, each_device}
use Rattle.gw_verdicts.proofs.Knowing.{nothing_known}
use Rattle.gw_verdicts.proofs.Parts.{each_entry, each_part}
use Rattle.gw_verdicts.proofs.RelayAsks.{CastCases, NamedCases, NetworkCases, Reached, RouteCases, each_cast, each_network, each_route}
use Rattle.gw_core.proofs.RespondLemmas.{four_none}

-- ---- the origin of an ask

-- the stations that a line shows of an ask
abbrev both : Option ℕ → Option ℕ → Option Stations
both sender station = option_map (λ n. record { sender = n; station = station }) sender

-- an ask has the port and the source of what it comes from, by a key of the format that a line shows, and a station only with
-- a sender
record Carries (from : Origin) (ask : Ask) : Type 0 where
  port : ask.port ≡ Some from.port
  network : ask.source_network ≡ Some (source_of from ask).net
  key : ask.source_key ≡ key_in (format_shown (both ask.sender ask.station)) (source_of from ask).mac
  station : ask.sender ≡ None → ask.station ≡ None

-- the format that a line shows has the keys of the format of the policy
key_shown : (format : Format) (from : BipAddr) (station : Option ℕ) (mac : List ℕ)
    → key_in format mac ≡ key_in (format_shown (both (table.sender_of format from) station)) mac
key_shown One from station mac = refl
key_shown Two from station mac = refl
key_shown Three from station mac = refl

key_is : (format : Format) (a from : BipAddr) (station : Option ℕ) → IsAddress a
    → Some (big_endian (octets_of a)) ≡ key_in (format_shown (both (table.sender_of format from) station)) (octets_of a)
key_is format a from station is = sym (node_key format a is.four) ∙ key_shown format from station (octets_of a)

-- without a sender there is no station
absent_too : (b : Bool) (key : ℕ) (value : Option ℕ) → (if b then Some key else None) ≡ None → (if b then value else None) ≡ None
absent_too true key value e = absurd cc
absent_too false key value e = refl

no_station : (format : Format) (from : BipAddr) (value : Option ℕ) → table.sender_of format from ≡ None
    → (if names_stations format then value else None) ≡ None
no_station format from value e = absent_too (names_stations format) (big_endian (octets_of from)) value e

-- the one ask, if the port is a broadcast manager
one_if : (P : Ask → Type 0) (b : Bool) (ask : Ask) → P ask → AllByRecursion P (if b then ask ∷ [] else [])
one_if P true ask is = (is, tt)
one_if P false ask is = tt

by_link : (format : Format) (on : PortState) (sender : BipAddr) (frame : Frame) → IsAddress sender
    → AllByRecursion (Carries (node_origin on sender)) (table.link_asks format on.port sender frame)
by_link format on sender (bvll.write_bdt entries) is =
    one_if (Carries (node_origin on sender)) (is_manager on.port) _ (record { port = refl; network = refl; key = key_is format sender sender _ is; station = λ e. refl })
by_link format on sender bvll.read_bdt is =
    one_if (Carries (node_origin on sender)) (is_manager on.port) _ (record { port = refl; network = refl; key = key_is format sender sender _ is; station = λ e. refl })
by_link format on sender (bvll.register time_to_live) is =
    one_if (Carries (node_origin on sender)) (is_manager on.port) _ (record { port = refl; network = refl; key = key_is format sender sender _ is; station = λ e. refl })
by_link format on sender bvll.read_fdt is =
    one_if (Carries (node_origin on sender)) (is_manager on.port) _ (record { port = refl; network = refl; key = key_is format sender sender _ is; station = λ e. refl })
by_link format on sender (bvll.delete address) is =
    one_if (Carries (node_origin on sender)) (is_manager on.port) _ (record {
      port = refl;
      network = refl;
      key = key_is format sender sender _ is;
      station = λ e. no_station format sender (Some (big_endian (octets_of address))) e;
    })
by_link format on sender (bvll.result_code code) is = tt
by_link format on sender (bvll.read_bdt_ack entries) is = tt
by_link format on sender (bvll.forwarded originator npdu) is = tt
by_link format on sender (bvll.read_fdt_ack entries) is = tt
by_link format on sender (bvll.distribute npdu) is = tt
by_link format on sender (bvll.original_unicast npdu) is = tt
by_link format on sender (bvll.original_broadcast npdu) is = tt

abbrev so : Message → Ask → Type 0
so m = Carries (message_origin m)

network_so : (format : Format) (m : Message) → NetworkCases (so m) format m
network_so format m = record {
  learn = λ is silent network net. record { port = refl; network = refl; key = key_shown format m.from _ m.claim.mac; station = λ e. refl };
  question = λ is network net. record { port = refl; network = refl; key = key_shown format m.from _ m.claim.mac; station = λ e. refl };
  number = λ is silent. record { port = refl; network = refl; key = key_shown format m.from _ m.claim.mac; station = λ e. refl };
}

named_so : (format : Format) (m : Message) (operation : Operation) (network : Option ℕ)
    → NamedCases (so m) nothing_known (table.passing_ask format operation m network)
named_so format m operation network = record {
  unnamed_read = λ service is reading. record { port = refl; network = refl; key = key_shown format m.from _ m.claim.mac; station = no_station format m.from _ };
  named_read = λ service is reading object p known. record { port = refl; network = refl; key = key_shown format m.from _ m.claim.mac; station = no_station format m.from _ };
  unnamed_write = λ is. record { port = refl; network = refl; key = key_shown format m.from _ m.claim.mac; station = no_station format m.from _ };
  named_write = λ is object p priority known rank. record { port = refl; network = refl; key = key_shown format m.from _ m.claim.mac; station = no_station format m.from _ };
}

cast_so : (format : Format) (m : Message) → CastCases (so m) nothing_known format m
cast_so format m = record {
  cast = record { port = refl; network = refl; key = key_shown format m.from _ m.claim.mac; station = no_station format m.from _ };
  follows = λ e. named_so format m operations.Cast (table.bound_for m.npdu);
}

route_so : (format : Format) (m : Message) → RouteCases (so m) nothing_known format m
route_so format m = record {
  route = λ network net. record { port = refl; network = refl; key = key_shown format m.from _ m.claim.mac; station = no_station format m.from _ };
  follows = λ network net judges. named_so format m operations.Route (Some network);
}

device_so : (format : Format) (d : Database) (m : Message) → DeviceCases (so m) nothing_known d (context_of format (device_network d) m)
device_so format d m = record {
  read = λ object p known. record { port = refl; network = refl; key = key_shown format m.from _ m.claim.mac; station = λ e. refl };
  multi = λ object p known. record { port = refl; network = refl; key = key_shown format m.from _ m.claim.mac; station = λ e. refl };
  write = λ object p priority known rank. record { port = refl; network = refl; key = key_shown format m.from _ m.claim.mac; station = λ e. refl };
  who_is = record { port = refl; network = refl; key = key_shown format m.from _ m.claim.mac; station = λ e. refl };
  who_has = λ object known. record { port = refl; network = refl; key = key_shown format m.from _ m.claim.mac; station = λ e. refl };
}

each_unknown : {A : Type 0} (xs : List A) → AllByRecursion (λ x. ⊤) xs
each_unknown [] = tt
each_unknown (x ∷ xs) = (tt, each_unknown xs)

own_unknown : (c : Configured) → DeviceKnown nothing_known c
own_unknown c = record {
  device = tt;
  objects = each_unknown c.objects;
  named = λ object p known. tt;
  listed = λ object p kind set known. each_unknown (properties kind set);
}

reached_unknown : (relay : Relay) (m : Message) → Reached nothing_known relay m
reached_unknown relay m = record { ports = each_unknown relay.ports; bound = λ d is other home. tt; text = tt }

apdu_so : (rules : List Rule) (format : Format) (d : Database) (m : Message) (apdu : Option (List ℕ))
    → AllByRecursion (so m) (apdu_asks rules d (context_of format (device_network d) m) apdu)
apdu_so rules format d m None = tt
apdu_so rules format d m (Some octets) =
    each_device (so m) nothing_known rules d (context_of format (device_network d) m) octets (device_so format d m) (own_unknown d.configured) tt

-- an ask to enter is of the link source
entry_so : (rules : List Rule) (relay : Relay) (m : Message) → AllByRecursion (so m) (entry_asks rules relay m)
entry_so rules relay m =
    each_entry (so m) rules relay m (λ e. record { port = refl; network = refl; key = key_shown relay.format m.from _ (octets_of m.link); station = λ e. refl })
    (λ e. record { port = refl; network = refl; key = key_shown relay.format m.from _ m.claim.mac; station = λ e. refl })

message_so : (rules : List Rule) (relay : Relay) (d : Database) (m : Message) → AllByRecursion (so m) (asks_for rules relay d (message m))
message_so rules relay d m =
    let P = so m in
    each_part P rules relay d m (entry_so rules relay m) (each_cast P nothing_known relay.format m (λ managed. cast_so relay.format m) tt)
    (each_route P nothing_known relay m (route_so relay.format m) (reached_unknown relay m)) (each_network P relay m (network_so relay.format m))
    (apdu_so rules relay.format d m (apdu_for (device_network d) m.npdu))

-- ---- what is received comes from an address

abbrev SentBy : Received → Type 0
SentBy dropped = Unit {0}
SentBy (managed on from frame) = IsAddress from
SentBy (unregistered m) = Unit {0}
SentBy (barred m) = Unit {0}
SentBy (message m) = Unit {0}

sent_if : (b : Bool) (m : Message) → SentBy (if b then unregistered m else message m)
sent_if true m = tt
sent_if false m = tt

sent_npdu : (states : List PortState) (device : ℕ) (on : PortState) (from : BipAddr) (frame : Frame) (octets : List ℕ)
    → SentBy (receive_npdu states device on from frame octets)
sent_npdu states device on from frame octets = by (npdu_of states device octets)
  where
    by : (npdu : Option Fields) → SentBy (elim npdu [
      | Some npdu ↦
          if is_unregistered on from frame then unregistered (message_of on from frame npdu)
          else message (message_of on from frame npdu)
      | None ↦ dropped
    ])
    by None = tt
    by (Some npdu) = sent_if (is_unregistered on from frame) (message_of on from frame npdu)

sent_frame : (states : List PortState) (device : ℕ) (on : PortState) (from : BipAddr) (frame : Frame) → IsAddress from
    → SentBy (receive_frame states device on from frame)
sent_frame states device on from frame is = by (manages frame) (accepts on from frame) (payload_of frame)
  where
    by : (manages heard : Bool) (payload : Option (List ℕ)) → SentBy (if manages then managed on from frame
        else if not heard then dropped
        else (elim payload [
          | Some octets ↦ receive_npdu states device on from frame octets
          | None ↦ dropped
        ]))
    by true heard payload = is
    by false false payload = tt
    by false true None = tt
    by false true (Some octets) = sent_npdu states device on from frame octets

sent_datagram : (states : List PortState) (device : ℕ) (on : PortState) (from : BipAddr) (octets : List ℕ) → IsAddress from
    → SentBy (receive_datagram states device on from octets)
sent_datagram states device on from octets is = by (comes_in on.port.address from octets) (bvll_at octets)
  where
    by : (comes : Bool) (frame : Result Frame BvllFault) → SentBy (if comes then (elim frame [
      | Ok frame ↦ receive_frame states device on from frame
      | Err fault ↦ dropped
    ]) else dropped)
    by false frame = tt
    by true (Err fault) = tt
    by true (Ok frame) = sent_frame states device on from frame is

sent_on : (states : List PortState) (device number : ℕ) (from : BipAddr) (octets : List ℕ) → IsAddress from
    → SentBy (receive_on states device number from octets)
sent_on states device number from octets is = by (port_at states number)
  where
    by : (on : Option PortState) → SentBy (elim on [
      | Some on ↦ receive_datagram states device on from octets
      | None ↦ dropped
    ])
    by None = tt
    by (Some on) = sent_datagram states device on from octets is

sent_admitted : (rules : List Rule) (relay : Relay) (received : Received) → SentBy received → SentBy (admit rules relay received)
sent_admitted rules relay dropped is = tt
sent_admitted rules relay (managed on from frame) is = is
sent_admitted rules relay (unregistered m) is = tt
sent_admitted rules relay (barred m) is = tt
sent_admitted rules relay (message m) is = by (admits rules relay m)
  where
    by : (b : Bool) → SentBy (if b then message m else barred m)
    by true = tt
    by false = tt

sent_at : (w : State) (e : Event) → IsSent e → SentBy (receive w e)
unfolding receive
sent_at w (Datagram port from octets) is =
    sent_admitted w.rules w.relay _ (sent_on w.relay.ports (device_network w.device) port from octets is)
sent_at w Tick is = tt

-- ---- denials

-- what is known of a denial
record IsDeniedSo (rules : List Rule) (d : Denial) : Type 0 where
  ask : ask_shown (shown_ask d) ≡ d.ask
  rule : d.rule ≡ rule_name rules (first rules d.ask)
  denied : allows rules d.ask ≡ false

-- and of a refusal
record IsRefusedSo (rules : List Rule) (from : Origin) (r : Refusal) : Type 0 where
  carries : Carries from r.ask
  by : r.by ≡ first rules r.ask
  denied : allows rules r.ask ≡ false

refused_if : (rules : List Rule) (from : Origin) (ask : Ask) (rest : List Ask) (b quiet : Bool) → allows rules ask ≡ b → Carries from ask
    → AllByRecursion (IsRefusedSo rules from) (map (refusal rules) rest)
    → AllByRecursion (IsRefusedSo rules from) (map (refusal rules) (if not b && not quiet then ask ∷ rest else rest))
refused_if rules from ask rest true quiet e carries later = later
refused_if rules from ask rest false true e carries later = later
refused_if rules from ask rest false false e carries later = (record { carries = carries; by = refl; denied = e }, later)

refused_so : (rules : List Rule) (from : Origin) (asks : List Ask) → AllByRecursion (Carries from) asks
    → AllByRecursion (IsRefusedSo rules from) (denied_of rules asks)
refused_so rules from [] each = tt
refused_so rules from (ask ∷ asks) each =
    refused_if rules from ask (filter (is_logged rules) asks) (allows rules ask) (is_quiet_by rules (first rules ask)) refl each.0
    (refused_so rules from asks each.1)

-- the stations that are shown are those of the ask
sender_again : (sender station : Option ℕ) → option_map (λ (s : Stations). s.sender) (both sender station) ≡ sender
sender_again None station = refl
sender_again (Some n) station = refl

station_again : (sender station : Option ℕ) → (sender ≡ None → station ≡ None)
    → option_and_then (λ (s : Stations). s.station) (both sender station) ≡ station
station_again None station none = sym (none refl)
station_again (Some n) station none = refl

-- an ask that carries its origin is the one that is shown
shown_so : (number tick : ℕ) (from : Origin) (ask : Ask) (rule : List ℕ) → Carries from ask → ask_shown (shown_ask (record {
  number = number;
  tick = tick;
  port = from.port;
  source = source_of from ask;
  ask = ask;
  rule = rule;
})) ≡ ask
shown_so number tick from ask rule carries =
    let source = source_of from ask in
    let key = key_in (format_shown (both ask.sender ask.station)) source.mac in
    let sender = option_map (λ (s : Stations). s.sender) (both ask.sender ask.station) in
    let station = option_and_then (λ (s : Stations). s.station) (both ask.sender ask.station) in
    ap (λ (p : Option ℕ). record (ask) {
      port = p;
      source_network = Some source.net;
      source_key = key;
      sender = sender;
      station = station;
    }) (sym carries.port)
    ∙ ap (λ (n : Option ℕ). record (ask) { source_network = n; source_key = key; sender = sender; station = station })
    (sym carries.network)
    ∙ ap (λ (k : Option ℕ). record (ask) { source_key = k; sender = sender; station = station }) (sym carries.key)
    ∙ ap (λ (s : Option ℕ). record (ask) { sender = s; station = station }) (sender_again ask.sender ask.station)
    ∙ ap (λ (s : Option ℕ). record (ask) { station = s }) (station_again ask.sender ask.station carries.station)

denials_so : (rules : List Rule) (number tick : ℕ) (from : Origin) (refusals : List Refusal) → AllByRecursion (IsRefusedSo rules from) refusals
    → AllByRecursion (IsDeniedSo rules) (denials_from rules number tick from refusals)
denials_so rules number tick from [] each = tt
denials_so rules number tick from (r ∷ rs) each = (
  record {
    ask = shown_so number tick from r.ask (rule_name rules r.by) each.0.carries;
    rule = ap (rule_name rules) each.0.by;
    denied = each.0.denied;
  },
  denials_so rules (number + 1) tick from rs each.1,
)

-- its denials are of asks that carry their origin
origin_so : (w : State) (received : Received) (from : Origin) → AllByRecursion (Carries from) (asks_for w.rules w.relay w.device received)
    → AllByRecursion (IsDeniedSo w.rules)
    (denials_from w.rules (w.denials + 1) w.ticks from (denied_of w.rules (asks_for w.rules w.relay w.device received)))
origin_so w received from each =
    denials_so w.rules (w.denials + 1) w.ticks from (denied_of w.rules (asks_for w.rules w.relay w.device received))
    (refused_so w.rules from (asks_for w.rules w.relay w.device received) each)

received_so : (w : State) (received : Received) → SentBy received → AllByRecursion (IsDeniedSo w.rules) (denials_for w received)
received_so w dropped sent = tt
received_so w (managed on from frame) sent =
    let P = Carries (node_origin on from) in
    origin_so w (managed on from frame) (node_origin on from)
    (subst (AllByRecursion P) (sym (four_none (table.link_asks w.relay.format on.port from frame))) (by_link w.relay.format on from frame sent))
received_so w (unregistered m) sent = tt
received_so w (barred m) sent =
    origin_so w (barred m) (message_origin m)
    (subst (AllByRecursion (so m)) (sym (four_none (entry_asks w.rules w.relay m))) (entry_so w.rules w.relay m))
received_so w (message m) sent = origin_so w (message m) (message_origin m) (message_so w.rules w.relay w.device m)

denied_so : (w : State) (e : Event) → IsSent e → AllByRecursion (IsDeniedSo w.rules) (effects_at w e).denials
unfolding effects_at denials_at
denied_so w e sent = received_so w (receive w e) (sent_at w e sent)

-- ---- the answer

-- a line shows one ask
one_ask : (line : List ℕ) (d : Denial) (shown : ShownAsk) → IsShowable d → IsLineOf line d → ShowsAsk line shown → shown ≡ shown_ask d
one_ask line d shown is spelled translates =
    let translated : Some shown ≡ Some (shown_ask d) =
    sym (told_again line shown translates) ∙ ap (λ (found : Option Denial). shown_by found line) (line_again line d is spelled)
    ∙ ap (λ (s : ShownAsk). Some s) (shown_again d.number d.tick d.rule (shown_ask d)) in
    cc

not_zero : (number : ℕ) → 1 ≤ number → (number == 0) ≡ false
not_zero number counted = by (number == 0) refl
  where
    by : (b : Bool) → (number == 0) ≡ b → (number == 0) ≡ false
    by true e = absurd (omega (arith, counted, eqb-true number 0 e))
    by false e = e

rule_there : (rules : List Rule) (said : Option ℕ → List ℕ) (number : ℕ) (rule : Rule) → 1 ≤ number → slice_get rules (number - 1) ≡ Some rule
    → (codes "deny" ++ by_text rules (Some number)) ++ said (Some number) ++ 10 ∷ [] ≡ denied_by said number (name_at rules number)
rule_there rules said number rule counted there =
    let some_number : (number == 0) ≡ false = not_zero number counted in
    rw (there, some_number) refl

-- what the first rule says decides
first_denies : (rules : List Rule) (ask : Ask) (number : ℕ) (rule : Rule) → first rules ask ≡ Some number → slice_get rules (number - 1) ≡ Some rule
    → allows rules ask ≡ rule.allow
unfolding allows
first_denies rules ask number rule e there = rw (e, there) refl

names_so : (rules : List Rule) (said : Option ℕ → List ℕ) → said None ≡ [] → (ask : Ask) (found : Option ℕ) → first rules ask ≡ found → allows rules ask ≡ false
    → let answer = (codes "deny" ++ by_text rules found) ++ said found ++ 10 ∷ [] in
    ((found ≡ None) × (rule_name rules found ≡ default_name) × (answer ≡ codes "deny default" ++ 10 ∷ []))
    ⊎ ((number : ℕ) × (found ≡ Some number) × (answer ≡ denied_by said number (rule_name rules found)))
names_so rules said none ask None e denied = inl (refl, refl, rw none refl)
names_so rules said none ask (Some number) e denied =
    let is = (first_iff rules ask number).0 e in
    inr (number, refl, rule_there rules said number is.rule is.numbered.counted is.numbered.there)

named_so_by : (rules : List Rule) (said : Option ℕ → List ℕ) → said None ≡ [] → (d : Denial) (shown : ShownAsk) → IsDeniedSo rules d → shown ≡ shown_ask d → NamesTheRule rules said d shown
named_so_by rules said unsaid d shown denied is =
    let text : List ℕ = (codes "deny" ++ by_text rules (first rules d.ask)) ++ said (first rules d.ask) ++ 10 ∷ [] in
    let says : answer rules said d.ask ≡ text = rw denied.denied refl in
    let same : answer_to rules said shown ≡ text = ap (answer_to rules said) is ∙ ap (answer rules said) denied.ask ∙ says in
    elim (names_so rules said unsaid d.ask (first rules d.ask) refl denied.denied) [
      | inl none ↦ inl (none.0, denied.rule ∙ none.1, same ∙ none.2)
      | inr rule ↦ inr (rule.0, rule.1, same ∙ rule.2 ∙ ap (denied_by said rule.0) (sym denied.rule))
    ]

pub why_names_the_rule : WhyNamesTheRule
why_names_the_rule c lines w under e sent =
    each_weaker (IsDeniedSo w.rules)
    (λ d. (line : List ℕ) (shown : ShownAsk) → IsShowable d → IsLineOf line d → ShowsAsk line shown → NamesTheRule c.rules (said_text c lines) d shown)
    (λ d denied line shown is spelled translates.
    subst (λ (rules : List Rule). NamesTheRule rules (said_text c lines) d shown) under.rules
    (named_so_by w.rules (said_text c lines) refl d shown denied (one_ask line d shown is spelled translates)))
    (effects_at w e).denials (denied_so w e sent)
