-- Every ask of an event carries its claim, so whoever may not read an object raises no ask to read it that is allowed.
use Rattle.std.proofs.Common.{◌≡◌, sym, refl, subst, ℕ, Bool, true, false, List, [], ◌∷◌, ◌++◌, Option, Some, None, Result, Ok, Err, take}
use Rattle.std.specs.Prelude.{not, if◌then◌else◌, IfSome}
use Rattle.std.specs.List.{AllByRecursion, Contains, list_all}
use Rattle.std.specs.Option.{option_map_or}
use Rattle.gw_addr.specs.declared.bip.BipAddr.{BipAddr}
use Rattle.gw_addr.specs.declared.station.Source.{Source}
use Rattle.gw_addr.specs.Address.{big_endian, octets_of}
use Rattle.gw_frames.specs.declared.bvll.fault.BvllFault.{BvllFault}
use Rattle.gw_frames.specs.bvll.Bvll.{Message as Frame}
use Rattle.gw_frames.specs.bvll.Reading.{bvll_at}
use Rattle.gw_device.specs.declared.context.Context.{Context}
use Rattle.gw_device.specs.Laws.{AsksToRead, NoReadAllowed}
use Rattle.gw_device.proofs.Changes.{asks_have_their_source}
use Rattle.gw_frames.specs.npdu.Npdu.{Fields}
use Rattle.gw_objects.specs.Objects.{Database}
use Rattle.gw_relay.specs.Cast.{accepts, is_unregistered}
use Rattle.gw_relay.specs.Claim.{claimed, link_source}
use Rattle.gw_relay.specs.Entry.{admits, claim_ask, claim_asks, enter_ask, enter_asks, entry_asks, is_stranger, speaks_for_others}
use Rattle.gw_relay.specs.Asks.{link_ask, link_asks, management_of}
use Rattle.gw_relay.specs.Laws.{AreFrom}
use Rattle.gw_relay.specs.State.{Relay, is_manager, port_at}
use Rattle.gw_relay.specs.declared.port.Port.{Port}
use Rattle.gw_relay.specs.declared.port.PortState.{PortState}
use Rattle.gw_core.proofs.EntryLemmas.{entry_is_unasked}
use Rattle.gw_relay.proofs.Claims.{broadcasts_carry_their_claim, network_messages_carry_their_claim, routing_carries_the_claim, table_asks_read_nothing}
use Rattle.gw_rules.specs.Ask.{Ask, IsFor, IsFrom}
use Rattle.gw_rules.specs.declared.format.Format.{Format}
use Rattle.gw_rules.specs.declared.operation.Operation.{Operation}
use Rattle.gw_rules.specs.declared.operation.Operation.TheVariants as operations
use Rattle.gw_rules.specs.Format.{key_in, names_stations}
use Rattle.gw_rules.specs.RuleList.{allows}
use Rattle.gw_rules.specs.declared.rule.Rule.{Rule}
use Rattle.gw_rules.proofs.EachAsk.{each_both, each_weaker, none_allowed}
use Rattle.gw_script.specs.Event.{Event, Datagram, Tick}
use Rattle.gw_codecs.specs.tags.Object.{Object}
use Rattle.gw_core.specs.Asks.{apdu_asks, asks, asks_for, cast_asks_for, first_asks_for, manage_asks_for, message_asks, route_asks_for}
use Rattle.gw_core_laws.specs.NoLeak.{AreBlind, AreTheirs, AsksCarryTheirClaim, AsksHaveTheirOrigin, AsksToReadOn, IsOf, WritesAreHidden, by_claim, by_entry, claim, state_before}
use Rattle.gw_core.specs.Marked.{kept}
use Rattle.gw_relay.specs.Message.{Message, message_of}
use Rattle.gw_core.specs.Receive.{Received, admit, barred, comes_in, dropped, managed, unregistered, manages, message, npdu_of, payload_of, receive, receive_datagram, receive_frame, receive_npdu, receive_on}
use Rattle.gw_core.specs.Reply.{apdu_for, context_of}
use Rattle.gw_core.specs.State.{State, device_network}
use Rattle.gw_core.proofs.RespondLemmas.{four_none}
use Rattle.gw_core_laws.proofs.FormatLemmas.{format_stays, format_stays_on}
use Rattle.gw_core_laws.proofs.WriteLemmas.{writes_are_unread, writes_go_unread}
use Rattle.gw_core_laws.specs.Onward.{WritesGoHidden}
use Rattle.gw_core.specs.History.{history_after, next, state_from}

-- ---- the claim of a message

-- a message has its link source and its claim of its frame and its NPDU
record IsSpoken (m : Message) : Type 0 where
  link : m.link ≡ link_source m.from m.frame
  claim : m.claim ≡ claimed m.here.port.network (link_source m.from m.frame) m.npdu

abbrev IfMessage : Received → Type 0
IfMessage dropped = Unit {0}
IfMessage (managed on from frame) = Unit {0}
IfMessage (unregistered m) = Unit {0}
IfMessage (barred m) = IsSpoken m
IfMessage (message m) = IsSpoken m

message_if : (b : Bool) (m : Message) → IsSpoken m → IfMessage (if b then unregistered m else message m)
message_if true m is = tt
message_if false m is = is

message_npdu : (ports : List PortState) (device : ℕ) (on : PortState) (from : BipAddr) (frame : Frame) (octets : List ℕ)
    → IfMessage (receive_npdu ports device on from frame octets)
message_npdu ports device on from frame octets = by (npdu_of ports device octets)
  where
    by : (npdu : Option Fields) → IfMessage (elim npdu [
      | Some npdu ↦
          if is_unregistered on from frame then unregistered (message_of on from frame npdu)
          else message (message_of on from frame npdu)
      | None ↦ dropped
    ])
    by None = tt
    by (Some npdu) = message_if (is_unregistered on from frame) (message_of on from frame npdu) (record { link = refl; claim = refl })

message_frame : (ports : List PortState) (device : ℕ) (on : PortState) (from : BipAddr) (frame : Frame)
    → IfMessage (receive_frame ports device on from frame)
message_frame ports device on from frame = by (manages frame) (accepts on from frame) (payload_of frame)
  where
    by : (manages heard : Bool) (payload : Option (List ℕ)) → IfMessage (if manages then managed on from frame
        else if not heard then dropped
        else (elim payload [
          | Some octets ↦ receive_npdu ports device on from frame octets
          | None ↦ dropped
        ]))
    by true heard payload = tt
    by false false payload = tt
    by false true None = tt
    by false true (Some octets) = message_npdu ports device on from frame octets

message_datagram : (ports : List PortState) (device : ℕ) (on : PortState) (from : BipAddr) (octets : List ℕ)
    → IfMessage (receive_datagram ports device on from octets)
message_datagram ports device on from octets = by (comes_in on.port.address from octets) (bvll_at octets)
  where
    by : (comes : Bool) (frame : Result Frame BvllFault) → IfMessage (if comes then (elim frame [
      | Ok frame ↦ receive_frame ports device on from frame
      | Err fault ↦ dropped
    ]) else dropped)
    by false frame = tt
    by true (Err fault) = tt
    by true (Ok frame) = message_frame ports device on from frame

message_on : (ports : List PortState) (device number : ℕ) (from : BipAddr) (octets : List ℕ)
    → IfMessage (receive_on ports device number from octets)
message_on ports device number from octets = by (port_at ports number)
  where
    by : (on : Option PortState) → IfMessage (elim on [
      | Some on ↦ receive_datagram ports device on from octets
      | None ↦ dropped
    ])
    by None = tt
    by (Some on) = message_datagram ports device on from octets

message_admitted : (rules : List Rule) (relay : Relay) (received : Received) → IfMessage received → IfMessage (admit rules relay received)
message_admitted rules relay dropped is = tt
message_admitted rules relay (managed on from frame) is = tt
message_admitted rules relay (unregistered m) is = tt
message_admitted rules relay (barred m) is = is
message_admitted rules relay (message m) is = by (admits rules relay m)
  where
    by : (b : Bool) → IfMessage (if b then message m else barred m)
    by true = is
    by false = is

message_at : (w : State) (e : Event) → IfMessage (receive w e)
unfolding receive
message_at w (Datagram port from octets) =
    message_admitted w.rules w.relay _ (message_on w.relay.ports (device_network w.device) port from octets)
message_at w Tick = tt

-- ---- its asks

from_apdu : (rules : List Rule) (d : Database) (context : Context) (x : Option (List ℕ))
    → AllByRecursion (IsFrom context.source_network context.source_key) (apdu_asks rules d context x)
from_apdu rules d context None = tt
from_apdu rules d context (Some octets) = asks_have_their_source rules d context octets

-- what holds of each ask of each part holds of each ask
pub each_part : (P : Ask → Type 0) (rules : List Rule) (relay : Relay) (d : Database) (m : Message)
    → AllByRecursion P (entry_asks rules relay m) → AllByRecursion P (cast_asks_for relay (message m))
    → AllByRecursion P (route_asks_for relay (message m)) → AllByRecursion P (manage_asks_for relay (message m))
    → AllByRecursion P (message_asks rules relay.format d m) → AllByRecursion P (asks_for rules relay d (message m))
each_part P rules relay d m entered cast routed answered served =
    let a = entry_asks rules relay m in
    let b = cast_asks_for relay (message m) in
    let c = route_asks_for relay (message m) in
    let e = manage_asks_for relay (message m) in
    each_both P (a ++ b ++ c ++ e) (message_asks rules relay.format d m)
    (each_both P (a ++ b ++ c) e (each_both P (a ++ b) c (each_both P a b entered cast) routed) answered) served

-- the asks once a message is taken are of its claim, and so are all of which this follows
each_claimed : (P : Ask → Type 0) (rules : List Rule) (relay : Relay) (d : Database) (m : Message)
    → ((ask : Ask) → IsFrom m.claim.net (key_in relay.format m.claim.mac) ask → P ask) → AllByRecursion P (entry_asks rules relay m)
    → AllByRecursion P (asks_for rules relay d (message m))
each_claimed P rules relay d m so entered =
    let each = IsFrom m.claim.net (key_in relay.format m.claim.mac) in
    let network = device_network d in
    each_part P rules relay d m entered
    (each_weaker each P so _ (broadcasts_carry_their_claim relay.format m))
    (each_weaker each P so _ (routing_carries_the_claim relay m))
    (each_weaker each P so _ (network_messages_carry_their_claim relay m))
    (each_weaker each P so _ (from_apdu rules d (context_of relay.format network m) (apdu_for network m.npdu)))

-- the asks before it is taken
entered_by : (P : Ask → Type 0) (rules : List Rule) (relay : Relay) (m : Message) → P (enter_ask relay.format m) → P (claim_ask relay.format m)
    → AllByRecursion P (entry_asks rules relay m)
entered_by P rules relay m enter claim =
    each_both P (enter_asks relay.format m) _ (one (is_stranger relay.format m) (enter_ask relay.format m) enter)
    (none (list_all (allows rules) (enter_asks relay.format m)) (claim_asks relay m) (one (speaks_for_others relay m) (claim_ask relay.format m) claim))
  where
    one : (b : Bool) (ask : Ask) → P ask → AllByRecursion P (if b then ask ∷ [] else [])
    one true ask p = (p, tt)
    one false ask p = tt

    none : (b : Bool) (asks : List Ask) → AllByRecursion P asks → AllByRecursion P (if b then asks else [])
    none true asks p = p
    none false asks p = tt

of_message : (rules : List Rule) (relay : Relay) (d : Database) (m : Message) → AllByRecursion (IsOf relay.format m) (asks_for rules relay d (message m))
of_message rules relay d m =
    each_claimed (IsOf relay.format m) rules relay d m (λ ask is. by_claim is)
    (entered_by (IsOf relay.format m) rules relay m (by_entry refl (record { source_network = refl; source_key = refl }))
    (by_claim (record { source_network = refl; source_key = refl })))

from_message : (rules : List Rule) (relay : Relay) (d : Database) (m : Message) → names_stations relay.format ≡ false
    → AreFrom relay.format m.claim (asks_for rules relay d (message m))
from_message rules relay d m off =
    let each = IsFrom m.claim.net (key_in relay.format m.claim.mac) in
    each_claimed each rules relay d m (λ ask is. is) (subst (AllByRecursion each) (sym (entry_is_unasked rules relay m off)) tt)

claimed_so : (w : State) (e : Event) (m : Message) → receive w e ≡ message m → IsSpoken m
claimed_so w e m is = subst IfMessage is (message_at w e)

pub asks_carry_their_claim : AsksCarryTheirClaim
unfolding asks
asks_carry_their_claim w e m is =
    let so = claimed_so w e m is in (
      so.claim,
      subst (λ (received : Received). AllByRecursion (IsOf w.relay.format m) (asks_for w.rules w.relay w.device received)) (sym is)
          (of_message w.rules w.relay w.device m),
      λ off. subst (λ (received : Received). AreFrom w.relay.format m.claim (asks_for w.rules w.relay w.device received)) (sym is)
          (from_message w.rules w.relay w.device m off),
    )

-- the ask of a frame that manages a table
table_from : (format : Format) (port : Port) (from : BipAddr) (frame : Frame) (operation : Option Operation)
    → AllByRecursion (IsFrom port.network (Some (big_endian (octets_of from))))
    (option_map_or (λ operation. if is_manager port then link_ask format port from frame operation ∷ [] else []) operation [])
table_from format port from frame None = tt
table_from format port from frame (Some operation) = by (is_manager port)
  where
    by : (b : Bool) → AllByRecursion (IsFrom port.network (Some (big_endian (octets_of from)))) (if b then link_ask format port from frame operation ∷ [] else [])
    by true = (record { source_network = refl; source_key = refl }, tt)
    by false = tt

theirs : (rules : List Rule) (relay : Relay) (d : Database) (received : Received) → IfMessage received
    → AreTheirs relay.format received (asks_for rules relay d received)
theirs rules relay d dropped is = refl
theirs rules relay d (unregistered m) is = refl
theirs rules relay d (managed on from frame) is =
    subst (AllByRecursion (IsFrom on.port.network (Some (big_endian (octets_of from)))))
    (sym (four_none (link_asks relay.format on.port from frame))) (table_from relay.format on.port from frame (management_of frame))
theirs rules relay d (barred m) is = (
  is.claim,
  subst (AllByRecursion (IsOf relay.format m)) (sym (four_none (entry_asks rules relay m)))
      (entered_by (IsOf relay.format m) rules relay m (by_entry refl (record { source_network = refl; source_key = refl }))
      (by_claim (record { source_network = refl; source_key = refl }))),
)
theirs rules relay d (message m) is = (is.claim, of_message rules relay d m)

pub asks_have_their_origin : AsksHaveTheirOrigin
unfolding asks
asks_have_their_origin w e = theirs w.rules w.relay w.device (receive w e) (message_at w e)

-- ---- who is blind

-- an ask of a source that is blind is no ask to read that is allowed
blind_source : (format : Format) (rules : List Rule) (sources : List Source) (o : Object) (source : Source) → AreBlind format rules sources o
    → Contains sources source → (ask : Ask) → IsFrom source.net (key_in format source.mac) ask → AsksToRead o ask → allows rules ask ≡ false
blind_source format rules sources o source blind is ask by reads = blind source is ask (record {
  operation = reads.operation;
  source_network = by.source_network;
  source_key = by.source_key;
  object_type = reads.kind;
  instance = reads.instance;
})

blind_table : (rules : List Rule) (o : Object) (relay : Relay) (on : PortState) (from : BipAddr) (frame : Frame)
    → NoReadAllowed rules o (first_asks_for rules relay (managed on from frame))
blind_table rules o relay on from frame =
    let asked = first_asks_for rules relay (managed on from frame) in
    none_allowed (AsksToRead o) rules asked
    (each_weaker (λ ask. IsFor operations.Read ask → ⊥) (λ ask. AsksToRead o ask → ⊥) (λ ask never reads. never reads.operation)
    asked (table_asks_read_nothing relay.format on.port from frame))

blind_entry : (rules : List Rule) (o : Object) (relay : Relay) (m : Message) → NoReadAllowed rules o (entry_asks rules relay m)
blind_entry rules o relay m =
    entered_by (λ ask. AsksToRead o ask → allows rules ask ≡ false) rules relay m (λ reads. absurd (no_read reads.operation)) (λ reads. absurd (no_read_either reads.operation))
  where
    no_read : IsFor operations.Read (enter_ask relay.format m) → ⊥
    no_read e = cc

    no_read_either : IsFor operations.Read (claim_ask relay.format m) → ⊥
    no_read_either e = cc

blind_asks : (rules : List Rule) (sources : List Source) (o : Object) (relay : Relay) (d : Database) (received : Received) → AreBlind relay.format rules sources o
    → IfMessage received → IfSome (claim received) (Contains sources) → NoReadAllowed rules o (asks_for rules relay d received)
blind_asks rules sources o relay d dropped blind is claims = tt
blind_asks rules sources o relay d (unregistered m) blind is claims = tt
blind_asks rules sources o relay d (managed on from frame) blind is claims =
    subst (NoReadAllowed rules o) (sym (four_none (first_asks_for rules relay (managed on from frame)))) (blind_table rules o relay on from frame)
blind_asks rules sources o relay d (barred m) blind is claims =
    subst (NoReadAllowed rules o) (sym (four_none (entry_asks rules relay m))) (blind_entry rules o relay m)
blind_asks rules sources o relay d (message m) blind is claims =
    each_claimed (λ ask. AsksToRead o ask → allows rules ask ≡ false) rules relay d m (blind_source relay.format rules sources o m.claim blind claims)
    (blind_entry rules o relay m)

blind_at : (w : State) (sources : List Source) (o : Object) (e : Event) → AreBlind w.relay.format w.rules sources o → IfSome (claim (receive w e)) (Contains sources)
    → NoReadAllowed w.rules o (asks w e)
unfolding asks
blind_at w sources o e blind claims = blind_asks w.rules sources o w.relay w.device (receive w e) blind (message_at w e) claims

pub writes_are_hidden : WritesAreHidden
writes_are_hidden c k sources o marks l blind out place e there claims =
    writes_are_unread c k o marks l out place e there
    (each_weaker (λ ask. AsksToRead o ask → allows c.rules ask ≡ false) (λ ask. AsksToReadOn c.device.network o ask → allows c.rules ask ≡ false)
    (λ ask none reads. none reads.reads) (asks (state_before c k (kept marks l) place) e)
    (blind_at (state_before c k (kept marks l) place) sources o e
    (subst (λ (format : Format). AreBlind format c.rules sources o) (sym (format_stays c k (history_after [] (take place (kept marks l))))) blind) claims))

-- ---- from any state on

-- the rules stay
rules_from : (w : State) (l : List Event) → (state_from w l).rules ≡ w.rules
unfolding state_from next
rules_from w [] = refl
rules_from w (e ∷ l) = rules_from (next w e) l

pub writes_go_hidden : WritesGoHidden
writes_go_hidden w sources o marks l blind out place e there claims =
    let v = state_from w (take place (kept marks l)) in
    let network = w.device.configured.device.network in
    let same : v.rules ≡ w.rules = rules_from w (take place (kept marks l)) in
    let here = subst (λ (rules : List Rule). NoReadAllowed rules o (asks v e)) same
    (blind_at v sources o e (subst (λ (format : Format). AreBlind format v.rules sources o) (sym (format_stays_on w (take place (kept marks l))))
    (subst (λ (rules : List Rule). AreBlind w.relay.format rules sources o) (sym same) blind)) claims) in
    writes_go_unread w o marks l out place e there
    (each_weaker (λ ask. AsksToRead o ask → allows w.rules ask ≡ false) (λ ask. AsksToReadOn network o ask → allows w.rules ask ≡ false)
    (λ ask none reads. none reads.reads) (asks v e) here)
