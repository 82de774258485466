-- Under the third format events ask and do what they ask and do under the second, but for the two fields, where nobody is
-- kept out and no rule says anything of the two fields.
use Rattle.std.proofs.Common.{◌≡◌, ◌∙◌, sym, ap, ap₂, refl, subst, ℕ, zero, suc, ◌+◌, ◌-◌, Bool, true, false, ◌&&◌, List, [], ◌∷◌, ◌++◌, length, map, zip, Option, Some, None, Result, Ok, Err}
use Rattle.std.specs.Prelude.{◌==◌, if◌then◌else◌, not, IfSome}
use Rattle.std.specs.List.{AllByRecursion, list_all}
use Rattle.std.specs.Option.{option_map}
use Rattle.std.proofs.lemmas.List.{length-map, map-append}
use Rattle.gw_addr.specs.declared.bip.BipAddr.{BipAddr}
use Rattle.gw_frames.specs.declared.bvll.fault.BvllFault.{BvllFault}
use Rattle.gw_frames.specs.bvll.Bvll.{Message as Frame}
use Rattle.gw_frames.specs.bvll.Reading.{bvll_at}
use Rattle.gw_frames.specs.npdu.Npdu.{Fields}
use Rattle.gw_audit.specs.declared.denial.Denial.{Denial}
use Rattle.gw_configuration.specs.Configuration.{Configuration}
use Rattle.gw_configuration.specs.declared.port.Port.{Port as ConfiguredPort}
use Rattle.gw_device.specs.declared.context.Context.{Context}
use Rattle.gw_device.specs.Device.{device_response}
use Rattle.gw_device.specs.Response.{Response}
use Rattle.gw_objects.specs.Objects.{Database}
use Rattle.gw_objects.specs.Write.{Write}
use Rattle.gw_relay.specs.Asks.{link_asks}
use Rattle.gw_relay.specs.Cast.{accepts, cast_asks, cast_sends, is_broadcast, is_unregistered}
use Rattle.gw_relay.specs.Entry.{admits, claim_ask, claim_asks, entry_asks, speaks_for_others}
use Rattle.gw_relay.specs.Initial.{port_states_from}
use Rattle.gw_relay.specs.Link.{link_answer}
use Rattle.gw_relay.specs.Manage.{manage_asks, manage_steps}
use Rattle.gw_relay.specs.Message.{Message, message_of}
use Rattle.gw_relay.specs.Route.{route_asks, route_steps}
use Rattle.gw_relay.specs.Sends.{Sending}
use Rattle.gw_relay.specs.State.{Move, Relay, changed_at, changed_of, deleted, moved, moved_by, port_at, port_later, ports_after, registered}
use Rattle.gw_relay.specs.State as move
use Rattle.gw_relay.specs.Steps.{asks_of, sends_of}
use Rattle.gw_relay.specs.declared.change.Change.{Change}
use Rattle.gw_relay.specs.declared.change.Change.TheVariants.{Entries, Registration, Deletion, Learnings}
use Rattle.gw_relay.specs.declared.port.PortState.{PortState}
use Rattle.gw_rules.specs.Ask.{Ask, IsFor}
use Rattle.gw_rules.specs.Authorizer.{denied_of}
use Rattle.gw_rules.specs.RuleList.{allows}
use Rattle.gw_rules.specs.declared.format.Format.{Format}
use Rattle.gw_rules.specs.declared.format.Format.TheVariants.{Two, Three}
use Rattle.gw_rules.specs.declared.operation.Operation.TheVariants.{Claim}
use Rattle.gw_rules.specs.declared.refusal.Refusal.{Refusal}
use Rattle.gw_rules.specs.declared.rule.Rule.{Rule}
use Rattle.gw_script.specs.Event.{Event, Datagram, Tick}
use Rattle.gw_core.specs.declared.effects.Effects.{Effects}
use Rattle.gw_core.specs.declared.event.Counts.{Counts}
use Rattle.gw_core.specs.Asks.{apdu_asks, asks, asks_for, message_asks}
use Rattle.gw_core.specs.Denials.{denials_at, denials_of}
use Rattle.gw_core.specs.Effects.{answer_sends, apdu_answer, apdu_change, change_at, change_for, changed, effects_at, move_at, relay_change_for, sends_for, ticks_of}
use Rattle.gw_core.specs.History.{acts_of, next, run_from, state_after, state_from, written}
use Rattle.gw_core.specs.Receive.{Received, admit, barred, comes_in, dropped, managed, manages, message, npdu_of, origin, payload_of, receive, receive_datagram, receive_frame, receive_npdu, receive_on, unregistered}
use Rattle.gw_core.specs.Reply.{apdu_for, context_of}
use Rattle.gw_core.specs.State.{State, device_network}
use Rattle.gw_core.proofs.EntryLemmas.{entry_is_unasked}
use Rattle.gw_core.proofs.HistoryLemmas.{run_from-after, state_from-after}
use Rattle.gw_core.proofs.RespondLemmas.{four_none, three_none}
use Rattle.gw_core_laws.specs.FormatThree.{AreTakenAlike, FormatThreeIsAsTwo, FormatThreeRunsAsTwo, HaveNoStations, IsAsUnderTwo, IsKeyedAlike, IsTakenAlike, NameNoStation, before, claimed_from, claims_at, claims_of, in_format_two, is_property_request, unstationed, unstationed_denial, unstationed_effects}
use Rattle.gw_core_laws.specs.FormatTwo.{asked_from, received_before}
use Rattle.gw_core_laws.specs.Laws.{under}
use Rattle.gw_core_laws.proofs.DeviceAlikeLemmas.{device_alike, senderless, unstationed_response}
use Rattle.gw_core_laws.proofs.FormatLemmas.{moved_under, one_move, received_so}
use Rattle.gw_core_laws.proofs.RelayAlikeLemmas.{HasNone, cast_asks_alike, cast_sends_alike, claims_alone, link_answer_alike, link_asks_alike, link_change_alike, manage_change_alike, manage_steps_alike, onward_alike, port_open, relay_three, relay_two, route_steps_alike, steps_asked, steps_sent, strange_sends_alike}
use Rattle.gw_core_laws.proofs.StationLemmas.{entry_each}
use Rattle.gw_core_laws.proofs.UnstationedLemmas.{denials_alike}
use Rattle.gw_core_laws.specs.Onward.{FormatThreeGoesOn}

-- ---- what is received

-- a message is heard on a port without stations, and a sender who isn't registered isn't; nothing is kept out
abbrev Fine : Received → Type 0
Fine dropped = Unit {0}
Fine (managed on from frame) = Unit {0}
Fine (unregistered m) = is_unregistered m.here m.from m.frame ≡ true
Fine (barred m) = ⊥
Fine (message m) = HasNone m.here

fine_if : (b : Bool) (m : Message) → is_unregistered m.here m.from m.frame ≡ b → HasNone m.here → Fine (if b then unregistered m else message m)
fine_if true m strange open_so = strange
fine_if false m strange open_so = open_so

fine_npdu : (ports : List PortState) (device : ℕ) (on : PortState) (from : BipAddr) (frame : Frame) (octets : List ℕ) → HasNone on
    → Fine (receive_npdu ports device on from frame octets)
fine_npdu ports device on from frame octets open_so = by (npdu_of ports device octets)
  where
    by : (npdu : Option Fields) → Fine (elim npdu [
      | Some npdu ↦
          if is_unregistered on from frame then unregistered (message_of on from frame npdu)
          else message (message_of on from frame npdu)
      | None ↦ dropped
    ])
    by None = tt
    by (Some npdu) = fine_if (is_unregistered on from frame) (message_of on from frame npdu) refl open_so

fine_frame : (ports : List PortState) (device : ℕ) (on : PortState) (from : BipAddr) (frame : Frame) → HasNone on
    → Fine (receive_frame ports device on from frame)
fine_frame ports device on from frame open_so = by (manages frame) (accepts on from frame) (payload_of frame)
  where
    by : (manages heard : Bool) (payload : Option (List ℕ)) → Fine (if manages then managed on from frame
        else if not heard then dropped
        else (elim payload [
          | Some octets ↦ receive_npdu ports device on from frame octets
          | None ↦ dropped
        ]))
    by true heard payload = tt
    by false false payload = tt
    by false true None = tt
    by false true (Some octets) = fine_npdu ports device on from frame octets open_so

fine_datagram : (ports : List PortState) (device : ℕ) (on : PortState) (from : BipAddr) (octets : List ℕ) → HasNone on
    → Fine (receive_datagram ports device on from octets)
fine_datagram ports device on from octets open_so = by (comes_in on.port.address from octets) (bvll_at octets)
  where
    by : (comes : Bool) (frame : Result Frame BvllFault) → Fine (if comes then (elim frame [
      | Ok frame ↦ receive_frame ports device on from frame
      | Err fault ↦ dropped
    ]) else dropped)
    by false frame = tt
    by true (Err fault) = tt
    by true (Ok frame) = fine_frame ports device on from frame open_so

fine_on : (ports : List PortState) (device number : ℕ) (from : BipAddr) (octets : List ℕ) → HaveNoStations ports
    → Fine (receive_on ports device number from octets)
fine_on ports device number from octets all = by (port_at ports number) (port_open ports number all)
  where
    by : (on : Option PortState) → IfSome on HasNone → Fine (elim on [
      | Some on ↦ receive_datagram ports device on from octets
      | None ↦ dropped
    ])
    by None open_so = tt
    by (Some on) open_so = fine_datagram ports device on from octets open_so

fine_before : (w : State) (e : Event) → HaveNoStations w.relay.ports → Fine (received_before w e)
fine_before w (Datagram port from octets) all = fine_on w.relay.ports (device_network w.device) port from octets all
fine_before w Tick all = tt

-- ---- nobody is kept out

-- if an ask to claim is allowed, so are all asks before a message is taken
claim_allowed : (rules : List Rule) (b : Bool) (k : Ask) → IsFor Claim k
    → AllByRecursion (λ ask. IsFor Claim ask → allows rules ask ≡ true) (if b then k ∷ [] else [])
    → list_all (allows rules) (if b then k ∷ [] else []) ≡ true
claim_allowed rules true k is each = ap (λ (x : Bool). x && true) (each.0 is)
claim_allowed rules false k is each = refl

admitted : (rules : List Rule) (relay : Relay) (m : Message) → HasNone m.here
    → AllByRecursion (λ ask. IsFor Claim ask → allows rules ask ≡ true) (entry_asks rules (relay_three relay) m)
    → admits rules (relay_three relay) m ≡ true
admitted rules relay m open_so each =
    let alone = claims_alone rules relay m open_so in
    ap (list_all (allows rules)) alone
    ∙ claim_allowed rules (speaks_for_others (relay_three relay) m) (claim_ask Three m) refl
    (subst (λ (xs : List Ask). AllByRecursion (λ ask. IsFor Claim ask → allows rules ask ≡ true) xs) alone each)

-- under the third format an event is received as it was before there was that format
received_three : (w : State) (e : Event) → HaveNoStations w.relay.ports → IsTakenAlike (under Three w) e
    → receive (under Three w) e ≡ received_before w e
unfolding receive
received_three w Tick all alike = refl
received_three w (Datagram port from octets) all alike =
    by (received_before w (Datagram port from octets)) refl (fine_before w (Datagram port from octets) all)
  where
    by : (r : Received) → received_before w (Datagram port from octets) ≡ r → Fine r → admit w.rules (relay_three w.relay) r ≡ r
    by dropped is fine = refl
    by (managed on from frame) is fine = refl
    by (unregistered m) is fine = refl
    by (barred m) is fine = absurd fine
    by (message m) is fine =
        ap (λ (b : Bool). if b then message m else barred m)
        (admitted w.rules w.relay m fine
        (entry_each (λ ask. IsFor Claim ask → allows w.rules ask ≡ true) (under Three w) (Datagram port from octets) m is alike.claims))

received_two : (w : State) (e : Event) → receive (under Two w) e ≡ received_before w e
received_two w (Datagram port from octets) = received_so (under Two w) (Datagram port from octets) refl
received_two w Tick = received_so (under Two w) Tick refl

-- ---- an APDU

-- what the device knows of a message whose source has one key in both formats
context_alike : (network : ℕ) (m : Message) → IsKeyedAlike m → senderless (context_of Three network m) ≡ context_of Two network m
context_alike network m keyed = ap (λ (key : Option ℕ). record (context_of Two network m) { source_key = key }) keyed

module _ (rules : List Rule) (none : NameNoStation rules) (d : Database) (m : Message) (keyed : IsKeyedAlike m) where
  served : (octets : List ℕ)
      → unstationed_response (device_response rules d (context_of Three (device_network d) m) octets)
      ≡ device_response rules d (context_of Two (device_network d) m) octets
  served octets =
      device_alike rules none d (context_of Three (device_network d) m) octets
      ∙ ap (λ (context : Context). device_response rules d context octets) (context_alike (device_network d) m keyed)

  served_asks : (octets : Option (List ℕ))
      → map unstationed (apdu_asks rules d (context_of Three (device_network d) m) octets)
      ≡ apdu_asks rules d (context_of Two (device_network d) m) octets
  served_asks None = refl
  served_asks (Some octets) =
      ap (λ (r : Response). r.asks) (served octets)

  served_sends : (octets : Option (List ℕ))
      → answer_sends (device_network d) m (apdu_answer rules d (context_of Three (device_network d) m) octets)
      ≡ answer_sends (device_network d) m (apdu_answer rules d (context_of Two (device_network d) m) octets)
  served_sends None = refl
  served_sends (Some octets) =
      ap (λ (r : Response). answer_sends (device_network d) m r.answer) (served octets)

  served_change : (octets : Option (List ℕ))
      → apdu_change rules d (context_of Three (device_network d) m) octets
      ≡ apdu_change rules d (context_of Two (device_network d) m) octets
  served_change None = refl
  served_change (Some octets) =
      ap (λ (r : Response). r.change) (served octets)

-- ---- part by part

-- what is no broadcast of a request that names properties, and has a source of one key in both formats
abbrev Quiet : Received → Type 0
Quiet (message m) = ((is_broadcast m.frame && is_property_request m.npdu.payload) ≡ false) × IsKeyedAlike m
Quiet other = Unit {0}

-- what is asked after the asks to claim
rest_of : List Rule → Relay → Database → Received → List Ask
rest_of rules relay d (message m) =
    cast_asks relay.format m ++ route_asks relay m ++ manage_asks relay m ++ message_asks rules relay.format d m
rest_of rules relay d r = asks_for rules relay d r

four : {A : Type 0} (a b c d w x y z : List A) → a ≡ w → b ≡ x → c ≡ y → d ≡ z → a ++ b ++ c ++ d ≡ w ++ x ++ y ++ z
four a b c d w x y z e1 e2 e3 e4 = rw (e1, e2, e3, e4) refl

map_four : (a b c d : List Ask) → map unstationed (a ++ b ++ c ++ d) ≡ map unstationed a ++ map unstationed b ++ map unstationed c ++ map unstationed d
map_four a b c d =
    map-append unstationed (a ++ b ++ c) d
    ∙ ap (λ (l : List Ask). l ++ map unstationed d) (map-append unstationed (a ++ b) c
    ∙ ap (λ (l : List Ask). l ++ map unstationed c) (map-append unstationed a b))

-- what is in front of all is in front of the first
in_front : (k a b c d : List Ask) → k ++ a ++ b ++ c ++ d ≡ k ++ (a ++ b ++ c ++ d)
in_front [] a b c d = refl
in_front (x ∷ k) a b c d = ap (λ (l : List Ask). x ∷ l) (in_front k a b c d)

module _ (w : State) (none : NameNoStation w.rules) (all : HaveNoStations w.relay.ports) where
  -- the asks of a message begin with its ask to claim
  claimed : (r : Received) → Fine r
      → asks_for w.rules (relay_three w.relay) w.device r ≡ claims_of (relay_three w.relay) r ++ rest_of w.rules (relay_three w.relay) w.device r
  unfolding rest_of
  claimed dropped fine = refl
  claimed (managed on from frame) fine = refl
  claimed (unregistered m) fine = refl
  claimed (barred m) fine = absurd fine
  claimed (message m) fine =
      let relay = relay_three w.relay in
      let served = message_asks w.rules Three w.device m in
      ap (λ (l : List Ask). l ++ cast_asks Three m ++ route_asks relay m ++ manage_asks relay m ++ served) (claims_alone w.rules w.relay m fine)
      ∙ in_front (claim_asks relay m) (cast_asks Three m) (route_asks relay m) (manage_asks relay m) served

  -- and the others are those of the second format
  asked_alike : (r : Received) → Fine r → Quiet r
      → map unstationed (rest_of w.rules (relay_three w.relay) w.device r) ≡ asks_for w.rules (relay_two w.relay) w.device r
  unfolding rest_of
  asked_alike dropped fine quiet = refl
  asked_alike (managed on from frame) fine quiet =
      ap (map unstationed) (four_none (link_asks Three on.port from frame)) ∙ link_asks_alike on.port from frame
      ∙ sym (four_none (link_asks Two on.port from frame))
  asked_alike (unregistered m) fine quiet = refl
  asked_alike (barred m) fine quiet = absurd fine
  asked_alike (message m) fine quiet =
      map_four (cast_asks Three m) (route_asks (relay_three w.relay) m) (manage_asks (relay_three w.relay) m) (message_asks w.rules Three w.device m)
      ∙ four _ _ _ _ _ _ _ _ (cast_asks_alike m quiet.1 quiet.0)
      (steps_asked (route_steps (relay_three w.relay) m) ∙ ap asks_of (route_steps_alike w.relay m all quiet.1))
      (steps_asked (manage_steps (relay_three w.relay) m) ∙ ap asks_of (manage_steps_alike w.relay m quiet.1))
      (served_asks w.rules none w.device m quiet.1 (apdu_for (device_network w.device) m.npdu))
      ∙ ap (λ (l : List Ask). l ++ cast_asks Two m ++ route_asks (relay_two w.relay) m ++ manage_asks (relay_two w.relay) m ++ message_asks w.rules Two w.device m)
      (sym (entry_is_unasked w.rules (relay_two w.relay) m refl))

  sent_alike : (r : Received) → Fine r → Quiet r
      → sends_for w.rules (relay_three w.relay) w.device r ≡ sends_for w.rules (relay_two w.relay) w.device r
  sent_alike dropped fine quiet = refl
  sent_alike (managed on from frame) fine quiet =
      four_none (link_answer w.rules Three on from frame) ∙ link_answer_alike w.rules none on from frame
      ∙ sym (four_none (link_answer w.rules Two on from frame))
  sent_alike (unregistered m) fine quiet =
      three_none (cast_sends w.rules Three m) ∙ strange_sends_alike w.rules none m fine ∙ sym (three_none (cast_sends w.rules Two m))
  sent_alike (barred m) fine quiet = absurd fine
  sent_alike (message m) fine quiet =
      four _ _ _ _ _ _ _ _ (cast_sends_alike w.rules none m quiet.1 quiet.0)
      (steps_sent w.rules none (route_steps (relay_three w.relay) m) ∙ ap (sends_of w.rules) (route_steps_alike w.relay m all quiet.1))
      (ap₂ (λ (x y : List Sending). x ++ y)
      (steps_sent w.rules none (manage_steps (relay_three w.relay) m) ∙ ap (sends_of w.rules) (manage_steps_alike w.relay m quiet.1))
      (onward_alike w.rules none w.relay m quiet.1))
      (served_sends w.rules none w.device m quiet.1 (apdu_for (device_network w.device) m.npdu))

  relay_changed : (r : Received) → Fine r → Quiet r
      → relay_change_for w.rules (relay_three w.relay) r ≡ relay_change_for w.rules (relay_two w.relay) r
  relay_changed dropped fine quiet = refl
  relay_changed (managed on from frame) fine quiet = link_change_alike w.rules none on from frame
  relay_changed (unregistered m) fine quiet = refl
  relay_changed (barred m) fine quiet = refl
  relay_changed (message m) fine quiet = manage_change_alike w.rules none w.relay m quiet.1

  device_changed : (r : Received) → Quiet r → change_for w.rules Three w.device r ≡ change_for w.rules Two w.device r
  device_changed dropped quiet = refl
  device_changed (managed on from frame) quiet = refl
  device_changed (unregistered m) quiet = refl
  device_changed (barred m) quiet = refl
  device_changed (message m) quiet = served_change w.rules none w.device m quiet.1 (apdu_for (device_network w.device) m.npdu)

-- ---- an event

-- what is denied of a message is what is denied after its ask to claim, which is allowed
claim_undenied : (rules : List Rule) (b : Bool) (k : Ask) (rest : List Ask) → list_all (allows rules) (if b then k ∷ [] else []) ≡ true
    → denied_of rules ((if b then k ∷ [] else []) ++ rest) ≡ denied_of rules rest
claim_undenied rules false k rest allowed = refl
claim_undenied rules true k rest allowed = by (allows rules k) refl allowed
  where
    by : (a : Bool) → allows rules k ≡ a → (a && true) ≡ true → denied_of rules (k ∷ rest) ≡ denied_of rules rest
    by true is so = rw is refl
    by false is so = absurd cc

quiet_so : (w : State) (e : Event) (r : Received) → receive w e ≡ r → IsTakenAlike w e → Quiet r
quiet_so w e (message m) is alike = (alike.broadcast m is, alike.keyed m is)
quiet_so w e dropped is alike = tt
quiet_so w e (managed on from frame) is alike = tt
quiet_so w e (unregistered m) is alike = tt
quiet_so w e (barred m) is alike = tt

-- what is done about what is received, with these asks
effects_by : State → Received → List Sending → List Ask → Effects
effects_by w r sends asked = record {
  sends = sends;
  denials = denials_of w.rules (w.denials + 1) w.ticks (origin r) (denied_of w.rules asked);
}

abbrev effects_so : List Sending → List Denial → Effects
effects_so sends denials = record { sends = sends; denials = denials }

module _ (w : State) (e : Event) (none : NameNoStation w.rules) (all : HaveNoStations w.relay.ports) (alike : IsTakenAlike (under Three w) e) where
  abbrev got : Received
  got = received_before w e

  is_got : receive (under Three w) e ≡ got
  is_got = received_three w e all alike

  is_fine : Fine got
  is_fine = fine_before w e all

  is_quiet : Quiet got
  is_quiet = quiet_so (under Three w) e got is_got alike

  same_brought : (f : Event) → received_before (under Three w) f ≡ received_before w f
  same_brought (Datagram port from octets) = refl
  same_brought Tick = refl

  asks_three : asks (under Three w) e ≡ claims_of (relay_three w.relay) got ++ rest_of w.rules (relay_three w.relay) w.device got
  unfolding asks
  asks_three = ap (asks_for w.rules (relay_three w.relay) w.device) is_got ∙ claimed w none all got is_fine

  asks_two : asks (under Two w) e ≡ asks_for w.rules (relay_two w.relay) w.device got
  unfolding asks
  asks_two = ap (asks_for w.rules (relay_two w.relay) w.device) (received_two w e)

  asks_event : map unstationed (asks (under Three w) e) ≡ map unstationed (claims_at (under Three w) e) ++ asks (under Two w) e
  asks_event =
      let k = claims_of (relay_three w.relay) got in
      ap (map unstationed) asks_three
      ∙ map-append unstationed k (rest_of w.rules (relay_three w.relay) w.device got)
      ∙ ap (λ (l : List Ask). map unstationed k ++ l) (asked_alike w none all got is_fine is_quiet ∙ sym asks_two)
      ∙ ap (λ (r : Received). map unstationed (claims_of (relay_three w.relay) r) ++ asks (under Two w) e) (sym (same_brought e))

  -- the ask to claim is denied nothing
  undenied : (r : Received) → Fine r → got ≡ r
      → denied_of w.rules (claims_of (relay_three w.relay) r ++ rest_of w.rules (relay_three w.relay) w.device r)
      ≡ denied_of w.rules (rest_of w.rules (relay_three w.relay) w.device r)
  undenied dropped fine is = refl
  undenied (managed on from frame) fine is = refl
  undenied (unregistered m) fine is = refl
  undenied (barred m) fine is = refl
  undenied (message m) fine is =
      claim_undenied w.rules (speaks_for_others (relay_three w.relay) m) (claim_ask Three m) (rest_of w.rules (relay_three w.relay) w.device (message m))
      (sym (ap (list_all (allows w.rules)) (claims_alone w.rules w.relay m fine))
      ∙ admitted w.rules w.relay m fine
      (entry_each (λ ask. IsFor Claim ask → allows w.rules ask ≡ true) (under Three w) e m (same_brought e ∙ is) alike.claims))

  denied_event : map unstationed_denial (denials_of w.rules (w.denials + 1) w.ticks (origin got) (denied_of w.rules (asks_for w.rules (relay_three w.relay) w.device got)))
      ≡ denials_of w.rules (w.denials + 1) w.ticks (origin got) (denied_of w.rules (asks_for w.rules (relay_two w.relay) w.device got))
  denied_event =
      let number = w.denials + 1 in
      let recorded = λ (x : List Refusal). denials_of w.rules number w.ticks (origin got) x in
      let rest = rest_of w.rules (relay_three w.relay) w.device got in
      ap (λ (x : List Ask). map unstationed_denial (recorded (denied_of w.rules x))) (claimed w none all got is_fine)
      ∙ ap (λ (x : List Refusal). map unstationed_denial (recorded x)) (undenied got is_fine refl)
      ∙ denials_alike w.rules none number w.ticks (origin got) rest
      ∙ ap (λ (x : List Ask). recorded (denied_of w.rules x)) (asked_alike w none all got is_fine is_quiet)

  effects_event : unstationed_effects (effects_at (under Three w) e) ≡ effects_at (under Two w) e
  unfolding effects_at effects_by
  effects_event =
      ap (λ (r : Received). unstationed_effects (effects_by w r (sends_for w.rules (relay_three w.relay) w.device r) (asks_for w.rules (relay_three w.relay) w.device r))) is_got
      ∙ ap₂ (λ (s : List Sending) (x : List Denial). effects_so s x) (sent_alike w none all got is_fine is_quiet) denied_event
      ∙ sym (ap (λ (r : Received). effects_by w r (sends_for w.rules (relay_two w.relay) w.device r) (asks_for w.rules (relay_two w.relay) w.device r)) (received_two w e))

  counted : length (denials_at (under Three w) e) ≡ length (denials_at (under Two w) e)
  unfolding denials_at effects_at
  counted =
      sym (length-map (denials_at (under Three w) e) unstationed_denial)
      ∙ ap (λ (x : Effects). length x.denials) effects_event

  writes_event : change_at (under Three w) e ≡ change_at (under Two w) e
  unfolding change_at
  writes_event =
      ap (change_for w.rules Three w.device) is_got ∙ device_changed w none all got is_quiet
      ∙ sym (ap (change_for w.rules Two w.device) (received_two w e))

moves_event : (w : State) (e : Event) → NameNoStation w.rules → HaveNoStations w.relay.ports → IsTakenAlike (under Three w) e
    → move_at (under Three w) e ≡ move_at (under Two w) e
unfolding move_at
moves_event w (Datagram port from octets) none all alike =
    let e = Datagram port from octets in
    ap (λ (r : Received). option_map move.Commit (relay_change_for w.rules (relay_three w.relay) r)) (received_three w e all alike)
    ∙ ap (option_map move.Commit) (relay_changed w none all (received_before w e) (fine_before w e all)
    (quiet_so (under Three w) e (received_before w e) (received_three w e all alike) alike))
    ∙ sym (ap (λ (r : Received). option_map move.Commit (relay_change_for w.rules (relay_two w.relay) r)) (received_two w e))
moves_event w Tick none all alike = refl

-- the next state with these moves, this write and this number of the last denial
abbrev moved_on : State → Event → Option Move → Option Write → ℕ → State
moved_on w e move write denials = record w {
  relay = moved move w.relay;
  device = changed write w.device;
  ticks = w.ticks + ticks_of e;
  denials = denials;
}

next_event : (w : State) (e : Event) → NameNoStation w.rules → HaveNoStations w.relay.ports → IsTakenAlike (under Three w) e
    → under Two (next (under Three w) e) ≡ next (under Two w) e
unfolding next
next_event w e none all alike =
    let three = under Three w in
    let two = under Two w in
    ap (λ (r : Relay). under Two (record (moved_on three e (move_at three e) (change_at three e) (w.denials + length (denials_at three e))) { relay = r }))
    (moved_under (move_at three e) w.relay Three)
    ∙ ap (λ (r : Relay). record (moved_on two e (move_at three e) (change_at three e) (w.denials + length (denials_at three e))) { relay = r })
    (sym (moved_under (move_at three e) w.relay Two))
    ∙ ap (λ (m : Option Move). moved_on two e m (change_at three e) (w.denials + length (denials_at three e))) (moves_event w e none all alike)
    ∙ ap₂ (λ (g : Option Write) (n : ℕ). moved_on two e (move_at two e) g (w.denials + n)) (writes_event w e none all alike) (counted w e none all alike)

as_under_two : (w : State) (e : Event) → NameNoStation w.rules → HaveNoStations w.relay.ports → IsTakenAlike (under Three w) e
    → IsAsUnderTwo (under Three w) e
as_under_two w e none all alike = record {
  asked = asks_event w e none all alike;
  effects = effects_event w e none all alike;
  next = next_event w e none all alike;
}

-- a state of the third format is itself under it
in_three : (w : State) → w.relay.format ≡ Three → under Three w ≡ w
in_three w three = ap (λ (format : Format). under format w) (sym three)

pub format_three_is_as_two : FormatThreeIsAsTwo
format_three_is_as_two w e three all none alike =
    let same = in_three w three in
    subst (λ (v : State). IsAsUnderTwo v e) same
    (as_under_two w e none all (subst (λ (v : State). IsTakenAlike v e) (sym same) alike))

-- ---- the ports stay without stations

changed_open : (place : ℕ) (change : PortState → PortState) → ((state : PortState) → HasNone state → HasNone (change state))
    → (ports : List PortState) → HaveNoStations ports → HaveNoStations (changed_at place change ports)
changed_open place change keeps [] all = tt
changed_open zero change keeps (state ∷ ports) all = (keeps state all.0, all.1)
changed_open (suc place) change keeps (state ∷ ports) all = (all.0, changed_open place change keeps ports all.1)

changed_of_open : (number : ℕ) (change : PortState → PortState) → ((state : PortState) → HasNone state → HasNone (change state))
    → (ports : List PortState) → HaveNoStations ports → HaveNoStations (changed_of number change ports)
changed_of_open number change keeps ports all = by (number == 0)
  where
    by : (b : Bool) → HaveNoStations (if b then ports else changed_at (number - 1) change ports)
    by true = all
    by false = changed_open (number - 1) change keeps ports all

later_open : (ports : List PortState) → HaveNoStations ports → HaveNoStations (map port_later ports)
later_open [] all = tt
later_open (state ∷ ports) all = (all.0, later_open ports all.1)

after_open : (change : Change) (ports : List PortState) → HaveNoStations ports → HaveNoStations (ports_after change ports)
after_open (Entries port bdt) ports all = changed_of_open port (λ state. record state { bdt = bdt }) (λ state is. is) ports all
after_open (Registration port address time_to_live) ports all =
    changed_of_open port (λ state. record state { fdt = registered address time_to_live state.fdt }) (λ state is. is) ports all
after_open (Deletion port address) ports all =
    changed_of_open port (λ state. record state { fdt = deleted address state.fdt }) (λ state is. is) ports all
after_open (Learnings port next networks) ports all = all

moved_open : (m : Option Move) (relay : Relay) → HaveNoStations relay.ports → HaveNoStations (moved m relay).ports
moved_open None relay all = all
moved_open (Some (move.Commit change)) relay all = after_open change relay.ports all
moved_open (Some move.Tick) relay all = later_open relay.ports all

configured_open : (number : ℕ) (ports : List ConfiguredPort) → AllByRecursion (λ (p : ConfiguredPort). p.stations ≡ []) ports
    → HaveNoStations (port_states_from number ports)
configured_open number [] all = tt
configured_open number (p ∷ ports) all = (all.0, configured_open (number + 1) ports all.1)

-- ---- a list of events, one after the other

-- a state of the third format without stations, whose rules say nothing of the two fields
record IsOpen (w : State) : Type 0 where
  three : w.relay.format ≡ Three
  stations : HaveNoStations w.relay.ports
  rules : NameNoStation w.rules

next_open : (w : State) (e : Event) → IsOpen w → IsOpen (next w e)
unfolding next
next_open w e is = record {
  three = one_move (move_at w e) w.relay ∙ is.three;
  stations = moved_open (move_at w e) w.relay is.stations;
  rules = is.rules;
}

one_event : (w : State) (e : Event) → IsOpen w → IsTakenAlike w e → IsAsUnderTwo w e
one_event w e is alike = format_three_is_as_two w e is.three is.stations is.rules alike

asked_as_two : (w : State) (l : List Event) → IsOpen w → AreTakenAlike w l
    → map (map unstationed) (asked_from w l) ≡ map before (zip (claimed_from w l) (asked_from (under Two w) l))
unfolding asked_from claimed_from
asked_as_two w [] is alike = refl
asked_as_two w (e ∷ l) is alike =
    let a = one_event w e is alike.0 in
    ap₂ (λ (x : List Ask) (xs : List (List Ask)). x ∷ xs) a.asked (asked_as_two (next w e) l (next_open w e is) alike.1)
    ∙ ap (λ (v : State). map before ((claims_at w e, asks (under Two w) e) ∷ zip (claimed_from (next w e) l) (asked_from v l))) a.next

run_as_two : (w : State) (l : List Event) → IsOpen w → AreTakenAlike w l
    → map unstationed_effects (run_from w l) ≡ run_from (under Two w) l
unfolding run_from
run_as_two w [] is alike = refl
run_as_two w (e ∷ l) is alike =
    let a = one_event w e is alike.0 in
    ap₂ (λ (x : Effects) (xs : List Effects). x ∷ xs) a.effects (run_as_two (next w e) l (next_open w e is) alike.1)
    ∙ ap (λ (v : State). effects_at (under Two w) e ∷ run_from v l) a.next

left_as_two : (w : State) (l : List Event) → IsOpen w → AreTakenAlike w l
    → under Two (state_from w l) ≡ state_from (under Two w) l
unfolding state_from
left_as_two w [] is alike = refl
left_as_two w (e ∷ l) is alike =
    let a = one_event w e is alike.0 in
    left_as_two (next w e) l (next_open w e is) alike.1 ∙ ap (λ (v : State). state_from v l) a.next

fresh_two : (c : Configuration) (k : Counts) → state_after (in_format_two c) k [] ≡ under Two (state_after c k [])
unfolding acts_of moved_by written
fresh_two c k = refl

fresh_open : (c : Configuration) (k : Counts) → c.format ≡ Three → AllByRecursion (λ (p : ConfiguredPort). p.stations ≡ []) c.ports
    → NameNoStation c.rules → IsOpen (state_after c k [])
unfolding acts_of moved_by
fresh_open c k three stations none = record { three = three; stations = configured_open 1 c.ports stations; rules = none }

pub format_three_runs_as_two : FormatThreeRunsAsTwo
format_three_runs_as_two c k l three stations none alike =
    let w = state_after c k [] in
    let two = in_format_two c in
    let is = fresh_open c k three stations none in
    let fresh = fresh_two c k in (
      asked_as_two w l is alike ∙ ap (λ (v : State). map before (zip (claimed_from w l) (asked_from v l))) (sym fresh),
      ap (map unstationed_effects) (sym (run_from-after c k [] l)) ∙ run_as_two w l is alike
          ∙ ap (λ (v : State). run_from v l) (sym fresh) ∙ run_from-after two k [] l,
      ap (under Two) (sym (state_from-after c k [] l)) ∙ left_as_two w l is alike
          ∙ ap (λ (v : State). state_from v l) (sym fresh) ∙ state_from-after two k [] l,
    )

-- ---- from any state on

pub format_three_goes_on : FormatThreeGoesOn
format_three_goes_on w l three stations none alike =
    let is : IsOpen w = record { three = three; stations = stations; rules = none } in
    (asked_as_two w l is alike, run_as_two w l is alike, left_as_two w l is alike)
