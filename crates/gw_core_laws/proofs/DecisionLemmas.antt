-- A gateway does the same under two lists of rules that decide alike what it asks.
use Rattle.std.proofs.Common.{◌≡◌, refl, sym, ap, ap₂, ◌∙◌, ℕ, ◌+◌, Bool, true, false, not, cond, true≢false, if◌then◌else◌, List, [], ◌∷◌, ◌++◌, length, map, Option, Some, None}
use Rattle.std.proofs.lemmas.List.{length-map}
use Rattle.std.specs.Prelude.{filter, nat_lt, ◌||◌, Result, Ok, Err}
use Rattle.std.specs.List.{AllByRecursion}
use Rattle.std.specs.Option.{option_map}
use Rattle.gw_addr.specs.declared.bip.BipAddr.{BipAddr}
use Rattle.gw_codecs.specs.apdu.Apdu.{Fields as Apdu}
use Rattle.gw_frames.specs.bvll.Bvll.{Message as Frame}
use Rattle.gw_frames.specs.bvll.Reading.{bvll_at}
use Rattle.gw_frames.specs.declared.bvll.fault.BvllFault.{BvllFault}
use Rattle.gw_frames.specs.npdu.Npdu.{Fields}
use Rattle.gw_rules.specs.Ask.{Ask}
use Rattle.gw_rules.specs.Authorizer.{denied_of, refusal}
use Rattle.gw_rules.specs.RuleList.{allows, is_logged}
use Rattle.gw_rules.specs.declared.format.Format.{Format}
use Rattle.gw_rules.specs.declared.refusal.Refusal.{Refusal}
use Rattle.gw_rules.specs.declared.rule.Rule.{Rule}
use Rattle.gw_rules.proofs.EachAsk.{each_front, each_rest}
use Rattle.gw_audit.specs.declared.denial.Denial.{Denial}
use Rattle.gw_device.specs.declared.context.Context.{Context}
use Rattle.gw_device.specs.Device.{device_asks}
use Rattle.gw_device.specs.Response.{Answer, Response}
use Rattle.gw_objects.specs.Objects.{Database}
use Rattle.gw_objects.specs.Write.{Write}
use Rattle.gw_script.specs.Event.{Event, Datagram, Tick}
use Rattle.gw_relay.specs.Asks.{link_asks}
use Rattle.gw_relay.specs.Cast.{accepts, cast_asks, is_unregistered}
use Rattle.gw_relay.specs.Entry.{admits, entry_asks}
use Rattle.gw_relay.specs.Manage.{manage_asks}
use Rattle.gw_relay.specs.Message.{Message, message_of}
use Rattle.gw_relay.specs.Route.{route_asks, route_steps}
use Rattle.gw_relay.specs.Sends.{Sending}
use Rattle.gw_relay.specs.State.{Move, Relay, moved, port_at}
use Rattle.gw_relay.specs.State as move
use Rattle.gw_relay.specs.declared.change.Change.{Change}
use Rattle.gw_relay.specs.declared.port.PortState.{PortState}
use Rattle.gw_core.specs.Asks.{apdu_asks, asks, asks_for, cast_asks_for, first_asks_for, manage_asks_for, message_asks, route_asks_for, serve_asks_for}
use Rattle.gw_core.specs.Denials.{denials_at, denials_for, denials_from, denials_of, rule_name}
use Rattle.gw_core.specs.Effects.{answer_sends, apdu_answer, apdu_change, cast_sends_for, change_at, change_for, changed, effects_at, effects_for, first_sends_for, last_count, manage_sends_for, message_change, message_sends, move_at, move_for, passes_end, relay_change_for, route_sends_for, sends_for, serve_sends_for, ticks_of}
use Rattle.gw_core.specs.History.{next, run_from, state_from}
use Rattle.gw_core.specs.Receive.{Origin, Received, admit, barred, comes_in, dropped, managed, manages, message, npdu_of, origin, payload_of, receive, receive_datagram, receive_frame, receive_npdu, receive_on, receive_payload, source_of, unregistered}
use Rattle.gw_core.specs.Reply.{apdu_for, context_of}
use Rattle.gw_core.specs.State.{State, device_network}
use Rattle.gw_core.specs.declared.effects.Effects.{Effects}
use Rattle.gw_core_laws.specs.Decisions.{DecideAlike, DecideAlikeAlong, DoAlike, LogAlike, LogAlikeAlong, RunAlike, RunSendAlike, SameDecisionsDoAlike, SameDecisionsRunAlike, SameDecisionsRunSendAlike, SameDecisionsSendAlike, SendAlike, counting, nameless, under, unnamed}
use Rattle.gw_core_laws.proofs.CountingLemmas.{next_counting, sends_counting}
use Rattle.gw_core_laws.proofs.DeviceDecisionLemmas.{same_device}
use Rattle.gw_core_laws.proofs.RelayDecisionLemmas.{admits_alike, casts_alike, entry_asks_alike, entry_sends_alike, learnings_alike, link_answers_alike, link_changes_alike, manages_alike, steps_alike, strangers_alike}

-- ---- who isn't registered

-- what is received as of an unregistered sender is
Fits : Received → Type 0
Fits (unregistered m) = is_unregistered m.here m.from m.frame ≡ true
Fits other = Unit {0}

npdu_fits : (on : PortState) (from : BipAddr) (frame : Frame) (npdu : Fields) (b : Bool) → is_unregistered on from frame ≡ b
    → Fits (if b then unregistered (message_of on from frame npdu) else message (message_of on from frame npdu))
unfolding Fits
npdu_fits on from frame npdu true e = e
npdu_fits on from frame npdu false e = tt

payload_fits : (ports : List PortState) (device : ℕ) (on : PortState) (from : BipAddr) (frame : Frame) (found : Option Fields)
    → Fits (elim found [
      | Some npdu ↦ if is_unregistered on from frame then unregistered (message_of on from frame npdu) else message (message_of on from frame npdu)
      | None ↦ dropped
    ])
unfolding Fits
payload_fits ports device on from frame (Some npdu) = npdu_fits on from frame npdu (is_unregistered on from frame) refl
payload_fits ports device on from frame None = tt

octets_fit : (ports : List PortState) (device : ℕ) (on : PortState) (from : BipAddr) (frame : Frame) (brought : Option (List ℕ))
    → Fits (elim brought [ Some octets ↦ receive_npdu ports device on from frame octets | None ↦ dropped ])
unfolding Fits
octets_fit ports device on from frame (Some octets) = payload_fits ports device on from frame (npdu_of ports device octets)
octets_fit ports device on from frame None = tt

frame_fits : (ports : List PortState) (device : ℕ) (on : PortState) (from : BipAddr) (frame : Frame) (m a : Bool)
    → Fits (if m then managed on from frame else if not a then dropped
    else (elim (payload_of frame) [ Some octets ↦ receive_npdu ports device on from frame octets | None ↦ dropped ]))
unfolding Fits
frame_fits ports device on from frame true a = tt
frame_fits ports device on from frame false false = tt
frame_fits ports device on from frame false true = octets_fit ports device on from frame (payload_of frame)

bvll_fits : (ports : List PortState) (device : ℕ) (on : PortState) (from : BipAddr) (x : Result Frame BvllFault)
    → Fits (elim x [ Ok frame ↦ receive_frame ports device on from frame | Err fault ↦ dropped ])
unfolding Fits
bvll_fits ports device on from (Ok frame) = frame_fits ports device on from frame (manages frame) (accepts on from frame)
bvll_fits ports device on from (Err fault) = tt

datagram_fits : (ports : List PortState) (device : ℕ) (on : PortState) (from : BipAddr) (octets : List ℕ) (b : Bool)
    → Fits (if b then (elim (bvll_at octets) [ Ok frame ↦ receive_frame ports device on from frame | Err fault ↦ dropped ]) else dropped)
unfolding Fits
datagram_fits ports device on from octets true = bvll_fits ports device on from (bvll_at octets)
datagram_fits ports device on from octets false = tt

on_fits : (ports : List PortState) (device : ℕ) (found : Option PortState) (from : BipAddr) (octets : List ℕ)
    → Fits (elim found [ Some on ↦ receive_datagram ports device on from octets | None ↦ dropped ])
unfolding Fits
on_fits ports device (Some on) from octets = datagram_fits ports device on from octets (comes_in on.port.address from octets)
on_fits ports device None from octets = tt

-- ---- what is received

-- the first of five lists
front_of : (P : Ask → Type 0) (a b c d e : List Ask) → AllByRecursion P (a ++ b ++ c ++ d ++ e) → AllByRecursion P a
front_of P a b c d e h = each_front P a b (each_front P (a ++ b) c (each_front P (a ++ b ++ c) d (each_front P (a ++ b ++ c ++ d) e h)))

module _ (r s : List Rule) (relay : Relay) (d : Database) where
  -- whether a message is taken, its entry is asked for first
  entered : (m : Message) (b : Bool) → DecideAlike r s (asks_for r relay d (if b then message m else barred m)) → DecideAlike r s (entry_asks r relay m)
  entered m true alike =
      front_of (λ ask. allows r ask ≡ allows s ask) (entry_asks r relay m) (cast_asks relay.format m) (route_asks relay m) (manage_asks relay m)
      (message_asks r relay.format d m) alike
  entered m false alike = front_of (λ ask. allows r ask ≡ allows s ask) (entry_asks r relay m) [] [] [] [] alike

  admit_alike : (x : Received) → DecideAlike r s (asks_for r relay d (admit r relay x)) → admit r relay x ≡ admit s relay x
  admit_alike dropped alike = refl
  admit_alike (managed on from frame) alike = refl
  admit_alike (unregistered m) alike = refl
  admit_alike (barred m) alike = refl
  admit_alike (message m) alike =
      ap (λ (allowed : Bool). if allowed then message m else barred m) (admits_alike r s relay m (entered m (admits r relay m) alike))

  admit_fits : (x : Received) → Fits x → Fits (admit r relay x)
  unfolding Fits
  admit_fits dropped fits = tt
  admit_fits (managed on from frame) fits = tt
  admit_fits (unregistered m) fits = fits
  admit_fits (barred m) fits = tt
  admit_fits (message m) fits = by (admits r relay m)
    where
      by : (b : Bool) → Fits (if b then message m else barred m)
      by true = tt
      by false = tt

  -- ---- the device

  apdu_asks_alike : (context : Context) (apdu : Option (List ℕ)) → DecideAlike r s (apdu_asks r d context apdu)
      → apdu_asks r d context apdu ≡ apdu_asks s d context apdu
  apdu_asks_alike context None alike = refl
  apdu_asks_alike context (Some octets) alike = ap (λ (x : Response). x.asks) (same_device r s d context octets alike)

  apdu_answers_alike : (context : Context) (apdu : Option (List ℕ)) → DecideAlike r s (apdu_asks r d context apdu)
      → apdu_answer r d context apdu ≡ apdu_answer s d context apdu
  apdu_answers_alike context None alike = refl
  apdu_answers_alike context (Some octets) alike = ap (λ (x : Response). x.answer) (same_device r s d context octets alike)

  apdu_changes_alike : (context : Context) (apdu : Option (List ℕ)) → DecideAlike r s (apdu_asks r d context apdu)
      → apdu_change r d context apdu ≡ apdu_change s d context apdu
  apdu_changes_alike context None alike = refl
  apdu_changes_alike context (Some octets) alike = ap (λ (x : Response). x.change) (same_device r s d context octets alike)

  -- ---- all that is asked of a message, part by part

  pub record Parts (m : Message) : Type 0 where
    pub entry : DecideAlike r s (entry_asks r relay m)
    pub cast : DecideAlike r s (cast_asks relay.format m)
    pub route : DecideAlike r s (route_asks relay m)
    pub manage : DecideAlike r s (manage_asks relay m)
    pub serve : DecideAlike r s (message_asks r relay.format d m)

  parts : (m : Message) → DecideAlike r s (asks_for r relay d (message m)) → Parts m
  parts m alike =
      let P = λ (ask : Ask). allows r ask ≡ allows s ask in
      let entry = entry_asks r relay m in
      let cast = cast_asks relay.format m in
      let route = route_asks relay m in
      let manage = manage_asks relay m in
      let serve = message_asks r relay.format d m in
      let two = entry ++ cast in
      let three = entry ++ cast ++ route in
      let four = entry ++ cast ++ route ++ manage in
      let of_four = each_front P four serve alike in
      let of_three = each_front P three manage of_four in
      let of_two = each_front P two route of_three in
      record {
        entry = each_front P entry cast of_two;
        cast = each_rest P entry cast of_two;
        route = each_rest P two route of_three;
        manage = each_rest P three manage of_four;
        serve = each_rest P four serve alike;
      }

  asks_alike : (x : Received) → DecideAlike r s (asks_for r relay d x) → asks_for r relay d x ≡ asks_for s relay d x
  asks_alike dropped alike = refl
  asks_alike (managed on from frame) alike = refl
  asks_alike (unregistered m) alike = refl
  asks_alike (barred m) alike =
      ap (λ (asked : List Ask). asked ++ [] ++ [] ++ [] ++ [])
      (entry_asks_alike r s relay m (front_of (λ ask. allows r ask ≡ allows s ask) (entry_asks r relay m) [] [] [] [] alike))
  asks_alike (message m) alike =
      let p = parts m alike in
      let network = device_network d in
      ap₂ (λ (one two : List Ask). one ++ cast_asks relay.format m ++ route_asks relay m ++ manage_asks relay m ++ two)
      (entry_asks_alike r s relay m p.entry) (apdu_asks_alike (context_of relay.format network m) (apdu_for network m.npdu) p.serve)

  sends_alike : (x : Received) → Fits x → DecideAlike r s (asks_for r relay d x) → sends_for r relay d x ≡ sends_for s relay d x
  unfolding Fits
  sends_alike dropped fits alike = refl
  sends_alike (managed on from frame) fits alike =
      ap (λ (sent : List Sending). sent ++ [] ++ [] ++ [] ++ [])
      (link_answers_alike r s relay.format on from frame (front_of (λ ask. allows r ask ≡ allows s ask) (link_asks relay.format on.port from frame) [] [] [] [] alike))
  sends_alike (unregistered m) fits alike =
      ap (λ (sent : List Sending). [] ++ sent ++ [] ++ [] ++ []) (strangers_alike r s relay.format m fits)
  sends_alike (barred m) fits alike =
      ap (λ (sent : List Sending). sent ++ [] ++ [] ++ [] ++ [])
      (entry_sends_alike r s relay m (front_of (λ ask. allows r ask ≡ allows s ask) (entry_asks r relay m) [] [] [] [] alike))
  sends_alike (message m) fits alike =
      let p = parts m alike in
      let network = device_network d in
      ap₂ (λ (a b : List Sending). a ++ b)
      (ap₂ (λ (a b : List Sending). a ++ b)
      (ap₂ (λ (a b : List Sending). [] ++ a ++ b) (casts_alike r s relay.format m p.cast) (steps_alike r s (route_steps relay m) p.route))
      (manages_alike r s relay m p.manage))
      (ap (λ (answer : Option Answer). answer_sends network m answer)
      (apdu_answers_alike (context_of relay.format network m) (apdu_for network m.npdu) p.serve))

  relay_changes_alike : (x : Received) → DecideAlike r s (asks_for r relay d x) → relay_change_for r relay x ≡ relay_change_for s relay x
  relay_changes_alike dropped alike = refl
  relay_changes_alike (managed on from frame) alike =
      link_changes_alike r s relay.format on from frame (front_of (λ ask. allows r ask ≡ allows s ask) (link_asks relay.format on.port from frame) [] [] [] [] alike)
  relay_changes_alike (unregistered m) alike = refl
  relay_changes_alike (barred m) alike = refl
  relay_changes_alike (message m) alike = learnings_alike r s relay m (parts m alike).manage

  changes_alike : (x : Received) → DecideAlike r s (asks_for r relay d x) → change_for r relay.format d x ≡ change_for s relay.format d x
  changes_alike dropped alike = refl
  changes_alike (managed on from frame) alike = refl
  changes_alike (unregistered m) alike = refl
  changes_alike (barred m) alike = refl
  changes_alike (message m) alike =
      let network = device_network d in
      apdu_changes_alike (context_of relay.format network m) (apdu_for network m.npdu) (parts m alike).serve

-- ---- what is denied

-- the record of a denial, but for the name of its rule
abbrev nameless_of : Ask → ℕ → ℕ → Origin → Denial
nameless_of ask number tick from = record {
  number = number;
  tick = tick;
  port = from.port;
  source = source_of from ask;
  ask = ask;
  rule = [];
}

denied_alike : (r s : List Rule) (names others : List Rule) (number tick : ℕ) (from : Origin) (asked : List Ask) → LogAlike r s asked
    → map nameless (denials_from names number tick from (denied_of r asked)) ≡ map nameless (denials_from others number tick from (denied_of s asked))
denied_alike r s names others number tick from [] alike = refl
denied_alike r s names others number tick from (ask ∷ asked) alike =
    by (is_logged r ask) (is_logged s ask) alike.0 (λ (n : ℕ). denied_alike r s names others n tick from asked alike.1)
  where
    by : (b c : Bool) → b ≡ c
        → ((n : ℕ) → map nameless (denials_from names n tick from (denied_of r asked)) ≡ map nameless (denials_from others n tick from (denied_of s asked)))
        → map nameless (denials_from names number tick from (map (refusal r) (cond b (ask ∷ filter (is_logged r) asked) (filter (is_logged r) asked))))
        ≡ map nameless (denials_from others number tick from (map (refusal s) (cond c (ask ∷ filter (is_logged s) asked) (filter (is_logged s) asked))))
    by false false e later = later number
    by true false e later = absurd (true≢false e)
    by false true e later = absurd (true≢false (sym e))
    by true true e later = ap (λ (denials : List Denial). nameless_of ask number tick from ∷ denials) (later (number + 1))

recorded_alike : (r s : List Rule) (number tick : ℕ) (from : Option Origin) (asked : List Ask) → LogAlike r s asked
    → map nameless (denials_of r number tick from (denied_of r asked)) ≡ map nameless (denials_of s number tick from (denied_of s asked))
recorded_alike r s number tick None asked alike = refl
recorded_alike r s number tick (Some from) asked alike = denied_alike r s r s number tick from asked alike

counted_alike : (x y : List Denial) → map nameless x ≡ map nameless y → length x ≡ length y
counted_alike x y same = sym (length-map x nameless) ∙ (ap (λ (z : List Denial). length z) same ∙ length-map y nameless)

-- ---- an event

module _ (w : State) (others : List Rule) where
  pub received_alike : (e : Event) → DecideAlike w.rules others (asks w e) → receive (under others w) e ≡ receive w e
  unfolding receive asks
  received_alike (Datagram port from octets) alike =
      sym (admit_alike w.rules others w.relay w.device (receive_on w.relay.ports (device_network w.device) port from octets) alike)
  received_alike Tick alike = refl

  received_fits : (e : Event) → Fits (receive w e)
  unfolding receive Fits
  received_fits (Datagram port from octets) =
      admit_fits w.rules others w.relay w.device (receive_on w.relay.ports (device_network w.device) port from octets)
      (on_fits w.relay.ports (device_network w.device) (port_at w.relay.ports port) from octets)
  received_fits Tick = tt

  pub same_asks : (e : Event) → DecideAlike w.rules others (asks w e) → asks (under others w) e ≡ asks w e
  unfolding asks
  same_asks e alike =
      ap (λ (x : Received). asks_for others w.relay w.device x) (received_alike e alike)
      ∙ sym (asks_alike w.rules others w.relay w.device (receive w e) alike)

  pub same_sends : (e : Event) → DecideAlike w.rules others (asks w e) → (effects_at (under others w) e).sends ≡ (effects_at w e).sends
  unfolding asks effects_at
  same_sends e alike =
      ap (λ (x : Received). sends_for others w.relay w.device x) (received_alike e alike)
      ∙ sym (sends_alike w.rules others w.relay w.device (receive w e) (received_fits e) alike)

  same_denials : (e : Event) → DecideAlike w.rules others (asks w e) → LogAlike w.rules others (asks w e)
      → map nameless (denials_at (under others w) e) ≡ map nameless (denials_at w e)
  unfolding asks denials_at
  same_denials e alike logged =
      let x = receive w e in
      ap (λ (y : Received). map nameless (denials_for (under others w) y)) (received_alike e alike)
      ∙ (ap (λ (asked : List Ask). map nameless (denials_of others (w.denials + 1) w.ticks (origin x) (denied_of others asked)))
      (sym (asks_alike w.rules others w.relay w.device x alike))
      ∙ sym (recorded_alike w.rules others (w.denials + 1) w.ticks (origin x) (asks_for w.rules w.relay w.device x) logged))

  same_count : (e : Event) → DecideAlike w.rules others (asks w e) → LogAlike w.rules others (asks w e)
      → length (denials_at (under others w) e) ≡ length (denials_at w e)
  same_count e alike logged = counted_alike (denials_at (under others w) e) (denials_at w e) (same_denials e alike logged)

  same_moves : (e : Event) → DecideAlike w.rules others (asks w e) → move_at (under others w) e ≡ move_at w e
  unfolding asks move_at
  same_moves (Datagram port from octets) alike =
      ap (λ (x : Received). option_map move.Commit (relay_change_for others w.relay x)) (received_alike (Datagram port from octets) alike)
      ∙ sym (ap (λ (change : Option Change). option_map move.Commit change)
      (relay_changes_alike w.rules others w.relay w.device (receive w (Datagram port from octets)) alike))
  same_moves Tick alike = refl

  same_writes : (e : Event) → DecideAlike w.rules others (asks w e) → change_at (under others w) e ≡ change_at w e
  unfolding asks change_at
  same_writes e alike =
      ap (λ (x : Received). change_for others w.relay.format w.device x) (received_alike e alike)
      ∙ sym (changes_alike w.rules others w.relay w.device (receive w e) alike)

  -- the next state by what changes
  next_of : Event → Option Move → Option Write → ℕ → State
  next_of e moves write denials = record w {
    relay = moved moves w.relay;
    device = changed write w.device;
    rules = others;
    ticks = w.ticks + ticks_of e;
    denials = w.denials + denials;
  }

  same_next : (e : Event) → DecideAlike w.rules others (asks w e) → LogAlike w.rules others (asks w e)
      → next (under others w) e ≡ under others (next w e)
  unfolding next next_of
  same_next e alike logged =
      ap (λ (moves : Option Move). next_of e moves (change_at (under others w) e) (length (denials_at (under others w) e))) (same_moves e alike)
      ∙ (ap (λ (write : Option Write). next_of e (move_at w e) write (length (denials_at (under others w) e))) (same_writes e alike)
      ∙ ap (λ (n : ℕ). next_of e (move_at w e) (change_at w e) n) (same_count e alike logged))

  -- but for the number of the last denial
  next_but : Event → Option Move → Option Write → State
  next_but e moves write = record w {
    relay = moved moves w.relay;
    device = changed write w.device;
    rules = others;
    ticks = w.ticks + ticks_of e;
    denials = 0;
  }

  pub same_next_but : (e : Event) → DecideAlike w.rules others (asks w e) → counting 0 (next (under others w) e) ≡ counting 0 (under others (next w e))
  unfolding next next_but
  same_next_but e alike = ap₂ (λ (moves : Option Move) (write : Option Write). next_but e moves write) (same_moves e alike) (same_writes e alike)

  same_ends : (e : Event) → DecideAlike w.rules others (asks w e) → LogAlike w.rules others (asks w e)
      → passes_end (under others w) e ≡ passes_end w e
  unfolding passes_end
  same_ends e alike logged =
      ap (λ (n : ℕ). nat_lt last_count (w.ticks + ticks_of e) || nat_lt last_count (w.denials + n)) (same_count e alike logged)

  abbrev effects_of : List Sending → List Denial → Effects
  effects_of sent denied = record { sends = sent; denials = denied }

  same_effects : (e : Event) → DecideAlike w.rules others (asks w e) → LogAlike w.rules others (asks w e)
      → unnamed (effects_at (under others w) e) ≡ unnamed (effects_at w e)
  unfolding effects_at denials_at
  same_effects e alike logged =
      ap₂ (λ (sent : List Sending) (denied : List Denial). effects_of sent denied) (same_sends e alike) (same_denials e alike logged)

pub same_decisions_do_alike : SameDecisionsDoAlike
same_decisions_do_alike w others e alike logged = record {
  asks = same_asks w others e alike;
  effects = same_effects w others e alike logged;
  next = same_next w others e alike logged;
  ends = same_ends w others e alike logged;
}

pub same_decisions_send_alike : SameDecisionsSendAlike
same_decisions_send_alike w others e alike = record {
  asks = same_asks w others e alike;
  sends = same_sends w others e alike;
  next = same_next_but w others e alike;
}

-- ---- a run

effects_along : (w : State) (others : List Rule) (l : List Event) → DecideAlikeAlong others w l → LogAlikeAlong others w l
    → map unnamed (run_from (under others w) l) ≡ map unnamed (run_from w l)
unfolding run_from DecideAlikeAlong LogAlikeAlong
effects_along w others [] alike logged = refl
effects_along w others (e ∷ l) alike logged =
    ap₂ (λ (given : Effects) (later : List Effects). given ∷ later) (same_effects w others e alike.0 logged.0)
    (ap (λ (v : State). map unnamed (run_from v l)) (same_next w others e alike.0 logged.0)
    ∙ effects_along (next w e) others l alike.1 logged.1)

state_along : (w : State) (others : List Rule) (l : List Event) → DecideAlikeAlong others w l → LogAlikeAlong others w l
    → state_from (under others w) l ≡ under others (state_from w l)
unfolding state_from DecideAlikeAlong LogAlikeAlong
state_along w others [] alike logged = refl
state_along w others (e ∷ l) alike logged =
    ap (λ (v : State). state_from v l) (same_next w others e alike.0 logged.0) ∙ state_along (next w e) others l alike.1 logged.1

-- the rules of the next state are those of the state
pub same_decisions_run_alike : SameDecisionsRunAlike
same_decisions_run_alike w others l alike logged =
    record { effects = effects_along w others l alike logged; state = state_along w others l alike logged }

-- ---- a run, whatever is logged

-- the state after an event is that of the other gateway, but for the number of its last denial
pub next_beside : (w : State) (others : List Rule) (n : ℕ) (e : Event) → DecideAlike w.rules others (asks w e)
    → next (counting n (under others w)) e ≡ counting (next (counting n (under others w)) e).denials (under others (next w e))
next_beside w others n e alike =
    let v = under others w in
    let k = (next (counting n v) e).denials in
    next_counting n v e
    ∙ ap (λ (s : State). counting k s) (same_next_but w others e alike)

pub sends_along : (w : State) (others : List Rule) (n : ℕ) (l : List Event) → DecideAlikeAlong others w l
    → map (λ given. given.sends) (run_from (counting n (under others w)) l) ≡ map (λ given. given.sends) (run_from w l)
unfolding run_from DecideAlikeAlong
sends_along w others n [] alike = refl
sends_along w others n (e ∷ l) alike =
    let v = counting n (under others w) in
    ap₂ (λ (sent : List Sending) (later : List (List Sending)). sent ∷ later)
    (sends_counting n (under others w) e ∙ same_sends w others e alike.0)
    (ap (λ (s : State). map (λ given. given.sends) (run_from s l)) (next_beside w others n e alike.0)
    ∙ sends_along (next w e) others (next v e).denials l alike.1)

pub left_along : (w : State) (others : List Rule) (n : ℕ) (l : List Event) → DecideAlikeAlong others w l
    → counting 0 (state_from (counting n (under others w)) l) ≡ counting 0 (under others (state_from w l))
unfolding state_from DecideAlikeAlong
left_along w others n [] alike = refl
left_along w others n (e ∷ l) alike =
    ap (λ (s : State). counting 0 (state_from s l)) (next_beside w others n e alike.0)
    ∙ left_along (next w e) others (next (counting n (under others w)) e).denials l alike.1

pub same_decisions_run_send_alike : SameDecisionsRunSendAlike
same_decisions_run_send_alike w others l alike =
    record { sends = sends_along w others w.denials l alike; state = left_along w others w.denials l alike }
