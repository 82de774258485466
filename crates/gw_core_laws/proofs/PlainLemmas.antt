-- Without the keys `bbmd` and `announce` events ask and do what they did before there were such.
use Rattle.std.proofs.Common.{◌≡◌, ◌∙◌, refl, sym, ap, ap₂, ℕ, ◌+◌, Bool, true, false, not, ◌&&◌, ◌||◌, List, [], ◌∷◌, ◌++◌, length, Option, Some, None}
use Rattle.std.specs.Prelude.{◌==◌, if◌then◌else◌, is_some}
use Rattle.std.specs.List.{list_all}
use Rattle.std.specs.Option.{option_map}
use Rattle.std.proofs.lemmas.Bool.{and_from, and_parts}
use Rattle.gw_addr.specs.declared.bip.BipAddr.{BipAddr}
use Rattle.gw_configuration.specs.Configuration.{are_named, is_managed, is_plain_port, keeps_assertions, keeps_counts, keeps_rules, policing_of}
use Rattle.gw_configuration.specs.Configuration as configuration
use Rattle.gw_configuration.specs.declared.port.Port.{Port as ConfiguredPort}
use Rattle.gw_rules.specs.Ask.{Ask}
use Rattle.gw_rules.specs.Authorizer.{denied_of}
use Rattle.gw_rules.specs.Format.{names_stations}
use Rattle.gw_rules.specs.declared.rule.Rule.{Rule}
use Rattle.gw_objects.specs.Write.{Write}
use Rattle.gw_relay.specs.Cast.{cast_response}
use Rattle.gw_relay.specs.Entry.{admits, entry_asks, entry_sends}
use Rattle.gw_relay.specs.Initial.{port_states_from}
use Rattle.gw_relay.specs.Link.{link_response}
use Rattle.gw_relay.specs.Manage.{manage_asks}
use Rattle.gw_relay.specs.Message.{Message}
use Rattle.gw_relay.specs.Plain.{are_managers, is_plain}
use Rattle.gw_relay.specs.Response.{Response}
use Rattle.gw_relay.specs.Route.{route_asks, route_sends}
use Rattle.gw_relay.specs.Sends.{Sending}
use Rattle.gw_relay.specs.State.{Move, Relay, is_manager, moved, port_at}
use Rattle.gw_relay.specs.State as move
use Rattle.gw_relay.specs.declared.port.PortState.{PortState}
use Rattle.gw_relay.proofs.PlainLemmas.{plain_broadcasts, plain_network_messages, plain_tables}
use Rattle.gw_core.specs.declared.effects.Effects.{Effects}
use Rattle.gw_core.specs.Asks.{asks, asks_for, message_asks}
use Rattle.gw_core.specs.Denials.{denials_at, denials_of}
use Rattle.gw_core.specs.Effects.{change_at, change_for, changed, effects_at, message_sends, move_at, relay_change_for, sends_for, ticks_of}
use Rattle.gw_core.specs.History.{next, run_from, state_after, state_from}
use Rattle.gw_core.specs.Receive.{Received, admit, barred, dropped, managed, message, origin, receive, receive_datagram, receive_on, unregistered}
use Rattle.gw_core.specs.State.{State, device_network}
use Rattle.gw_core.proofs.HistoryLemmas.{run_from-after, state_from-after}
use Rattle.gw_core.proofs.RespondLemmas.{four_none, three_none}
use Rattle.gw_core_laws.specs.FormatTwo.{asked_from, received_before}
use Rattle.gw_core_laws.specs.Laws.{FirstFormatsArePlain}
use Rattle.gw_core_laws.specs.Neighbours.{PlainIsAsBefore, PlainRunsAsBefore}
use Rattle.gw_core_laws.specs.Plain.{plain_asked, plain_asks, plain_asks_for, plain_change_for, plain_effects, plain_left, plain_next, plain_receive, plain_receive_datagram, plain_receive_on, plain_run, plain_sends_for, plain_write}
use Rattle.gw_core_laws.specs.Plain as plain
use Rattle.gw_core_laws.proofs.ManagerLemmas.{OnManager, manager_there, managers_of, none_announced, plain_after, plain_move, received_on_managers}
use Rattle.gw_script.specs.Event.{Event, Datagram, Tick}
use Rattle.gw_core_laws.specs.Onward.{PlainGoesOn}

-- ---- what is received

-- a port that has this broadcast manager beside it, if there is one
beside : Option BipAddr → PortState → PortState
beside bbmd on = record on { port = record on.port { bbmd = bbmd } }

datagram_by : (bbmd : Option BipAddr) (states : List PortState) (device : ℕ) (on : PortState) (from : BipAddr) (octets : List ℕ)
    → is_manager (beside bbmd on).port ≡ true
    → receive_datagram states device (beside bbmd on) from octets ≡ plain_receive_datagram states device (beside bbmd on) from octets
unfolding beside
datagram_by None states device on from octets e = refl
datagram_by (Some manager) states device on from octets e = cc

datagram_plain : (states : List PortState) (device : ℕ) (on : PortState) (from : BipAddr) (octets : List ℕ) → is_manager on.port ≡ true
    → receive_datagram states device on from octets ≡ plain_receive_datagram states device on from octets
unfolding beside
datagram_plain states device on from octets e = datagram_by on.port.bbmd states device on from octets e

received_on : (states : List PortState) (device number : ℕ) (from : BipAddr) (octets : List ℕ) → are_managers states ≡ true
    → receive_on states device number from octets ≡ plain_receive_on states device number from octets
received_on states device number from octets e = by (port_at states number) (λ on at. manager_there states number on at e)
  where
    by : (o : Option PortState) → ((on : PortState) → o ≡ Some on → is_manager on.port ≡ true) → ◌≡◌ {A = Received} (elim o [
      | Some on ↦ receive_datagram states device on from octets
      | None ↦ dropped
    ]) (elim o [
      | Some on ↦ plain_receive_datagram states device on from octets
      | None ↦ dropped
    ])
    by None h = refl
    by (Some on) h = datagram_plain states device on from octets (h on refl)

received_plain : (w : State) (e : Event) → is_plain w.relay ≡ true → receive w e ≡ plain_receive w e
unfolding receive
received_plain w (Datagram port from octets) e =
    ap (admit w.rules w.relay) (received_on w.relay.ports (device_network w.device) port from octets (managers_of w.relay e))
received_plain w Tick e = refl

on_admitted : (rules : List Rule) (relay : Relay) (received : Received) → OnManager received → OnManager (admit rules relay received)
on_admitted rules relay dropped on = on
on_admitted rules relay (managed port from frame) on = on
on_admitted rules relay (unregistered m) on = on
on_admitted rules relay (barred m) on = on
on_admitted rules relay (message m) on = by (admits rules relay m)
  where
    by : (b : Bool) → OnManager (if b then message m else barred m)
    by true = on
    by false = tt

on_managers : (w : State) (e : Event) → is_plain w.relay ≡ true → OnManager (receive w e)
unfolding receive
on_managers w (Datagram port from octets) e =
    on_admitted w.rules w.relay _ (received_on_managers w (Datagram port from octets) e)
on_managers w Tick e = tt

-- ---- part by part

asked : (w : State) (received : Received) → OnManager received → asks_for w.rules w.relay w.device received ≡ plain_asks_for w received
asked w dropped on = refl
asked w (managed port from frame) on =
    four_none (link_response w.rules w.relay.format port from frame).asks
    ∙ ap (λ (r : Response). r.asks) (plain_tables w.rules w.relay.format port from frame on)
asked w (unregistered m) on = refl
asked w (barred m) on = four_none (entry_asks w.rules w.relay m)
asked w (message m) on =
    ap (λ (r : Response). entry_asks w.rules w.relay m ++ r.asks ++ route_asks w.relay m ++ manage_asks w.relay m
    ++ message_asks w.rules w.relay.format w.device m) (plain_broadcasts w.rules w.relay.format m on)

sent : (w : State) (received : Received) → OnManager received → w.relay.announce ≡ false
    → sends_for w.rules w.relay w.device received ≡ plain_sends_for w received
sent w dropped on quiet = refl
sent w (managed port from frame) on quiet =
    four_none (link_response w.rules w.relay.format port from frame).sends
    ∙ ap (λ (r : Response). r.sends) (plain_tables w.rules w.relay.format port from frame on)
sent w (unregistered m) on quiet =
    three_none (cast_response w.rules w.relay.format m).sends
    ∙ ap (λ (r : Response). r.sends) (plain_broadcasts w.rules w.relay.format m on)
sent w (barred m) on quiet = four_none (entry_sends w.rules w.relay m)
sent w (message m) on quiet =
    ap₂ (λ (cast network : Response). cast.sends ++ route_sends w.rules w.relay m ++ network.sends
    ++ message_sends w.rules w.relay.format w.device m) (plain_broadcasts w.rules w.relay.format m on)
    (plain_network_messages w.rules w.relay m quiet)

relay_changed : (w : State) (received : Received) → OnManager received
    → relay_change_for w.rules w.relay received ≡ plain_change_for w received
relay_changed w dropped on = refl
relay_changed w (managed port from frame) on =
    ap (λ (r : Response). r.change) (plain_tables w.rules w.relay.format port from frame on)
relay_changed w (unregistered m) on = refl
relay_changed w (barred m) on = refl
relay_changed w (message m) on = refl

-- ---- an event

asks_plain : (w : State) (e : Event) → is_plain w.relay ≡ true → asks w e ≡ plain_asks w e
unfolding asks
asks_plain w e is = asked w (receive w e) (on_managers w e is) ∙ ap (plain_asks_for w) (received_plain w e is)

effects_with : State → Received → List Sending → List Ask → Effects
effects_with w received sends asked = record {
  sends = sends;
  denials = denials_of w.rules (w.denials + 1) w.ticks (origin received) (denied_of w.rules asked);
}

pub plain_is_as_before : PlainIsAsBefore
unfolding effects_at effects_with
plain_is_as_before w e is =
    ap₂ (λ (s : List Sending) (a : List Ask). effects_with w (receive w e) s a)
    (sent w (receive w e) (on_managers w e is) (none_announced w.relay is)) (asked w (receive w e) (on_managers w e is))
    ∙ ap (λ (r : Received). effects_with w r (plain_sends_for w r) (plain_asks_for w r)) (received_plain w e is)

moves_plain : (w : State) (e : Event) → is_plain w.relay ≡ true → move_at w e ≡ plain.plain_move w e
unfolding move_at
moves_plain w (Datagram port from octets) is =
    let e = Datagram port from octets in
    ap (option_map move.Commit) (relay_changed w (receive w e) (on_managers w e is) ∙ ap (plain_change_for w) (received_plain w e is))
moves_plain w Tick is = refl

writes_plain : (w : State) (e : Event) → is_plain w.relay ≡ true → change_at w e ≡ plain_write w e
unfolding change_at
writes_plain w e is = ap (change_for w.rules w.relay.format w.device) (received_plain w e is)

-- the next state with this number of the last denial
abbrev numbered : State → Event → Option Move → Option Write → ℕ → State
numbered w e m write denials = record w {
  relay = moved m w.relay;
  device = changed write w.device;
  ticks = w.ticks + ticks_of e;
  denials = denials;
}

next_plain : (w : State) (e : Event) → is_plain w.relay ≡ true → next w e ≡ plain_next w e
unfolding next effects_at denials_at
next_plain w e is =
    ap₂ (λ (m : Option Move) (g : Option Write). numbered w e m g (w.denials + length (denials_at w e))) (moves_plain w e is) (writes_plain w e is)
    ∙ ap (λ (x : Effects). numbered w e (plain.plain_move w e) (plain_write w e) (w.denials + length x.denials)) (plain_is_as_before w e is)

stays_plain : (w : State) (e : Event) → is_plain w.relay ≡ true → is_plain (plain_next w e).relay ≡ true
stays_plain w e is = plain_move (plain.plain_move w e) w.relay ∙ is

-- ---- a list of events, one after the other

asked_plain : (w : State) (l : List Event) → is_plain w.relay ≡ true → asked_from w l ≡ plain_asked w l
unfolding asked_from plain_asked
asked_plain w [] is = refl
asked_plain w (e ∷ l) is =
    ap₂ (λ (x : List Ask) (v : State). x ∷ asked_from v l) (asks_plain w e is) (next_plain w e is)
    ∙ ap (λ (xs : List (List Ask)). plain_asks w e ∷ xs) (asked_plain (plain_next w e) l (stays_plain w e is))

run_plain : (w : State) (l : List Event) → is_plain w.relay ≡ true → run_from w l ≡ plain_run w l
unfolding run_from plain_run
run_plain w [] is = refl
run_plain w (e ∷ l) is =
    ap₂ (λ (x : Effects) (v : State). x ∷ run_from v l) (plain_is_as_before w e is) (next_plain w e is)
    ∙ ap (λ (xs : List Effects). plain_effects w e ∷ xs) (run_plain (plain_next w e) l (stays_plain w e is))

left_plain : (w : State) (l : List Event) → is_plain w.relay ≡ true → state_from w l ≡ plain_left w l
unfolding state_from plain_left
left_plain w [] is = refl
left_plain w (e ∷ l) is =
    ap (λ (v : State). state_from v l) (next_plain w e is) ∙ left_plain (plain_next w e) l (stays_plain w e is)

pub plain_runs_as_before : PlainRunsAsBefore
plain_runs_as_before c k l is =
    let fresh = state_after c k [] in
    let here : is_plain fresh.relay ≡ true = plain_after c k [] ∙ is in (
      asked_plain fresh l here,
      sym (run_from-after c k [] l) ∙ run_plain fresh l here,
      sym (state_from-after c k [] l) ∙ left_plain fresh l here,
    )

-- ---- the first two formats

managers_from : (number : ℕ) (ports : List ConfiguredPort) → list_all is_plain_port ports ≡ true → are_managers (port_states_from number ports) ≡ true
managers_from number [] e = refl
managers_from number (p ∷ ports) e =
    let all = and_parts (is_plain_port p) (list_all is_plain_port ports) e in
    let own = and_parts (length p.stations == 0) (not (is_some p.bbmd)) all.0 in
    and_from (not (is_some p.bbmd)) (are_managers (port_states_from (number + 1) ports)) own.1 (managers_from (number + 1) ports all.1)

or_last : (a b : Bool) → (a || b) ≡ true → a ≡ false → b ≡ true
or_last true b e f = cc
or_last false b e f = e

pub first_formats_are_plain : FirstFormatsArePlain
first_formats_are_plain c off limits =
    let counts = and_parts (keeps_counts c) _ limits in
    let names = and_parts (are_named c.device c.objects) _ counts.1 in
    let ports = and_parts (list_all is_managed c.ports) _ names.1 in
    let rules = and_parts (keeps_rules c.format (policing_of c)) _ ports.1 in
    let asserted = and_parts (keeps_assertions c.assertions) _ rules.1 in
    let both = and_parts (not c.announce) (configuration.is_plain c.ports (policing_of c)) (or_last (names_stations c.format) _ asserted.1 off) in
    let each = and_parts (list_all is_plain_port c.ports) _ both.1 in
    and_from (not c.announce) (are_managers (port_states_from 1 c.ports)) both.0 (managers_from 1 c.ports each.0)

-- ---- from any state on

pub plain_goes_on : PlainGoesOn
plain_goes_on w l is = (asked_plain w l is, run_plain w l is, left_plain w l is)
