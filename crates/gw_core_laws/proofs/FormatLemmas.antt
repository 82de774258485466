-- Under the first formats of a policy events ask and do what they did before there were later ones; and the format stays.
use Rattle.std.proofs.Common.{◌≡◌, ◌∙◌, refl, sym, ap, ap₂, ℕ, ◌+◌, Bool, true, false, List, [], ◌∷◌, ◌++◌, length, map, Option, Some, None}
use Rattle.std.specs.Prelude.{if◌then◌else◌}
use Rattle.std.specs.List.{list_all}
use Rattle.std.specs.Option.{option_map, option_map_or}
use Rattle.gw_frames.specs.npdu.Npdu.{Destination, Payload}
use Rattle.gw_tables.specs.routes.Table.{way}
use Rattle.gw_tables.specs.declared.routes.route.Way.{Way}
use Rattle.gw_tables.specs.declared.routes.route.Way.TheVariants as ways
use Rattle.gw_rules.specs.Ask.{Ask}
use Rattle.gw_rules.specs.Authorizer.{denied_of}
use Rattle.gw_rules.specs.Format.{names_stations}
use Rattle.gw_rules.specs.RuleList.{allows}
use Rattle.gw_rules.specs.declared.format.Format.{Format}
use Rattle.gw_rules.specs.declared.format.Format.TheVariants.{One, Two, Three}
use Rattle.gw_rules.specs.declared.operation.Operation.TheVariants.{Route}
use Rattle.gw_rules.specs.declared.rule.Rule.{Rule}
use Rattle.gw_device.specs.declared.context.Context.{Context}
use Rattle.gw_objects.specs.Write.{Write}
use Rattle.gw_relay.specs.Asks.{bound_for, sender_of}
use Rattle.gw_relay.specs.Cast.{cast_response}
use Rattle.gw_relay.specs.Entry.{admits, entry_asks}
use Rattle.gw_relay.specs.FormatTwo.{cast_response_before, copy_before, forward_before, manage_response_before, message_ask_before, on_way_before, route_steps_before, steps_before}
use Rattle.gw_relay.specs.Initial.{initial}
use Rattle.gw_relay.specs.Link.{answer_to, link_response, refused}
use Rattle.gw_relay.specs.Message.{Message}
use Rattle.gw_relay.specs.Named.{named_asks}
use Rattle.gw_relay.specs.Plain.{is_plain}
use Rattle.gw_relay.specs.Response.{Response}
use Rattle.gw_relay.specs.Route.{copy_to_port, is_local, leaves, others}
use Rattle.gw_relay.specs.Sends.{Sending}
use Rattle.gw_relay.specs.State.{Move, Relay, moved, moved_by}
use Rattle.gw_relay.specs.State as move
use Rattle.gw_relay.specs.Steps.{Step, asks_of, sends_of}
use Rattle.gw_relay.specs.declared.port.PortState.{PortState}
use Rattle.gw_relay.proofs.FormatLemmas.{broadcasts_are_as_before, network_messages_are_as_before, routing_is_as_before, tables_are_as_before}
use Rattle.gw_core.specs.declared.effects.Effects.{Effects}
use Rattle.gw_core.specs.Asks.{apdu_asks, asks, asks_for}
use Rattle.gw_core.specs.Denials.{denials_at, denials_of}
use Rattle.gw_core.specs.Effects.{answer_sends, apdu_answer, apdu_change, change_at, change_for, changed, effects_at, move_at, relay_change_for, sends_for, ticks_of}
use Rattle.gw_core_laws.specs.FormatOne.{before_two, copy_step, routing_of_one, steps_of_one, way_step}
use Rattle.gw_core_laws.specs.FormatTwo.{Routing, asked_by, asked_from, asks_by, asks_with, before_three, context_before, effects_by, left_by, move_before, next_by, received_before, relay_change_before, run_by, sends_with, write_before}
use Rattle.gw_core.specs.History.{acts_of, next, run_from, state_after, state_from}
use Rattle.gw_core_laws.specs.Laws.{FormatOneIsAsBefore, FormatOneRunsAsBefore, FormatStays, FormatTwoIsAsBefore, FormatTwoRunsAsBefore, FormatWasUnread, under}
use Rattle.gw_core.specs.Receive.{Received, admit, barred, dropped, managed, unregistered, message, origin, receive}
use Rattle.gw_core.specs.Reply.{apdu_for, context_of}
use Rattle.gw_core.specs.State.{State, device_network}
use Rattle.gw_core.proofs.EffectLemmas.{effects_are}
use Rattle.gw_core.proofs.EntryLemmas.{entry_is_unasked}
use Rattle.gw_core.proofs.HistoryLemmas.{run_from-after, state_from-after}
use Rattle.gw_core.proofs.RespondLemmas.{four_none, three_none}
use Rattle.gw_core_laws.proofs.ManagerLemmas.{OnManager, none_announced, plain_after, plain_move, received_on_managers}
use Rattle.gw_script.specs.Event.{Event, Datagram, Tick}
use Rattle.gw_core_laws.specs.Onward.{FormatOneGoesOn, FormatStaysOn, FormatTwoGoesOn}

-- ---- nobody is kept out

taken : (rules : List Rule) (relay : Relay) (m : Message) → names_stations relay.format ≡ false → admits rules relay m ≡ true
taken rules relay m off = ap (list_all (allows rules)) (entry_is_unasked rules relay m off)

all_admitted : (rules : List Rule) (relay : Relay) (received : Received) → names_stations relay.format ≡ false
    → admit rules relay received ≡ received
all_admitted rules relay dropped off = refl
all_admitted rules relay (managed on from frame) off = refl
all_admitted rules relay (unregistered m) off = refl
all_admitted rules relay (barred m) off = refl
all_admitted rules relay (message m) off = ap (λ (b : Bool). if b then message m else barred m) (taken rules relay m off)

pub received_so : (w : State) (e : Event) → names_stations w.relay.format ≡ false → receive w e ≡ received_before w e
unfolding receive
received_so w (Datagram port from octets) off = all_admitted w.rules w.relay _ off
received_so w Tick off = refl

-- ---- part by part

same_context : (format : Format) (network : ℕ) (m : Message) → names_stations format ≡ false → context_of format network m ≡ context_before network m
same_context One network m off = refl
same_context Two network m off = refl
same_context Three network m off = absurd cc

five : {A : Type 0} (a b c d e v w x y z : List A) → a ≡ v → b ≡ w → c ≡ x → d ≡ y → e ≡ z → a ++ b ++ c ++ d ++ e ≡ v ++ w ++ x ++ y ++ z
five a b c d e v w x y z e1 e2 e3 e4 e5 = rw (e1, e2, e3, e4, e5) refl

asked : (w : State) (received : Received) → names_stations w.relay.format ≡ false → OnManager received → w.relay.announce ≡ false
    → asks_for w.rules w.relay w.device received ≡ asks_with (before_three.asks w.relay) w received
asked w dropped off manager quiet = refl
asked w (managed on from frame) off manager quiet =
    four_none (link_response w.rules w.relay.format on from frame).asks
    ∙ ap (λ (r : Response). r.asks) (tables_are_as_before w.rules w.relay.format on from frame off manager)
asked w (unregistered m) off manager quiet = refl
asked w (barred m) off manager quiet = four_none (entry_asks w.rules w.relay m) ∙ entry_is_unasked w.rules w.relay m off
asked w (message m) off manager quiet =
    let network = device_network w.device in
    five _ _ _ _ _ [] _ _ _ _ (entry_is_unasked w.rules w.relay m off)
    (ap (λ (r : Response). r.asks) (broadcasts_are_as_before w.rules w.relay.format m off manager))
    (ap (λ (r : Response). r.asks) (routing_is_as_before [] w.relay m off))
    (ap (λ (r : Response). r.asks) (network_messages_are_as_before w.rules w.relay m off quiet))
    (ap (λ (x : Context). apdu_asks w.rules w.device x (apdu_for network m.npdu)) (same_context w.relay.format network m off))

sent : (w : State) (received : Received) → names_stations w.relay.format ≡ false → OnManager received → w.relay.announce ≡ false
    → sends_for w.rules w.relay w.device received ≡ sends_with (before_three.sends w.rules w.relay) w received
sent w dropped off manager quiet = refl
sent w (managed on from frame) off manager quiet =
    four_none (link_response w.rules w.relay.format on from frame).sends
    ∙ ap (λ (r : Response). r.sends) (tables_are_as_before w.rules w.relay.format on from frame off manager)
sent w (unregistered m) off manager quiet =
    three_none (cast_response w.rules w.relay.format m).sends
    ∙ ap (λ (r : Response). r.sends) (broadcasts_are_as_before w.rules w.relay.format m off manager)
sent w (barred m) off manager quiet = four_none _ ∙ ap (λ (b : Bool). if b then [] else map (answer_to m.here.port m.from) (refused m.frame)) (taken w.rules w.relay m off)
sent w (message m) off manager quiet =
    let network = device_network w.device in
    five [] _ _ _ _ [] _ _ _ _ refl
    (ap (λ (r : Response). r.sends) (broadcasts_are_as_before w.rules w.relay.format m off manager))
    (ap (λ (r : Response). r.sends) (routing_is_as_before w.rules w.relay m off))
    (ap (λ (r : Response). r.sends) (network_messages_are_as_before w.rules w.relay m off quiet))
    (ap (λ (x : Context). answer_sends network m (apdu_answer w.rules w.device x (apdu_for network m.npdu))) (same_context w.relay.format network m off))

relay_changed : (w : State) (received : Received) → names_stations w.relay.format ≡ false → OnManager received → w.relay.announce ≡ false
    → relay_change_for w.rules w.relay received ≡ relay_change_before w received
relay_changed w dropped off manager quiet = refl
relay_changed w (managed on from frame) off manager quiet = ap (λ (r : Response). r.change) (tables_are_as_before w.rules w.relay.format on from frame off manager)
relay_changed w (unregistered m) off manager quiet = refl
relay_changed w (barred m) off manager quiet = refl
relay_changed w (message m) off manager quiet = ap (λ (r : Response). r.change) (network_messages_are_as_before w.rules w.relay m off quiet)

device_changed : (w : State) (received : Received) → names_stations w.relay.format ≡ false
    → change_for w.rules w.relay.format w.device received ≡ write_before w received
device_changed w dropped off = refl
device_changed w (managed on from frame) off = refl
device_changed w (unregistered m) off = refl
device_changed w (barred m) off = refl
device_changed w (message m) off =
    let network = device_network w.device in
    ap (λ (x : Context). apdu_change w.rules w.device x (apdu_for network m.npdu)) (same_context w.relay.format network m off)

-- ---- an event, before the third format

asks_alike : (w : State) (e : Event) → names_stations w.relay.format ≡ false → is_plain w.relay ≡ true → asks w e ≡ asks_by before_three w e
unfolding asks
asks_alike w e off plain =
    ap (asks_for w.rules w.relay w.device) (received_so w e off) ∙ asked w (received_before w e) off (received_on_managers w e plain) (none_announced w.relay plain)

effects_with : State → Received → List Sending → List Ask → Effects
effects_with w received sends asked = record {
  sends = sends;
  denials = denials_of w.rules (w.denials + 1) w.ticks (origin received) (denied_of w.rules asked);
}

pub format_two_is_as_before : FormatTwoIsAsBefore
unfolding effects_at effects_with
format_two_is_as_before w e off plain =
    let before = received_before w e in
    ap (λ (r : Received). effects_with w r (sends_for w.rules w.relay w.device r) (asks_for w.rules w.relay w.device r)) (received_so w e off)
    ∙ ap₂ (λ (s : List Sending) (a : List Ask). effects_with w before s a) (sent w before off (received_on_managers w e plain) (none_announced w.relay plain))
    (asked w before off (received_on_managers w e plain) (none_announced w.relay plain))

-- the next state with this number of the last denial
abbrev numbered : State → Event → Option Move → Option Write → ℕ → State
numbered w e move write denials = record w {
  relay = moved move w.relay;
  device = changed write w.device;
  ticks = w.ticks + ticks_of e;
  denials = denials;
}

moves_alike : (w : State) (e : Event) → names_stations w.relay.format ≡ false → is_plain w.relay ≡ true → move_at w e ≡ move_before w e
unfolding move_at
moves_alike w (Datagram port from octets) off plain =
    let e = Datagram port from octets in
    ap (λ (r : Received). option_map move.Commit (relay_change_for w.rules w.relay r)) (received_so w e off)
    ∙ ap (option_map move.Commit) (relay_changed w (received_before w e) off (received_on_managers w e plain) (none_announced w.relay plain))
moves_alike w Tick off plain = refl

writes_alike : (w : State) (e : Event) → names_stations w.relay.format ≡ false → change_at w e ≡ write_before w (received_before w e)
unfolding change_at
writes_alike w e off =
    ap (change_for w.rules w.relay.format w.device) (received_so w e off) ∙ device_changed w (received_before w e) off

next_with : (routing : Routing) (w : State) (e : Event) → names_stations w.relay.format ≡ false → is_plain w.relay ≡ true → effects_at w e ≡ effects_by routing w e
    → next w e ≡ next_by routing w e
unfolding next effects_at denials_at
next_with routing w e off plain same =
    ap₂ (λ (m : Option Move) (g : Option Write). numbered w e m g (w.denials + length (denials_at w e))) (moves_alike w e off plain) (writes_alike w e off)
    ∙ ap (λ (x : Effects). numbered w e (move_before w e) (write_before w (received_before w e)) (w.denials + length x.denials)) same

-- ---- the format stays

pub one_move : (m : Option Move) (relay : Relay) → (moved m relay).format ≡ relay.format
one_move None relay = refl
one_move (Some (move.Commit change)) relay = refl
one_move (Some move.Tick) relay = refl

moves : (ms : List Move) (relay : Relay) → (moved_by ms relay).format ≡ relay.format
unfolding moved_by
moves [] relay = refl
moves (m ∷ ms) relay = one_move (Some m) (moved_by ms relay) ∙ moves ms relay

pub format_stays : FormatStays
format_stays c k h = moves (acts_of c k h).moves (initial c)

-- ---- a list of events, one after the other

-- an event asks and does what the routing says, and leaves a state of which that holds again
record IsAlike (P : State → Type 0) (routing : Routing) (w : State) (e : Event) : Type 0 where
  asked : asks w e ≡ asks_by routing w e
  effects : effects_at w e ≡ effects_by routing w e
  next : next w e ≡ next_by routing w e
  stays : P (next_by routing w e)

module _ (P : State → Type 0) (routing : Routing) (alike : (w : State) (e : Event) → P w → IsAlike P routing w e) where
  asked_alike : (w : State) (l : List Event) → P w → asked_from w l ≡ asked_by routing w l
  unfolding asked_from asked_by
  asked_alike w [] is = refl
  asked_alike w (e ∷ l) is =
      let a = alike w e is in
      ap₂ (λ (x : List Ask) (v : State). x ∷ asked_from v l) a.asked a.next
      ∙ ap (λ (xs : List (List Ask)). asks_by routing w e ∷ xs) (asked_alike (next_by routing w e) l a.stays)

  run_alike : (w : State) (l : List Event) → P w → run_from w l ≡ run_by routing w l
  unfolding run_from run_by
  run_alike w [] is = refl
  run_alike w (e ∷ l) is =
      let a = alike w e is in
      ap₂ (λ (x : Effects) (v : State). x ∷ run_from v l) a.effects a.next
      ∙ ap (λ (xs : List Effects). effects_by routing w e ∷ xs) (run_alike (next_by routing w e) l a.stays)

  left_alike : (w : State) (l : List Event) → P w → state_from w l ≡ left_by routing w l
  unfolding state_from left_by
  left_alike w [] is = refl
  left_alike w (e ∷ l) is =
      let a = alike w e is in
      ap (λ (v : State). state_from v l) a.next ∙ left_alike (next_by routing w e) l a.stays

stays_by : (routing : Routing) (w : State) (e : Event) → (next_by routing w e).relay.format ≡ w.relay.format
stays_by routing w e = one_move (move_before w e) w.relay

plain_by : (routing : Routing) (w : State) (e : Event) → is_plain (next_by routing w e).relay ≡ is_plain w.relay
plain_by routing w e = plain_move (move_before w e) w.relay

NamesNone : State → Type 0
NamesNone w = (names_stations w.relay.format ≡ false) × (is_plain w.relay ≡ true)

two_alike : (w : State) (e : Event) → NamesNone w → IsAlike NamesNone before_three w e
unfolding NamesNone
two_alike w e is = record {
  asked = asks_alike w e is.0 is.1;
  effects = format_two_is_as_before w e is.0 is.1;
  next = next_with before_three w e is.0 is.1 (format_two_is_as_before w e is.0 is.1);
  stays = (ap names_stations (stays_by before_three w e) ∙ is.0, plain_by before_three w e ∙ is.1);
}

pub format_two_runs_as_before : FormatTwoRunsAsBefore
unfolding NamesNone
format_two_runs_as_before c k l off plain =
    let fresh = state_after c k [] in
    let none : NamesNone fresh = (ap names_stations (format_stays c k []) ∙ off, plain_after c k [] ∙ plain) in (
      asked_alike NamesNone before_three two_alike fresh l none,
      sym (run_from-after c k [] l) ∙ run_alike NamesNone before_three two_alike fresh l none,
      sym (state_from-after c k [] l) ∙ left_alike NamesNone before_three two_alike fresh l none,
    )

-- ---- routing under the first format

-- nothing is asked after a `route` ask
none_named : (format : Format) (route : Ask) (payload : Payload) → format ≡ One → named_asks format route payload ≡ []
none_named One route payload is = refl
none_named Two route payload is = absurd cc
none_named Three route payload is = absurd cc

abbrev step_with : List Ask → List Sending → Step
step_with asks sends = record { asks = asks; sends = sends }

one_way : (relay : Relay) (m : Message) (d : Destination) (by : Way) → relay.format ≡ One → on_way_before relay m d by ≡ way_step relay m d by
one_way relay m d by is =
    let route = message_ask_before Route m (bound_for m.npdu) in
    ap (λ (named : List Ask). step_with (route ∷ named) (forward_before relay m d by)) (none_named relay.format route m.npdu.payload is)

one_copy : (format : Format) (m : Message) (d : Destination) (state : PortState) → format ≡ One → copy_before format m d state ≡ copy_step m d state
one_copy format m d state is =
    let route = message_ask_before Route m (Some state.port.network) in
    ap (λ (named : List Ask). step_with (route ∷ named) (copy_to_port m d state)) (none_named format route m.npdu.payload is)

each_copy : (format : Format) (m : Message) (d : Destination) (ports : List PortState) → format ≡ One
    → map (copy_before format m d) ports ≡ map (copy_step m d) ports
each_copy format m d [] is = refl
each_copy format m d (state ∷ ports) is = ap₂ (λ (s : Step) (ss : List Step). s ∷ ss) (one_copy format m d state is) (each_copy format m d ports is)

by_way : (relay : Relay) (m : Message) (d : Destination) (by : Way) → relay.format ≡ One → steps_before relay m d by ≡ steps_of_one relay m d by
by_way relay m d ways.Everywhere is = each_copy relay.format m d (others m.here.port.number relay.ports) is
by_way relay m d (ways.Port other) is =
    let by = ways.Port other in
    ap (λ (s : Step). if leaves m.here.port.number by then s ∷ [] else []) (one_way relay m d by is)
by_way relay m d (ways.Router route) is =
    let by = ways.Router route in
    ap (λ (s : Step). if leaves m.here.port.number by then s ∷ [] else []) (one_way relay m d by is)
by_way relay m d ways.Device is = refl
by_way relay m d ways.Unknown is = ap (λ (s : Step). s ∷ []) (one_way relay m d ways.Unknown is)

routed : (relay : Relay) (m : Message) → relay.format ≡ One → route_steps_before relay m ≡ routing_of_one relay m
routed relay m is = ap (λ (steps : List Step). if is_local m.npdu.payload then [] else steps) (towards m.npdu.destination)
  where
    towards : (to : Option Destination) → option_map_or (λ d. steps_before relay m d (way relay.routes d.address.network)) to []
        ≡ option_map_or (λ d. steps_of_one relay m d (way relay.routes d.address.network)) to []
    towards None = refl
    towards (Some d) = by_way relay m d (way relay.routes d.address.network) is

-- ---- an event under the first format

one_names_none : (format : Format) → format ≡ One → names_stations format ≡ false
one_names_none One is = refl
one_names_none Two is = refl
one_names_none Three is = absurd cc

routed_asks : (f g : Message → List Ask) → ((m : Message) → f m ≡ g m) → (w : State) (received : Received) → asks_with f w received ≡ asks_with g w received
routed_asks f g same w dropped = refl
routed_asks f g same w (managed on from frame) = refl
routed_asks f g same w (unregistered m) = refl
routed_asks f g same w (barred m) = refl
routed_asks f g same w (message m) =
    let network = device_network w.device in
    ap (λ (routed : List Ask). (cast_response_before w.rules m).asks ++ routed ++ (manage_response_before w.rules w.relay m).asks
    ++ apdu_asks w.rules w.device (context_before network m) (apdu_for network m.npdu)) (same m)

routed_sends : (f g : Message → List Sending) → ((m : Message) → f m ≡ g m) → (w : State) (received : Received)
    → sends_with f w received ≡ sends_with g w received
routed_sends f g same w dropped = refl
routed_sends f g same w (managed on from frame) = refl
routed_sends f g same w (unregistered m) = refl
routed_sends f g same w (barred m) = refl
routed_sends f g same w (message m) =
    let network = device_network w.device in
    ap (λ (routed : List Sending). (cast_response_before w.rules m).sends ++ routed ++ (manage_response_before w.rules w.relay m).sends
    ++ answer_sends network m (apdu_answer w.rules w.device (context_before network m) (apdu_for network m.npdu))) (same m)

asks_of_one : (w : State) (e : Event) → w.relay.format ≡ One → asks_by before_three w e ≡ asks_by before_two w e
asks_of_one w e is =
    routed_asks (before_three.asks w.relay) (before_two.asks w.relay) (λ m. ap (λ (steps : List Step). asks_of steps) (routed w.relay m is)) w
    (received_before w e)

effects_of_one : (w : State) (e : Event) → w.relay.format ≡ One → effects_by before_three w e ≡ effects_by before_two w e
effects_of_one w e is =
    effects_are _ _ _ _
    (routed_sends (before_three.sends w.rules w.relay) (before_two.sends w.rules w.relay)
    (λ m. ap (λ (steps : List Step). sends_of w.rules steps) (routed w.relay m is)) w (received_before w e))
    (ap (λ (asks : List Ask). denials_of w.rules (w.denials + 1) w.ticks (origin (received_before w e)) (denied_of w.rules asks)) (asks_of_one w e is))

pub format_one_is_as_before : FormatOneIsAsBefore
format_one_is_as_before w e is plain = format_two_is_as_before w e (one_names_none w.relay.format is) plain ∙ effects_of_one w e is

IsOfOne : State → Type 0
IsOfOne w = (w.relay.format ≡ One) × (is_plain w.relay ≡ true)

one_alike : (w : State) (e : Event) → IsOfOne w → IsAlike IsOfOne before_two w e
unfolding IsOfOne
one_alike w e is =
    let off = one_names_none w.relay.format is.0 in record {
      asked = asks_alike w e off is.1 ∙ asks_of_one w e is.0;
      effects = format_one_is_as_before w e is.0 is.1;
      next = next_with before_two w e off is.1 (format_one_is_as_before w e is.0 is.1);
      stays = (stays_by before_two w e ∙ is.0, plain_by before_two w e ∙ is.1);
    }

pub format_one_runs_as_before : FormatOneRunsAsBefore
unfolding IsOfOne
format_one_runs_as_before c k l is plain =
    let fresh = state_after c k [] in
    let one : IsOfOne fresh = (format_stays c k [] ∙ is, plain_after c k [] ∙ plain) in (
      asked_alike IsOfOne before_two one_alike fresh l one,
      sym (run_from-after c k [] l) ∙ run_alike IsOfOne before_two one_alike fresh l one,
      sym (state_from-after c k [] l) ∙ left_alike IsOfOne before_two one_alike fresh l one,
    )

-- ---- no format is looked at

effects_under : (format : Format) (w : State) (e : Event) → effects_by before_two (under format w) e ≡ effects_by before_two w e
effects_under format w (Datagram port from octets) = refl
effects_under format w Tick = refl

asks_under : (format : Format) (w : State) (e : Event) → asks_by before_two (under format w) e ≡ asks_by before_two w e
asks_under format w (Datagram port from octets) = refl
asks_under format w Tick = refl

pub moved_under : (m : Option Move) (relay : Relay) (format : Format)
    → moved m (record relay { format = format }) ≡ record (moved m relay) { format = format }
moved_under None relay format = refl
moved_under (Some (move.Commit change)) relay format = refl
moved_under (Some move.Tick) relay format = refl

next_under : (format : Format) (w : State) (e : Event) → next_by before_two (under format w) e ≡ under format (next_by before_two w e)
next_under format w (Datagram port from octets) =
    let e = Datagram port from octets in
    ap (λ (x : Effects). numbered (under format w) e (move_before w e) (write_before w (received_before w e)) (w.denials + length x.denials))
    (effects_under format w e)
    ∙ ap (λ (relay : Relay). record (next_by before_two w e) { relay = relay }) (moved_under (move_before w e) w.relay format)
next_under format w Tick = refl

asked_under : (format : Format) (w : State) (l : List Event) → asked_by before_two (under format w) l ≡ asked_by before_two w l
unfolding asked_by
asked_under format w [] = refl
asked_under format w (e ∷ l) =
    ap₂ (λ (x : List Ask) (v : State). x ∷ asked_by before_two v l) (asks_under format w e) (next_under format w e)
    ∙ ap (λ (xs : List (List Ask)). asks_by before_two w e ∷ xs) (asked_under format (next_by before_two w e) l)

run_under : (format : Format) (w : State) (l : List Event) → run_by before_two (under format w) l ≡ run_by before_two w l
unfolding run_by
run_under format w [] = refl
run_under format w (e ∷ l) =
    ap₂ (λ (x : Effects) (v : State). x ∷ run_by before_two v l) (effects_under format w e) (next_under format w e)
    ∙ ap (λ (xs : List Effects). effects_by before_two w e ∷ xs) (run_under format (next_by before_two w e) l)

left_under : (format : Format) (w : State) (l : List Event) → left_by before_two (under format w) l ≡ under format (left_by before_two w l)
unfolding left_by
left_under format w [] = refl
left_under format w (e ∷ l) =
    ap (λ (v : State). left_by before_two v l) (next_under format w e) ∙ left_under format (next_by before_two w e) l

pub format_was_unread : FormatWasUnread
format_was_unread format w l = (asked_under format w l, run_under format w l, left_under format w l)

-- ---- from any state on

pub format_one_goes_on : FormatOneGoesOn
unfolding IsOfOne
format_one_goes_on w l is plain =
    let one : IsOfOne w = (is, plain) in (
      asked_alike IsOfOne before_two one_alike w l one,
      run_alike IsOfOne before_two one_alike w l one,
      left_alike IsOfOne before_two one_alike w l one,
    )

pub format_two_goes_on : FormatTwoGoesOn
unfolding NamesNone
format_two_goes_on w l off plain =
    let none : NamesNone w = (off, plain) in (
      asked_alike NamesNone before_three two_alike w l none,
      run_alike NamesNone before_three two_alike w l none,
      left_alike NamesNone before_three two_alike w l none,
    )

pub format_stays_on : FormatStaysOn
unfolding state_from next
format_stays_on w [] = refl
format_stays_on w (e ∷ l) = format_stays_on (next w e) l ∙ one_move (move_at w e) w.relay
