-- A write of an object changes the slots and the default of that object alone, and nothing rests on those but a read of it.
use Rattle.std.proofs.Common.{◌≡◌, ◌∙◌, sym, ap, refl, subst, ℕ, zero, suc, ◌+◌, add-zero, Bool, true, false, List, [], ◌∷◌, ◌++◌, map, length, take, Option, Some, None}
use Rattle.std.specs.Prelude.{if◌then◌else◌, slice_get}
use Rattle.std.specs.List.{AllByRecursion}
use Rattle.std.specs.Option.{option_map, option_and_then}
use Rattle.gw_audit.specs.declared.denial.Denial.{Denial}
use Rattle.gw_device.specs.declared.context.Context.{Context}
use Rattle.gw_device.specs.Laws.{NoReadAllowed, object_written}
use Rattle.gw_device.proofs.Changes.{changes_are_in_place, changes_rest_on_requests}
use Rattle.gw_device.specs.Response.{Answer, Response}
use Rattle.gw_device.proofs.Unread.{unread}
use Rattle.gw_frames.specs.npdu.Npdu.{Destination, Payload, apdu, message as network_message}
use Rattle.gw_objects.specs.declared.configured.Configured.{Configured}
use Rattle.gw_objects.specs.History.{after_write}
use Rattle.gw_objects.specs.Laws.{AgreeBut, standing}
use Rattle.gw_objects.specs.Objects.{Database, Slots, place_of}
use Rattle.gw_objects.specs.Write.{Write}
use Rattle.gw_objects.proofs.Others.{agree_put, agree_written, differ}
use Rattle.gw_relay.specs.Announcement.{announcements}
use Rattle.gw_relay.specs.Manage.{manage_change}
use Rattle.gw_relay.specs.Sends.{Sending}
use Rattle.gw_relay.specs.State.{Commit, Relay, moved}
use Rattle.gw_relay.specs.declared.change.Change.{Change}
use Rattle.gw_rules.specs.Ask.{Ask}
use Rattle.gw_rules.specs.Authorizer.{denied_of}
use Rattle.gw_rules.proofs.EachAsk.{none_rest}
use Rattle.gw_rules.specs.declared.format.Format.{Format}
use Rattle.gw_rules.specs.declared.rule.Rule.{Rule}
use Rattle.gw_script.specs.Event.{Event, Datagram, Tick}
use Rattle.gw_codecs.specs.tags.Object.{Object}
use Rattle.gw_core.specs.declared.effects.Effects.{Effects}
use Rattle.gw_core.specs.Asks.{apdu_asks, asks, asks_for, cast_asks_for, first_asks_for, manage_asks_for as asks_managed, message_asks, route_asks_for}
use Rattle.gw_core.specs.Denials.{denials_at, denials_of}
use Rattle.gw_core.specs.Effects.{answer_sends, apdu_answer, apdu_change, cast_sends_for, change_at, change_for, changed, effects_at, effects_for, manage_sends_for, message_change, move_at, relay_change_for, route_sends_for, sends_for}
use Rattle.gw_core.specs.History.{next, run_from, state_after, state_from}
use Rattle.gw_core_laws.specs.NoLeak.{AnnouncementsAreUnread, AsksToReadOn, IsWriteOf, NoReadAllowedOn, WritesAreUnread, object_of, seen, unnumbered}
use Rattle.gw_core.specs.Marked.{kept}
use Rattle.gw_relay.specs.Message.{Message}
use Rattle.gw_core.specs.Receive.{Received, barred, dropped, managed, unregistered, message, origin, receive}
use Rattle.gw_core.specs.Reply.{apdu_for, apdu_towards, context_of}
use Rattle.gw_core.specs.State.{State}
use Rattle.gw_core_laws.proofs.DeviceAskLemmas.{own_network}
use Rattle.gw_core_laws.proofs.ExtensionLemmas.{configuration_stays}
use Rattle.gw_core.proofs.HistoryLemmas.{run_from-after, state_from-after}
use Rattle.gw_core_laws.proofs.QuietLemmas.{left_from, unnumbered_of}
use Rattle.gw_core_laws.specs.Onward.{AnnouncementsGoUnread, LeavesOutFrom, WritesGoUnread}

no_some : {A : Type 0} (x : A) → ◌≡◌ {A = Option A} None (Some x) → ⊥
no_some x e = cc

-- ---- what doesn't rest on the slots and the defaults

-- the change never does
alike_change : (rules : List Rule) (c : Configured) (s t : List Slots) (context : Context) (x : Option (List ℕ))
    → apdu_change rules (standing c s) context x ≡ apdu_change rules (standing c t) context x
alike_change rules c s t context None = refl
alike_change rules c s t context (Some octets) = changes_rest_on_requests rules c s t context octets

change_alike : (rules : List Rule) (format : Format) (c : Configured) (s t : List Slots) (received : Received)
    → change_for rules format (standing c s) received ≡ change_for rules format (standing c t) received
change_alike rules format c s t dropped = refl
change_alike rules format c s t (managed on from frame) = refl
change_alike rules format c s t (unregistered m) = refl
change_alike rules format c s t (barred m) = refl
change_alike rules format c s t (message m) =
    alike_change rules c s t (context_of format c.device.network m) (apdu_for c.device.network m.npdu)

-- where no read of the device's own object is allowed, the device allows none of it: its asks are for its network
own_reads : (network : ℕ) (rules : List Rule) (o : Object) (xs : List Ask) → AllByRecursion (λ ask. ask.destination_network ≡ Some network) xs
    → NoReadAllowedOn network rules o xs → NoReadAllowed rules o xs
own_reads network rules o [] own none = tt
own_reads network rules o (x ∷ xs) own none =
    (λ reads. none.0 (record { reads = reads; destination = own.0 }), own_reads network rules o xs own.1 none.1)

-- the answer and the asks don't, where no ask to read the object is allowed
answer_alike : (rules : List Rule) (o : Object) (c : Configured) (s t : List Slots) (context : Context) (x : Option (List ℕ)) → AgreeBut o c s t
    → NoReadAllowedOn c.device.network rules o (apdu_asks rules (standing c t) context x)
    → (apdu_asks rules (standing c t) context x ≡ apdu_asks rules (standing c s) context x)
    × (apdu_answer rules (standing c t) context x ≡ apdu_answer rules (standing c s) context x)
answer_alike rules o c s t context None agree h = (refl, refl)
answer_alike rules o c s t context (Some octets) agree h =
    let same = unread rules c t s o context octets (differ o c t s (λ i apart. sym (agree i apart)))
    (own_reads c.device.network rules o _ (own_network rules (standing c t) context octets) h) in
    (ap (λ (r : Response). r.asks) same, ap (λ (r : Response). r.answer) same)

received_alike : (rules : List Rule) (o : Object) (relay : Relay) (c : Configured) (s t : List Slots) (received : Received) → AgreeBut o c s t
    → NoReadAllowedOn c.device.network rules o (asks_for rules relay (standing c t) received)
    → (asks_for rules relay (standing c t) received ≡ asks_for rules relay (standing c s) received)
    × (sends_for rules relay (standing c t) received ≡ sends_for rules relay (standing c s) received)
received_alike rules o relay c s t dropped agree h = (refl, refl)
received_alike rules o relay c s t (managed on from frame) agree h = (refl, refl)
received_alike rules o relay c s t (unregistered m) agree h = (refl, refl)
received_alike rules o relay c s t (barred m) agree h = (refl, refl)
received_alike rules o relay c s t (message m) agree h =
    let network = c.device.network in
    let asked = first_asks_for rules relay (message m) ++ cast_asks_for relay (message m) ++ route_asks_for relay (message m)
    ++ asks_managed relay (message m) in
    let sent = cast_sends_for rules relay (message m) ++ route_sends_for rules relay (message m) ++ manage_sends_for rules relay (message m) in
    let same = answer_alike rules o c s t (context_of relay.format network m) (apdu_for network m.npdu) agree
    (none_rest (AsksToReadOn network o) rules asked (message_asks rules relay.format (standing c t) m) h) in
    (ap (λ (xs : List Ask). asked ++ xs) same.0, ap (λ (x : Option Answer). sent ++ answer_sends network m x) same.1)

-- ---- one event

-- a state with other slots and defaults, and another number of the last denial
abbrev pub with_slots : State → List Slots → ℕ → State
with_slots w t n = record w { device = standing w.device.configured t; denials = n }

abbrev made : List Sending → List Denial → Effects
made sends denials = record { sends = sends; denials = denials }

seen_by : (w : State) (t : List Slots) (n : ℕ) (o : Object) (received : Received) → AgreeBut o w.device.configured w.device.states t
    → NoReadAllowedOn w.device.configured.device.network w.rules o (asks_for w.rules w.relay (standing w.device.configured t) received)
    → seen (effects_for (with_slots w t n) received) ≡ seen (effects_for w received)
seen_by w t n o received agree h =
    let same = received_alike w.rules o w.relay w.device.configured w.device.states t received agree h in
    let d = standing w.device.configured t in
    ap (λ (ds : List Denial). made (sends_for w.rules w.relay d received) ds)
    (unnumbered_of w.rules (n + 1) (w.denials + 1) w.ticks (origin received) (denied_of w.rules (asks_for w.rules w.relay d received)))
    ∙ ap (λ (xs : List Sending). made xs (map unnumbered (denials_of w.rules (w.denials + 1) w.ticks (origin received) (denied_of w.rules (asks_for w.rules w.relay d received))))) same.1
    ∙ ap (λ (xs : List Ask). made (sends_for w.rules w.relay w.device received) (map unnumbered (denials_of w.rules (w.denials + 1) w.ticks (origin received) (denied_of w.rules xs)))) same.0

seen_with : (w : State) (t : List Slots) (n : ℕ) (o : Object) (e : Event) → AgreeBut o w.device.configured w.device.states t
    → NoReadAllowedOn w.device.configured.device.network w.rules o (asks (with_slots w t n) e) → seen (effects_at (with_slots w t n) e) ≡ seen (effects_at w e)
unfolding effects_at asks receive
seen_with w t n o (Datagram port from octets) agree h = seen_by w t n o (receive w (Datagram port from octets)) agree h
seen_with w t n o Tick agree h = refl

-- the slots and the defaults once a write is made, where there is one
abbrev pub slots_after : Option Write → List Slots → List Slots
slots_after None t = t
slots_after (Some write) t = after_write write t

changed_standing : (g : Option Write) (c : Configured) (t : List Slots) → changed g (standing c t) ≡ standing c (slots_after g t)
changed_standing None c t = refl
changed_standing (Some write) c t = refl

agree_after : (o : Object) (c : Configured) (s t : List Slots) (g : Option Write) → AgreeBut o c s t → AgreeBut o c (slots_after g s) (slots_after g t)
agree_after o c s t None agree = agree
agree_after o c s t (Some write) agree = agree_written o c s t write agree

agree_made : (o : Object) (c : Configured) (s t : List Slots) (g : Option Write) → ((write : Write) → g ≡ Some write → place_of c o ≡ Some write.place)
    → AgreeBut o c s t → AgreeBut o c (slots_after g s) t
agree_made o c s t None puts agree = agree
agree_made o c s t (Some write) puts agree = agree_put o c s t write (puts write refl) agree

-- the states of two lists: all but the slots, the defaults and the number of the last denial
record Alike (o : Object) (w v : State) : Type 0 where
  states : List Slots
  number : ℕ
  is : v ≡ with_slots w states number
  agree : AgreeBut o w.device.configured w.device.states states

abbrev stands : State → Relay → Database → ℕ → ℕ → State
stands w relay device ticks denials = record w { relay = relay; device = device; ticks = ticks; denials = denials }

-- a kept event
next_by : (w : State) (t : List Slots) (o : Object) (relay : Relay) (ticks denials number : ℕ) (g h : Option Write) → g ≡ h
    → AgreeBut o w.device.configured w.device.states t
    → Alike o (stands w relay (changed g w.device) ticks denials) (stands w relay (changed h (standing w.device.configured t)) ticks number)
next_by w t o relay ticks denials number g h is agree =
    let c = w.device.configured in
    let s = w.device.states in
    record {
      states = slots_after g t;
      number = number;
      is = ap (λ (x : Option Write). stands w relay (changed x (standing c t)) ticks number) (sym is)
          ∙ ap (λ (d : Database). stands w relay d ticks number) (changed_standing g c t)
          ∙ ap (λ (d : Database). stands w relay (standing d.configured (slots_after g t)) ticks number) (sym (changed_standing g c s));
      agree = subst (λ (d : Database). AgreeBut o d.configured d.states (slots_after g t)) (sym (changed_standing g c s))
          (agree_after o c s t g agree);
    }

next_with : (w : State) (t : List Slots) (n : ℕ) (o : Object) (e : Event) → AgreeBut o w.device.configured w.device.states t
    → Alike o (next w e) (next (with_slots w t n) e)
unfolding next move_at change_at denials_at receive
next_with w t n o (Datagram port from octets) agree =
    let e = Datagram port from octets in
    next_by w t o (moved (move_at w e) w.relay) (w.ticks + 0) (w.denials + length (denials_at w e)) (n + length (denials_at (with_slots w t n) e))
    (change_at w e) (change_at (with_slots w t n) e)
    (change_alike w.rules w.relay.format w.device.configured w.device.states t (receive w e)) agree
next_with w t n o Tick agree =
    next_by w t o (moved (move_at w Tick) w.relay) (w.ticks + 1) (w.denials + 0) (n + 0) None None refl agree

-- an event that is left out
none_towards : (m : _) (d : Option Destination) (network : ℕ) → apdu_towards network (network_message m) d ≡ None
none_towards m None network = refl
none_towards m (Some d) network = either _
  where
    either : (b : Bool) → ◌≡◌ {A = Option (List ℕ)} (if b then None else None) None
    either true = refl
    either false = refl

no_learning : (rules : List Rule) (relay : Relay) (m : Message) (network : ℕ) (o : Object)
    → option_and_then object_written (apdu_for network m.npdu) ≡ Some o → manage_change rules relay m ≡ None
no_learning rules relay m network o names = by m.npdu.payload refl
  where
    by : (payload : Payload) → m.npdu.payload ≡ payload → manage_change rules relay m ≡ None
    by (apdu octets) is = rw is refl
    by (network_message n) is =
        absurd (no_some o (sym (ap (option_and_then object_written) (ap (λ (p : Payload). apdu_towards network p m.npdu.destination) is ∙ none_towards n m.npdu.destination network)) ∙ names))

puts_by : (o : Object) (rules : List Rule) (d : Database) (context : Context) (x : Option (List ℕ)) → option_and_then object_written x ≡ Some o
    → (write : Write) → apdu_change rules d context x ≡ Some write → place_of d.configured o ≡ Some write.place
puts_by o rules d context None names write e = absurd (no_some o names)
puts_by o rules d context (Some octets) names write e = changes_are_in_place rules d context octets o names write e

left_by : (w : State) (t : List Slots) (n : ℕ) (o : Object) (received : Received) (denials : ℕ) → object_of w.device received ≡ Some o
    → AgreeBut o w.device.configured w.device.states t
    → Alike o (stands w (moved (option_map Commit (relay_change_for w.rules w.relay received)) w.relay) (changed (change_for w.rules w.relay.format w.device received) w.device) (w.ticks + 0) denials)
    (with_slots w t n)
left_by w t n o dropped denials names agree = absurd (no_some o names)
left_by w t n o (managed on from frame) denials names agree = absurd (no_some o names)
left_by w t n o (unregistered m) denials names agree = absurd (no_some o names)
left_by w t n o (barred m) denials names agree = absurd (no_some o names)
left_by w t n o (message m) denials names agree =
    let c = w.device.configured in
    let s = w.device.states in
    let g = message_change w.rules w.relay.format w.device m in
    record {
      states = t;
      number = n;
      is = ap (λ (x : Option Change). stands w (moved (option_map Commit x) w.relay) (standing c t) w.ticks n)
          (sym (no_learning w.rules w.relay m c.device.network o names))
          ∙ ap (λ (d : Database). stands w (moved (option_map Commit (manage_change w.rules w.relay m)) w.relay) (standing d.configured t) w.ticks n)
          (sym (changed_standing g c s))
          ∙ ap (λ (ticks : ℕ). stands w (moved (option_map Commit (manage_change w.rules w.relay m)) w.relay) (standing (changed g w.device).configured t) ticks n)
          (sym (add-zero w.ticks));
      agree = subst (λ (d : Database). AgreeBut o d.configured d.states t) (sym (changed_standing g c s))
          (agree_made o c s t g (puts_by o w.rules w.device (context_of w.relay.format c.device.network m) (apdu_for c.device.network m.npdu) names) agree);
    }

left_with : (w : State) (t : List Slots) (n : ℕ) (o : Object) (e : Event) → IsWriteOf o w e → AgreeBut o w.device.configured w.device.states t
    → Alike o (next w e) (with_slots w t n)
unfolding next move_at change_at denials_at receive
left_with w t n o (Datagram port from octets) names agree =
    left_by w t n o (receive w (Datagram port from octets)) (w.denials + length (denials_at w (Datagram port from octets))) names agree
left_with w t n o Tick names agree = absurd (no_some o names)

-- ---- lists of events

alike_next : (o : Object) (w v : State) (e : Event) → Alike o w v → Alike o (next w e) (next v e)
alike_next o w v e a =
    subst (λ (x : State). Alike o (next w e) (next x e)) (sym a.is) (next_with w a.states a.number o e a.agree)

alike_left : (o : Object) (w v : State) (e : Event) → IsWriteOf o w e → Alike o w v → Alike o (next w e) v
alike_left o w v e names a =
    subst (λ (x : State). Alike o (next w e) x) (sym a.is) (left_with w a.states a.number o e names a.agree)

-- the device stays on its network
abbrev IsOn : ℕ → State → Type 0
IsOn network w = w.device.configured.device.network ≡ network

is_on-next : (network : ℕ) (w : State) (e : Event) → IsOn network w → IsOn network (next w e)
unfolding next
is_on-next network w e is = ap (λ (c : Configured). c.device.network) (stays (change_at w e)) ∙ is
  where
    stays : (change : Option Write) → (changed change w.device).configured ≡ w.device.configured
    stays None = refl
    stays (Some write) = refl

alike_seen : (network : ℕ) (o : Object) (w v : State) (e : Event) → IsOn network w → Alike o w v → NoReadAllowedOn network w.rules o (asks v e)
    → seen (effects_at v e) ≡ seen (effects_at w e)
alike_seen network o w v e on a h =
    ap (λ (x : State). seen (effects_at x e)) a.is
    ∙ seen_with w a.states a.number o e a.agree
    (subst (λ (n : ℕ). NoReadAllowedOn n w.rules o (asks (with_slots w a.states a.number) e)) (sym on)
    (subst (λ (x : State). NoReadAllowedOn network w.rules o (asks x e)) a.is h))

-- the event at a place of the list that leaves some out
SeenFrom : State → State → List Bool → List Event → ℕ → Type 0
SeenFrom w v marks l place = option_map seen (slice_get (run_from v (kept marks l)) place) ≡ option_map seen (slice_get (kept marks (run_from w l)) place)

-- it raises no ask to read the object of the network that is allowed
UnreadAt : ℕ → Object → List Rule → State → List Event → ℕ → Type 0
UnreadAt network o rules v m place = (e : Event) → slice_get m place ≡ Some e → NoReadAllowedOn network rules o (asks (state_from v (take place m)) e)

kept_seen : (network : ℕ) (o : Object) (w v : State) (marks : List Bool) (e : Event) (l : List Event) → IsOn network w → Alike o w v
    → ((place : ℕ) → UnreadAt network o w.rules (next v e) (kept marks l) place → SeenFrom (next w e) (next v e) marks l place)
    → (place : ℕ) → UnreadAt network o w.rules v (e ∷ kept marks l) place
    → option_map seen (slice_get (effects_at v e ∷ run_from (next v e) (kept marks l)) place)
    ≡ option_map seen (slice_get (effects_at w e ∷ kept marks (run_from (next w e) l)) place)
unfolding SeenFrom UnreadAt state_from
kept_seen network o w v marks e l on a more zero unread = ap (λ (x : Effects). Some x) (alike_seen network o w v e on a (unread e refl))
kept_seen network o w v marks e l on a more (suc place) unread = more place unread

seen_from : (network : ℕ) (o : Object) (w v : State) (marks : List Bool) (l : List Event) → IsOn network w → Alike o w v
    → LeavesOutFrom (IsWriteOf o) w marks l → (place : ℕ) → UnreadAt network o w.rules v (kept marks l) place → SeenFrom w v marks l place
unfolding SeenFrom run_from next
seen_from network o w v marks [] on a out place unread = refl
seen_from network o w v [] (e ∷ l) on a out place unread =
    kept_seen network o w v [] e l on a
    (λ p u. seen_from network o (next w e) (next v e) [] l (is_on-next network w e on) (alike_next o w v e a) (none_left (next w e) l) p u)
    place unread
  where
    none_left : (w : State) (l : List Event) → LeavesOutFrom (IsWriteOf o) w [] l
    none_left w [] = tt
    none_left w (e ∷ l) = tt
seen_from network o w v (false ∷ marks) (e ∷ l) on a out place unread =
    kept_seen network o w v marks e l on a
    (λ p u. seen_from network o (next w e) (next v e) marks l (is_on-next network w e on) (alike_next o w v e a) out p u) place unread
seen_from network o w v (true ∷ marks) (e ∷ l) on a out place unread =
    seen_from network o (next w e) v marks l (is_on-next network w e on) (alike_left o w v e out.0 a) out.1 place unread

alike_self : (o : Object) (w : State) → Alike o w w
alike_self o w = record { states = w.device.states; number = w.denials; is = refl; agree = λ i apart. refl }

pub writes_are_unread : WritesAreUnread
unfolding SeenFrom UnreadAt
writes_are_unread c k o marks l out place e there none =
    let w = state_after c k [] in
    let m = kept marks l in
    let network = c.device.network in
    let on : IsOn network w = ap (λ (x : Configured). x.device.network) (configuration_stays c k []) in
    ap (λ (given : List Effects). option_map seen (slice_get given place)) (sym (run_from-after c k [] m))
    ∙ seen_from network o w w marks l on (alike_self o w) (left_from (IsWriteOf o) c k [] marks l out) place
    (λ d at. subst (λ (x : Event). NoReadAllowedOn network c.rules o (asks (state_from w (take place m)) x)) (same_event e d (sym there ∙ at))
    (subst (λ (v : State). NoReadAllowedOn network c.rules o (asks v e)) (sym (state_from-after c k [] (take place m))) none))
    ∙ ap (λ (given : List Effects). option_map seen (slice_get (kept marks given) place)) (run_from-after c k [] l)
  where
    same_event : (e d : Event) → Some e ≡ Some d → e ≡ d
    same_event e d is = cc

-- ---- what is announced after the lists

nothing_left : (o : Object) (w : State) (l : List Event) → LeavesOutFrom (IsWriteOf o) w [] l
nothing_left o w [] = tt
nothing_left o w (e ∷ l) = tt

-- a write of the object leaves the relay, and so the two lists leave the same
relays_alike : (o : Object) (w v : State) (marks : List Bool) (l : List Event) → Alike o w v → LeavesOutFrom (IsWriteOf o) w marks l
    → (state_from v (kept marks l)).relay ≡ (state_from w l).relay
unfolding state_from
relays_alike o w v marks [] a out = ap (λ (x : State). x.relay) a.is
relays_alike o w v [] (e ∷ l) a out = relays_alike o (next w e) (next v e) [] l (alike_next o w v e a) (nothing_left o (next w e) l)
relays_alike o w v (false ∷ marks) (e ∷ l) a out = relays_alike o (next w e) (next v e) marks l (alike_next o w v e a) out
relays_alike o w v (true ∷ marks) (e ∷ l) a out = relays_alike o (next w e) v marks l (alike_left o w v e out.0 a) out.1

pub announcements_are_unread : AnnouncementsAreUnread
announcements_are_unread c k o marks l out =
    let w = state_after c k [] in
    ap announcements
    (ap (λ (x : State). x.relay) (sym (state_from-after c k [] (kept marks l)))
    ∙ relays_alike o w w marks l (alike_self o w) (left_from (IsWriteOf o) c k [] marks l out)
    ∙ ap (λ (x : State). x.relay) (state_from-after c k [] l))

-- ---- from any state on

pub writes_go_unread : WritesGoUnread
unfolding SeenFrom UnreadAt
writes_go_unread w o marks l out place e there none =
    let m = kept marks l in
    let network = w.device.configured.device.network in
    seen_from network o w w marks l refl (alike_self o w) out place
    (λ d at. subst (λ (x : Event). NoReadAllowedOn network w.rules o (asks (state_from w (take place m)) x)) (same_event e d (sym there ∙ at)) none)
  where
    same_event : (e d : Event) → Some e ≡ Some d → e ≡ d
    same_event e d is = cc

pub announcements_go_unread : AnnouncementsGoUnread
announcements_go_unread w o marks l out = ap announcements (relays_alike o w w marks l (alike_self o w) out)
