-- A datagram that is allowed no change changes the number of the last denial alone, and nothing that is seen rests on that.
use Rattle.std.proofs.Common.{◌≡◌, ◌∙◌, sym, ap, refl, subst, ℕ, ◌+◌, add-zero, Bool, true, false, List, [], ◌∷◌, ◌++◌, map, length, Option, Some, None}
use Rattle.std.specs.Option.{option_map}
use Rattle.gw_audit.specs.declared.denial.Denial.{Denial}
use Rattle.gw_device.specs.declared.context.Context.{Context}
use Rattle.gw_objects.specs.Objects.{Database}
use Rattle.gw_configuration.specs.Configuration.{Configuration}
use Rattle.gw_device.proofs.Changes.{changes_are_allowed}
use Rattle.gw_relay.specs.State.{Commit, Relay, moved}
use Rattle.gw_relay.proofs.Claims.{routes_are_kept, tables_are_kept}
use Rattle.gw_relay.specs.declared.change.Change.{Change}
use Rattle.gw_rules.specs.Allowed.{NoChangeAllowed}
use Rattle.gw_rules.specs.Ask.{Ask, IsFor}
use Rattle.gw_rules.proofs.EachAsk.{none_front, none_rest}
use Rattle.gw_rules.specs.declared.operation.Operation.TheVariants as operations
use Rattle.gw_rules.specs.declared.refusal.Refusal.{Refusal}
use Rattle.gw_rules.specs.declared.rule.Rule.{Rule}
use Rattle.gw_script.specs.Event.{Event, Datagram, Tick}
use Rattle.gw_core.specs.declared.effects.Effects.{Effects}
use Rattle.gw_core.specs.declared.event.Counts.{Counts}
use Rattle.gw_core.specs.Asks.{apdu_asks, asks, asks_for, cast_asks_for, first_asks_for as received_asks, manage_asks_for as asks_managed, message_asks, route_asks_for}
use Rattle.gw_core.specs.Denials.{denials_at, denials_from, denials_of, rule_name}
use Rattle.gw_core.specs.Effects.{apdu_change, change_at, change_for, changed, effects_at, move_at, relay_change_for}
use Rattle.gw_core.specs.History.{next, run_from, state_after}
use Rattle.gw_core_laws.specs.NoLeak.{IsQuiet, LeavesOut, QuietIsUnseen, seen, unnumbered}
use Rattle.gw_core.specs.Marked.{kept}
use Rattle.gw_core.specs.Receive.{Origin, Received, barred, dropped, managed, unregistered, message, origin, receive, source_of}
use Rattle.gw_core.specs.Reply.{apdu_for, context_of}
use Rattle.gw_core.specs.State.{State, device_network}
use Rattle.gw_core.proofs.HistoryLemmas.{run_from-after, state_next}
use Rattle.gw_core_laws.specs.Onward.{LeavesOutFrom, QuietGoesUnseen}

-- ---- the numbers of denials

unnumbered_from : (rules : List Rule) (m n tick : ℕ) (from : Origin) (refusals : List Refusal)
    → map unnumbered (denials_from rules m tick from refusals) ≡ map unnumbered (denials_from rules n tick from refusals)
unnumbered_from rules m n tick from [] = refl
unnumbered_from rules m n tick from (r ∷ refusals) =
    ap (λ (ds : List Denial). record {
      number = 0;
      tick = tick;
      port = from.port;
      source = source_of from r.ask;
      ask = r.ask;
      rule = rule_name rules r.by;
    } ∷ ds)
    (unnumbered_from rules (m + 1) (n + 1) tick from refusals)

pub unnumbered_of : (rules : List Rule) (m n tick : ℕ) (from : Option Origin) (refusals : List Refusal)
    → map unnumbered (denials_of rules m tick from refusals) ≡ map unnumbered (denials_of rules n tick from refusals)
unnumbered_of rules m n tick None refusals = refl
unnumbered_of rules m n tick (Some from) refusals = unnumbered_from rules m n tick from refusals

-- a state with another number of the last denial
abbrev pub numbered : State → ℕ → State
numbered w n = record w { denials = n }

pub seen_numbered : (w : State) (n : ℕ) (e : Event) → seen (effects_at (numbered w n) e) ≡ seen (effects_at w e)
unfolding effects_at receive
seen_numbered w n (Datagram port from octets) =
    ap (λ (ds : List Denial). record (seen (effects_at w (Datagram port from octets))) { denials = ds })
    (unnumbered_of w.rules (n + 1) (w.denials + 1) w.ticks (origin (receive w (Datagram port from octets))) _)
seen_numbered w n Tick = refl

pub next_numbered : (w : State) (n : ℕ) (e : Event)
    → next (numbered w n) e ≡ numbered (next w e) (n + length (denials_at (numbered w n) e))
unfolding next move_at change_at denials_at receive
next_numbered w n (Datagram port from octets) = refl
next_numbered w n Tick = refl

-- ---- one event

-- the asks of a part of the whole
front_quiet : (rules : List Rule) (xs ys : List Ask) → NoChangeAllowed rules (xs ++ ys) → NoChangeAllowed rules xs
front_quiet rules xs ys h operation changes_it = none_front (IsFor operation) rules xs ys (h operation changes_it)

part_quiet : (rules : List Rule) (xs ys zs : List Ask) → NoChangeAllowed rules (xs ++ ys ++ zs) → NoChangeAllowed rules ys
part_quiet rules xs ys zs h operation changes_it =
    none_rest (IsFor operation) rules xs ys (none_front (IsFor operation) rules (xs ++ ys) zs (h operation changes_it))

last_quiet : (rules : List Rule) (xs ys : List Ask) → NoChangeAllowed rules (xs ++ ys) → NoChangeAllowed rules ys
last_quiet rules xs ys h operation changes_it = none_rest (IsFor operation) rules xs ys (h operation changes_it)

quiet_apdu : (rules : List Rule) (d : Database) (context : Context) (apdu : Option (List ℕ))
    → NoChangeAllowed rules (apdu_asks rules d context apdu) → apdu_change rules d context apdu ≡ None
quiet_apdu rules d context None h = refl
quiet_apdu rules d context (Some octets) h = changes_are_allowed rules d context octets (h operations.Write refl)

quiet_relay : (rules : List Rule) (relay : Relay) (d : Database) (received : Received)
    → NoChangeAllowed rules (asks_for rules relay d received)
    → moved (option_map Commit (relay_change_for rules relay received)) relay ≡ relay
quiet_relay rules relay d dropped h = refl
quiet_relay rules relay d (unregistered m) h = refl
quiet_relay rules relay d (barred m) h = refl
quiet_relay rules relay d (managed on from frame) h =
    let asked = received_asks rules relay (managed on from frame) in
    ap (λ (change : Option Change). moved (option_map Commit change) relay)
    (tables_are_kept rules relay.format on from frame
    (front_quiet rules asked [] (front_quiet rules (asked ++ []) [] (front_quiet rules (asked ++ [] ++ []) []
    (front_quiet rules (asked ++ [] ++ [] ++ []) [] h)))))
quiet_relay rules relay d (message m) h =
    routes_are_kept rules relay m
    (part_quiet rules (received_asks rules relay (message m) ++ cast_asks_for relay (message m) ++ route_asks_for relay (message m))
    (asks_managed relay (message m)) (message_asks rules relay.format d m) h
    operations.Learn refl)

quiet_device : (rules : List Rule) (relay : Relay) (d : Database) (received : Received)
    → NoChangeAllowed rules (asks_for rules relay d received) → change_for rules relay.format d received ≡ None
quiet_device rules relay d dropped h = refl
quiet_device rules relay d (unregistered m) h = refl
quiet_device rules relay d (barred m) h = refl
quiet_device rules relay d (managed on from frame) h = refl
quiet_device rules relay d (message m) h =
    quiet_apdu rules d (context_of relay.format (device_network d) m) (apdu_for (device_network d) m.npdu)
    (last_quiet rules (received_asks rules relay (message m) ++ cast_asks_for relay (message m) ++ route_asks_for relay (message m)
    ++ asks_managed relay (message m)) (message_asks rules relay.format d m) h)

abbrev standing_so : State → Relay → Database → ℕ → ℕ → State
standing_so w relay device ticks denials = record w { relay = relay; device = device; ticks = ticks; denials = denials }

-- the next state differs in the number of the last denial alone
quiet_next : (w : State) (e : Event) → IsQuiet w e → next w e ≡ numbered w (w.denials + length (denials_at w e))
unfolding next move_at change_at asks
quiet_next w (Datagram port from octets) h =
    let e = Datagram port from octets in
    let n = w.denials + length (denials_at w e) in
    ap (λ (r : Relay). standing_so w r (changed (change_at w e) w.device) (w.ticks + 0) n) (quiet_relay w.rules w.relay w.device (receive w e) h)
    ∙ ap (λ (g : Option _). standing_so w w.relay (changed g w.device) (w.ticks + 0) n) (quiet_device w.rules w.relay w.device (receive w e) h)
    ∙ ap (λ (t : ℕ). standing_so w w.relay w.device t n) (add-zero w.ticks)
quiet_next w Tick h = absurd h

-- ---- a list of events

pub left_from : (Such : State → Event → Type 0) (c : Configuration) (k : Counts) (h : List Event) (marks : List Bool) (l : List Event)
    → LeavesOut Such c k h marks l → LeavesOutFrom Such (state_after c k h) marks l
left_from Such c k h marks [] out = tt
left_from Such c k h [] (e ∷ l) out = tt
left_from Such c k h (true ∷ marks) (e ∷ l) out =
    (out.0, subst (λ (w : State). LeavesOutFrom Such w marks l) (state_next c k h e) (left_from Such c k (e ∷ h) marks l out.1))
left_from Such c k h (false ∷ marks) (e ∷ l) out =
    subst (λ (w : State). LeavesOutFrom Such w marks l) (state_next c k h e) (left_from Such c k (e ∷ h) marks l out)

none_left : (w : State) (l : List Event) → LeavesOutFrom IsQuiet w [] l
none_left w [] = tt
none_left w (e ∷ l) = tt

-- an event that is kept
one_quiet : (w : State) (n : ℕ) (marks : List Bool) (e : Event) (l : List Event)
    → ((m : ℕ) → map seen (run_from (numbered (next w e) m) (kept marks l)) ≡ map seen (kept marks (run_from (next w e) l)))
    → map seen (effects_at (numbered w n) e ∷ run_from (next (numbered w n) e) (kept marks l))
    ≡ map seen (effects_at w e ∷ kept marks (run_from (next w e) l))
one_quiet w n marks e l more =
    ap (λ (x : Effects). x ∷ map seen (run_from (next (numbered w n) e) (kept marks l))) (seen_numbered w n e)
    ∙ ap (λ (v : State). seen (effects_at w e) ∷ map seen (run_from v (kept marks l))) (next_numbered w n e)
    ∙ ap (λ (xs : List Effects). seen (effects_at w e) ∷ xs) (more (n + length (denials_at (numbered w n) e)))

quiet_from : (w : State) (n : ℕ) (marks : List Bool) (l : List Event) → LeavesOutFrom IsQuiet w marks l
    → map seen (run_from (numbered w n) (kept marks l)) ≡ map seen (kept marks (run_from w l))
unfolding run_from
quiet_from w n marks [] out = refl
quiet_from w n [] (e ∷ l) out =
    one_quiet w n [] e l (λ m. quiet_from (next w e) m [] l (none_left (next w e) l))
quiet_from w n (false ∷ marks) (e ∷ l) out =
    one_quiet w n marks e l (λ m. quiet_from (next w e) m marks l out)
quiet_from w n (true ∷ marks) (e ∷ l) out =
    ap (λ (v : State). map seen (run_from (numbered v n) (kept marks l))) (sym (quiet_next w e out.0))
    ∙ quiet_from (next w e) n marks l out.1

pub quiet_is_unseen : QuietIsUnseen
quiet_is_unseen c k marks l out =
    let w = state_after c k [] in
    ap (map seen) (sym (run_from-after c k [] (kept marks l)))
    ∙ quiet_from w w.denials marks l (left_from IsQuiet c k [] marks l out)
    ∙ ap (λ (given : List Effects). map seen (kept marks given)) (run_from-after c k [] l)

pub quiet_goes_unseen : QuietGoesUnseen
quiet_goes_unseen w marks l out = quiet_from w w.denials marks l out
