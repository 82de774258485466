-- What the folds of a history count.
use Rattle.std.proofs.Common.{◌≡◌, ℕ, zero, suc, ◌+◌, cond, List, [], ◌∷◌, ◌++◌, length, map, Option, Some, None, refl, sym, ap, subst, ◌∙◌, add-zero, zero-add, arith, length-append}
use Rattle.std.proofs.lemmas.List.{map-append}
use Rattle.std.specs.Prelude.{count_by, filter, not, replicate}
use Rattle.std.specs.List.{fold}
use Rattle.gw_rules.specs.Ask.{Ask}
use Rattle.gw_rules.specs.Authorizer.{denied_of, refusal}
use Rattle.gw_rules.specs.RuleList.{is_logged}
use Rattle.gw_rules.specs.declared.refusal.Refusal.{Refusal}
use Rattle.gw_rules.specs.declared.rule.Rule.{Rule}
use Rattle.gw_script.specs.Event.{Event, Datagram, Tick}
use Rattle.gw_audit.specs.declared.denial.Denial.{Denial}
use Rattle.gw_relay.specs.internal.Ticks.{AreAlike}
use Rattle.gw_core.specs.declared.event.Counts.{Counts}
use Rattle.gw_core.specs.Asks.{asks, asks_for}
use Rattle.gw_configuration.specs.Configuration.{Configuration}
use Rattle.gw_core.specs.Denials.{denials_from, denials_of, denials_at, denials_for}
use Rattle.gw_core.specs.Effects.{effects_at}
use Rattle.gw_core.specs.History.{acts_of, state_after, run_after, history_after, log}
use Rattle.gw_core_laws.specs.Laws.{is_tick, numbers_from, entry, RelayTicksAreCounted, TicksAreCounted, DenialsAreCounted, LogIsNumbered, TicksOnlyCount, NothingAskedIsLogged, DeniedAsksAreLogged, DenialsHaveTheirTick, DeniedReadsAreRefused, DeniedWritesAreRefused}
use Rattle.gw_core.specs.Receive.{Origin, Received, barred, dropped, managed, unregistered, message, message_origin, node_origin, origin, receive}
use Rattle.gw_core.specs.State.{State}
use Rattle.gw_core.proofs.DenialLemmas.{no_denials}
use Rattle.gw_core.proofs.EffectLemmas.{effects_at-tick}
use Rattle.gw_core.proofs.HistoryLemmas.{ports_alike, moves_ticks, relay_ticks}
use Rattle.std.specs.Option.{option_map}
use Rattle.gw_core.specs.Effects.{move_at, relay_change_for}
use Rattle.gw_core.specs.History.{next, run_from, state_from}
use Rattle.gw_core_laws.specs.Onward.{DenialsGoOn, LogGoesOn, TicksGoOn}
use Rattle.gw_relay.specs.State.{Commit, Relay, moved}
use Rattle.gw_relay.specs.declared.change.Change.{Change}

-- a count goes on from what was counted before
count_on : (n : ℕ) (h : List Event) → fold (λ a e. a + cond (is_tick e) 1 0) n h ≡ n + count_by is_tick h
count_on n [] = sym (add-zero n)
count_on n (e ∷ h) = omega (arith, count_on (n + cond (is_tick e) 1 0) h, count_on (0 + cond (is_tick e) 1 0) h)

-- how many ticks a history has, by its acts
ticks_of_acts : (c : Configuration) (k : Counts) (h : List Event) → (acts_of c k h).ticks ≡ count_by is_tick h
unfolding acts_of
ticks_of_acts c k [] = refl
ticks_of_acts c k (Datagram port from octets ∷ h) = omega (arith, ticks_of_acts c k h)
ticks_of_acts c k (Tick ∷ h) = omega (arith, ticks_of_acts c k h, count_on 1 h)

pub relay_ticks_are_counted : RelayTicksAreCounted
relay_ticks_are_counted c k h =
    let counted : (state_after c k h).relay.ticks ≡ count_by is_tick h = relay_ticks c k h ∙ ticks_of_acts c k h in
    (counted, subst (λ (n : ℕ). AreAlike n (state_after c k h).relay.ports) counted (ports_alike c k h))

pub ticks_are_counted : TicksAreCounted
ticks_are_counted c k h = ap (λ (t : ℕ). k.ticks + t) (ticks_of_acts c k h)

-- the log grows by the denials of an event
log_more : (c : Configuration) (k : Counts) (h l : List Event) (e : Event)
    → log (run_after c k h (e ∷ l)) ≡ denials_at (state_after c k h) e ++ log (run_after c k (e ∷ h) l)
unfolding run_after effects_at denials_at
log_more c k h l e = refl

denials_after : (c : Configuration) (k : Counts) (h l : List Event)
    → (state_after c k (history_after h l)).denials ≡ (state_after c k h).denials + length (log (run_after c k h l))
unfolding acts_of run_after history_after effects_at denials_at
denials_after c k h [] = sym (add-zero (state_after c k h).denials)
denials_after c k h (e ∷ l) =
    let given = denials_at (state_after c k h) e in
    let rest = log (run_after c k (e ∷ h) l) in
    omega (arith, denials_after c k (e ∷ h) l, length-append given rest)

pub denials_are_counted : DenialsAreCounted
unfolding acts_of
denials_are_counted c k l = denials_after c k [] l ∙ ap (λ (d : ℕ). d + length (log (run_after c k [] l))) (add-zero k.denials)

numbers_from-more : (first m n : ℕ) → numbers_from first (m + n) ≡ numbers_from first m ++ numbers_from (first + m) n
numbers_from-more first zero n = rw (zero-add, add-zero) refl
numbers_from-more first (suc m) n =
    let whole : suc m + n ≡ suc (m + n) = omega arith in
    let later : first + 1 + m ≡ first + suc m = omega arith in
    ap (numbers_from first) whole ∙ ap (λ (ns : List ℕ). first ∷ ns)
    (numbers_from-more (first + 1) m n ∙ ap (λ (f : ℕ). numbers_from (first + 1) m ++ numbers_from f n) later)

-- denials are numbered from the number that they are given
numbered_from : (rules : List Rule) (number tick : ℕ) (from : Origin) (refusals : List Refusal)
    → map (λ d. d.number) (denials_from rules number tick from refusals) ≡ numbers_from number
    (length (denials_from rules number tick from refusals))
numbered_from rules number tick from [] = refl
numbered_from rules number tick from (r ∷ others) = ap (λ (ns : List ℕ). number ∷ ns) (numbered_from rules (number + 1) tick from others)

numbered_of : (rules : List Rule) (number tick : ℕ) (from : Option Origin) (refusals : List Refusal)
    → map (λ d. d.number) (denials_of rules number tick from refusals) ≡ numbers_from number
    (length (denials_of rules number tick from refusals))
numbered_of rules number tick None refusals = refl
numbered_of rules number tick (Some from) refusals = numbered_from rules number tick from refusals

numbered_at : (w : State) (e : Event) → map (λ d. d.number) (denials_at w e) ≡ numbers_from (w.denials + 1) (length (denials_at w e))
unfolding denials_at
numbered_at w e = numbered_of w.rules (w.denials + 1) w.ticks (origin (receive w e))
    (denied_of w.rules (asks_for w.rules w.relay w.device (receive w e)))

log_after : (c : Configuration) (k : Counts) (h l : List Event)
    → map (λ d. d.number) (log (run_after c k h l)) ≡ numbers_from ((state_after c k h).denials + 1) (length (log (run_after c k h l)))
unfolding run_after acts_of effects_at denials_at
log_after c k h [] = refl
log_after c k h (e ∷ l) =
    let given = denials_at (state_after c k h) e in
    let rest = log (run_after c k (e ∷ h) l) in
    let number : Denial → ℕ = λ d. d.number in
    let first = (state_after c k h).denials + 1 in
    let later : (state_after c k (e ∷ h)).denials + 1 ≡ first + length given = omega arith in
    map-append number given rest
    ∙ ap (λ (ns : List ℕ). ns ++ map number rest) (numbered_at (state_after c k h) e)
    ∙ ap (λ (ns : List ℕ). numbers_from first (length given) ++ ns)
    (log_after c k (e ∷ h) l ∙ ap (λ (f : ℕ). numbers_from f (length rest)) later)
    ∙ sym (numbers_from-more first (length given) (length rest))
    ∙ ap (numbers_from first) (sym (length-append given rest))

pub log_is_numbered : LogIsNumbered
unfolding acts_of
log_is_numbered c k l = log_after c k [] l ∙ ap (λ (d : ℕ). numbers_from (d + 1) (length (log (run_after c k [] l)))) (add-zero k.denials)

-- ---- one event

pub ticks_only_count : TicksOnlyCount
ticks_only_count w = (effects_at-tick w, sym (moves_ticks w))

pub nothing_asked_is_logged : NothingAskedIsLogged
unfolding effects_at denials_at
nothing_asked_is_logged w e none = no_denials w e none

-- the entries of refusals are those of their asks
entries_from : (rules : List Rule) (number tick : ℕ) (from : Origin) (asked : List Ask)
    → map (λ d. (d.ask, d.rule)) (denials_from rules number tick from (map (refusal rules) asked)) ≡ map (entry rules) asked
entries_from rules number tick from [] = refl
entries_from rules number tick from (ask ∷ others) = ap (λ (l : List (Ask × List ℕ)). entry rules ask ∷ l)
    (entries_from rules (number + 1) tick from others)

-- what is dropped, and an unregistered sender's, asks nothing
entries_of : (w : State) (received : Received)
    → map (λ d. (d.ask, d.rule)) (denials_for w received) ≡ map (entry w.rules)
    (filter (is_logged w.rules) (asks_for w.rules w.relay w.device received))
entries_of w dropped = refl
entries_of w (managed on from frame) =
    entries_from w.rules (w.denials + 1) w.ticks (node_origin on from)
    (filter (is_logged w.rules) (asks_for w.rules w.relay w.device (managed on from frame)))
entries_of w (unregistered m) = refl
entries_of w (barred m) =
    entries_from w.rules (w.denials + 1) w.ticks (message_origin m)
    (filter (is_logged w.rules) (asks_for w.rules w.relay w.device (barred m)))
entries_of w (message m) =
    entries_from w.rules (w.denials + 1) w.ticks (message_origin m)
    (filter (is_logged w.rules) (asks_for w.rules w.relay w.device (message m)))

pub denied_asks_are_logged : DeniedAsksAreLogged
unfolding effects_at asks
denied_asks_are_logged w e = entries_of w (receive w e)

ticks_from : (rules : List Rule) (number tick : ℕ) (from : Origin) (refusals : List Refusal)
    → map (λ d. d.tick) (denials_from rules number tick from refusals) ≡ replicate
    (length (denials_from rules number tick from refusals)) tick
ticks_from rules number tick from [] = refl
ticks_from rules number tick from (r ∷ others) = ap (λ (ns : List ℕ). tick ∷ ns) (ticks_from rules (number + 1) tick from others)

ticks_of_denials : (rules : List Rule) (number tick : ℕ) (from : Option Origin) (refusals : List Refusal)
    → map (λ d. d.tick) (denials_of rules number tick from refusals) ≡ replicate (length (denials_of rules number tick from refusals)) tick
ticks_of_denials rules number tick None refusals = refl
ticks_of_denials rules number tick (Some from) refusals = ticks_from rules number tick from refusals

pub denials_have_their_tick : DenialsHaveTheirTick
unfolding effects_at
denials_have_their_tick w e = ticks_of_denials w.rules (w.denials + 1) w.ticks (origin (receive w e))
    (denied_of w.rules (asks_for w.rules w.relay w.device (receive w e)))

pub denied_reads_are_refused : DeniedReadsAreRefused
denied_reads_are_refused rules d context request read denied = rw denied refl

pub denied_writes_are_refused : DeniedWritesAreRefused
denied_writes_are_refused rules d context invoke write denied = rw denied (refl, refl)

-- ---- from any state on

changed_ticks : (change : Option Change) (relay : Relay) → (moved (option_map Commit change) relay).ticks ≡ relay.ticks
changed_ticks None relay = refl
changed_ticks (Some change) relay = refl

own_ticks : (w : State) (l : List Event) → (state_from w l).ticks ≡ w.ticks + count_by is_tick l
unfolding state_from next
own_ticks w [] = sym (add-zero w.ticks)
own_ticks w (Datagram port from octets ∷ l) = omega (arith, own_ticks (next w (Datagram port from octets)) l)
own_ticks w (Tick ∷ l) = omega (arith, own_ticks (next w Tick) l, count_on 1 l)

seen_ticks : (w : State) (l : List Event) → (state_from w l).relay.ticks ≡ w.relay.ticks + count_by is_tick l
unfolding state_from next move_at
seen_ticks w [] = sym (add-zero w.relay.ticks)
seen_ticks w (Datagram port from octets ∷ l) =
    let e = Datagram port from octets in
    let here : (next w e).relay.ticks ≡ w.relay.ticks = changed_ticks (relay_change_for w.rules w.relay (receive w e)) w.relay in
    omega (arith, seen_ticks (next w e) l, here)
seen_ticks w (Tick ∷ l) = omega (arith, seen_ticks (next w Tick) l, count_on 1 l)

pub ticks_go_on : TicksGoOn
ticks_go_on w l = (own_ticks w l, seen_ticks w l)

pub denials_go_on : DenialsGoOn
unfolding state_from run_from next effects_at denials_at
denials_go_on w [] = sym (add-zero w.denials)
denials_go_on w (e ∷ l) =
    let given = denials_at w e in
    let rest = log (run_from (next w e) l) in
    omega (arith, denials_go_on (next w e) l, length-append given rest)

pub log_goes_on : LogGoesOn
unfolding run_from next effects_at denials_at
log_goes_on w [] = refl
log_goes_on w (e ∷ l) =
    let given = denials_at w e in
    let rest = log (run_from (next w e) l) in
    let number : Denial → ℕ = λ d. d.number in
    let first = w.denials + 1 in
    let later : (next w e).denials + 1 ≡ first + length given = omega arith in
    map-append number given rest
    ∙ ap (λ (ns : List ℕ). ns ++ map number rest) (numbered_at w e)
    ∙ ap (λ (ns : List ℕ). numbers_from first (length given) ++ ns)
    (log_goes_on (next w e) l ∙ ap (λ (f : ℕ). numbers_from f (length rest)) later)
    ∙ sym (numbers_from-more first (length given) (length rest))
    ∙ ap (numbers_from first) (sym (length-append given rest))
