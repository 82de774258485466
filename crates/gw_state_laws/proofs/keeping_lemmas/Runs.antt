-- What is kept stays current over a run, link by link.
use Rattle.std.proofs.Common.{◌≡◌, ◌∙◌, refl, sym, ap, subst, ℕ, Bool, true, false, List, [], ◌∷◌, ◌++◌, Option, Some, None}
use Rattle.std.specs.Prelude.{Result, Ok, Err}
use Rattle.std.proofs.lemmas.List.Concat.{flat_map-cons}
use Rattle.gw_configuration.specs.Configuration.{Configuration}
use Rattle.gw_state.specs.Saved.{Origin, Saved, origin_of}
use Rattle.gw_script.specs.Event.{Event}
use Rattle.gw_script.specs.Event as event
use Rattle.gw_core.specs.History.{next, state_from}
use Rattle.gw_core.specs.Lasting.{lasts}
use Rattle.gw_core.specs.Resumed.{saved_of}
use Rattle.gw_core.specs.State.{State}
use Rattle.gw_turns.specs.Keeping.{HasAhead, IsHeld, IsRecent, IsTried, IsUpToDate, IsYoung, KeepsChanged, Keeping, KeptBy, TicksBy, Tries, due_of, is_due, is_kept, nothing_kept}
use Rattle.gw_turns.specs.Serve.{Turn, empty_turn, events_of, failed_turn, lost_event, taken_event, turn_events}
use Rattle.gw_turns.specs.Stretch.{AreGuarded, GoOn, GuardsTurn, IsFaulty, Moment, asked_until}
use Rattle.gw_turns.specs.declared.alike.SavedPart.TheVariants.{AllButTicks}
use Rattle.gw_turns.specs.declared.serving.ServeFault.{ServeFault}
use Rattle.gw_turns.specs.declared.serving.ServeFault.TheVariants as serving
use Rattle.gw_wire.specs.declared.store.StoreFault.{StoreFault}
use Rattle.gw_turns.proofs.KeepingLemmas.{just_recent, recent_has_ahead, recent_is_young, ticks_keep_recent}
use Rattle.gw_turns.proofs.ServeLemmas.{state_along}
use Rattle.gw_service.specs.Chain.{AreLinks, Begins, IsLink, IsLooked, IsTicked, Link, Look, Manner, Runs, Stage, Standing}
use Rattle.gw_service.specs.Chain.{ended, inquired, passed_over, refused, served, stopping, taken_over, ticked, unrequested, withheld}
use Rattle.gw_service.specs.declared.running.RunEnd.{RunEnd}
use Rattle.gw_service.specs.declared.running.RunEnd.TheVariants as end
use Rattle.gw_service.specs.Keeping.{IsKeptAtTick, IsKeptFor, IsKeptLast, IsPassed, failing_in}
use Rattle.gw_service.specs.Kept.{Given, KeepsFirst, reporting_of, watched_manner_of}
use Rattle.gw_service.specs.Stats.{Reporting}
use Rattle.gw_service.specs.declared.keeping.Kept.{Kept}
use Rattle.gw_service.specs.declared.keeping.Kept.TheVariants.{Nowhere, In}
use Rattle.gw_state_laws.specs.keeping.Laws.{FirstIsCurrent, IsCurrent, IsCurrentIn, IsRecentIn, KeepsAt, KeepsAtEnd, KeepsCurrent, KeptIsAhead, KeptIsUpToDate, KeptIsYoung, RunsEndCurrent, RunsKeepCurrent, RunsKeepLast, RunsKeepRecent, second_part}
use Rattle.gw_state_laws.proofs.keeping_lemmas.Currency.{current_is_up_to_date, event_current, passed_has, ticks_keep_current, tried_is_current, tried_last_is_current}

-- ---- a keeper of the configuration in force

nowhere_keeps : {S : Type 0} (k : Keeping S) → Nowhere ≡ In k → ⊥
nowhere_keeps k same = absurd cc

same_keeper : {S : Type 0} (k l : Keeping S) → In k ≡ In l → k ≡ l
same_keeper k l same = cc

-- what is kept in a store is current if its keeper is
keeps : {S : Type 0} (held : S → Option (List ℕ)) (k : Keeping S) (c : Configuration) (w : State) → k.origin ≡ origin_of c
    → IsCurrent held k w → KeepsCurrent held (In k) c w
keeps held k c w origin current = record { keeper = k; is = refl; origin = origin; current = current }

keeps_origin : {S : Type 0} (held : S → Option (List ℕ)) (k : Keeping S) (c : Configuration) (w : State) → KeepsCurrent held (In k) c w
    → k.origin ≡ origin_of c
keeps_origin held k c w now = ap (λ (j : Keeping _). j.origin) (same_keeper k now.keeper now.is) ∙ now.origin

keeps_current : {S : Type 0} (held : S → Option (List ℕ)) (k : Keeping S) (c : Configuration) (w : State) → KeepsCurrent held (In k) c w
    → IsCurrent held k w
keeps_current held k c w now = subst (λ (j : Keeping _). IsCurrent held j w) (sym (same_keeper k now.keeper now.is)) now.current

-- ---- one event

passed_keeps : {S : Type 0} (held : S → Option (List ℕ)) (k l : Kept S) (c : Configuration) (w : State) (event : Event) (passes : Bool)
    → IsPassed held k w event l passes → KeepsCurrent held k c w → KeepsCurrent held l c (next w event)
passed_keeps held Nowhere l c w event passes p now = absurd (nowhere_keeps now.keeper now.is)
passed_keeps held (In k) Nowhere c w event passes p now = absurd p
passed_keeps held (In k) (In l) c w event passes p now =
    let current = keeps_current held k c w now in
    let has = passed_has held k l w event (lasts w event) passes refl p current.text current.lasts in
    keeps held l c (next w event) (has.1 ∙ keeps_origin held k c w now) (event_current held k l w event passes p current)

-- ---- a tick

kept_origin : {S : Type 0} (held : S → Option (List ℕ)) (k l : Keeping S) (due : Saved) (is : Bool) → KeptBy is held k due l
    → l.origin ≡ k.origin
kept_origin held k l due true same = ap (λ (j : Keeping _). j.origin) same
kept_origin held k l due false kept = kept.origin

changed_origin : {S : Type 0} (held : S → Option (List ℕ)) (k l : Keeping S) (due : Saved) (kept : Bool)
    → KeepsChanged AllButTicks held k due l kept → l.origin ≡ k.origin
changed_origin held k l due true p = kept_origin held k l due (is_kept AllButTicks k.kept due) p
changed_origin held k l due false p = p.unkept.origin

ticked_origin : {S : Type 0} (held : S → Option (List ℕ)) (k l : Keeping S) (due : Saved) (is : Bool) → TicksBy is held k due l
    → l.origin ≡ k.origin
ticked_origin held k l due true p = changed_origin held k l due p.0 p.1
ticked_origin held k l due false same = ap (λ (j : Keeping _). j.origin) same

ticked_keeps : {S : Type 0} (held : S → Option (List ℕ)) (k l : Kept S) (c : Configuration) (w : State) → IsKeptAtTick held k w l
    → KeepsCurrent held k c w → KeepsCurrent held l c w
ticked_keeps held Nowhere l c w p now = absurd (nowhere_keeps now.keeper now.is)
ticked_keeps held (In k) Nowhere c w p now = absurd p
ticked_keeps held (In k) (In l) c w p now =
    keeps held l c w (ap (λ (j : Keeping _). j.origin) p.2
    ∙ ticked_origin held k p.0 (due_of k w) (is_due k.kept k.pace w) p.1 ∙ keeps_origin held k c w now)
    (ticks_keep_current held k l w p (keeps_current held k c w now))

-- ---- another configuration

tried_origin : {S : Type 0} (held : S → Option (List ℕ)) (k l : Keeping S) (due : Saved) (kept : Bool) → Tries held k due l kept
    → l.origin ≡ k.origin
tried_origin held k l due true p = p.origin
tried_origin held k l due false p = p.unkept.origin

tried_keeps : {S : Type 0} (held : S → Option (List ℕ)) (k l : Keeping S) (c : Configuration) (w : State) → k.origin ≡ origin_of c
    → IsTried held k w l → KeepsCurrent held (In l) c w
tried_keeps held k l c w origin p =
    keeps held l c w (tried_origin held k l (due_of k w) p.0 p.1 ∙ origin) (tried_is_current held k l w p)

adopted_keeps : {S : Type 0} (held : S → Option (List ℕ)) (k l : Kept S) (c d : Configuration) (v w : State) → IsKeptFor held k d w l
    → KeepsCurrent held k c v → KeepsCurrent held l d w
adopted_keeps held Nowhere l c d v w p now = absurd (nowhere_keeps now.keeper now.is)
adopted_keeps held (In k) Nowhere c d v w p now = absurd p
adopted_keeps held (In k) (In l) c d v w p now = tried_keeps held (record k { origin = origin_of d }) l d w refl p

-- ---- the part that keeps the state

-- what is done with a guard is done with the part of it that keeps the state
record IsPart {S K : Type 0} (held : S → Option (List ℕ)) (part : K → Kept S) (manner : Manner K) : Type 0 where
  passes : (k l : K) (w : State) (event : Event) (passes : Bool) → manner.Passes k w event l passes
      → (goes : Bool) × IsPassed held (part k) w event (part l) goes
  ticks : (k l : K) (w : State) → manner.Ticks k w l → IsKeptAtTick held (part k) w (part l)
  adopts : (k l : K) (c : Configuration) (w : State) → manner.Adopts k c w l → IsKeptFor held (part k) c w (part l)

second : {S L : Type 0} (held : S → Option (List ℕ)) (log_held : L → Option (List ℕ)) (how : Reporting)
    → IsPart held second_part (watched_manner_of held log_held how)
second held log_held how = record {
  passes = λ k l w event passes p. (p.1, p.3);
  ticks = λ k l w p. p.0;
  adopts = λ k l c w p. p.0;
}

-- ---- turn by turn

turn_keeps : {S K : Type 0} (held : S → Option (List ℕ)) (part : K → Kept S) (manner : Manner K) → IsPart held part manner → (k l : K)
    (c : Configuration) (w : State) (turn : Turn) → GuardsTurn manner.Passes k w turn l → KeepsCurrent held (part k) c w
    → KeepsCurrent held (part l) c (state_from w (turn_events turn))
unfolding state_from
turn_keeps held part manner is k l c w empty_turn p now = subst (λ j. KeepsCurrent held (part j) c w) (sym p) now
turn_keeps held part manner is k l c w failed_turn p now = subst (λ j. KeepsCurrent held (part j) c w) (sym p) now
turn_keeps held part manner is k l c w (lost_event event) p now = subst (λ j. KeepsCurrent held (part j) c w) (sym p) now
turn_keeps held part manner is k l c w (taken_event event tries) p now =
    let passed = is.passes k l w event true p in
    passed_keeps held (part k) (part l) c w event passed.0 passed.1 now

turns_keep : {S K : Type 0} (held : S → Option (List ℕ)) (part : K → Kept S) (manner : Manner K) → IsPart held part manner → (k l : K)
    (c : Configuration) (w : State) (turns : List Turn) → AreGuarded manner.Passes k w turns l → KeepsCurrent held (part k) c w
    → KeepsCurrent held (part l) c (state_from w (events_of turns))
unfolding AreGuarded state_from
turns_keep held part manner is k l c w [] p now = subst (λ j. KeepsCurrent held (part j) c w) (sym p) now
turns_keep held part manner is k l c w (turn ∷ turns) p now =
    let moved = state_from w (turn_events turn) in
    let same : state_from w (events_of (turn ∷ turns)) ≡ state_from moved (events_of turns) =
    ap (state_from w) (flat_map-cons turn_events turn turns) ∙ state_along w (turn_events turn) (events_of turns) in
    subst (λ (v : State). KeepsCurrent held (part l) c v) (sym same)
    (turns_keep held part manner is p.0 l c moved turns p.2 (turn_keeps held part manner is k p.0 c w turn p.1 now))

went_keeps : {S K : Type 0} (held : S → Option (List ℕ)) (part : K → Kept S) (manner : Manner K) → IsPart held part manner
    → (c : Configuration) (a b : Moment K) (turns : List Turn) → GoOn manner.Passes a turns b
    → KeepsCurrent held (part a.guard) c a.scene.gateway → KeepsCurrent held (part b.guard) c b.scene.gateway
went_keeps held part manner is c a b turns p now =
    subst (λ (v : State). KeepsCurrent held (part b.guard) c v) (sym p.went.gateway)
    (turns_keep held part manner is a.guard b.guard c a.scene.gateway turns p.guarded now)

-- ---- a look for a request

-- all stays as it is
stays_so : {S K : Type 0} (held : S → Option (List ℕ)) (part : K → Kept S) (c d : Configuration) (k l : K) (v w : State) → d ≡ c → l ≡ k
    → w ≡ v → KeepsCurrent held (part k) c v → KeepsCurrent held (part l) d w
stays_so held part c d k l v w config keeper gateway now =
    subst (λ (e : Configuration). KeepsCurrent held (part l) e w) (sym config)
    (subst (λ j. KeepsCurrent held (part j) c w) (sym keeper) (subst (λ (u : State). KeepsCurrent held (part k) c u) (sym gateway) now))

looked_keeps : {S K : Type 0} (held : S → Option (List ℕ)) (part : K → Kept S) (manner : Manner K) → IsPart held part manner
    → (c d : Configuration) (s t : Standing K) (look : Look) → IsLooked manner.Adopts c s look d t
    → KeepsCurrent held (part s.keeper) c s.gateway → KeepsCurrent held (part t.keeper) d t.gateway
looked_keeps held part manner is c d s t unrequested p now =
    stays_so held part c d s.keeper t.keeper s.gateway t.gateway p.stays.config p.stays.keeper p.stays.gateway now
looked_keeps held part manner is c d s t passed_over p now =
    stays_so held part c d s.keeper t.keeper s.gateway t.gateway p.stays.config p.stays.keeper p.stays.gateway now
looked_keeps held part manner is c d s t stopping p now =
    stays_so held part c d s.keeper t.keeper s.gateway t.gateway p.stays.config p.stays.keeper p.stays.gateway now
looked_keeps held part manner is c d s t (inquired answer) p now =
    stays_so held part c d s.keeper t.keeper s.gateway t.gateway p.stays.config p.stays.keeper p.stays.gateway now
looked_keeps held part manner is c d s t (refused read fault line) p now =
    stays_so held part c d s.keeper t.keeper s.gateway t.gateway p.stays.config p.stays.keeper p.stays.gateway now
looked_keeps held part manner is c d s t (taken_over text new) p now =
    subst (λ (e : Configuration). KeepsCurrent held (part t.keeper) e t.gateway) (sym p.config)
    (adopted_keeps held (part s.keeper) (part t.keeper) c new s.gateway t.gateway (is.adopts s.keeper t.keeper new t.gateway p.keeper) now)

-- ---- link by link

tick_keeps : {S K : Type 0} (held : S → Option (List ℕ)) (part : K → Kept S) (manner : Manner K) → IsPart held part manner → (stops : Bool)
    (s t : Stage K) (turns : List Turn) (look : Look) (text : List ℕ) → IsTicked manner stops s turns look text t → KeepsAt held part s
    → KeepsAt held part t
tick_keeps held part manner is stops s t turns look text p now =
    let then = p.then in
    let went = went_keeps held part manner is s.config s.now then turns p.went now in
    let ticked = is.ticks then.guard p.done.keeper then.scene.gateway p.done.ticks in
    looked_keeps held part manner is s.config t.config _ _ look p.done.looked
    (ticked_keeps held (part then.guard) (part p.done.keeper) s.config then.scene.gateway ticked went)

link_keeps : {S K : Type 0} (held : S → Option (List ℕ)) (part : K → Kept S) (manner : Manner K) → IsPart held part manner → (s t : Stage K)
    (link : Link) → IsLink manner s link t → KeepsAt held part s → KeepsAt held part t
link_keeps held part manner is s t (served turns) p now =
    subst (λ (c : Configuration). KeepsCurrent held (part t.now.guard) c t.now.scene.gateway) (sym p.config)
    (went_keeps held part manner is s.config s.now t.now turns p.went now)
link_keeps held part manner is s t (ticked turns look text) p now = tick_keeps held part manner is false s t turns look text p now
link_keeps held part manner is s t (ended turns text) p now = absurd p
link_keeps held part manner is s t (withheld turns event text) p now =
    let then = p.then in
    let went = went_keeps held part manner is s.config s.now then turns p.went now in
    let passed = is.passes then.guard t.now.guard then.scene.gateway event false p.last.passes in
    let keeps = passed_keeps held (part then.guard) (part t.now.guard) s.config then.scene.gateway event passed.0 passed.1 went in
    stays_so held part s.config t.config t.now.guard t.now.guard (next then.scene.gateway event) t.now.scene.gateway p.config refl
    p.last.logged.taken.gateway keeps

links_keep : {S K : Type 0} (held : S → Option (List ℕ)) (part : K → Kept S) (manner : Manner K) → IsPart held part manner → (s t : Stage K)
    (links : List Link) → AreLinks manner s links t → KeepsAt held part s → KeepsAt held part t
unfolding AreLinks
links_keep held part manner is s t [] p now = subst (λ (u : Stage _). KeepsAt held part u) (sym p) now
links_keep held part manner is s t (link ∷ links) p now =
    links_keep held part manner is p.0 t links p.2 (link_keeps held part manner is s p.0 link p.1 now)

pub runs_keep_current : {S L : Type 0} (held : S → Option (List ℕ)) (log_held : L → Option (List ℕ))
    → RunsKeepCurrent held log_held
runs_keep_current held log_held how s t links p now =
    links_keep held second_part (watched_manner_of held log_held how) (second held log_held how) s t links p now

-- ---- at the end

-- the last event of a fault
fault_keeps : {S K : Type 0} (held : S → Option (List ℕ)) (part : K → Kept S) (manner : Manner K) → IsPart held part manner
    → (c : Configuration) (fault : ServeFault) (unwritten : List ℕ) (a b : Moment K) (event : Event)
    → IsFaulty manner.Passes fault unwritten a event b → KeepsCurrent held (part a.guard) c a.scene.gateway
    → KeepsCurrent held (part b.guard) c (asked_until fault a.scene.gateway b.scene.gateway)
fault_keeps held part manner is c serving.Log unwritten a b event p now =
    let passed = is.passes a.guard b.guard a.scene.gateway event p.guard.0 p.guard.1 in
    subst (λ (v : State). KeepsCurrent held (part b.guard) c v) (sym p.last.taken.gateway)
    (passed_keeps held (part a.guard) (part b.guard) c a.scene.gateway event passed.0 passed.1 now)
fault_keeps held part manner is c serving.Memory unwritten a b event p now =
    subst (λ j. KeepsCurrent held (part j) c a.scene.gateway) (sym p.guard) now
fault_keeps held part manner is c serving.CountEnd unwritten a b event p now =
    subst (λ j. KeepsCurrent held (part j) c a.scene.gateway) (sym p.guard) now

end_keeps : {S K : Type 0} (held : S → Option (List ℕ)) (part : K → Kept S) (manner : Manner K) → IsPart held part manner → (count : ℕ)
    (s t : Stage K) (answer : Result RunEnd ServeFault) (links : List Link) → (runs : Runs manner count s answer links t)
    → KeepsAt held part s → KeepsAtEnd held part manner count s answer links t runs
end_keeps held part manner is count s t (Ok end.Turns) links runs now = links_keep held part manner is s t links runs.chain now
end_keeps held part manner is count s t (Ok end.Stopped) links runs now =
    tick_keeps held part manner is true runs.then t runs.turns stopping runs.text runs.stops
    (links_keep held part manner is s runs.then runs.before runs.chain now)
end_keeps held part manner is count s t (Ok end.Unsynced) links runs now =
    link_keeps held part manner is runs.then t (served (runs.turns ++ taken_event event.Tick runs.tries ∷ [])) runs.goes
    (links_keep held part manner is s runs.then runs.before runs.chain now)
end_keeps held part manner is count s t (Err fault) links runs now =
    let then = runs.then in
    let ends = runs.ends.ends in
    let led = links_keep held part manner is s then links runs.chain now in
    let went = went_keeps held part manner is then.config then.now ends.then ends.turns ends.went led in
    subst (λ (c : Configuration). KeepsCurrent held (part t.now.guard) c (asked_until fault ends.then.scene.gateway t.now.scene.gateway))
    (sym runs.ends.config) (fault_keeps held part manner is then.config fault runs.unwritten ends.then t.now ends.event ends.last went)

pub first_is_current : {S : Type 0} (held : S → Option (List ℕ)) → FirstIsCurrent held
first_is_current held store c w Nowhere p = absurd p
first_is_current held store c w (In k) p = tried_keeps held (nothing_kept store (origin_of c)) k c w refl p

given_keeps : {S : Type 0} (held : S → Option (List ℕ)) (given : Option S) (store : S) (c : Configuration) (w : State) (kept : Kept S)
    → given ≡ Some store → KeepsFirst held given c w kept → KeepsCurrent held kept c w
given_keeps held given store c w kept same p =
    first_is_current held store c w kept (subst (λ (o : Option _). KeepsFirst held o c w kept) same p)

-- what is announced before the first turn leaves the keeper and the gateway
begun_keeps : {S K : Type 0} (held : S → Option (List ℕ)) (part : K → Kept S) (s t : Stage K) → Begins s t → KeepsAt held part s
    → KeepsAt held part t
begun_keeps held part s t begins now = subst (λ (u : Stage _). KeepsAt held part u) (sym begins.is) now

pub runs_end_current : {S Q L : Type 0} (given : Given S Q L) → RunsEndCurrent given
runs_end_current given store same c how before after text outcome run =
    let reports = reporting_of given how run.gateway in
    end_keeps given.held second_part (watched_manner_of given.held given.log_held reports) (second given.held given.log_held reports)
    how.turns _ run.runs.last run.answer run.runs.links run.runs.runs
    (begun_keeps given.held second_part _ run.runs.begun run.runs.begins
    (given_keeps given.held given.store store c run.gateway run.keeper.second same run.keeps))

-- ---- what is kept last

keeps_in : {S : Type 0} (held : S → Option (List ℕ)) (k l : Kept S) (j : Keeping S) (w : State) → k ≡ In j → IsKeptLast held k w l
    → IsCurrentIn held w l
keeps_in held Nowhere l j w same p = absurd (nowhere_keeps j same)
keeps_in held (In k) Nowhere j w same p = absurd p
keeps_in held (In k) (In l) j w same p = record { keeper = l; is = refl; current = tried_last_is_current held k l w p }

-- what is kept at the end of a run is kept in a store, however that ended
kept_at_end : {S K : Type 0} (held : S → Option (List ℕ)) (part : K → Kept S) (manner : Manner K) (count : ℕ) (first last : Stage K)
    (answer : Result RunEnd ServeFault) (links : List Link) (runs : Runs manner count first answer links last)
    → KeepsAtEnd held part manner count first answer links last runs → (j : Keeping S) × (part last.now.guard ≡ In j)
kept_at_end held part manner count first last (Ok end) links runs now = (now.keeper, now.is)
kept_at_end held part manner count first last (Err fault) links runs now = (now.keeper, now.is)

pub runs_keep_last : {S Q L : Type 0} (given : Given S Q L) → RunsKeepLast given
runs_keep_last given store same c how before after text outcome run =
    let reports = reporting_of given how run.gateway in
    let there = kept_at_end given.held second_part (watched_manner_of given.held given.log_held reports) how.turns _ run.runs.last run.answer
    run.runs.links run.runs.runs (runs_end_current given store same c how before after text outcome run) in
    keeps_in given.held run.runs.last.now.guard.second run.left.keeper.second there.0 run.runs.last.now.scene.gateway there.1
    run.runs.ends.keeps.0

-- ---- in the store

kept_so : {S : Type 0} (k : Keeping S) (kept : Result Saved StoreFault) → k.kept ≡ kept → failing_in (In k) ≡ None
    → (s : Saved) × (k.kept ≡ Ok s)
kept_so k (Ok s) is lasts = (s, is)
kept_so k (Err fault) is lasts = absurd cc

pub kept_is_up_to_date : {S : Type 0} (held : S → Option (List ℕ)) → KeptIsUpToDate held
kept_is_up_to_date held kept c w now lasts =
    let k = now.keeper in
    let there = kept_so k k.kept refl (ap failing_in (sym now.is) ∙ lasts) in
    subst (λ (o : Origin). IsUpToDate o w (held k.store)) now.origin (current_is_up_to_date held k w there.0 there.1 now.current)

-- ---- after a tick

recent_in : {S : Type 0} (l : Keeping S) (w : State) → IsRecent l.kept (saved_of l.origin w) → IsRecentIn (In l) w
recent_in l w recent k same = subst (λ (j : Keeping _). IsRecent j.kept (saved_of j.origin w)) (same_keeper l k same) recent

tried_recent : {S : Type 0} (held : S → Option (List ℕ)) (k l : Keeping S) (w : State) (kept : Bool)
    → Tries held k (due_of k w) l kept → IsRecent l.kept (saved_of l.origin w)
tried_recent held k l w true p =
    subst (λ (r : Result Saved StoreFault). IsRecent r (saved_of l.origin w)) (sym p.kept)
    (subst (λ (o : Origin). IsRecent (Ok (due_of k w)) (saved_of o w)) (sym p.origin) (just_recent k.kept (saved_of k.origin w)))
tried_recent held k l w false p = subst (λ (r : Result Saved StoreFault). IsRecent r (saved_of l.origin w)) (sym p.unkept.kept) tt

ticked_recent : {S : Type 0} (held : S → Option (List ℕ)) (k l : Kept S) (w : State) → IsKeptAtTick held k w l → IsRecentIn l w
ticked_recent held k Nowhere w p = λ j same. absurd (nowhere_keeps j same)
ticked_recent held Nowhere (In l) w p = absurd p
ticked_recent held (In k) (In l) w p = recent_in l w (ticks_keep_recent held k l w p)

adopted_recent : {S : Type 0} (held : S → Option (List ℕ)) (k l : Kept S) (c : Configuration) (w : State) → IsKeptFor held k c w l
    → IsRecentIn l w
adopted_recent held k Nowhere c w p = λ j same. absurd (nowhere_keeps j same)
adopted_recent held Nowhere (In l) c w p = absurd p
adopted_recent held (In k) (In l) c w p = recent_in l w (tried_recent held (record k { origin = origin_of c }) l w p.0 p.1)

stays_recent : {S : Type 0} (k l : Kept S) (v w : State) → l ≡ k → w ≡ v → IsRecentIn k v → IsRecentIn l w
stays_recent k l v w keeper gateway recent =
    subst (λ (j : Kept _). IsRecentIn j w) (sym keeper) (subst (λ (u : State). IsRecentIn k u) (sym gateway) recent)

looked_recent : {S K : Type 0} (held : S → Option (List ℕ)) (part : K → Kept S) (manner : Manner K) → IsPart held part manner
    → (c d : Configuration) (s t : Standing K) (look : Look) → IsLooked manner.Adopts c s look d t → IsRecentIn (part s.keeper) s.gateway
    → IsRecentIn (part t.keeper) t.gateway
looked_recent held part manner is c d s t unrequested p recent =
    stays_recent (part s.keeper) (part t.keeper) s.gateway t.gateway (ap part p.stays.keeper) p.stays.gateway recent
looked_recent held part manner is c d s t passed_over p recent =
    stays_recent (part s.keeper) (part t.keeper) s.gateway t.gateway (ap part p.stays.keeper) p.stays.gateway recent
looked_recent held part manner is c d s t stopping p recent =
    stays_recent (part s.keeper) (part t.keeper) s.gateway t.gateway (ap part p.stays.keeper) p.stays.gateway recent
looked_recent held part manner is c d s t (inquired answer) p recent =
    stays_recent (part s.keeper) (part t.keeper) s.gateway t.gateway (ap part p.stays.keeper) p.stays.gateway recent
looked_recent held part manner is c d s t (refused read fault line) p recent =
    stays_recent (part s.keeper) (part t.keeper) s.gateway t.gateway (ap part p.stays.keeper) p.stays.gateway recent
looked_recent held part manner is c d s t (taken_over text new) p recent =
    adopted_recent held (part s.keeper) (part t.keeper) new t.gateway (is.adopts s.keeper t.keeper new t.gateway p.keeper)

tick_recent : {S K : Type 0} (held : S → Option (List ℕ)) (part : K → Kept S) (manner : Manner K) → IsPart held part manner
    → (stops : Bool) (s t : Stage K) (turns : List Turn) (look : Look) (text : List ℕ) → IsTicked manner stops s turns look text t
    → IsRecentIn (part t.now.guard) t.now.scene.gateway
tick_recent held part manner is stops s t turns look text p =
    let then = p.then in
    looked_recent held part manner is s.config t.config _ _ look p.done.looked
    (ticked_recent held (part then.guard) (part p.done.keeper) then.scene.gateway
    (is.ticks then.guard p.done.keeper then.scene.gateway p.done.ticks))

pub runs_keep_recent : {S L : Type 0} (held : S → Option (List ℕ)) (log_held : L → Option (List ℕ))
    → RunsKeepRecent held log_held
runs_keep_recent held log_held how stops s t turns look text p =
    tick_recent held second_part (watched_manner_of held log_held how) (second held log_held how) stops s t turns look text p

-- ---- how old the text gets

pub kept_is_young : {S : Type 0} (held : S → Option (List ℕ)) → KeptIsYoung held
kept_is_young held kept c w now recent lasts =
    let k = now.keeper in
    let there = kept_so k k.kept refl (ap failing_in (sym now.is) ∙ lasts) in
    let text = subst (λ (r : Result Saved StoreFault). IsHeld (held k.store) r) there.1 now.current.text in
    let young = subst (λ (r : Result Saved StoreFault). IsYoung r (saved_of k.origin w)) there.1
    (recent_is_young k.kept (saved_of k.origin w) (recent k now.is)) in
    (there.0, text, young)

-- ---- how far ahead its number is

pub kept_is_ahead : {S : Type 0} (held : S → Option (List ℕ)) → KeptIsAhead held
kept_is_ahead held kept c w now recent lasts =
    let k = now.keeper in
    let there = kept_so k k.kept refl (ap failing_in (sym now.is) ∙ lasts) in
    let text = subst (λ (r : Result Saved StoreFault). IsHeld (held k.store) r) there.1 now.current.text in
    let ahead = subst (λ (r : Result Saved StoreFault). HasAhead r w.denials) there.1
    (recent_has_ahead k.kept (saved_of k.origin w) (recent k now.is)) in
    (there.0, text, ahead)
