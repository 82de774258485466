-- That a keeper keeps what lasts of a gateway.
use Rattle.std.specs.Prelude.{◌≡◌, ℕ, ◌+◌, ◌<◌, Bool, true, false, List, Option, Some, None, Result, Ok, Err, ⊤}
use Rattle.gw_configuration.specs.Configuration.{Configuration}
use Rattle.gw_state.specs.Saved.{Saved, origin_of}
use Rattle.gw_script.specs.Event.{Event}
use Rattle.gw_core.specs.History.{next}
use Rattle.gw_core.specs.Lasting.{lasts}
use Rattle.gw_core.specs.Resumed.{saved_of}
use Rattle.gw_core.specs.State.{State}
use Rattle.gw_turns.specs.Keeping.{HasPassed, IsHeld, IsRecent, IsTried, IsTriedLast, IsUnkept, IsUpToDate, KeepsAtTick, Keeping, due_of}
use Rattle.gw_turns.specs.Keeping.{is_ahead, lasting_of}
use Rattle.gw_turns.specs.Serve.{Turn}
use Rattle.gw_turns.specs.Stretch.{EndsFaulty, EndsStretch, Moment, asked_until}
use Rattle.gw_core.specs.declared.guard.BothGuards.{BothGuards}
use Rattle.gw_turns.specs.declared.serving.ServeFault.{ServeFault}
use Rattle.gw_state_text.specs.Text.{state_text}
use Rattle.gw_wire.specs.Store.{Holds}
use Rattle.gw_wire.specs.declared.store.StoreFault.{StoreFault}
use Rattle.gw_turns.specs.declared.stretch.StretchEnd.{StretchEnd}
use Rattle.gw_watchers.specs.Watching.{Watching}
use Rattle.gw_service.specs.Chain.{AreLinks, IsTicked, Link, Look, Manner, Runs, Stage}
use Rattle.gw_service.specs.Keeping.{failing_in}
use Rattle.gw_service.specs.declared.running.RunEnd.{RunEnd}
use Rattle.gw_service.specs.Kept.{Given, KeepsFirst, RunsWatched, reporting_of, watched_manner_of}
use Rattle.gw_service.specs.Serving.{Ends, Service}
use Rattle.gw_service.specs.Stats.{Reporting}
use Rattle.gw_service.specs.declared.fault.ServiceFault.{ServiceFault}
use Rattle.gw_service.specs.declared.keeping.Kept.{Kept}
use Rattle.gw_service.specs.declared.keeping.Kept.TheVariants.{In}

-- ---- what a keeper has

-- what is kept lasts as what is due, or the last try failed
abbrev pub LastsAs : Result Saved StoreFault → Saved → Type 0
LastsAs (Ok s) due = lasting_of s ≡ lasting_of due
LastsAs (Err fault) due = ⊤

-- The store is up to date in this state, or the last try failed.
pub record IsCurrent {S : Type 0} (held : S → Option (List ℕ)) (k : Keeping S) (w : State) : Type 0 where
  pub text : IsHeld (held k.store) k.kept
  pub lasts : LastsAs k.kept (saved_of k.origin w)

-- ---- at each event

-- After each event the store holds the text of what is kept, as it did before.
abbrev pub HeldStays : {S : Type 0} → (S → Option (List ℕ)) → Type 0
HeldStays {S} held = (k l : Keeping S) (w : State) (event : Event) (passes : Bool) →
    HasPassed held k w event l passes → IsHeld (held k.store) k.kept → IsHeld (held l.store) l.kept

-- If an event lasts and may be answered, the store is up to date in the state after it.
abbrev pub AnsweredIsKept : {S : Type 0} → (S → Option (List ℕ)) → Type 0
AnsweredIsKept {S} held = (k l : Keeping S) (w : State) (event : Event) →
    HasPassed held k w event l true → lasts w event ≡ true → IsHeld (held k.store) k.kept →
    IsUpToDate l.origin (next w event) (held l.store)

-- If its datagrams are withheld, it is an event that lasts; the store holds the text of the state after it, or what it held.
abbrev pub WithheldIsOldOrNew : {S : Type 0} → (S → Option (List ℕ)) → Type 0
WithheldIsOldOrNew {S} held = (k l : Keeping S) (w : State) (event : Event) →
    HasPassed held k w event l false → (lasts w event ≡ true) × IsUnkept held k (due_of k (next w event)) l

-- ---- at each try

-- After a try the keeper is current.
abbrev pub TriedIsCurrent : {S : Type 0} → (S → Option (List ℕ)) → Type 0
TriedIsCurrent {S} held = (k l : Keeping S) (w : State) → IsTried held k w l → IsCurrent held l w

-- So it is after the last one.
abbrev pub TriedLastIsCurrent : {S : Type 0} → (S → Option (List ℕ)) → Type 0
TriedLastIsCurrent {S} held = (k l : Keeping S) (w : State) → IsTriedLast held k w l → IsCurrent held l w

-- After what it does at a tick it is current, if it was.
abbrev pub TicksKeepCurrent : {S : Type 0} → (S → Option (List ℕ)) → Type 0
TicksKeepCurrent {S} held = (k l : Keeping S) (w : State) → KeepsAtTick held k w l → IsCurrent held k w → IsCurrent held l w

-- ---- at each end

-- At each pause of a stretch the keeper is current, if it was at its beginning.
abbrev pub PausesKeep : {S : Type 0} → (S → Option (List ℕ)) → Type 0
PausesKeep {S} held = (count : ℕ) (before after : Moment (Keeping S)) (pause : StretchEnd) (unwritten : List ℕ) →
    EndsStretch (HasPassed held) count before (Ok pause) unwritten after → IsCurrent held before.guard before.scene.gateway →
    IsCurrent held after.guard after.scene.gateway

-- If it ends in a fault of the log, the keeper is current in the state then; in another, in the state before the last event. Of that
-- event nothing was sent.
abbrev pub FaultsKeep : {S : Type 0} → (S → Option (List ℕ)) → Type 0
FaultsKeep {S} held = (count : ℕ) (before after : Moment (Keeping S)) (fault : ServeFault) (unwritten : List ℕ) →
    (end : EndsFaulty (HasPassed held) count before fault unwritten after) → IsCurrent held before.guard before.scene.gateway →
    IsCurrent held after.guard (asked_until fault end.then.scene.gateway after.scene.gateway)

-- A keeper that is current and whose last try didn't fail has a store that is up to date.
abbrev pub CurrentIsUpToDate : {S : Type 0} → (S → Option (List ℕ)) → Type 0
CurrentIsUpToDate {S} held = (k : Keeping S) (w : State) (s : Saved) → k.kept ≡ Ok s → IsCurrent held k w →
    IsUpToDate k.origin w (held k.store)

-- ---- over a run

-- The state is kept in a store, by a keeper of this configuration that is current in this state.
pub record KeepsCurrent {S : Type 0} (held : S → Option (List ℕ)) (kept : Kept S) (c : Configuration) (w : State) : Type 0 where
  pub keeper : Keeping S
  pub is : kept ≡ In keeper
  pub origin : keeper.origin ≡ origin_of c
  pub current : IsCurrent held keeper w

-- So it is at a stage of a run, of the configuration that is in force there. The part of the guard that keeps the state is given.
abbrev pub KeepsAt : {S K : Type 0} → (S → Option (List ℕ)) → (K → Kept S) → Stage K → Type 0
KeepsAt held part s = KeepsCurrent held (part s.now.guard) s.config s.now.scene.gateway

-- So it is at the end of a run. If its last event ended in a fault but that of the log, the state is that before this event. Of such an
-- event nothing was sent.
abbrev pub KeepsAtEnd : {S K : Type 0} → (S → Option (List ℕ)) → (K → Kept S) → (manner : Manner K) → (count : ℕ) → (first : Stage K)
    → (answer : Result RunEnd ServeFault) → (links : List Link) → (last : Stage K) → Runs manner count first answer links last → Type 0
KeepsAtEnd held part manner count first (Ok end) links last runs = KeepsAt held part last
KeepsAtEnd held part manner count first (Err fault) links last runs =
    KeepsCurrent held (part last.now.guard) last.config
    (asked_until fault runs.ends.ends.then.scene.gateway last.now.scene.gateway)

-- the second part of the guard of a run keeps the state
abbrev pub second_part : {S L : Type 0} → BothGuards (Watching L L) (Kept S) → Kept S
second_part both = both.second

-- If a store is given, the state is kept in it and current at once.
abbrev pub FirstIsCurrent : {S : Type 0} → (S → Option (List ℕ)) → Type 0
FirstIsCurrent {S} held = (store : S) (c : Configuration) (w : State) (kept : Kept S) → KeepsFirst held (Some store) c w kept →
    KeepsCurrent held kept c w

-- If it is current at a stage, it is wherever links lead from there: through reloads and events whose datagrams are withheld too.
abbrev pub RunsKeepCurrent : {S L : Type 0} → (S → Option (List ℕ)) → (L → Option (List ℕ)) → Type 0
RunsKeepCurrent {S} {L} held log_held = (how : Reporting) (s t : Stage (BothGuards (Watching L L) (Kept S))) (links : List Link) →
    AreLinks (watched_manner_of held log_held how) s links t → KeepsAt held second_part s → KeepsAt held second_part t

-- So a run to which a store is given keeps the state in it to its end.
abbrev pub RunsEndCurrent : {S Q L : Type 0} → Given S Q L → Type 0
RunsEndCurrent {S} {Q} {L} given = (store : S) → given.store ≡ Some store → (c : Configuration) (how : Service)
    (before after : Ends) (text : List ℕ) (outcome : Result (Unit {0}) ServiceFault) →
    (run : RunsWatched given c how before after text outcome) →
    KeepsAtEnd given.held second_part (watched_manner_of given.held given.log_held (reporting_of given how run.gateway)) how.turns _
    run.answer run.runs.links run.runs.last run.runs.runs

-- A keeper that is current in this state keeps it in a store.
pub record IsCurrentIn {S : Type 0} (held : S → Option (List ℕ)) (w : State) (kept : Kept S) : Type 0 where
  pub keeper : Keeping S
  pub is : kept ≡ In keeper
  pub current : IsCurrent held keeper w

-- Whatever ends such a run, it tries to keep its last state: the store is up to date in that state then, or the try failed.
abbrev pub RunsKeepLast : {S Q L : Type 0} → Given S Q L → Type 0
RunsKeepLast {S} {Q} {L} given = (store : S) → given.store ≡ Some store → (c : Configuration) (how : Service)
    (before after : Ends) (text : List ℕ) (outcome : Result (Unit {0}) ServiceFault) →
    (run : RunsWatched given c how before after text outcome) →
    IsCurrentIn given.held run.runs.last.now.scene.gateway run.left.keeper.second

-- Where it is current and no last try failed, the store is up to date, as that of a gateway of the configuration in force.
abbrev pub KeptIsUpToDate : {S : Type 0} → (S → Option (List ℕ)) → Type 0
KeptIsUpToDate {S} held = (kept : Kept S) (c : Configuration) (w : State) → (now : KeepsCurrent held kept c w) →
    failing_in kept ≡ None → IsUpToDate (origin_of c) w (held now.keeper.store)

-- After each tick of a run the text is that of a state fewer than ten ticks ago, or of one that differs only in its ticks and is
-- fresh; or the last try failed.
abbrev pub IsRecentIn : {S : Type 0} → Kept S → State → Type 0
IsRecentIn {S} kept w = (k : Keeping S) → kept ≡ In k → IsRecent k.kept (saved_of k.origin w)

abbrev pub RunsKeepRecent : {S L : Type 0} → (S → Option (List ℕ)) → (L → Option (List ℕ)) → Type 0
RunsKeepRecent {S} {L} held log_held = (how : Reporting) (stops : Bool)
    (s t : Stage (BothGuards (Watching L L) (Kept S))) (turns : List Turn) (look : Look) (text : List ℕ)
    → IsTicked (watched_manner_of held log_held how) stops s turns look text t → IsRecentIn t.now.guard.second t.now.scene.gateway

-- The store holds the text of a state fewer than 600 ticks ago.
abbrev pub HoldsYoung : Option (List ℕ) → State → Type 0
HoldsYoung held w = (s : Saved) × Holds held (state_text s) × (w.ticks < s.counts.ticks + 600)

-- So it is after each tick, where no last try failed: what a kill leaves isn't older.
abbrev pub KeptIsYoung : {S : Type 0} → (S → Option (List ℕ)) → Type 0
KeptIsYoung {S} held = (kept : Kept S) (c : Configuration) (w : State) → (now : KeepsCurrent held kept c w) → IsRecentIn kept w →
    failing_in kept ≡ None → HoldsYoung (held now.keeper.store) w

-- The store holds the text of a state whose number of a denial is ahead.
abbrev pub HoldsAhead : Option (List ℕ) → State → Type 0
HoldsAhead held w = (s : Saved) × Holds held (state_text s) × (is_ahead s.counts.denials w.denials ≡ true)

-- So it does after each tick, where no last try failed: a gateway that goes on from what a kill leaves repeats no number.
abbrev pub KeptIsAhead : {S : Type 0} → (S → Option (List ℕ)) → Type 0
KeptIsAhead {S} held = (kept : Kept S) (c : Configuration) (w : State) → (now : KeepsCurrent held kept c w) → IsRecentIn kept w →
    failing_in kept ≡ None → HoldsAhead (held now.keeper.store) w
