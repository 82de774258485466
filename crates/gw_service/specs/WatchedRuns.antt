-- What a watcher's logs and counts are after a run.
use Rattle.std.specs.Prelude.{◌≡◌, ℕ, ◌<◌, Bool, false, List, length, Option, Some, slice_index}
use Rattle.std.specs.Io.KnownBytes.{Appends}
use Rattle.gw_turns.specs.Serve.{Turn, events_of}
use Rattle.gw_turns.specs.Stretch.{GoOn, Moment}
use Rattle.gw_core.specs.Asked.{run_asked}
use Rattle.gw_decisions.specs.Counted.{counted_on}
use Rattle.gw_watchers.specs.Laws.{run_records}
use Rattle.gw_watchers.specs.Records.{audit_front, audited_by, lines_of, trial_front, tried_by}
use Rattle.gw_watchers.specs.Watching.{HasWatched, Watching}
use Rattle.gw_watchers.specs.declared.beside.Beside.{Beside}
use Rattle.gw_watchers.specs.declared.trial.Trial.{Trial}

-- If nothing was lost and all events were seen, a trial's log has exactly the lines of the asks of the run that its rules decide
-- otherwise than those in force, or that they deny, if all are wanted.
abbrev pub TrialIsWhole : {T A : Type 0} → (T → Option (List ℕ)) → (A → Option (List ℕ)) → Type 0
TrialIsWhole {T} {A} trial audit = (before after : Moment (Watching T A)) (turns : List Turn) (b c : Beside Trial T) →
    GoOn (HasWatched trial audit) before turns after → before.guard.trial ≡ Some b → after.guard.trial ≡ Some c →
    b.is_cut ≡ false → c.lost ≡ 0 → after.guard.unseen ≡ 0 →
    Appends (trial b.sink) (trial c.sink)
    (lines_of (run_records (tried_by b.choice) (trial_front b.choice) (λ _. b.choice.policy) b.number before.scene.gateway
    (events_of turns)))

-- So has an audit those of the asks of the run that a marked rule allowed.
abbrev pub AuditIsWhole : {T A : Type 0} → (T → Option (List ℕ)) → (A → Option (List ℕ)) → Type 0
AuditIsWhole {T} {A} trial audit = (before after : Moment (Watching T A)) (turns : List Turn) (b c : Beside (List Bool) A) →
    GoOn (HasWatched trial audit) before turns after → before.guard.audit ≡ Some b → after.guard.audit ≡ Some c →
    b.is_cut ≡ false → c.lost ≡ 0 → after.guard.unseen ≡ 0 →
    Appends (audit b.sink) (audit c.sink)
    (lines_of (run_records (audited_by b.choice) (λ _. audit_front) (λ rules. rules) b.number before.scene.gateway (events_of turns)))

-- And each count goes on by all asks of the run that its rule decided.
abbrev pub CountsAreWhole : {T A : Type 0} → (T → Option (List ℕ)) → (A → Option (List ℕ)) → Type 0
CountsAreWhole {T} {A} trial audit = (before after : Moment (Watching T A)) (turns : List Turn) (b c : List ℕ) →
    GoOn (HasWatched trial audit) before turns after → before.guard.counts ≡ Some b → after.guard.counts ≡ Some c →
    after.guard.unseen ≡ 0 → (k : ℕ) → k < length b →
    slice_index c k ≡ counted_on k (slice_index b k) (run_asked before.scene.gateway (events_of turns))
