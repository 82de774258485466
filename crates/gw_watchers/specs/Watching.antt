-- What a watcher does about what an event asked.
use Rattle.std.specs.Prelude.{◌≡◌, ◌⊎◌, ⊤, ℕ, ◌+◌, ◌-◌, ◌^◌, ◌||◌, ◌&&◌, not, Bool, true, false, min, is_some, List, []}
use Rattle.std.specs.Prelude.{if◌then◌else◌, Option, Some, None}
use Rattle.gw_core.specs.Asked.{asked_at}
use Rattle.gw_core.specs.Effects.{NeedsNoMemory}
use Rattle.gw_core.specs.History.{next}
use Rattle.gw_core.specs.State.{State}
use Rattle.gw_core.specs.declared.asked.Asked.{Asked}
use Rattle.gw_decisions.specs.Counted.{AreCounted}
use Rattle.gw_rules.specs.declared.format.Format.{Format}
use Rattle.gw_script.specs.Event.{Event}
use Rattle.gw_watchers.specs.Beside.{IsRecorded}
use Rattle.gw_watchers.specs.Records.{audit_front, audited_by, audits, records, trial_front, tried_by, tries}
use Rattle.gw_rules.specs.declared.verdict.Verdict.{Verdict}
use Rattle.gw_watchers.specs.files.Trial.{is_same_format}
use Rattle.gw_watchers.specs.declared.beside.Beside.{Beside}
use Rattle.gw_watchers.specs.declared.trial.Trial.{Trial}

-- what is watched: a policy on trial, an audit, and how often each rule decided, each if it is wanted; how many events
-- weren't seen; the format of the trial; and whether the trial ended
pub record Watching (T A : Type 0) : Type 0 where
  pub trial : Option (Beside Trial T)
  pub audit : Option (Beside (List Bool) A)
  pub counts : Option (List ℕ)
  pub unseen : ℕ
  pub format : Format
  pub ended : Bool

-- a configuration of this format is in force: a trial of another one ends
abbrev pub ended_by : {T A : Type 0} → Format → Watching T A → Watching T A
ended_by format w =
    if not (is_same_format w.format format) && is_some w.trial then record w { trial = None; ended = true } else w

-- an audit of other marks
abbrev pub with_marks : {A : Type 0} → List Bool → Beside (List Bool) A → Beside (List Bool) A
with_marks marks b = record b { choice = marks }

-- something is watched
abbrev pub is_watching : {T A : Type 0} → Watching T A → Bool
is_watching w = is_some w.trial || (is_some w.audit || is_some w.counts)

-- the ask of this verdict may be recorded, if something is
abbrev pub wants_in : {C S : Type 0} → (C → Verdict → Bool) → Option (Beside C S) → Verdict → Bool
wants_in wants None v = false
wants_in wants (Some b) v = wants b.choice v

-- a trial or an audit may record the ask of this verdict
abbrev pub is_wanted : {T A : Type 0} → Watching T A → Verdict → Bool
is_wanted w v = wants_in tries w.trial v || wants_in audits w.audit v

-- ---- each part

-- the asks that the trial's rules decide otherwise are recorded, each behind both verdicts, or those that they deny, but by quiet
-- ones, if all are wanted; under its names
abbrev pub IsTried : {T : Type 0} → (T → Option (List ℕ)) → State → List Asked
    → (before after : Option (Beside Trial T)) → Type 0
IsTried held w asked None None = ⊤
IsTried held w asked (Some b) (Some c) =
    IsRecorded held (records (tried_by b.choice) (trial_front b.choice w.rules) b.choice.policy b.number w.ticks asked) b c
IsTried held w asked _ _ = ⊥

-- the asks that a marked rule allowed are recorded, after the word `allow`
abbrev pub IsAudited : {A : Type 0} → (A → Option (List ℕ)) → State → List Asked
    → (before after : Option (Beside (List Bool) A)) → Type 0
IsAudited held w asked None None = ⊤
IsAudited held w asked (Some b) (Some c) =
    IsRecorded held (records (audited_by b.choice) audit_front w.rules b.number w.ticks asked) b c
IsAudited held w asked _ _ = ⊥

abbrev pub IsCounted : List Asked → (before after : Option (List ℕ)) → Type 0
IsCounted asked None None = ⊤
IsCounted asked (Some before) (Some after) = AreCounted before asked after
IsCounted asked _ _ = ⊥

-- ---- an event

-- what was asked is watched, and the gateway is in this state then
pub record Watches {T A : Type 0} (trial : T → Option (List ℕ)) (audit : A → Option (List ℕ)) (before : Watching T A) (w : State)
    (asked : List Asked) (after : Watching T A) : Type 0 where
  pub tried : IsTried trial w asked before.trial after.trial
  pub audited : IsAudited audit w asked before.audit after.audit
  pub counted : IsCounted asked before.counts after.counts
  pub unseen : after.unseen ≡ before.unseen
  pub format : after.format ≡ before.format
  pub ended : after.ended ≡ before.ended

-- an event isn't seen: that is counted, if something is watched
abbrev pub Missed : {T A : Type 0} → (before after : Watching T A) → Type 0
Missed before after = after ≡ record before {
  unseen = if is_watching before then min (before.unseen + 1) (2 ^ 64 - 1) else before.unseen;
}

-- What an event asks is watched; or it isn't seen, if nothing is watched or memory was wanted. Nothing is withheld.
abbrev pub HasWatched : {T A : Type 0} → (T → Option (List ℕ)) → (A → Option (List ℕ)) → Watching T A → State → Event
    → Watching T A → Bool
    → Type 0
HasWatched trial audit before w event after passes =
    (passes ≡ true)
    × (Watches trial audit before (next w event) (asked_at w event) after
    ⊎ ((is_watching before ≡ true → ¬ (NeedsNoMemory w event)) × Missed before after))
