-- What a replay leaves written, from what the run and the flush after it leave.
use Rattle.std.proofs.Common.{◌≡◌, refl, sym, subst, rules, true, false, Bool, ℕ, ◌++◌, List, Result, Ok, Err, Option, Some, None, [], ◌∷◌, length, take, IsSomeAnd, IsErrOf}
use Rattle.gw_replay.specs.declared.replaying.RunFault.{RunFault}
use Rattle.gw_replay.specs.declared.replaying.RunFault.TheVariants as run
use Rattle.gw_replay.specs.Entry.{AreEntries, ScriptEntry}
use Rattle.gw_replay.specs.Replay.{Replays, RunsFront, RunsToLine, RunsWhole, EventText, run_text}
use Rattle.gw_script.specs.Known.{OnKnown}
use Rattle.gw_script.specs.Script.{lines_of}
use Rattle.gw_configuration.specs.Configuration.{Configuration}
use Rattle.gw_replay.specs.Explained.{explained_text}
use Rattle.gw_replay.specs.Flawed.{HasFlaw}
use Rattle.gw_replay.specs.Shown.{event_text}
use Rattle.gw_script.specs.declared.flaw.LineFlaw.{LineFlaw}
use Rattle.gw_ending.specs.declared.fault.Fault.{Fault}
use Rattle.gw_shell.specs.Replay.{Plays, first_fault, outcome_of, translating}

-- what always holds, beside a fact of known bytes
both : (P Q : List ℕ → Type 0) (held : Option (List ℕ)) → ((bytes : List ℕ) → P bytes) → IsSomeAnd held Q
    → IsSomeAnd held (λ (bytes : List ℕ). P bytes × Q bytes)
both P Q None always holds = absurd holds
both P Q (Some bytes) always holds = (always bytes, holds)

-- two facts of known bytes
three : (P Q : List ℕ → Type 0) (held : Option (List ℕ)) → IsSomeAnd held P → IsSomeAnd held Q
    → IsSomeAnd held (λ (bytes : List ℕ). (true ≡ true) × P bytes × Q bytes)
three P Q None holds also = absurd holds
three P Q (Some bytes) holds also = (refl, holds, also)

-- what a run leaves, as the program reports its outcome
pub run_plays : (c : Configuration) (read held holds : Option (List ℕ)) (r : Result (Unit {0}) RunFault)
    → OnKnown read held holds (Replays event_text c r)
    → OnKnown read held holds (λ script before. Plays false c script before (outcome_of None r))
run_plays c read held holds (Ok done) replays = replays
run_plays c read held holds (Err (run.Line n)) replays = λ script before known written.
    both (λ (after : List ℕ). false ≡ false) (RunsToLine event_text n c script before) holds (λ bytes. refl) (replays script before known written)
run_plays c read held holds (Err run.Read) replays = replays
run_plays c read held holds (Err run.Write) replays = replays
run_plays c read held holds (Err run.Memory) replays = replays
run_plays c read held holds (Err run.CountEnd) replays = replays

-- and one that explains
pub explained_plays : (c : Configuration) (read held holds : Option (List ℕ)) (r : Result (Unit {0}) RunFault) (flaw : LineFlaw)
    → OnKnown read held holds (Replays explained_text c r)
    → ((n : ℕ) → IsErrOf r (run.Line n) → OnKnown read held holds (λ script before after. HasFlaw (length c.ports) n script flaw))
    → OnKnown read held holds (λ script before. Plays true c script before (outcome_of (Some flaw) r))
explained_plays c read held holds (Ok done) flaw replays is = replays
explained_plays c read held holds (Err (run.Line n)) flaw replays is = λ script before known written.
    three (RunsToLine explained_text n c script before) (λ (after : List ℕ). HasFlaw (length c.ports) n script flaw) holds
    (replays script before known written) (is n refl script before known written)
explained_plays c read held holds (Err run.Read) flaw replays is = replays
explained_plays c read held holds (Err run.Write) flaw replays is = replays
explained_plays c read held holds (Err run.Memory) flaw replays is = replays
explained_plays c read held holds (Err run.CountEnd) flaw replays is = replays

-- all the lines are the first lines
all_are_first : (announces : Bool) (ports : ℕ) (lines : List (List ℕ)) (entries : List ScriptEntry) → AreEntries announces ports lines entries
    → AreEntries announces ports (take (length entries) lines) entries
all_are_first announces ports [] [] are = tt
all_are_first announces ports [] (e ∷ entries) are = absurd are
all_are_first announces ports (line ∷ lines) [] are = absurd are
all_are_first announces ports (line ∷ lines) (e ∷ entries) are = (are.0, all_are_first announces ports lines entries are.1)

nothing_more : (xs : List ℕ) → xs ++ [] ≡ xs
nothing_more xs = search rules

-- a whole run that isn't flushed leaves a front of its text
whole_is_front : (said : EventText) (c : Configuration) (script before after : List ℕ) → RunsWhole said c script before after → RunsFront said c script before after
whole_is_front said c script before after whole = record {
  entries = whole.entries;
  lines = all_are_first c.announce (length c.ports) (lines_of script) whole.entries whole.lines;
  front = run_text said c whole.entries;
  unwritten = [];
  parts = sym (nothing_more (run_text said c whole.entries));
  text = whole.text;
}

-- the flush changes nothing of what is left written, and its failure is reported after a run without a fault
pub flushed_plays : (explains : Bool) (c : Configuration) (script before after : List ℕ) (r : Result (Unit {0}) Fault) (is_flushed : Bool)
    → Plays explains c script before r after → Plays explains c script before (first_fault r is_flushed) after
flushed_plays explains c script before after (Ok done) true plays = plays
flushed_plays explains c script before after (Ok done) false plays = whole_is_front (translating explains) c script before after plays
flushed_plays explains c script before after (Err f) flushed plays = plays
