-- What a replay leaves written, at each outcome: over the definitions of `gw_replay`.
use Rattle.std.specs.Prelude.{◌≡◌, ℕ, Bool, true, false, List, length, Option, Some, Result, Ok, Err}
use Rattle.gw_replay.specs.Explained.{explained_text}
use Rattle.gw_replay.specs.Replay.{RunsFront, RunsPart, RunsToEnd, RunsToLine, RunsToMemory, RunsWhole, EventText}
use Rattle.gw_replay.specs.Shown.{event_text}
use Rattle.gw_replay.specs.Flawed.{HasFlaw}
use Rattle.gw_replay.specs.declared.replaying.RunFault.{RunFault}
use Rattle.gw_replay.specs.declared.replaying.RunFault.TheVariants as run
use Rattle.gw_script.specs.declared.flaw.LineFlaw.{LineFlaw}
use Rattle.gw_ending.specs.Ending.{fault_of}
use Rattle.gw_configuration.specs.Configuration.{Configuration}
use Rattle.gw_ending.specs.declared.fault.Fault.{Fault}
use Rattle.gw_ending.specs.declared.fault.Fault.TheVariants as fault

-- how a replay reports an event: what it does, and before that what it asks if it explains
abbrev pub translating : Bool → EventText
translating false = event_text
translating true = explained_text

-- `before` was written before this script was played under this configuration, with this outcome, and `after` when it
-- ended. Where it explains, what is said of a line is wrong with it.
abbrev pub Plays : Bool → Configuration → List ℕ → List ℕ → Result (Unit {0}) Fault → List ℕ → Type 0
Plays explains c script before (Ok done) after = RunsWhole (translating explains) c script before after
Plays explains c script before (Err (fault.Line n)) after =
    (explains ≡ false) × RunsToLine (translating explains) n c script before after
Plays explains c script before (Err (fault.FlawedLine n f)) after =
    (explains ≡ true) × RunsToLine (translating explains) n c script before after × HasFlaw (length c.ports) n script f
Plays explains c script before (Err fault.Read) after = RunsPart (translating explains) c script before after
Plays explains c script before (Err fault.Write) after = RunsFront (translating explains) c script before after
Plays explains c script before (Err fault.Memory) after = RunsToMemory (translating explains) c script before after
Plays explains c script before (Err fault.CountEnd) after = RunsToEnd (translating explains) c script before after
Plays explains c script before (Err _) after = ⊥

-- the outcome of a run, as the program reports it: also what is wrong with a line, if that is known
abbrev pub outcome_of : Option LineFlaw → Result (Unit {0}) RunFault → Result (Unit {0}) Fault
outcome_of flaw (Ok done) = Ok done
outcome_of (Some f) (Err (run.Line n)) = Err (fault.FlawedLine n f)
outcome_of flaw (Err of_run) = Err (fault_of of_run)

-- the first fault of a run and of the flush after it
abbrev pub first_fault : Result (Unit {0}) Fault → Bool → Result (Unit {0}) Fault
first_fault (Ok done) true = Ok done
first_fault (Ok done) false = Err fault.Write
first_fault (Err of_run) flushed = Err of_run
