-- The program as a whole: what the words chose, what is on standard output then, the line on standard error and
-- the exit status.
use Rattle.std.specs.Prelude.{◌≡◌, ◌⊎◌, ⊤, Bool, true, ℕ, List, [], ◌++◌, Option, Result, Ok, Err, OnOk, option_map, string_bytes}
use Rattle.std.specs.Io.KnownBytes.{Appends}
use Rattle.gw_script.specs.Known.{OnKnown}
use Rattle.gw_configuration.specs.Configuration.{Configuration}
use Rattle.gw_command_line.specs.declared.command_line.Choice.{Choice}
use Rattle.gw_command_line.specs.declared.command_line.Choice.TheVariants as choice
use Rattle.gw_command_line.specs.CommandLine.{IsAnswer}
use Rattle.gw_command_line.specs.declared.options.fault.WordsFault.{WordsFault}
use Rattle.gw_shell.specs.declared.deciding.Playing.{Playing}
use Rattle.gw_ending.specs.declared.fault.Fault.{Fault}
use Rattle.gw_ending.specs.declared.fault.Fault.TheVariants as fault
use Rattle.gw_ending.specs.Ending.{status_after}
use Rattle.gw_ask_sets.specs.assertions.Judging.{AreJudged}
use Rattle.gw_ask_sets.specs.declared.assertions.judging.Judged.{Judged}
use Rattle.gw_ask_sets.specs.declared.assertions.judging.TheConstants.{JUDGING_STEPS}
use Rattle.gw_ending.specs.reading.Assertions.{judged_text, outcome_of_judged}
use Rattle.gw_ending.specs.reading.Configured.{IsConfigurationOf, IsConfigured}
use Rattle.gw_ending.specs.reading.Printing.{AppendsFront, LeavesEnding, LeavesFault}
use Rattle.gw_shell.specs.Deciding.{ReportsAsks}
use Rattle.gw_shell.specs.Ending.{PlaceBy, chosen, error_text_by, usage_of}
use Rattle.gw_shell.specs.Replay.{Plays}
use Rattle.gw_service.specs.Serving.{IsFlushedFor}
use Rattle.gw_service.specs.StampedRun.{TimedMachine}
use Rattle.gw_service.specs.declared.edition.Edition.{Edition}
use Rattle.gw_shell.specs.Serving.{IsEditionOf, LeavesRun}

-- what the words of a call choose, or why they choose nothing
abbrev pub IsChoiceOf : List (List ℕ) → Result Choice Fault → Type 0
IsChoiceOf words choice = (read : Result Choice WordsFault) × IsAnswer words read × (choice ≡ chosen read)

-- What `check` leaves of a configuration whose assertions were judged: its summary, or the lines of those that don't hold.
abbrev pub LeavesJudged : Option (List ℕ) → Option (List ℕ) → Configuration → Result (Unit {0}) Fault → Type 0
LeavesJudged held holds c outcome =
    (judged : List Judged) × AreJudged c JUDGING_STEPS judged
    × LeavesEnding (judged_text c judged) (outcome_of_judged judged) held holds outcome

-- The same, or nothing if memory ran out.
abbrev pub LeavesConfigured : Option (List ℕ) → Option (List ℕ) → Configuration → Result (Unit {0}) Fault → Type 0
LeavesConfigured held holds c outcome = LeavesJudged held holds c outcome ⊎ ((outcome ≡ Err fault.Memory) × (holds ≡ held))

-- What it leaves of what was read of a text. Where there is no configuration the outcome is why, whatever became of
-- the explanation.
abbrev pub LeavesChecked : Result (List ℕ) Fault → Option (List ℕ) → Option (List ℕ)
    → Result Configuration Fault → Result (Unit {0}) Fault → Type 0
LeavesChecked text held holds (Ok c) outcome = LeavesConfigured held holds c outcome
LeavesChecked text held holds (Err f) outcome =
    (outcome ≡ Err f) × LeavesFault text f held holds

-- what `check` leaves of a text that was read, or of why none was
abbrev pub LeavesOfText : Result (List ℕ) Fault → Option (List ℕ) → Option (List ℕ)
    → Result (Unit {0}) Fault → Type 0
LeavesOfText text held holds outcome =
    (c : Result Configuration Fault) × IsConfigurationOf text c × LeavesChecked text held holds c outcome

-- What `replay` leaves under the configuration that was read. Where there is none the script isn't played, and the
-- outcome is why.
abbrev pub LeavesPlayed : Bool → Option (List ℕ) → Option (List ℕ) → Option (List ℕ)
    → Result Configuration Fault → Result (Unit {0}) Fault → Type 0
LeavesPlayed explains input held holds (Ok c) outcome =
    OnKnown input held holds (λ script before. Plays explains c script before outcome)
LeavesPlayed explains input held holds (Err f) outcome = (outcome ≡ Err f) × (holds ≡ held)

-- What `replay --stats` leaves and reports under the configuration of a text that was read.
abbrev pub LeavesCounted : Bool → Result (List ℕ) Fault → Option (List ℕ) → Option (List ℕ) → Option (List ℕ)
    → Result (Unit {0}) Fault → (said : List ℕ) → Type 0
LeavesCounted explains text input held holds outcome said =
    (c : Result Configuration Fault) × IsConfigurationOf text c × LeavesPlayed explains input held holds c outcome
    × ReportsAsks true input c outcome said

-- What `replay` leaves and reports under that of the file of this name, or the built-in one.
abbrev pub LeavesPlayedIn : (Reads : List ℕ → Result (List ℕ) Fault → Type 0) → Option (List ℕ) → Playing → Option (List ℕ)
    → Option (List ℕ) → Option (List ℕ) → (said : List ℕ) → Result (Unit {0}) Fault → Type 0
LeavesPlayedIn Reads file how input held holds said outcome =
    (c : Result Configuration Fault) × IsConfigured Reads file c × LeavesPlayed how.explains input held holds c outcome
    × ReportsAsks how.counts input c outcome said

-- What is on standard output, which held `held` before, if files give what `Reads` says, and `run` opens what the
-- machine says: at `check` and `replay` what they leave of some configuration that is the one they name, at `run` also
-- what was reported at the start, and at help its text, of which a failed write may leave a front. Words that choose
-- nothing leave it as it was, and their fault is the outcome.
abbrev pub LeavesOutput : {C Log Sockets S Q : Type 0} → (Reads : List ℕ → Result (List ℕ) Fault → Type 0)
    → TimedMachine C Log Sockets S Q → Option (List ℕ) → Option (List ℕ) → Option (List ℕ) → List ℕ
    → Result Choice Fault → Result (Unit {0}) Fault → Type 0
LeavesOutput Reads machine input held holds said (Ok (choice.Check file)) outcome =
    (text : Result (List ℕ) Fault) × Reads (string_bytes file) text
    × LeavesOfText text held holds outcome
LeavesOutput Reads machine input held holds said (Ok (choice.Replay file explains counts)) outcome =
    LeavesPlayedIn Reads (option_map string_bytes file) (record { explains = explains; counts = counts }) input held holds said outcome
LeavesOutput Reads machine input held holds said (Ok (choice.Run options)) outcome =
    (text : Result (List ℕ) Fault) × Reads (string_bytes options.config) text
    × (e : Result Edition Fault) × IsEditionOf text e
    × LeavesRun machine held holds options e said outcome
LeavesOutput Reads machine input held holds said (Ok (choice.Help text)) (Ok done) =
    Appends held holds (string_bytes text)
LeavesOutput Reads machine input held holds said (Ok (choice.Help text)) (Err f) =
    (f ≡ fault.Write) × AppendsFront held holds (string_bytes text)
LeavesOutput Reads machine input held holds said (Ok (choice.Usage text)) outcome =
    (outcome ≡ Err fault.CommandLine) × (holds ≡ held)
LeavesOutput Reads machine input held holds said (Err f) outcome = (outcome ≡ Err f) × (holds ≡ held)

-- Only `run` and `replay` report something before a fault's line.
abbrev pub IsQuiet : Result Choice Fault → List ℕ → Type 0
IsQuiet (Ok (choice.Run options)) said = ⊤
IsQuiet (Ok (choice.Replay file explains counts)) said = ⊤
IsQuiet _ said = said ≡ []

-- What of standard output isn't flushed after a choice that was done: nothing, but that `run` leaves what was so
-- before where its log is in a file.
abbrev pub IsFlushed : Result Choice Fault → (was is : List ℕ) → Type 0
IsFlushed (Ok (choice.Run options)) was is = IsFlushedFor (option_map string_bytes options.log) was is
IsFlushed _ was is = is ≡ []

-- What was done by a choice. `Leaves` is what is on standard output, with what was reported at the start, and `Adds`
-- what standard error is given.
pub record IsFollowed (Leaves : List ℕ → Result Choice Fault → Result (Unit {0}) Fault → Type 0)
    (Adds : List ℕ → Type 0) (choice : Result Choice Fault) (outcome : Result (Unit {0}) Fault) : Type 0 where
  pub said : List ℕ
  pub output : Leaves said choice outcome
  pub quiet : IsQuiet choice said
  pub errors : Adds said

-- One run of the program. `Reads` is what files give, `Chooses` what the words ask for, `Leaves` what is on standard output at a choice
-- and an outcome, with what was reported at the start, `was` and `is` what of it wasn't flushed before and isn't then,
-- and `Adds` what standard error is given.
pub record IsRun (Reads : List ℕ → Result (List ℕ) Fault → Type 0) (Chooses : Result Choice Fault → Type 0)
    (Leaves : List ℕ → Result Choice Fault → Result (Unit {0}) Fault → Type 0)
    (was is : List ℕ) (Adds : List ℕ → Type 0)
    (exit : ℕ) : Type 0 where
  pub choice : Result Choice Fault
  pub outcome : Result (Unit {0}) Fault
  pub said : List ℕ
  pub words : Chooses choice
  pub output : Leaves said choice outcome
  pub quiet : IsQuiet choice said
  pub flush : OnOk outcome (IsFlushed choice was is)
  pub place : List ℕ
  pub placed : PlaceBy Reads choice outcome place
  pub errors : Adds (said ++ place ++ error_text_by choice outcome ++ usage_of choice)
  pub status : exit ≡ status_after outcome
