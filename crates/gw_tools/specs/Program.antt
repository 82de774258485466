-- The program as a whole: what the words chose, what is on standard output then, the line on standard error and
-- the exit status.
use Rattle.std.specs.Prelude.{◌≡◌, ⊤, Bool, true, false, ℕ, List, [], ◌++◌, Option, Some, None, Result, Ok, Err, OnOk, option_map}
use Rattle.std.specs.Prelude.{string_bytes}
use Rattle.std.specs.Io.KnownBytes.{Appends}
use Rattle.gw_script.specs.Known.{OnKnown}
use Rattle.gw_report.specs.points.Points.{points_text}
use Rattle.gw_tool_line.specs.declared.command_line.Choice.{Choice}
use Rattle.gw_tool_line.specs.declared.command_line.Choice.TheVariants as choice
use Rattle.gw_tool_line.specs.CommandLine.{IsAnswer}
use Rattle.gw_tool_line.specs.declared.options.Shown.{Shown}
use Rattle.gw_command_line.specs.declared.options.fault.WordsFault.{WordsFault}
use Rattle.gw_tools.specs.declared.asking.Answering.{Answering}
use Rattle.gw_ending.specs.declared.fault.Fault.{Fault}
use Rattle.gw_ending.specs.declared.fault.Fault.TheVariants as fault
use Rattle.gw_tools.specs.Asking.{Answers, Counts, ReportsUnread, asks_in}
use Rattle.gw_tools.specs.Placed.{IsPlacedIn}
use Rattle.gw_tools.specs.declared.comparing.Layout.TheVariants as layout
use Rattle.gw_tools.specs.declared.comparing.Limits.{Limits}
use Rattle.gw_tools.specs.declared.placed.Placed.{Placed}
use Rattle.gw_verdicts.specs.Why.{said_text}
use Rattle.gw_tools.specs.Ending.{PlaceBy, chosen, error_text_by, status_by, usage_of}
use Rattle.gw_tools.specs.Objects.{LeavesJudgedIn, Lists}
use Rattle.gw_tools.specs.Suggesting.{Suggests}
use Rattle.gw_policy_drafts.specs.declared.suggestion.suggestion.Manner.{Manner}
use Rattle.gw_tools.specs.Translating.{Translates}
use Rattle.gw_tools.specs.Checked.{SaysChecked}
use Rattle.gw_tools.specs.Comparing.{IsCompared, ReportsProgress, SaysCompared}
use Rattle.gw_tools.specs.Json.{IsMade, SaysCheckedInJson}
use Rattle.gw_tools.specs.Kept.{SaysStateIn}
use Rattle.gw_tools.specs.Questioning.{SaysAnswer, asked_text}
use Rattle.gw_tools.specs.Reloading.{Replying, SaysReloadIn, SaysStatus, SaysStopped}
use Rattle.gw_tools.specs.Reporting.{IsPageOf}
use Rattle.gw_tools.specs.Rewritten.{IsListed, SaysMigrated}
use Rattle.gw_tools.specs.Saying.{Prints, SaysIn, SaysMade, SaysOfBoth, SaysOfFile, SaysPlacedIn}
use Rattle.gw_tools.specs.Beginning.{SaysBegun, text_of}
use Rattle.gw_ending.specs.reading.Printing.{AppendsFront}

-- what the words of a call choose, or why they choose nothing
abbrev pub IsChoiceOf : List (List ℕ) → Result Choice Fault → Type 0
IsChoiceOf words choice = (read : Result Choice WordsFault) × IsAnswer words read × (choice ≡ chosen read)

-- What `suggest` leaves under the configuration of a text that was read. If there is none, the outcome is why.
abbrev pub LeavesSuggested : Manner → Option (List ℕ) → Option (List ℕ) → Option (List ℕ) → Result (List ℕ) Fault
    → Result (Unit {0}) Fault → Type 0
LeavesSuggested manner input held holds (Ok text) outcome =
    OnKnown input held holds (λ log before. Suggests text manner log before outcome)
LeavesSuggested manner input held holds (Err f) outcome = (outcome ≡ Err f) × (holds ≡ held)

-- What it leaves under that of the file of this name.
abbrev pub LeavesSuggestedIn : (Reads : List ℕ → Result (List ℕ) Fault → Type 0) → List ℕ → Manner → Option (List ℕ)
    → Option (List ℕ) → Option (List ℕ) → Result (Unit {0}) Fault → Type 0
LeavesSuggestedIn Reads file manner input held holds outcome =
    (text : Result (List ℕ) Fault) × Reads file text × LeavesSuggested manner input held holds text outcome

-- What `why` leaves by the rules of the configuration that was read, with the lines of its tables; or what it says if it counts. Where
-- there is none nothing is answered, and the outcome is why.
abbrev pub LeavesAnswered : Bool → Option (List ℕ) → Option (List ℕ) → Option (List ℕ)
    → Result Placed Fault → Result (Unit {0}) Fault → Type 0
LeavesAnswered false input held holds (Ok p) outcome =
    OnKnown input held holds (λ text before. Answers p.config.rules (said_text p.config p.lines.items) text before outcome)
LeavesAnswered true input held holds (Ok p) outcome =
    Prints (λ said. (text : List ℕ) → input ≡ Some text → SaysMade (Counts p.config.rules text) said) held holds outcome
LeavesAnswered counts input held holds (Err f) outcome = (outcome ≡ Err f) × (holds ≡ held)

-- What it leaves by those of the file of this name, and reports of the lines that show no ask.
abbrev pub LeavesAnsweredIn : (Reads : List ℕ → Result (List ℕ) Fault → Type 0) → List ℕ → Answering → Option (List ℕ)
    → Option (List ℕ) → Option (List ℕ) → (said : List ℕ) → Result (Unit {0}) Fault → Type 0
LeavesAnsweredIn Reads file how input held holds said outcome =
    (p : Result Placed Fault) × IsPlacedIn Reads file p
    × LeavesAnswered how.counts (asks_in how.strict input) held holds p outcome × ReportsUnread how.strict outcome said

-- What a log leaves that was opened, by what `Leaves` says of a log; or of why it wasn't.
abbrev pub LeavesOpened : (Leaves : List ℕ → List ℕ → Result (Unit {0}) Fault → List ℕ → Type 0)
    → Result (Option (List ℕ)) Fault → Option (List ℕ) → Option (List ℕ) → Result (Unit {0}) Fault → Type 0
LeavesOpened Leaves (Ok input) held holds outcome = OnKnown input held holds (λ log before. Leaves log before outcome)
LeavesOpened Leaves (Err f) held holds outcome = (outcome ≡ Err f) × (holds ≡ held)

-- What the log in the file of this name leaves, or that on standard input.
abbrev pub LeavesOfLog : (ReadsLog : List ℕ → Result (Option (List ℕ)) Fault → Type 0)
    → (Leaves : List ℕ → List ℕ → Result (Unit {0}) Fault → List ℕ → Type 0) → Option (List ℕ) → Option (List ℕ)
    → Option (List ℕ) → Option (List ℕ) → Result (Unit {0}) Fault → Type 0
LeavesOfLog ReadsLog Leaves None input held holds outcome =
    OnKnown input held holds (λ log before. Leaves log before outcome)
LeavesOfLog ReadsLog Leaves (Some file) input held holds outcome =
    (opened : Result (Option (List ℕ)) Fault) × ReadsLog file opened × LeavesOpened Leaves opened held holds outcome

-- What `reload` leaves: what it has printed when it says something, and that.
abbrev pub LeavesReload : (Reads : List ℕ → Result (List ℕ) Fault → Type 0) → Replying → (file request : List ℕ) → Option Shown
    → Option (List ℕ) → Option (List ℕ) → (reported : List ℕ) → Result (Unit {0}) Fault → Type 0
LeavesReload Reads Answers file request was held holds reported outcome =
    (mid : Option (List ℕ)) × Prints (SaysReloadIn Reads Answers file request was held mid reported) mid holds outcome

-- What `compare` leaves by the configurations of the files of these names, printed within these limits, and reports meanwhile.
abbrev pub LeavesCompared : (Reads : List ℕ → Result (List ℕ) Fault → Type 0) → (old new : List ℕ) → Limits
    → Option (List ℕ) → Option (List ℕ) → (reported : List ℕ) → Result (Unit {0}) Fault → Type 0
LeavesCompared Reads old new limits held holds reported outcome =
    (a : Result Placed Fault) × IsPlacedIn Reads old a
    × (b : Result Placed Fault) × IsPlacedIn Reads new b
    × Prints (SaysOfBoth (λ x y. SaysCompared (IsCompared limits x y)) a b) held holds outcome
    × ReportsProgress a b reported

-- What is on standard output, which held `held` before, if files give what `Reads`, `ReadsState` and `ReadsLog` say, and a request is
-- answered what `Answers` says: what each command says of what the files give, after what it reports, or what it leaves if it writes
-- as it reads; and at help its text, of which a failed write may leave a front. Words that choose nothing leave it as it was, and their
-- fault is the outcome.
abbrev pub LeavesOutput : (Reads ReadsState : List ℕ → Result (List ℕ) Fault → Type 0)
    → (ReadsLog : List ℕ → Result (Option (List ℕ)) Fault → Type 0) → Replying
    → Option (List ℕ) → Option (List ℕ) → Option (List ℕ) → List ℕ
    → Result Choice Fault → Result (Unit {0}) Fault → Type 0
LeavesOutput Reads ReadsState ReadsLog Answers input held holds reported (Ok (choice.Check file explains lints)) outcome =
    Prints (SaysOfFile Reads (string_bytes file) (SaysChecked explains lints)) held holds outcome
LeavesOutput Reads ReadsState ReadsLog Answers input held holds reported (Ok (choice.CheckJson file)) outcome =
    Prints (SaysOfFile Reads (string_bytes file) SaysCheckedInJson) held holds outcome
LeavesOutput Reads ReadsState ReadsLog Answers input held holds reported (Ok (choice.Migrate file)) outcome =
    Prints (SaysIn Reads (string_bytes file) SaysMigrated) held holds outcome
LeavesOutput Reads ReadsState ReadsLog Answers input held holds reported (Ok (choice.Why file counts strict)) outcome =
    LeavesAnsweredIn Reads (string_bytes file) (record { counts = counts; strict = strict }) input held holds reported outcome
LeavesOutput Reads ReadsState ReadsLog Answers input held holds reported (Ok (choice.Reload config request was)) outcome =
    LeavesReload Reads Answers (string_bytes config) (string_bytes request) was held holds reported outcome
LeavesOutput Reads ReadsState ReadsLog Answers input held holds reported (Ok (choice.Stop request waits)) outcome =
    Prints (SaysStopped Answers (string_bytes request)) held holds outcome
LeavesOutput Reads ReadsState ReadsLog Answers input held holds reported (Ok (choice.Status request waits)) outcome =
    Prints (SaysStatus Answers (string_bytes request)) held holds outcome
LeavesOutput Reads ReadsState ReadsLog Answers input held holds reported (Ok (choice.Compare old new most steps)) outcome =
    LeavesCompared Reads (string_bytes old) (string_bytes new) (record { most = most; layout = layout.Text steps })
    held holds reported outcome
LeavesOutput Reads ReadsState ReadsLog Answers input held holds reported (Ok (choice.CompareJson old new most)) outcome =
    LeavesCompared Reads (string_bytes old) (string_bytes new) (record { most = most; layout = layout.Json })
    held holds reported outcome
LeavesOutput Reads ReadsState ReadsLog Answers input held holds reported (Ok (choice.Points file)) outcome =
    Prints (SaysIn Reads (string_bytes file) (λ c. SaysMade (IsMade (points_text c)))) held holds outcome
LeavesOutput Reads ReadsState ReadsLog Answers input held holds reported (Ok (choice.Rules file)) outcome =
    Prints (SaysPlacedIn Reads (string_bytes file) (λ p. SaysMade (IsListed p))) held holds outcome
LeavesOutput Reads ReadsState ReadsLog Answers input held holds reported (Ok (choice.State config state)) outcome =
    Prints (SaysStateIn Reads ReadsState (string_bytes config) (string_bytes state)) held holds outcome
LeavesOutput Reads ReadsState ReadsLog Answers input held holds reported (Ok (choice.Suggest file fills exact)) outcome =
    LeavesSuggestedIn Reads (string_bytes file) (record { keeps_services = exact; fills = fills }) (asks_in false input) held holds outcome
    × ReportsUnread false outcome reported
LeavesOutput Reads ReadsState ReadsLog Answers input held holds reported (Ok (choice.Log file start)) outcome =
    LeavesOfLog ReadsLog (Translates start) (option_map string_bytes file) input held holds outcome
LeavesOutput Reads ReadsState ReadsLog Answers input held holds reported (Ok (choice.Objects file)) outcome =
    LeavesOfLog ReadsLog Lists (option_map string_bytes file) input held holds outcome
LeavesOutput Reads ReadsState ReadsLog Answers input held holds reported (Ok (choice.Judge file strict)) outcome =
    LeavesJudgedIn Reads (string_bytes file) (asks_in strict input) held holds outcome × ReportsUnread strict outcome reported
LeavesOutput Reads ReadsState ReadsLog Answers input held holds reported (Ok (choice.Report file log)) outcome =
    Prints (SaysPlacedIn Reads (string_bytes file) (λ p. SaysMade (IsPageOf ReadsLog (option_map string_bytes log) p))) held holds outcome
LeavesOutput Reads ReadsState ReadsLog Answers input held holds reported (Ok (choice.Ask file from to deed)) outcome =
    Prints (SaysIn Reads (string_bytes file) (SaysAnswer (asked_text (string_bytes from) (option_map string_bytes to) deed)))
    held holds outcome
LeavesOutput Reads ReadsState ReadsLog Answers input held holds reported (Ok (choice.Init words)) outcome =
    Prints (SaysBegun (text_of words) reported) held holds outcome
LeavesOutput Reads ReadsState ReadsLog Answers input held holds reported (Ok (choice.Help text)) (Ok done) =
    Appends held holds (string_bytes text)
LeavesOutput Reads ReadsState ReadsLog Answers input held holds reported (Ok (choice.Help text)) (Err f) =
    (f ≡ fault.Write) × AppendsFront held holds (string_bytes text)
LeavesOutput Reads ReadsState ReadsLog Answers input held holds reported (Ok (choice.Usage text)) outcome =
    (outcome ≡ Err fault.CommandLine) × (holds ≡ held)
LeavesOutput Reads ReadsState ReadsLog Answers input held holds reported (Err f) outcome = (outcome ≡ Err f) × (holds ≡ held)

-- Only `why`, `suggest`, `compare`, `reload` and `init` report something before a fault's line.
abbrev pub IsQuiet : Result Choice Fault → List ℕ → Type 0
IsQuiet (Ok (choice.Why file counts strict)) said = ⊤
IsQuiet (Ok (choice.Judge file strict)) said = ⊤
IsQuiet (Ok (choice.Suggest file fills exact)) said = ⊤
IsQuiet (Ok (choice.Compare old new most steps)) said = ⊤
IsQuiet (Ok (choice.CompareJson old new most)) said = ⊤
IsQuiet (Ok (choice.Reload config request was)) said = ⊤
IsQuiet (Ok (choice.Init words)) said = ⊤
IsQuiet _ said = said ≡ []

-- What was done by a choice. `Leaves` is what is on standard output, with what was reported at the start, and `Adds`
-- what standard error is given.
pub record IsFollowed (Leaves : List ℕ → Result Choice Fault → Result (Unit {0}) Fault → Type 0)
    (Adds : List ℕ → Type 0) (choice : Result Choice Fault) (outcome : Result (Unit {0}) Fault) : Type 0 where
  pub said : List ℕ
  pub output : Leaves said choice outcome
  pub quiet : IsQuiet choice said
  pub errors : Adds said

-- One run of the program. `Reads` is what files give, `Chooses` what the words ask for, `Leaves` what is on standard output at a choice
-- and an outcome, with what was reported at the start, `is` what of it isn't flushed then, and `Adds` what standard error is
-- given.
pub record IsRun (Reads : List ℕ → Result (List ℕ) Fault → Type 0) (Chooses : Result Choice Fault → Type 0)
    (Leaves : List ℕ → Result Choice Fault → Result (Unit {0}) Fault → Type 0)
    (is : List ℕ) (Adds : List ℕ → Type 0)
    (exit : ℕ) : Type 0 where
  pub choice : Result Choice Fault
  pub outcome : Result (Unit {0}) Fault
  pub said : List ℕ
  pub words : Chooses choice
  pub output : Leaves said choice outcome
  pub quiet : IsQuiet choice said
  pub flush : OnOk outcome (is ≡ [])
  pub place : List ℕ
  pub placed : PlaceBy Reads choice outcome place
  pub errors : Adds (said ++ place ++ error_text_by choice outcome ++ usage_of choice)
  pub status : exit ≡ status_by choice outcome
