-- How the program ends after a choice.
use Rattle.std.specs.Prelude.{◌≡◌, ℕ, Bool, true, false, List, [], codes, Some, Result, Ok, Err, string_bytes}
use Rattle.std.specs.Option.{option_map_or}
use Rattle.gw_tool_line.specs.declared.command_line.Choice.{Choice}
use Rattle.gw_tool_line.specs.declared.command_line.Choice.TheVariants as choice
use Rattle.gw_command_line.specs.declared.options.fault.WordsFault.{WordsFault}
use Rattle.gw_configuration.specs.declared.fault.ConfigFault.{ConfigFault}
use Rattle.gw_ending.specs.Ending.{fault_of_words, line_by, status_after}
use Rattle.gw_ending.specs.reading.Places.{PlaceText}
use Rattle.gw_ending.specs.declared.fault.Fault.{Fault}
use Rattle.gw_ending.specs.declared.fault.Fault.TheVariants as fault

-- the file that the configuration of a choice is read from, or the first of two; nothing if it names none
abbrev pub first_file : Result Choice Fault → List ℕ
first_file (Ok (choice.Check file explains lints)) = string_bytes file
first_file (Ok (choice.CheckJson file)) = string_bytes file
first_file (Ok (choice.Migrate file)) = string_bytes file
first_file (Ok (choice.Why file counts strict)) = string_bytes file
first_file (Ok (choice.Compare old new most steps)) = string_bytes old
first_file (Ok (choice.CompareJson old new most)) = string_bytes old
first_file (Ok (choice.State config state)) = string_bytes config
first_file (Ok (choice.Reload config request was)) = string_bytes config
first_file (Ok (choice.Suggest file fills exact)) = string_bytes file
first_file (Ok (choice.Judge file strict)) = string_bytes file
first_file (Ok (choice.Report file log)) = string_bytes file
first_file (Ok (choice.Points file)) = string_bytes file
first_file (Ok (choice.Rules file)) = string_bytes file
first_file (Ok (choice.Ask file from to deed)) = string_bytes file
first_file _ = []

-- the file of the configuration that it is compared with
abbrev pub other_file : Result Choice Fault → List ℕ
other_file (Ok (choice.Compare old new most steps)) = string_bytes new
other_file (Ok (choice.CompareJson old new most)) = string_bytes new
other_file (Ok (choice.Reload config request (Some shown))) = string_bytes shown.old
other_file _ = []

-- the file of the log
abbrev pub log_file : Result Choice Fault → List ℕ
log_file (Ok (choice.Log (Some file) start)) = string_bytes file
log_file (Ok (choice.Objects (Some file))) = string_bytes file
log_file (Ok (choice.Report file log)) = option_map_or string_bytes log []
log_file _ = []

-- the file of the state
abbrev pub state_file : Result Choice Fault → List ℕ
state_file (Ok (choice.State config state)) = string_bytes state
state_file _ = []

-- the file that a fault is of, if it names one
abbrev pub file_of : Result Choice Fault → Fault → List ℕ
file_of choice (fault.Unreadable why) = first_file choice
file_of choice (fault.OtherUnreadable why) = other_file choice
file_of choice (fault.LogUnreadable why) = log_file choice
file_of choice (fault.StateUnreadable why) = state_file choice
file_of choice f = []

-- `check`, `explain` and `lint` print on standard output where a fault is
abbrev pub explains_itself : Result Choice Fault → Bool
explains_itself (Ok (choice.Check file explains lints)) = true
explains_itself (Ok (choice.CheckJson file)) = true
explains_itself _ = false

-- where the fault of the configuration of a choice is, unless that was printed; or of the one that it is compared with
abbrev pub PlaceIf : (is_printed : Bool) → (Reads : List ℕ → Result (List ℕ) Fault → Type 0) → (file : List ℕ) → ConfigFault
    → (place : List ℕ) → Type 0
PlaceIf true Reads file f place = place ≡ []
PlaceIf false Reads file f place = PlaceText Reads file f place

abbrev pub PlaceBy : (Reads : List ℕ → Result (List ℕ) Fault → Type 0) → Result Choice Fault → Result (Unit {0}) Fault
    → (place : List ℕ) → Type 0
PlaceBy Reads choice (Err (fault.Configuration f)) place = PlaceIf (explains_itself choice) Reads (first_file choice) f place
PlaceBy Reads choice (Err (fault.OtherConfiguration f)) place = PlaceText Reads (other_file choice) f place
PlaceBy Reads choice outcome place = place ≡ []

-- that is reported
abbrev pub ReportsPlaceBy : (Reads : List ℕ → Result (List ℕ) Fault → Type 0) → Result Choice Fault → Result (Unit {0}) Fault
    → (Adds : List ℕ → Type 0) → Type 0
ReportsPlaceBy Reads choice outcome Adds = (place : List ℕ) × PlaceBy Reads choice outcome place × Adds place

-- the line on standard error after a choice, if there is a fault: it names the file that can't be read
abbrev pub error_text_by : Result Choice Fault → Result (Unit {0}) Fault → List ℕ
error_text_by choice (Ok done) = []
error_text_by choice (Err of_program) = line_by (codes "bacgwctl") (file_of choice of_program) of_program

-- of `compare`: 1 if an ask may be decided otherwise, 3 if only other parts differ, and 2 at any other fault
abbrev pub status_of_comparison : Fault → ℕ
status_of_comparison fault.Different = 1
status_of_comparison fault.OtherParts = 3
status_of_comparison _ = 2

-- the exit status after a choice
abbrev pub status_by : Result Choice Fault → Result (Unit {0}) Fault → ℕ
status_by (Ok (choice.Compare old new most steps)) (Err of_program) = status_of_comparison of_program
status_by (Ok (choice.CompareJson old new most)) (Err of_program) = status_of_comparison of_program
status_by _ outcome = status_after outcome

-- what words choose, or why they choose nothing, as the program reports it
abbrev pub chosen : Result Choice WordsFault → Result Choice Fault
chosen (Ok choice) = Ok choice
chosen (Err f) = Err (fault_of_words f)

-- what is reported after the line of words that are no command line: how the program is called
abbrev pub usage_of : Result Choice Fault → List ℕ
usage_of (Ok (choice.Usage text)) = string_bytes text
usage_of _ = []
