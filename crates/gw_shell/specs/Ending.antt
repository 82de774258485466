-- How the program ends after a choice.
use Rattle.std.specs.Prelude.{◌≡◌, ℕ, Bool, true, false, List, [], codes, Some, Result, Ok, Err, string_bytes}
use Rattle.std.specs.Option.{option_map_or}
use Rattle.gw_command_line.specs.declared.command_line.Choice.{Choice}
use Rattle.gw_command_line.specs.declared.command_line.Choice.TheVariants as choice
use Rattle.gw_command_line.specs.declared.options.fault.WordsFault.{WordsFault}
use Rattle.gw_configuration.specs.declared.fault.ConfigFault.{ConfigFault}
use Rattle.gw_configuration.specs.declared.run_options.RunOptions.{RunOptions}
use Rattle.gw_ending.specs.Ending.{fault_of_words, line_by}
use Rattle.gw_ending.specs.reading.Places.{PlaceText}
use Rattle.gw_watchers.specs.declared.files.fault.TrialFault.{TrialFault}
use Rattle.gw_watchers.specs.declared.files.fault.TrialFault.TheVariants as trial
use Rattle.gw_ending.specs.declared.fault.Fault.{Fault}
use Rattle.gw_ending.specs.declared.fault.Fault.TheVariants as fault

-- the file that the configuration of a choice is read from; nothing if it names none
abbrev pub first_file : Result Choice Fault → List ℕ
first_file (Ok (choice.Check file)) = string_bytes file
first_file (Ok (choice.Replay (Some file) explains counts)) = string_bytes file
first_file (Ok (choice.Run options)) = string_bytes options.config
first_file _ = []

-- the file of the policy that is to be on trial
abbrev pub trial_file : Result Choice Fault → List ℕ
trial_file (Ok (choice.Run options)) = option_map_or string_bytes options.trial []
trial_file _ = []

-- the file that a fault of `run` is of; nothing if it has none
abbrev pub file_of_run : RunOptions → Fault → List ℕ
file_of_run options (fault.StateUnreadable why) = option_map_or string_bytes options.state []
file_of_run options (fault.Store why) = option_map_or string_bytes options.state []
file_of_run options (fault.Trial trial.Log) = option_map_or string_bytes options.trial_log []
file_of_run options (fault.Trial f) = option_map_or string_bytes options.trial []
file_of_run options fault.Log = option_map_or string_bytes options.log []
file_of_run options fault.Audit = option_map_or string_bytes options.audit []
file_of_run options (fault.Metrics why) = option_map_or string_bytes options.metrics []
file_of_run options f = []

-- the file that a fault is of, if it names one
abbrev pub file_of : Result Choice Fault → Fault → List ℕ
file_of choice (fault.Unreadable why) = first_file choice
file_of (Ok (choice.Run options)) f = file_of_run options f
file_of choice f = []

-- `check` prints on standard output where a fault is
abbrev pub explains_itself : Result Choice Fault → Bool
explains_itself (Ok (choice.Check file)) = true
explains_itself _ = false

-- where the fault of the configuration of a choice is, unless that was printed; or of the one on trial
abbrev pub PlaceIf : (is_printed : Bool) → (Reads : List ℕ → Result (List ℕ) Fault → Type 0) → (file : List ℕ) → ConfigFault
    → (place : List ℕ) → Type 0
PlaceIf true Reads file f place = place ≡ []
PlaceIf false Reads file f place = PlaceText Reads file f place

abbrev pub PlaceBy : (Reads : List ℕ → Result (List ℕ) Fault → Type 0) → Result Choice Fault → Result (Unit {0}) Fault
    → (place : List ℕ) → Type 0
PlaceBy Reads choice (Err (fault.Configuration f)) place = PlaceIf (explains_itself choice) Reads (first_file choice) f place
PlaceBy Reads choice (Err (fault.Trial (trial.Configuration f))) place = PlaceText Reads (trial_file choice) f place
PlaceBy Reads choice outcome place = place ≡ []

-- that is reported
abbrev pub ReportsPlaceBy : (Reads : List ℕ → Result (List ℕ) Fault → Type 0) → Result Choice Fault → Result (Unit {0}) Fault
    → (Adds : List ℕ → Type 0) → Type 0
ReportsPlaceBy Reads choice outcome Adds = (place : List ℕ) × PlaceBy Reads choice outcome place × Adds place

-- the line on standard error after a choice, if there is a fault: it names the file that can't be read or written
abbrev pub error_text_by : Result Choice Fault → Result (Unit {0}) Fault → List ℕ
error_text_by choice (Ok done) = []
error_text_by choice (Err of_program) = line_by (codes "bacgw") (file_of choice of_program) of_program

-- what words choose, or why they choose nothing, as the program reports it
abbrev pub chosen : Result Choice WordsFault → Result Choice Fault
chosen (Ok choice) = Ok choice
chosen (Err f) = Err (fault_of_words f)

-- what is reported after the line of words that are no command line: how the program is called
abbrev pub usage_of : Result Choice Fault → List ℕ
usage_of (Ok (choice.Usage text)) = string_bytes text
usage_of _ = []
