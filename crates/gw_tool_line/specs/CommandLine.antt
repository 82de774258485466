-- Which words the program takes, and what it makes of them. `fault_of` of the crate `clap` lists the kinds of fault
-- that a parser finds at some words, and is empty if it takes them.
use Rattle.std.specs.Prelude.{◌≡◌, ◌⊎◌, ⊤, ℕ, List, [], Option, Some, None, Result, Ok, Err, codes, map, option_map, string_bytes}
use Rattle.clap.specs.Words.{IsAmong, Text, fault_of, matched_of, raw_values}
use Rattle.clap.specs.declared.parser.matches.Found.{Found}
use Rattle.clap.specs.declared.error.kind.ErrorKind.{ErrorKind}
use Rattle.clap.specs.declared.error.kind.ErrorKind.TheVariants as parse
use Rattle.gw_log_words.specs.Moment.{IsTextOf}
use Rattle.gw_log_words.specs.declared.moment.Moment.{Moment}
use Rattle.gw_tool_line.specs.Commands.{commands}
use Rattle.gw_tool_line.specs.Requests.{AllValues, Asks, Begins, Calls, Deed, Looks, Reads, Registers, Writes, listed}
use Rattle.gw_command_line.specs.options.Values.{Values}
use Rattle.gw_tool_line.specs.declared.ask_choice.DeedWords.{DeedWords}
use Rattle.gw_tool_line.specs.declared.ask_choice.Unclear.{Unclear}
use Rattle.gw_tool_line.specs.declared.ask_choice.DeedWords.TheVariants as said
use Rattle.gw_tool_line.specs.Requests.{Checks, ChecksJson, Compares, ComparesJson, Explains, Judges, ListsLog, ListsPoints, ListsRules}
use Rattle.gw_tool_line.specs.Requests.{Migrates, Reloads, Reports, Request, Shows, Stops, Suggests, Tells, TranslatesLog, asked_in}
use Rattle.gw_tool_line.specs.declared.command_line.Choice.{Choice}
use Rattle.gw_tool_line.specs.declared.command_line.Choice.TheVariants as choice
use Rattle.gw_tool_line.specs.declared.options.Shown.{Shown}
use Rattle.gw_command_line.specs.options.Parses.{IsShown, IsWrong}
use Rattle.gw_command_line.specs.declared.options.fault.WordsFault.{WordsFault}
use Rattle.gw_command_line.specs.declared.options.fault.WordsFault.TheVariants as fault

-- the moment at which a log began: what the text says, and none if there is none
abbrev pub IsStart : Option Text → Option Moment → Type 0
IsStart None start = start ≡ None
IsStart (Some text) (Some m) = IsTextOf text m
IsStart (Some text) None = ⊥

-- The text says no such moment, which makes a bad command line.
abbrev pub IsNoStart : Option Text → WordsFault → Type 0
IsNoStart given f = (f ≡ fault.CommandLine) × ((start : Option Moment) → ¬ (IsStart given start))

-- what is compared before a reload: the file of the old configuration, and the most lines
abbrev pub was_of : Shown → Text × ℕ
was_of shown = (string_bytes shown.old, shown.most)

-- the values of each option, of all its uses
abbrev pub values_of : Found → AllValues
values_of found id = listed (option_map raw_values (matched_of found id))

-- what a station asks for
abbrev pub deed_of : DeedWords → Deed
deed_of (said.Read object) = Reads (string_bytes object)
deed_of (said.Write object priority) = Writes (string_bytes object) (option_map string_bytes priority)
deed_of (said.Serve service) = Calls (string_bytes service)
deed_of said.WhoIs = Looks
deed_of said.Register = Registers

-- the same where it is perhaps unclear, and where there is perhaps none
abbrev pub deed_view : Result DeedWords Unclear → Result Deed Unclear
deed_view (Ok deed) = Ok (deed_of deed)
deed_view (Err u) = Err u

abbrev pub one_view : Result (Option DeedWords) Unclear → Result (Option Deed) Unclear
one_view (Ok one) = Ok (option_map deed_of one)
one_view (Err u) = Err u

-- a choice is what was asked for
abbrev pub IsFor : Request → Choice → Type 0
IsFor request (choice.Check file explains lints) = request ≡ Checks (string_bytes file) explains lints
IsFor request (choice.CheckJson file) = request ≡ ChecksJson (string_bytes file)
IsFor request (choice.Migrate file) = request ≡ Migrates (string_bytes file)
IsFor request (choice.Why file counts strict) = request ≡ Explains (string_bytes file) counts strict
IsFor request (choice.Compare old new most steps) = request ≡ Compares (string_bytes old) (string_bytes new) most steps
IsFor request (choice.CompareJson old new most) = request ≡ ComparesJson (string_bytes old) (string_bytes new) most
IsFor request (choice.State config state) = request ≡ Shows (string_bytes config) (string_bytes state)
IsFor request (choice.Suggest file fills exact) = request ≡ Suggests (string_bytes file) fills exact
IsFor request (choice.Reload config file was) = request ≡ Reloads (string_bytes config) (string_bytes file) (option_map was_of was)
IsFor request (choice.Log file start) =
    (text : Option Text) × (request ≡ TranslatesLog (option_map string_bytes file) text) × IsStart text start
IsFor request (choice.Objects file) = request ≡ ListsLog (option_map string_bytes file)
IsFor request (choice.Judge file strict) = request ≡ Judges (string_bytes file) strict
IsFor request (choice.Report file log) = request ≡ Reports (string_bytes file) (option_map string_bytes log)
IsFor request (choice.Points file) = request ≡ ListsPoints (string_bytes file)
IsFor request (choice.Rules file) = request ≡ ListsRules (string_bytes file)
IsFor request (choice.Stop file waits) = request ≡ Stops (string_bytes file) waits
IsFor request (choice.Status file waits) = request ≡ Tells (string_bytes file) waits
IsFor request (choice.Ask file from to deed) =
    request ≡ Asks (string_bytes file) (string_bytes from) (option_map string_bytes to) (deed_of deed)
IsFor request (choice.Init words) =
    request ≡ Begins (map string_bytes words.ports.items) (map string_bytes words.peers.items) (map string_bytes words.routers.items)
    (map string_bytes words.operators.items) (map string_bytes words.managers.items)
IsFor request (choice.Help text) = ⊥
IsFor request (choice.Usage text) = ⊥

-- No choice is what was asked for: the text at which the log is to have begun is no moment.
abbrev pub IsVoid : Request → Type 0
IsVoid (TranslatesLog file text) = (start : Option Moment) → ¬ (IsStart text start)
IsVoid _ = ⊥

-- what is said of a start that is no moment
abbrev pub no_moment : Text
no_moment = codes "--start takes a moment, as 2026-11-25T08:00:00+01:00\n"

-- A choice is what a call asks for, and a bad command line is a call that asks for nothing or for what can't be, with the line
-- that says why, if there is one; memory may run out at any.
abbrev pub IsChosen : Result Request Text → Result Choice WordsFault → Type 0
IsChosen (Ok request) (Ok (choice.Usage text)) = IsVoid request × (string_bytes text ≡ no_moment)
IsChosen (Ok request) (Ok choice) = IsFor request choice
IsChosen (Err line) (Ok (choice.Usage text)) = string_bytes text ≡ line
IsChosen (Err line) (Ok _) = ⊥
IsChosen (Ok request) (Err fault.CommandLine) = ⊥
IsChosen (Err line) (Err fault.CommandLine) = line ≡ []
IsChosen asked (Err fault.Memory) = ⊤

-- what the program makes of a parse that failed: help or the version if that was asked for, and else a bad command
-- line, with how the program is called if there is memory for it; memory may have run out in the parse, or for the
-- help
abbrev pub IsRefusal : ErrorKind → Result Choice WordsFault → Type 0
IsRefusal kind (Ok (choice.Help text)) = IsShown kind
IsRefusal kind (Ok (choice.Usage text)) = IsWrong kind
IsRefusal kind (Ok _) = ⊥
IsRefusal kind (Err fault.CommandLine) = IsWrong kind
IsRefusal kind (Err fault.Memory) = (kind ≡ parse.OutOfMemory) ⊎ IsShown kind

-- the parser takes the words, and this is what they call
abbrev pub IsTaken : List Text → Result Choice WordsFault → Type 0
IsTaken words chosen = (fault_of commands words ≡ []) × IsChosen (asked_in words) chosen

-- the parser finds help or the version asked for among the words
abbrev pub AsksToShow : List Text → Type 0
AsksToShow words = (k : ErrorKind) × IsAmong k (fault_of commands words) × IsShown k

-- the parser finds a fault in the words that is no request for help or the version
abbrev pub IsMistake : List Text → Type 0
IsMistake words = (k : ErrorKind) × IsAmong k (fault_of commands words) × IsWrong k

-- what the program makes of words: what they call if the parser takes them, or why they call nothing; help or the version if
-- that was asked for, a bad command line if there is another fault; memory may run out at any words, since what parses them
-- is made first
abbrev pub IsAnswer : List Text → Result Choice WordsFault → Type 0
IsAnswer words (Ok (choice.Help text)) = AsksToShow words
IsAnswer words (Ok (choice.Usage text)) = IsMistake words ⊎ IsTaken words (Ok (choice.Usage text))
IsAnswer words (Ok choice) = IsTaken words (Ok choice)
IsAnswer words (Err fault.CommandLine) = IsMistake words ⊎ IsTaken words (Err fault.CommandLine)
IsAnswer words (Err fault.Memory) = ⊤

-- the parser takes the words, which ask for this
pub record AskFor (words : List Text) (request : Request) : Type 0 where
  pub taken : fault_of commands words ≡ []
  pub asked : asked_in words ≡ Ok request
  pub sound : ¬ (IsVoid request)

-- it is chosen, or memory ran out
abbrev pub Chooses : Request → Result Choice WordsFault → Type 0
Chooses request (Ok choice) = IsFor request choice
Chooses request (Err fault.CommandLine) = ⊥
Chooses request (Err fault.Memory) = ⊤
