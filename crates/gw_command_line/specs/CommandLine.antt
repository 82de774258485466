-- Which words the program takes, and what it makes of them. `fault_of` of the crate `clap` lists the kinds of fault
-- that a parser finds at some words, and is empty if it takes them.
use Rattle.std.specs.Prelude.{◌≡◌, ◌⊎◌, ⊤, List, [], Result, Ok, Err, option_map, string_bytes}
use Rattle.clap.specs.Words.{IsAmong, Text, fault_of}
use Rattle.clap.specs.declared.error.kind.ErrorKind.{ErrorKind}
use Rattle.clap.specs.declared.error.kind.ErrorKind.TheVariants as parse
use Rattle.gw_command_line.specs.Commands.{commands}
use Rattle.gw_command_line.specs.Requests.{Checks, Replays, Request, Serves, Service, asked_in}
use Rattle.gw_command_line.specs.declared.command_line.Choice.{Choice}
use Rattle.gw_command_line.specs.declared.command_line.Choice.TheVariants as choice
use Rattle.gw_configuration.specs.declared.run_options.RunOptions.{RunOptions}
use Rattle.gw_command_line.specs.options.Parses.{IsShown, IsWrong}
use Rattle.gw_command_line.specs.declared.options.fault.WordsFault.{WordsFault}
use Rattle.gw_command_line.specs.declared.options.fault.WordsFault.TheVariants as fault

-- what `run` is asked for by its options
abbrev pub service : RunOptions → Service
service options = record {
  config = string_bytes options.config;
  log = option_map string_bytes options.log;
  holds = options.holds;
  turns = options.turns;
  verbose = options.verbose;
  stats = options.stats;
  stats_rules = options.stats_rules;
  state = option_map string_bytes options.state;
  reload = option_map string_bytes options.reload;
  trial = option_map string_bytes options.trial;
  trial_log = option_map string_bytes options.trial_log;
  trial_all = options.trial_all;
  audit = option_map string_bytes options.audit;
  stamp = options.stamp;
  metrics = option_map string_bytes options.metrics;
}

-- a choice is what was asked for
abbrev pub IsFor : Request → Choice → Type 0
IsFor request (choice.Check file) = request ≡ Checks (string_bytes file)
IsFor request (choice.Replay file explains counts) = request ≡ Replays (option_map string_bytes file) explains counts
IsFor request (choice.Run options) = request ≡ Serves (service options)
IsFor request (choice.Help text) = ⊥
IsFor request (choice.Usage text) = ⊥

-- A choice is what a call asks for, and a bad command line is a call that asks for nothing, with the line that says why, if
-- there is one; memory may run out at any.
abbrev pub IsChosen : Result Request Text → Result Choice WordsFault → Type 0
IsChosen (Ok request) (Ok choice) = IsFor request choice
IsChosen (Err line) (Ok (choice.Usage text)) = string_bytes text ≡ line
IsChosen (Err line) (Ok _) = ⊥
IsChosen (Ok request) (Err fault.CommandLine) = ⊥
IsChosen (Err line) (Err fault.CommandLine) = line ≡ []
IsChosen asked (Err fault.Memory) = ⊤

-- what the program makes of a parse that failed: help or the version if that was asked for, and else a bad command
-- line, with how the program is called if there is memory for it; memory may have run out in the parse, or for the
-- help
abbrev pub IsRefusal : ErrorKind → Result Choice WordsFault → Type 0
IsRefusal kind (Ok (choice.Help text)) = IsShown kind
IsRefusal kind (Ok (choice.Usage text)) = IsWrong kind
IsRefusal kind (Ok _) = ⊥
IsRefusal kind (Err fault.CommandLine) = IsWrong kind
IsRefusal kind (Err fault.Memory) = (kind ≡ parse.OutOfMemory) ⊎ IsShown kind

-- the parser takes the words, and this is what they call
abbrev pub IsTaken : List Text → Result Choice WordsFault → Type 0
IsTaken words chosen = (fault_of commands words ≡ []) × IsChosen (asked_in words) chosen

-- the parser finds help or the version asked for among the words
abbrev pub AsksToShow : List Text → Type 0
AsksToShow words = (k : ErrorKind) × IsAmong k (fault_of commands words) × IsShown k

-- the parser finds a fault in the words that is no request for help or the version
abbrev pub IsMistake : List Text → Type 0
IsMistake words = (k : ErrorKind) × IsAmong k (fault_of commands words) × IsWrong k

-- what the program makes of words: what they call if the parser takes them, or why they call nothing; help or the version if
-- that was asked for, a bad command line if there is another fault; memory may run out at any words, since what parses them
-- is made first
abbrev pub IsAnswer : List Text → Result Choice WordsFault → Type 0
IsAnswer words (Ok (choice.Help text)) = AsksToShow words
IsAnswer words (Ok (choice.Usage text)) = IsMistake words ⊎ IsTaken words (Ok (choice.Usage text))
IsAnswer words (Ok choice) = IsTaken words (Ok choice)
IsAnswer words (Err fault.CommandLine) = IsMistake words ⊎ IsTaken words (Err fault.CommandLine)
IsAnswer words (Err fault.Memory) = ⊤

-- the parser takes the words, which ask for this
pub record AskFor (words : List Text) (request : Request) : Type 0 where
  pub taken : fault_of commands words ≡ []
  pub asked : asked_in words ≡ Ok request

-- it is chosen, or memory ran out
abbrev pub Chooses : Request → Result Choice WordsFault → Type 0
Chooses request (Ok choice) = IsFor request choice
Chooses request (Err fault.CommandLine) = ⊥
Chooses request (Err fault.Memory) = ⊤
