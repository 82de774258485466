-- Worked command lines: what words ask for, and which ask for nothing, whatever the program's name is.
use Rattle.std.specs.Prelude.{◌≡◌, true, false, List, [], ◌∷◌, Some, None, Err, codes}
use Rattle.clap.specs.Words.{Text, fault_of}
use Rattle.clap.specs.declared.error.kind.ErrorKind.TheVariants as parse
use Rattle.gw_tool_line.specs.CommandLine.{AskFor}
use Rattle.gw_tool_line.specs.Commands.{commands}
use Rattle.gw_tool_line.specs.Requests.{Asks, Begins, Calls as Serves, Looks, Reads, Registers, Writes, Checks, ChecksJson, Compares}
use Rattle.gw_tool_line.specs.Requests.{ComparesJson, Explains, Judges, ListsLog, ListsPoints, ListsRules, Migrates, Reloads, Reports}
use Rattle.gw_tool_line.specs.Requests.{Request, Shows, Stops, Suggests, Tells, TranslatesLog, asked_in}
use Rattle.gw_command_line.specs.options.Options.{most_count}

-- these words, after the program's name, ask for this
abbrev pub Calls : List Text → Request → Type 0
Calls words request = (program : Text) → AskFor (program ∷ words) request

-- these words, after the program's name, are taken by the parser and ask for nothing, as this line says
abbrev pub Mistakes : List Text → Text → Type 0
Mistakes words line = (program : Text) → (fault_of commands (program ∷ words) ≡ []) × (asked_in (program ∷ words) ≡ Err line)

-- these words, after the program's name, have a value that isn't a number in its range
abbrev pub OutOfRange : List Text → Type 0
OutOfRange words = (program : Text) → fault_of commands (program ∷ words) ≡ parse.ValueValidation ∷ []

-- the words `--config site.toml`
abbrev pub on_site : List Text → List Text
on_site words = codes "--config" ∷ codes "site.toml" ∷ words

abbrev pub site : Text
site = codes "site.toml"

pub record CallsAreTaken : Type 0 where
  pub check : Calls (codes "check" ∷ on_site []) (Checks site false false)
  pub explain : Calls (codes "explain" ∷ on_site []) (Checks site true false)
  pub explain_lint : Calls (codes "explain" ∷ on_site (codes "--lint" ∷ [])) (Checks site true true)
  pub lint : Calls (codes "lint" ∷ on_site []) (Checks site false true)
  pub migrate : Calls (codes "migrate" ∷ on_site []) (Migrates site)
  pub check_json : Calls (codes "check" ∷ on_site (codes "--json" ∷ [])) (ChecksJson site)
  pub why : Calls (codes "why" ∷ on_site []) (Explains site false false)
  pub why_count : Calls (codes "why" ∷ on_site (codes "--count" ∷ [])) (Explains site true false)
  pub why_strict : Calls (codes "why" ∷ on_site (codes "--strict" ∷ [])) (Explains site false true)
  pub compare : Calls
      (codes "compare" ∷ on_site (codes "--with" ∷ codes "new.toml" ∷ []))
      (Compares site (codes "new.toml") most_count false)
  pub compare_steps : Calls
      (codes "compare" ∷ on_site (codes "--with" ∷ codes "new.toml" ∷ codes "--most" ∷ codes "20" ∷ codes "--steps" ∷ []))
      (Compares site (codes "new.toml") 20 true)
  pub compare_json : Calls
      (codes "compare" ∷ on_site (codes "--with" ∷ codes "new.toml" ∷ codes "--json" ∷ []))
      (ComparesJson site (codes "new.toml") most_count)
  pub state : Calls (codes "state" ∷ on_site (codes "--state" ∷ codes "state.txt" ∷ [])) (Shows site (codes "state.txt"))
  pub suggest : Calls (codes "suggest" ∷ on_site []) (Suggests site false false)
  pub suggest_whole : Calls (codes "suggest" ∷ on_site (codes "--fill" ∷ codes "--exact" ∷ [])) (Suggests site true true)
  pub reload : Calls (codes "reload" ∷ on_site (codes "--reload" ∷ codes "again" ∷ [])) (Reloads site (codes "again") None)
  pub reload_shown : Calls
      (codes "reload" ∷ on_site (codes "--reload" ∷ codes "again" ∷ codes "--was" ∷ codes "old.toml" ∷ []))
      (Reloads site (codes "again") (Some (codes "old.toml", most_count)))
  pub reload_few : Calls
      (codes "reload" ∷ on_site (codes "--reload" ∷ codes "again" ∷ codes "--was" ∷ codes "old.toml" ∷ codes "--most" ∷ codes "20" ∷ []))
      (Reloads site (codes "again") (Some (codes "old.toml", 20)))
  pub report : Calls (codes "report" ∷ on_site (codes "--log" ∷ codes "denials.log" ∷ [])) (Reports site (Some (codes "denials.log")))
  pub points : Calls (codes "objects" ∷ on_site (codes "--csv" ∷ [])) (ListsPoints site)
  pub rules : Calls (codes "rules" ∷ on_site []) (ListsRules site)
  pub stop : Calls (codes "stop" ∷ codes "--reload" ∷ codes "again" ∷ []) (Stops (codes "again") false)
  pub stop_waiting : Calls (codes "stop" ∷ codes "--reload" ∷ codes "again" ∷ codes "--wait" ∷ []) (Stops (codes "again") true)
  pub status : Calls (codes "status" ∷ codes "--reload" ∷ codes "again" ∷ []) (Tells (codes "again") false)
  pub status_waiting : Calls (codes "status" ∷ codes "--reload" ∷ codes "again" ∷ codes "--wait" ∷ []) (Tells (codes "again") true)
  pub ask_to_read : Calls
      (codes "ask" ∷ on_site (codes "--from" ∷ codes "10.1.0.10" ∷ codes "--to" ∷ codes "device" ∷ codes "--read" ∷ codes "5,1" ∷ []))
      (Asks site (codes "10.1.0.10") (Some (codes "device")) (Reads (codes "5,1")))
  pub ask_to_write : Calls
      (codes "ask" ∷ on_site (codes "--from" ∷ codes "10.1.0.10" ∷ codes "--to" ∷ codes "300:20" ∷ codes "--write" ∷ codes "2,1,85" ∷ []))
      (Asks site (codes "10.1.0.10") (Some (codes "300:20")) (Writes (codes "2,1,85") None))
  pub ask_to_write_at : Calls
      (codes "ask" ∷ on_site (codes "--from" ∷ codes "10.1.0.10" ∷ codes "--to" ∷ codes "300:20" ∷ codes "--write" ∷ codes "2,1"
      ∷ codes "--priority" ∷ codes "8" ∷ []))
      (Asks site (codes "10.1.0.10") (Some (codes "300:20")) (Writes (codes "2,1") (Some (codes "8"))))
  pub ask_for_service : Calls
      (codes "ask" ∷ on_site (codes "--from" ∷ codes "300:0x0714" ∷ codes "--to" ∷ codes "10.1.0.10"
      ∷ codes "--service" ∷ codes "SubscribeCOV" ∷ []))
      (Asks site (codes "300:0x0714") (Some (codes "10.1.0.10")) (Serves (codes "SubscribeCOV")))
  pub ask_who_is : Calls (codes "ask" ∷ on_site (codes "--from" ∷ codes "10.1.0.10" ∷ codes "--who-is" ∷ []))
      (Asks site (codes "10.1.0.10") None Looks)
  pub ask_to_register : Calls (codes "ask" ∷ on_site (codes "--from" ∷ codes "10.1.0.10" ∷ codes "--register" ∷ []))
      (Asks site (codes "10.1.0.10") None Registers)
  pub init : Calls (codes "init" ∷ codes "--port" ∷ codes "10.1.0.2/24" ∷ codes "--port" ∷ codes "10.2.0.2/24" ∷ [])
      (Begins (codes "10.1.0.2/24" ∷ codes "10.2.0.2/24" ∷ []) [] [] [] [])
  pub init_whole : Calls
      (codes "init" ∷ codes "--port" ∷ codes "10.1.0.2/24" ∷ codes "--operator" ∷ codes "10.1.0.10"
      ∷ codes "--router" ∷ codes "300=10.2.0.254" ∷ codes "--peer" ∷ codes "2=203.0.113.2/24"
      ∷ codes "--port" ∷ codes "10.2.0.2/24" ∷ codes "--bbmd" ∷ codes "1=10.1.0.3"
      ∷ codes "--operator" ∷ codes "10.1.0.11" ∷ [])
      (Begins (codes "10.1.0.2/24" ∷ codes "10.2.0.2/24" ∷ []) (codes "2=203.0.113.2/24" ∷ []) (codes "300=10.2.0.254" ∷ [])
      (codes "10.1.0.10" ∷ codes "10.1.0.11" ∷ []) (codes "1=10.1.0.3" ∷ []))
  pub log : Calls (codes "log" ∷ []) (TranslatesLog None None)
  pub log_of_file : Calls (codes "log" ∷ codes "denials.log" ∷ []) (TranslatesLog (Some (codes "denials.log")) None)
  pub log_json : Calls (codes "log" ∷ codes "--json" ∷ []) (ListsLog None)
  pub log_json_of_file : Calls (codes "log" ∷ codes "--json" ∷ codes "denials.log" ∷ []) (ListsLog (Some (codes "denials.log")))
  pub why_json : Calls (codes "why" ∷ on_site (codes "--json" ∷ [])) (Judges site false)
  pub why_json_strict : Calls (codes "why" ∷ on_site (codes "--json" ∷ codes "--strict" ∷ [])) (Judges site true)
  pub log_since : Calls (codes "log" ∷ codes "--start" ∷ codes "2026-11-25T08:00:00+01:00" ∷ [])
      (TranslatesLog None (Some (codes "2026-11-25T08:00:00+01:00")))

pub record CallsAreRefused : Type 0 where
  pub check_json_explain : (program : Text)
      → fault_of commands (program ∷ codes "explain" ∷ on_site (codes "--json" ∷ [])) ≡ parse.UnknownArgument ∷ []
  pub check_json_lint : (program : Text)
      → fault_of commands (program ∷ codes "lint" ∷ on_site (codes "--json" ∷ [])) ≡ parse.UnknownArgument ∷ []
  pub check_json_migrate : (program : Text)
      → fault_of commands (program ∷ codes "migrate" ∷ on_site (codes "--json" ∷ [])) ≡ parse.UnknownArgument ∷ []
  pub why_json_count : Mistakes (codes "why" ∷ on_site (codes "--json" ∷ codes "--count" ∷ []))
      (codes "--json and --count exclude each other\n")
  pub compare_json_steps : Mistakes
      (codes "compare" ∷ on_site (codes "--with" ∷ codes "new.toml" ∷ codes "--json" ∷ codes "--steps" ∷ []))
      (codes "--json and --steps exclude each other\n")
  pub reload_most : Mistakes (codes "reload" ∷ on_site (codes "--reload" ∷ codes "again" ∷ codes "--most" ∷ codes "20" ∷ []))
      (codes "--most needs --was\n")
  pub reload_config : Mistakes (codes "reload" ∷ on_site (codes "--reload" ∷ codes "site.toml" ∷ []))
      (codes "--config and --reload use one file: site.toml\n")
  pub reload_was : Mistakes
      (codes "reload" ∷ on_site (codes "--reload" ∷ codes "again" ∷ codes "--was" ∷ codes "again.answer" ∷ []))
      (codes "--was and --reload use one file: again.answer\n")
  pub compare_most : OutOfRange (codes "compare" ∷ on_site (codes "--with" ∷ codes "new.toml" ∷ codes "--most" ∷ codes "0" ∷ []))
  pub reload_none : OutOfRange
      (codes "reload" ∷ on_site (codes "--reload" ∷ codes "again" ∷ codes "--was" ∷ codes "old.toml" ∷ codes "--most" ∷ codes "0" ∷ []))
  pub logs : (program : Text)
      → fault_of commands (program ∷ codes "log" ∷ codes "one.log" ∷ codes "two.log" ∷ []) ≡ parse.UnknownArgument ∷ []
  pub ask_both : Mistakes
      (codes "ask" ∷ on_site (codes "--from" ∷ codes "a" ∷ codes "--to" ∷ codes "b" ∷ codes "--read" ∷ codes "5,1"
      ∷ codes "--write" ∷ codes "5,1" ∷ []))
      (codes "--read and --write exclude each other\n")
  pub ask_neither : Mistakes (codes "ask" ∷ on_site (codes "--from" ∷ codes "a" ∷ codes "--to" ∷ codes "b" ∷ []))
      (codes "give one of --read, --write, --service, --who-is and --register\n")
  pub ask_twice : Mistakes
      (codes "ask" ∷ on_site (codes "--from" ∷ codes "a" ∷ codes "--who-is" ∷ codes "--register" ∷ []))
      (codes "give one of --read, --write, --service, --who-is and --register\n")
  pub ask_priority : Mistakes
      (codes "ask" ∷ on_site (codes "--from" ∷ codes "a" ∷ codes "--to" ∷ codes "b" ∷ codes "--read" ∷ codes "5,1"
      ∷ codes "--priority" ∷ codes "8" ∷ []))
      (codes "--priority needs --write\n")
  pub ask_nobody : (program : Text)
      → fault_of commands (program ∷ codes "ask" ∷ on_site (codes "--to" ∷ codes "b" ∷ codes "--read" ∷ codes "5,1" ∷ []))
      ≡ parse.MissingRequiredArgument ∷ []
  pub init_nowhere : (program : Text) → fault_of commands (program ∷ codes "init" ∷ []) ≡ parse.MissingRequiredArgument ∷ []
  pub status_nobody : (program : Text) → fault_of commands (program ∷ codes "status" ∷ []) ≡ parse.MissingRequiredArgument ∷ []
  pub stop_nobody : (program : Text) → fault_of commands (program ∷ codes "stop" ∷ []) ≡ parse.MissingRequiredArgument ∷ []
  pub points : (program : Text)
      → fault_of commands (program ∷ codes "objects" ∷ on_site []) ≡ parse.MissingRequiredArgument ∷ []
