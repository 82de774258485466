-- What a call of the program asks for, by the name of its command and the values of its options.
use Rattle.std.specs.Prelude.{ℕ, Bool, true, false, List, [], ◌++◌, nat_eq, if◌then◌else◌, Option, Some, None, Result, Ok, Err, codes}
use Rattle.std.specs.Cmp.Lexicographic.{pointwise}
use Rattle.std.specs.Option.{option_map}
use Rattle.clap.specs.Words.{Row, Text, all_of, first_of, subcommand_of}
use Rattle.gw_tool_line.specs.Commands.{commands}
use Rattle.gw_tool_line.specs.declared.ask_choice.Unclear.{Unclear}
use Rattle.gw_tool_line.specs.declared.ask_choice.Unclear.TheVariants as unclear
use Rattle.gw_command_line.specs.declared.options.files.FileOption.TheVariants as option
use Rattle.gw_command_line.specs.options.Files.{FileUse, clash_of, reads, requests, unless}
use Rattle.gw_command_line.specs.options.Values.{Values, count_in, is_true}

-- what a station asks for, in the words that name it: to read this; to write it, at a priority if one is given; this service;
-- to be heard by a Who-Is; to register as a foreign device
pub data Deed : Type 0 where
  Reads : (object : Text) → Deed
  Writes : (object : Text) (priority : Option Text) → Deed
  Calls : (service : Text) → Deed
  Looks : Deed
  Registers : Deed

-- what a call asks for: the files that it names, and what is to be done with them
pub data Request : Type 0 where
  Checks : (file : Text) (explains lints : Bool) → Request
  ChecksJson : (file : Text) → Request
  Migrates : (file : Text) → Request
  Explains : (file : Text) (counts strict : Bool) → Request
  Compares : (old new : Text) (most : ℕ) (steps : Bool) → Request
  ComparesJson : (old new : Text) (most : ℕ) → Request
  Shows : (config state : Text) → Request
  Reloads : (config request : Text) (was : Option (Text × ℕ)) → Request
  Suggests : (file : Text) (fills exact : Bool) → Request
  TranslatesLog : (file start : Option Text) → Request
  ListsLog : (file : Option Text) → Request
  Judges : (file : Text) (strict : Bool) → Request
  Reports : (file : Text) (log : Option Text) → Request
  ListsPoints : (file : Text) → Request
  ListsRules : (file : Text) → Request
  Stops : (request : Text) (waits : Bool) → Request
  Tells : (request : Text) (waits : Bool) → Request
  Asks : (file from : Text) (to : Option Text) (deed : Deed) → Request
  Begins : (ports peers routers operators managers : List Text) → Request

-- Below, what a command asks for, or why it asks for nothing, as a line. It is empty where the parser takes no such words.

-- `check`: in JSON, or in words
abbrev pub check_asked : Text → Values → Result Request Text
check_asked file value =
    if is_true (value (codes "json")) then Ok (ChecksJson file) else Ok (Checks file false false)

-- a comparison in words, also with its steps, or in JSON without them
abbrev pub comparison_in : Text → Text → ℕ → Values → Result Request Text
comparison_in old new most value =
    let steps = is_true (value (codes "steps")) in
    if is_true (value (codes "json"))
    then if steps then Err (codes "--json and --steps exclude each other\n") else Ok (ComparesJson old new most)
    else Ok (Compares old new most steps)

-- `compare`, whose other file has to be named, and whose number has to be one
abbrev pub comparison_of : Text → Values → Option Text → Option ℕ → Result Request Text
comparison_of old value (Some new) (Some most) = comparison_in old new most value
comparison_of old value _ _ = Err []

abbrev pub compare_asked : Text → Values → Result Request Text
compare_asked file value = comparison_of file value (value (codes "with")) (count_in (value (codes "most")))

-- `state`, whose other file has to be named
abbrev pub state_asked : Text → Option Text → Result Request Text
state_asked config None = Err []
state_asked config (Some state) = Ok (Shows config state)

-- the files that `reload` uses: two configurations, which are read, and the request
abbrev pub files_of : (config request : Text) → Option (Text × ℕ) → List FileUse
files_of config request was =
    reads option.Config (Some config) ++ (reads option.Was (option_map (λ w. w.0) was) ++ requests option.Reload (Some request))

-- `reload`, whose request has to be named, and is no file of a configuration
abbrev pub request_asked : Text → Option Text → Option (Text × ℕ) → Result Request Text
request_asked config (Some request) was = unless (clash_of (files_of config request was)) (Reloads config request was)
request_asked config None was = Err []

-- what it compares first: the file of the old configuration, in at most so many lines
abbrev pub reload_of : Text → Option Text → Text → Option ℕ → Result Request Text
reload_of config request old (Some most) = request_asked config request (Some (old, most))
reload_of config request old None = Err []

-- how many lines there are at most needs that file
abbrev pub reload_by : Text → Option Text → (was most : Option Text) → Result Request Text
reload_by config request None None = request_asked config request None
reload_by config request None (Some most) = Err (codes "--most needs --was\n")
reload_by config request (Some old) most = reload_of config request old (count_in most)

abbrev pub reload_asked : Text → Values → Result Request Text
reload_asked config value = reload_by config (value (codes "reload")) (value (codes "was")) (value (codes "most"))

-- `why`: in words, by counts, or as JSON objects, but not by counts and as objects
abbrev pub why_asked : Text → Values → Result Request Text
why_asked file value =
    let counts = is_true (value (codes "count")) in
    let strict = is_true (value (codes "strict")) in
    if is_true (value (codes "json"))
    then if counts then Err (codes "--json and --count exclude each other\n") else Ok (Judges file strict)
    else Ok (Explains file counts strict)

-- `log` as JSON objects, which have no start
abbrev pub list_asked : (file start : Option Text) → Result Request Text
list_asked file None = Ok (ListsLog file)
list_asked file (Some start) = Err (codes "--json and --start exclude each other\n")

-- `log` of a file, or of standard input if none is named: in words, or as JSON objects
abbrev pub log_asked : Values → Result Request Text
log_asked value =
    if is_true (value (codes "json"))
    then list_asked (value (codes "file")) (value (codes "start"))
    else Ok (TranslatesLog (value (codes "file")) (value (codes "start")))

-- `stop`, whose request has to be named; it may wait longer
abbrev pub stop_by : Option Text → (waits : Bool) → Result Request Text
stop_by (Some request) waits = Ok (Stops request waits)
stop_by None waits = Err []

abbrev pub stop_asked : Values → Result Request Text
stop_asked value = stop_by (value (codes "reload")) (is_true (value (codes "wait")))

-- `status`, so too
abbrev pub status_by : Option Text → (waits : Bool) → Result Request Text
status_by (Some request) waits = Ok (Tells request waits)
status_by None waits = Err []

abbrev pub status_asked : Values → Result Request Text
status_asked value = status_by (value (codes "reload")) (is_true (value (codes "wait")))

-- `ask`: what is read, or what is written and perhaps at which priority, or another of these, and no two

-- what is said where that is unclear
abbrev pub line_of : Unclear → Text
line_of unclear.Both = codes "--read and --write exclude each other\n"
line_of unclear.NotOne = codes "give one of --read, --write, --service, --who-is and --register\n"
line_of unclear.Priority = codes "--priority needs --write\n"

-- the one of two that is given, or why that is unclear if both are
abbrev pub either : (one other : Option Deed) → Unclear → Result (Option Deed) Unclear
either None other u = Ok other
either (Some one) None u = Ok (Some one)
either (Some one) (Some other) u = Err u

-- the same where the first is perhaps unclear
abbrev pub added : Result (Option Deed) Unclear → Option Deed → Result (Option Deed) Unclear
added (Ok one) other = either one other unclear.NotOne
added (Err u) other = Err u

abbrev pub last_deed : Result (Option Deed) Unclear → Result Deed Unclear
last_deed (Ok (Some deed)) = Ok deed
last_deed (Ok None) = Err unclear.NotOne
last_deed (Err u) = Err u

abbrev pub write_deed : (write priority : Option Text) → Option Deed
write_deed write priority = option_map (λ object. Writes object priority) write

-- a priority is of a write
abbrev pub property_deed : (read write priority : Option Text) → Result (Option Deed) Unclear
property_deed read None (Some priority) = Err unclear.Priority
property_deed read write priority = either (option_map Reads read) (write_deed write priority) unclear.Both

abbrev pub deed_if : Bool → Deed → Option Deed
deed_if is deed = if is then Some deed else None

abbrev pub deed_given : Values → Result Deed Unclear
deed_given value =
    let property = property_deed (value (codes "read")) (value (codes "write")) (value (codes "priority")) in
    let service = added property (option_map Calls (value (codes "service"))) in
    let who_is = added service (deed_if (is_true (value (codes "who-is"))) Looks) in
    last_deed (added who_is (deed_if (is_true (value (codes "register"))) Registers))

abbrev pub deed_asked : (file from : Text) → (to : Option Text) → Result Deed Unclear → Result Request Text
deed_asked file from to (Ok deed) = Ok (Asks file from to deed)
deed_asked file from to (Err u) = Err (line_of u)

-- of which stations, and under the configuration in this file
abbrev pub ask_from : Text → Values → (from : Option Text) → Result Request Text
ask_from file value (Some from) = deed_asked file from (value (codes "to")) (deed_given value)
ask_from file value None = Err []

abbrev pub ask_asked : Text → Values → Result Request Text
ask_asked file value = ask_from file value (value (codes "from"))

-- the values of each option by its name, of all its uses
abbrev pub AllValues : Type 0
AllValues = Text → List Text

-- `init`: the words that say what a site has
abbrev pub init_asked : AllValues → Result Request Text
init_asked values =
    Ok (Begins (values (codes "port")) (values (codes "peer")) (values (codes "router")) (values (codes "operator"))
    (values (codes "bbmd")))

-- a command's name is this one
abbrev pub is_named : Text → Text → Bool
is_named name other = pointwise nat_eq name other

-- the commands that need a configuration's file
abbrev pub asked_of_file : Text → Values → Text → Result Request Text
asked_of_file name value file =
    if is_named name (codes "check") then check_asked file value
    else if is_named name (codes "explain") then Ok (Checks file true (is_true (value (codes "lint"))))
    else if is_named name (codes "lint") then Ok (Checks file false true)
    else if is_named name (codes "migrate") then Ok (Migrates file)
    else if is_named name (codes "why") then why_asked file value
    else if is_named name (codes "compare") then compare_asked file value
    else if is_named name (codes "reload") then reload_asked file value
    else if is_named name (codes "suggest")
    then Ok (Suggests file (is_true (value (codes "fill"))) (is_true (value (codes "exact"))))
    else if is_named name (codes "state") then state_asked file (value (codes "state"))
    else if is_named name (codes "report") then Ok (Reports file (value (codes "log")))
    else if is_named name (codes "objects") then Ok (ListsPoints file)
    else if is_named name (codes "rules") then Ok (ListsRules file)
    else if is_named name (codes "ask") then ask_asked file value
    else Err []

abbrev pub asked_of_config : Text → Values → Option Text → Result Request Text
asked_of_config name value (Some file) = asked_of_file name value file
asked_of_config name value None = Err []

-- what a call of the command of this name asks for, whose options have these values
abbrev pub asked : Text → Values → AllValues → Result Request Text
asked name value values =
    if is_named name (codes "init") then init_asked values
    else if is_named name (codes "log") then log_asked value
    else if is_named name (codes "stop") then stop_asked value
    else if is_named name (codes "status") then status_asked value
    else asked_of_config name value (value (codes "config"))

-- texts, if there are any
abbrev pub listed : Option (List Text) → List Text
listed None = []
listed (Some texts) = texts

-- what a call asks for: its command, and the rows of its options
abbrev pub asked_by : Option (Text × List Row) → Result Request Text
asked_by (Some call) = asked call.0 (λ id. first_of id call.1) (λ id. listed (all_of id call.1))
asked_by None = Err []

-- what the words ask for
abbrev pub asked_in : List Text → Result Request Text
asked_in words = asked_by (subcommand_of commands words)
