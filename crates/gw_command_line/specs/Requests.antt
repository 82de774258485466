-- What a call of the program asks for, by the name of its command and the values of its options.
use Rattle.std.specs.Prelude.{not, ◌&&◌, ℕ, Bool, true, false, List, [], ◌++◌, nat_eq, if◌then◌else◌, is_none, is_some, Option, Some, None}
use Rattle.std.specs.Prelude.{Result, Ok, Err, codes}
use Rattle.std.specs.Cmp.Lexicographic.{pointwise}
use Rattle.clap.specs.Words.{Row, Text, first_of, subcommand_of}
use Rattle.gw_command_line.specs.Commands.{commands}
use Rattle.gw_command_line.specs.declared.options.files.FileOption.TheVariants as option
use Rattle.gw_command_line.specs.options.Files.{FileUse, clash_of, reads, replaces, requests, unless, writes}
use Rattle.gw_command_line.specs.options.Values.{Values, count_in, holds_in, is_true, period_in}

-- what `run` is asked for
pub record Service : Type 0 where
  pub config : Text
  pub log : Option Text
  pub holds : Bool
  pub turns : ℕ
  pub verbose : Bool
  pub stats : Option ℕ
  pub stats_rules : Bool
  pub state : Option Text
  pub reload : Option Text
  pub trial : Option Text
  pub trial_log : Option Text
  pub trial_all : Bool
  pub audit : Option Text
  pub stamp : Bool
  pub metrics : Option Text

-- what a call asks for: the files that it names, and what is to be done with them
pub data Request : Type 0 where
  Checks : (file : Text) → Request
  Replays : (file : Option Text) (explains counts : Bool) → Request
  Serves : Service → Request

-- two options are both given, or neither
abbrev pub are_paired : Option Text → Option Text → Bool
are_paired (Some one) (Some two) = true
are_paired None None = true
are_paired _ _ = false

-- Which option lacks one that it needs, as a line: a trial its log, or a log its trial; all asks of a trial the trial; stamps, and
-- lines that wait, a log in a file; the lines of rules the reports.
abbrev pub lacking_of : Service → Option Text
lacking_of s =
    if not (are_paired s.trial s.trial_log) then Some (codes "--trial and --trial-log go together\n")
    else if s.trial_all && is_none s.trial then Some (codes "--trial-all needs --trial\n")
    else if s.stamp && is_none s.log then Some (codes "--stamp needs --log\n")
    else if s.holds && is_none s.log then Some (codes "--on-log-failure hold needs --log\n")
    else if s.stats_rules && is_none s.stats then Some (codes "--stats-rules needs --stats\n")
    else None

-- the logs that `run` writes
abbrev pub logs_of : Service → List FileUse
logs_of s = writes option.Log s.log [] ++ (writes option.TrialLog s.trial_log [] ++ writes option.Audit s.audit [])

-- what it keeps, and the request to read the configuration again
abbrev pub kept_of : Service → List FileUse
kept_of s = replaces option.State s.state ++ (replaces option.Metrics s.metrics ++ requests option.Reload s.reload)

-- the files that it uses: two configurations, which are read, and those
abbrev pub files_of : Service → List FileUse
files_of s = (reads option.Config (Some s.config) ++ reads option.Trial s.trial) ++ (logs_of s ++ kept_of s)

-- Why what `run` is asked for doesn't go together, as a line: an option lacks one that it needs, or two use one file, which
-- one of them writes.
abbrev pub mistake_of : Service → Option Text
mistake_of s = if is_some (lacking_of s) then lacking_of s else clash_of (files_of s)

-- to serve so, or why not
abbrev pub judged : Service → Result Request Text
judged s = unless (mistake_of s) (Serves s)

-- `run` by the values of its options
abbrev pub service_at : Text → Values → ℕ → Option ℕ → (holds : Bool) → Service
service_at file value turns stats holds = record {
  config = file;
  log = value (codes "log");
  holds = holds;
  turns = turns;
  verbose = is_true (value (codes "verbose"));
  stats = stats;
  stats_rules = is_true (value (codes "stats-rules"));
  state = value (codes "state");
  reload = value (codes "reload");
  trial = value (codes "trial");
  trial_log = value (codes "trial-log");
  trial_all = is_true (value (codes "trial-all"));
  audit = value (codes "audit");
  stamp = is_true (value (codes "stamp"));
  metrics = value (codes "metrics");
}

-- what is said of another word than `end` and `hold`
abbrev pub words_line : Text
words_line = codes "--on-log-failure is end or hold\n"

-- its numbers and its word have to be such
abbrev pub service_of : Text → Values → Option ℕ → Option (Option ℕ) → Option Bool → Result Request Text
service_of file value (Some turns) (Some stats) (Some holds) = judged (service_at file value turns stats holds)
service_of file value (Some turns) (Some stats) None = Err words_line
service_of file value _ _ _ = Err []

abbrev pub run_asked : Text → Values → Result Request Text
run_asked file value =
    service_of file value (count_in (value (codes "turns"))) (period_in (value (codes "stats"))) (holds_in (value (codes "on-log-failure")))

-- a command's name is this one
abbrev pub is_named : Text → Text → Bool
is_named name other = pointwise nat_eq name other

-- the commands that need a configuration's file
abbrev pub asked_of_file : Text → Values → Text → Result Request Text
asked_of_file name value file =
    if is_named name (codes "check") then Ok (Checks file)
    else if is_named name (codes "run") then run_asked file value
    else Err []

abbrev pub asked_of_config : Text → Values → Option Text → Result Request Text
asked_of_config name value (Some file) = asked_of_file name value file
asked_of_config name value None = Err []

-- What a call of the command of this name asks for, whose options have these values; or why it asks for nothing, as a line. It
-- is empty where the parser takes no such words.
abbrev pub asked : Text → Values → Result Request Text
asked name value =
    if is_named name (codes "replay")
    then Ok (Replays (value (codes "config")) (is_true (value (codes "explain"))) (is_true (value (codes "stats"))))
    else asked_of_config name value (value (codes "config"))

-- what a call asks for: its command, and the rows of its options
abbrev pub asked_by : Option (Text × List Row) → Result Request Text
asked_by (Some call) = asked call.0 (λ id. first_of id call.1)
asked_by None = Err []

-- what the words ask for
abbrev pub asked_in : List Text → Result Request Text
asked_in words = asked_by (subcommand_of commands words)
