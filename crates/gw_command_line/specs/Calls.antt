-- Worked command lines: what words ask for, and which ask for nothing, whatever the program's name is.
use Rattle.std.specs.Prelude.{◌≡◌, true, false, List, [], ◌∷◌, Some, None, Err, codes}
use Rattle.clap.specs.Words.{Text, fault_of}
use Rattle.clap.specs.declared.error.kind.ErrorKind.TheVariants as parse
use Rattle.gw_command_line.specs.CommandLine.{AskFor}
use Rattle.gw_command_line.specs.Commands.{commands}
use Rattle.gw_command_line.specs.Requests.{Checks, Replays, Request, Serves, asked_in}
use Rattle.gw_command_line.specs.options.Options.{most_count}

-- these words, after the program's name, ask for this
abbrev pub Calls : List Text → Request → Type 0
Calls words request = (program : Text) → AskFor (program ∷ words) request

-- these words, after the program's name, are taken by the parser and ask for nothing, as this line says
abbrev pub Mistakes : List Text → Text → Type 0
Mistakes words line = (program : Text) → (fault_of commands (program ∷ words) ≡ []) × (asked_in (program ∷ words) ≡ Err line)

-- these words, after the program's name, have a value that isn't a number in its range
abbrev pub OutOfRange : List Text → Type 0
OutOfRange words = (program : Text) → fault_of commands (program ∷ words) ≡ parse.ValueValidation ∷ []

-- the words `--config site.toml`
abbrev pub on_site : List Text → List Text
on_site words = codes "--config" ∷ codes "site.toml" ∷ words

abbrev pub site : Text
site = codes "site.toml"

pub record CallsAreTaken : Type 0 where
  pub check : Calls (codes "check" ∷ on_site []) (Checks site)
  pub replay : Calls (codes "replay" ∷ []) (Replays None false false)
  pub replay_explained : Calls (codes "replay" ∷ codes "--explain" ∷ []) (Replays None true false)
  pub replay_counted : Calls (codes "replay" ∷ codes "--stats" ∷ []) (Replays None false true)
  pub replay_of_file : Calls (codes "replay" ∷ on_site []) (Replays (Some site) false false)
  pub run : Calls (codes "run" ∷ on_site []) (Serves record {
    config = site;
    log = None;
    holds = false;
    turns = most_count;
    verbose = false;
    stats = None;
    stats_rules = false;
    state = None;
    reload = None;
    trial = None;
    trial_log = None;
    trial_all = false;
    audit = None;
    stamp = false;
    metrics = None;
  })
  pub run_whole : Calls
      (codes "run" ∷ on_site (codes "--log" ∷ codes "denials.log" ∷ codes "--on-log-failure" ∷ codes "hold"
      ∷ codes "--turns" ∷ codes "100" ∷ codes "--verbose"
      ∷ codes "--stats" ∷ codes "60" ∷ codes "--stats-rules" ∷ codes "--state" ∷ codes "state.txt"
      ∷ codes "--reload" ∷ codes "again" ∷ codes "--trial" ∷ codes "new.toml" ∷ codes "--trial-log" ∷ codes "new.log"
      ∷ codes "--trial-all" ∷ codes "--audit" ∷ codes "writes.log" ∷ codes "--stamp" ∷ codes "--metrics" ∷ codes "bacgw.prom"
      ∷ []))
      (Serves record {
        config = site;
        log = Some (codes "denials.log");
        holds = true;
        turns = 100;
        verbose = true;
        stats = Some 60;
        stats_rules = true;
        state = Some (codes "state.txt");
        reload = Some (codes "again");
        trial = Some (codes "new.toml");
        trial_log = Some (codes "new.log");
        trial_all = true;
        audit = Some (codes "writes.log");
        stamp = true;
        metrics = Some (codes "bacgw.prom");
      })

pub record CallsAreRefused : Type 0 where
  pub trial : Mistakes (codes "run" ∷ on_site (codes "--trial" ∷ codes "new.toml" ∷ []))
      (codes "--trial and --trial-log go together\n")
  pub all : Mistakes (codes "run" ∷ on_site (codes "--trial-all" ∷ [])) (codes "--trial-all needs --trial\n")
  pub stamp : Mistakes (codes "run" ∷ on_site (codes "--stamp" ∷ [])) (codes "--stamp needs --log\n")
  pub hold : Mistakes (codes "run" ∷ on_site (codes "--on-log-failure" ∷ codes "hold" ∷ []))
      (codes "--on-log-failure hold needs --log\n")
  pub word : Mistakes (codes "run" ∷ on_site (codes "--on-log-failure" ∷ codes "wait" ∷ []))
      (codes "--on-log-failure is end or hold\n")
  pub rules : Mistakes (codes "run" ∷ on_site (codes "--stats-rules" ∷ [])) (codes "--stats-rules needs --stats\n")
  pub metrics : Mistakes (codes "run" ∷ on_site (codes "--metrics" ∷ codes "site.toml" ∷ []))
      (codes "--config and --metrics use one file: site.toml\n")
  pub answer : Mistakes (codes "run" ∷ on_site (codes "--reload" ∷ codes "again" ∷ codes "--log" ∷ codes "again.answer" ∷ []))
      (codes "--log and --reload use one file: again.answer\n")
  pub turns : OutOfRange (codes "run" ∷ on_site (codes "--turns" ∷ codes "0" ∷ []))
  pub stats : OutOfRange (codes "run" ∷ on_site (codes "--stats" ∷ codes "0" ∷ []))
  pub stats_long : OutOfRange (codes "run" ∷ on_site (codes "--stats" ∷ codes "4294967296" ∷ []))
  pub lint : (program : Text)
      → fault_of commands (program ∷ codes "check" ∷ on_site (codes "--lint" ∷ [])) ≡ parse.UnknownArgument ∷ []
  pub compare : (program : Text)
      → fault_of commands (program ∷ codes "compare" ∷ []) ≡ parse.UnknownArgument ∷ parse.InvalidSubcommand ∷ []
