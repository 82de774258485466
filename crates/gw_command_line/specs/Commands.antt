-- The commands of the program and their options, as the crate `clap` describes them.
use Rattle.std.specs.Prelude.{true, codes}
use Rattle.clap.specs.Words.{App, new_app, with_rule, with_subcommand}
use Rattle.clap.specs.Simple.{on_top}
use Rattle.gw_command_line.specs.options.Options.{flag, most_count, most_seconds, number, of_file, option}

-- `check --config FILE`
abbrev pub check : App
check = of_file (codes "check")

-- `replay [--config FILE] [--explain] [--stats]`
abbrev pub replay_of_explanation : App
replay_of_explanation = with_rule (with_rule (new_app (codes "replay")) (option (codes "config"))) (flag (codes "explain"))

abbrev pub replay : App
replay = with_rule replay_of_explanation (flag (codes "stats"))

-- `run --config FILE [--log FILE] [--on-log-failure WORD] [--turns N] [--verbose] [--stats SECONDS] [--stats-rules] [--state FILE] [--reload FILE]
-- [--trial FILE] [--trial-log FILE] [--trial-all] [--audit FILE] [--stamp] [--metrics FILE]`
abbrev pub run_of_turns : App
run_of_turns =
    with_rule (with_rule (with_rule (of_file (codes "run")) (option (codes "log"))) (option (codes "on-log-failure")))
    (number (codes "turns") most_count)

abbrev pub run_of_reports : App
run_of_reports =
    with_rule
    (with_rule
    (with_rule run_of_turns
    (flag (codes "verbose")))
    (number (codes "stats") most_seconds))
    (flag (codes "stats-rules"))

abbrev pub run_of_state : App
run_of_state = with_rule (with_rule run_of_reports (option (codes "state"))) (option (codes "reload"))

abbrev pub run_of_trial : App
run_of_trial =
    with_rule
    (with_rule
    (with_rule run_of_state
    (option (codes "trial")))
    (option (codes "trial-log")))
    (flag (codes "trial-all"))

abbrev pub run_of_audit : App
run_of_audit = with_rule (with_rule run_of_trial (option (codes "audit"))) (flag (codes "stamp"))

abbrev pub run : App
run = with_rule run_of_audit (option (codes "metrics"))

-- the program, whose call has to name a command
abbrev pub program : App
program = on_top (λ top. record top { subcommand_required = true; has_version = true }) (new_app (codes "bacgw"))

-- The commands of the program. They stay closed in proofs, since what they compute to is long.
unfoldable pub commands : App
commands =
    with_subcommand
    (with_subcommand
    (with_subcommand program check.top)
    replay.top)
    run.top
