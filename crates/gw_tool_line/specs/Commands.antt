-- The commands of the program and their options, as the crate `clap` describes them.
use Rattle.std.specs.Prelude.{true, codes}
use Rattle.clap.specs.Words.{App, new_app, with_rule, with_subcommand}
use Rattle.clap.specs.Simple.{on_top}
use Rattle.gw_tool_line.specs.AskCommand.{ask}
use Rattle.gw_tool_line.specs.InitCommand.{init}
use Rattle.gw_command_line.specs.options.Options.{flag, most_count, needed, needed_flag, number, of_file, option, positional}

-- `check --config FILE [--json]`
abbrev pub check : App
check = with_rule (of_file (codes "check")) (flag (codes "json"))

-- `explain --config FILE [--lint]`
abbrev pub explain : App
explain = with_rule (of_file (codes "explain")) (flag (codes "lint"))

-- `lint --config FILE`
abbrev pub lint : App
lint = of_file (codes "lint")

-- `migrate --config FILE`
abbrev pub migrate : App
migrate = of_file (codes "migrate")

-- `why --config FILE [--count] [--json] [--strict]`
abbrev pub why_of_form : App
why_of_form = with_rule (with_rule (of_file (codes "why")) (flag (codes "count"))) (flag (codes "json"))

abbrev pub why : App
why = with_rule why_of_form (flag (codes "strict"))

-- `report --config FILE [--log FILE]`
abbrev pub report : App
report = with_rule (of_file (codes "report")) (option (codes "log"))

-- `compare --config FILE --with FILE [--most N] [--steps] [--json]`
abbrev pub compare_of_most : App
compare_of_most = with_rule (with_rule (of_file (codes "compare")) (needed (codes "with"))) (number (codes "most") most_count)

abbrev pub compare : App
compare = with_rule (with_rule compare_of_most (flag (codes "steps"))) (flag (codes "json"))

-- `log [FILE] [--start TIME] [--json]`
abbrev pub log_of_file : App
log_of_file = with_rule (new_app (codes "log")) (positional (codes "file"))

abbrev pub log : App
log = with_rule (with_rule log_of_file (option (codes "start"))) (flag (codes "json"))

-- `state --config FILE --state FILE`
abbrev pub state : App
state = with_rule (of_file (codes "state")) (needed (codes "state"))

-- `suggest --config FILE [--fill] [--exact]`
abbrev pub suggest : App
suggest = with_rule (with_rule (of_file (codes "suggest")) (flag (codes "fill"))) (flag (codes "exact"))

-- `reload --config FILE --reload FILE [--was FILE] [--most N]`
abbrev pub reload_of_request : App
reload_of_request = with_rule (of_file (codes "reload")) (needed (codes "reload"))

abbrev pub reload : App
reload = with_rule (with_rule reload_of_request (option (codes "was"))) (number (codes "most") most_count)

-- `objects --config FILE --csv`
abbrev pub objects : App
objects = with_rule (of_file (codes "objects")) (needed_flag (codes "csv"))

-- `rules --config FILE`
abbrev pub rules : App
rules = of_file (codes "rules")

-- `stop --reload FILE [--wait]`
abbrev pub stop : App
stop = with_rule (with_rule (new_app (codes "stop")) (needed (codes "reload"))) (flag (codes "wait"))

-- `status --reload FILE [--wait]`
abbrev pub status : App
status = with_rule (with_rule (new_app (codes "status")) (needed (codes "reload"))) (flag (codes "wait"))

-- the program, whose call has to name a command
abbrev pub program : App
program = on_top (λ top. record top { subcommand_required = true; has_version = true }) (new_app (codes "bacgwctl"))

-- The commands of the program: the first four, three times four more, and then the last. They stay closed in proofs, since what they
-- compute to is long.
unfoldable pub first_commands : App
first_commands =
    with_subcommand
    (with_subcommand
    (with_subcommand
    (with_subcommand program check.top)
    explain.top)
    lint.top)
    migrate.top

unfoldable pub middle_commands : App
middle_commands =
    with_subcommand
    (with_subcommand
    (with_subcommand
    (with_subcommand first_commands why.top)
    report.top)
    log.top)
    compare.top

unfoldable pub later_commands : App
later_commands =
    with_subcommand
    (with_subcommand
    (with_subcommand
    (with_subcommand middle_commands state.top)
    suggest.top)
    reload.top)
    objects.top

unfoldable pub most_commands : App
most_commands =
    with_subcommand
    (with_subcommand
    (with_subcommand
    (with_subcommand later_commands ask.top)
    rules.top)
    stop.top)
    status.top

unfoldable pub commands : App
commands = with_subcommand most_commands init.top
