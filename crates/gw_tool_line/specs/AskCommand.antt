-- The command `ask` and its options, as the crate `clap` describes them.
use Rattle.std.specs.Prelude.{codes}
use Rattle.clap.specs.Words.{App, with_rule}
use Rattle.gw_command_line.specs.options.Options.{flag, needed, of_file, option}

-- `ask --config FILE --from STATION [--to STATION] [--read OBJECT] [--write OBJECT] [--priority N] [--service NAME] [--who-is]
-- [--register]`
abbrev pub ask_of_stations : App
ask_of_stations = with_rule (with_rule (of_file (codes "ask")) (needed (codes "from"))) (option (codes "to"))

abbrev pub ask_to_read : App
ask_to_read = with_rule ask_of_stations (option (codes "read"))

abbrev pub ask_to_write : App
ask_to_write = with_rule (with_rule ask_to_read (option (codes "write"))) (option (codes "priority"))

abbrev pub ask_to_serve : App
ask_to_serve = with_rule (with_rule ask_to_write (option (codes "service"))) (flag (codes "who-is"))

abbrev pub ask : App
ask = with_rule ask_to_serve (flag (codes "register"))
