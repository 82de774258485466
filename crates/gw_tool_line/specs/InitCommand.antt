-- The command `init` and its options, as the crate `clap` describes them.
use Rattle.std.specs.Prelude.{Some, true, codes}
use Rattle.clap.specs.Words.{App, Rule, Text, new_app, with_rule}
use Rattle.clap.specs.declared.builder.action.ArgAction.TheVariants.{Append}
use Rattle.gw_command_line.specs.options.Options.{option}

-- an option that has a value, and may be given many times; and one that has to be given
abbrev pub many : Text → Rule
many name = record (option name) { action = Some Append }

abbrev pub many_needed : Text → Rule
many_needed name = record (many name) { required = true }

-- `init --port ADDRESS/PREFIX [--peer PORT=ADDRESS/PREFIX] [--router NETWORK=ADDRESS] [--operator ADDRESS] [--bbmd PORT=ADDRESS]`
abbrev pub init_of_ports : App
init_of_ports = with_rule (with_rule (new_app (codes "init")) (many_needed (codes "port"))) (many (codes "peer"))

abbrev pub init_of_stations : App
init_of_stations = with_rule (with_rule init_of_ports (many (codes "router"))) (many (codes "operator"))

abbrev pub init : App
init = with_rule init_of_stations (many (codes "bbmd"))
