-- The options of commands, as the crate `clap` describes them.
use Rattle.std.specs.Prelude.{ℕ, Some, true, codes}
use Rattle.clap.specs.Words.{App, Rule, Text, new_app, new_rule, with_rule}
use Rattle.clap.specs.declared.builder.action.ArgAction.TheVariants.{SetTrue}
use Rattle.clap.specs.declared.builder.value_parser.ValueParser.TheVariants.{Unsigned}

-- the most turns, and the most lines
abbrev pub most_count : ℕ
most_count = 9223372036854775807

-- the most seconds between two reports
abbrev pub most_seconds : ℕ
most_seconds = 4294967295

-- an option of a name, which is written with two dashes
abbrev pub long : Text → Rule
long name = record (new_rule name) { long = Some name }

-- one that has a value, and one that has to be given
abbrev pub option : Text → Rule
option name = record (long name) { value_names = 1 }

abbrev pub needed : Text → Rule
needed name = record (option name) { required = true }

-- one whose value is a number from 1 to the most
abbrev pub number : Text → (most : ℕ) → Rule
number name most = record (option name) { parser = Some (Unsigned 1 most) }

-- a value that is a word of its own, with no name of an option in front
abbrev pub positional : Text → Rule
positional name = record (new_rule name) { value_names = 1 }

-- an option of a name that has no value
abbrev pub flag : Text → Rule
flag name = record (long name) { action = Some SetTrue }

-- one that has no value, and has to be given
abbrev pub needed_flag : Text → Rule
needed_flag name = record (flag name) { required = true }

-- a command that needs the file of a configuration
abbrev pub of_file : Text → App
of_file name = with_rule (new_app name) (needed (codes "config"))
