-- The files that a call uses, and which two of its options use one file.
use Rattle.std.specs.Prelude.{◌&&◌, ◌||◌, not, Bool, true, false, List, [], ◌++◌, Option, Some, None, Result, Ok, Err, codes, find, is_some}
use Rattle.std.specs.Prelude.{nat_eq}
use Rattle.std.specs.Cmp.Lexicographic.{pointwise}
use Rattle.std.specs.Option.{option_and_then, option_map, option_to_list}
use Rattle.clap.specs.Words.{Text}
use Rattle.gw_command_line.specs.declared.options.files.FileOption.{FileOption}
use Rattle.gw_command_line.specs.declared.options.files.FileOption.TheVariants as option

-- the name of an option that names a file
abbrev pub option_name : FileOption → Text
option_name option.Config = codes "config"
option_name option.Log = codes "log"
option_name option.State = codes "state"
option_name option.Metrics = codes "metrics"
option_name option.Reload = codes "reload"
option_name option.Trial = codes "trial"
option_name option.TrialLog = codes "trial-log"
option_name option.Audit = codes "audit"
option_name option.Was = codes "was"

-- a file that a call uses: by which option, under which name, and whether it is written, replaced or taken away
pub record FileUse : Type 0 where
  pub option : FileOption
  pub name : Text
  pub is_written : Bool

-- a file that is read, and one that is written, whose name is that of an option and this ending
abbrev pub reads : FileOption → Option Text → List FileUse
reads by file = option_to_list (option_map (λ name. record { option = by; name = name; is_written = false }) file)

abbrev pub writes : FileOption → Option Text → (ending : Text) → List FileUse
writes by file ending = option_to_list (option_map (λ name. record { option = by; name = name ++ ending; is_written = true }) file)

-- a file that is replaced whole: a new text is written beside it first
abbrev pub replaces : FileOption → Option Text → List FileUse
replaces by file = writes by file [] ++ writes by file (codes ".new")

-- the file of a request: it is made, and answered beside it
abbrev pub requests : FileOption → Option Text → List FileUse
requests by file = replaces by file ++ (writes by file (codes ".answer") ++ writes by file (codes ".answer.new"))

-- two options use one file, which one of the two writes
abbrev pub clash : FileUse → FileUse → Bool
clash one other =
    (one.is_written || other.is_written)
    && (pointwise nat_eq one.name other.name && not (pointwise nat_eq (option_name one.option) (option_name other.option)))

-- a file clashes with one of these
abbrev pub has_clash : List FileUse → FileUse → Bool
has_clash files one = is_some (find (clash one) files)

-- which two options use one file
abbrev pub clash_line : FileUse → FileUse → Text
clash_line one other =
    codes "--" ++ option_name one.option ++ codes " and --" ++ option_name other.option ++ codes " use one file: " ++ one.name ++ codes "\n"

-- that of the first file that clashes
abbrev pub clash_of : List FileUse → Option Text
clash_of files = option_and_then (λ one. option_map (clash_line one) (find (clash one) files)) (find (has_clash files) files)

-- what is asked for, unless this line says why it isn't
abbrev pub unless : {A : Type 0} → Option Text → A → Result A Text
unless None asked = Ok asked
unless (Some line) asked = Err line
