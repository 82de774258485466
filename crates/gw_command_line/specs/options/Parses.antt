-- What a parse of words that failed says.
use Rattle.std.specs.Prelude.{◌≡◌, ◌≢◌, ◌⊎◌}
use Rattle.clap.specs.declared.error.kind.ErrorKind.{ErrorKind}
use Rattle.clap.specs.declared.error.kind.ErrorKind.TheVariants as parse

-- help or the version was asked for, which is printed
abbrev pub IsShown : ErrorKind → Type 0
IsShown kind = (kind ≡ parse.DisplayHelp) ⊎ (kind ≡ parse.DisplayVersion)

-- the words are wrong
abbrev pub IsWrong : ErrorKind → Type 0
IsWrong kind = (kind ≢ parse.DisplayHelp) × (kind ≢ parse.DisplayVersion) × (kind ≢ parse.OutOfMemory)
