-- What a parse of words found, and the call that it entered.
use Rattle.std.proofs.Common.{◌≡◌, ◌≢◌, ◌∙◌, ◌⊎◌, inl, inr, refl, sym, rules, List, Option, Some, None, [], ◌∷◌, option_map, Box}
use Rattle.clap.specs.Words.{IsAmong, Kinds, Row, Text}
use Rattle.std.specs.Box.{box_value}
use Rattle.clap.specs.Simple.{subcommand_rows}
use Rattle.clap.specs.declared.parser.matches.ArgMatches.TheViews.{out-SubCommand}
use Rattle.clap.specs.declared.parser.matches.SubCommand.{SubCommand}
use Rattle.clap.specs.declared.error.kind.ErrorKind.{ErrorKind}
use Rattle.clap.specs.declared.error.kind.ErrorKind.TheVariants as parse
use Rattle.gw_command_line.specs.options.Parses.{IsShown}

-- want of memory is no request to show something
pub memory_shows_nothing : (k : ErrorKind) → k ≡ parse.OutOfMemory → IsShown k → ⊥
memory_shows_nothing k memory (inl help) = let bad : parse.OutOfMemory ≡ parse.DisplayHelp = sym memory ∙ help in search rules
memory_shows_nothing k memory (inr version) = let bad : parse.OutOfMemory ≡ parse.DisplayVersion = sym memory ∙ version in search rules

-- a kind that is not want of memory is among the kinds
pub mistake_among : (kinds : Kinds) (k : ErrorKind) → (k ≡ parse.OutOfMemory) ⊎ IsAmong k kinds → k ≢ parse.OutOfMemory → IsAmong k kinds
mistake_among kinds k (inl memory) other = absurd (other memory)
mistake_among kinds k (inr among) other = among

pub no_kind : (kinds : Kinds) (k : ErrorKind) → kinds ≡ [] → IsAmong k kinds → ⊥
no_kind [] k none among = among
no_kind (x ∷ kinds) k none among = search rules

some_same : {A : Type 0} (x y : A) → Some x ≡ Some y → x ≡ y
some_same x y e = cc

-- the call that a parse entered, by its name and its rows
pub entered_call : {Z : Type 0} (s : Option (Box SubCommand Z)) (name : Text) (rows : List Row)
    → Some name ≡ option_map (λ b. (out-SubCommand (box_value b)).name.now) s → Some rows ≡ option_map (λ p. p.1) (subcommand_rows s)
    → subcommand_rows s ≡ Some (name, rows)
entered_call None name rows named has = search rules
entered_call (Some b) name rows named has =
    let same_name = some_same _ _ named in
    let same_rows = some_same _ _ has in
    rw (same_name, same_rows) refl
