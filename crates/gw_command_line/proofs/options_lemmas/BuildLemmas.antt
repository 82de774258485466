-- What options and commands are once they are built, from what their parts are.
use Rattle.std.proofs.Common.{◌≡◌, ◌∙◌, ap, ap₂, ℕ, ◌||◌, Bool, false, Option, Some}
use Rattle.clap.specs.Built.{AddsArg}
use Rattle.clap.specs.Words.{App, Rule, Text, app_of, rule_of, with_rule}
use Rattle.clap.specs.declared.builder.arg.Arg.{Arg}
use Rattle.clap.specs.declared.builder.command.Command.{Command}
use Rattle.clap.specs.declared.builder.command.Command.TheViews.{out-Command}
use Rattle.clap.specs.declared.builder.value_parser.ValueParser.{ValueParser}
use Rattle.clap.specs.declared.builder.value_parser.ValueParser.TheVariants.{Unsigned}
use Rattle.gw_command_line.specs.options.Options.{number, option}

-- a rule with another parser
abbrev with_parser : Option ValueParser → Rule → Rule
with_parser parser rule = record rule { parser = parser }

-- an option is given the parser of a number
pub number_rule : (arg made : Arg) (parser given : ValueParser) (name : Text) (most : ℕ)
    → made ≡ record arg { value_parser = made.value_parser } → made.value_parser ≡ Some given → given ≡ parser
    → parser ≡ Unsigned 1 most → rule_of arg ≡ option name → rule_of made ≡ number name most
number_rule arg made parser given name most others has same is rule =
    ap rule_of others ∙ ap (λ (v : Option ValueParser). with_parser v (rule_of arg)) (has ∙ ap Some (same ∙ is))
    ∙ ap (λ (r : Rule). with_parser (Some (Unsigned 1 most)) r) rule

-- a command is given an option
pub added : (before after : Command) (a : Arg) (app : App) (rule : Rule) → AddsArg before a after → a.global ≡ false
    → app_of before ≡ app → rule_of a ≡ rule → app_of after ≡ with_rule app rule
added before after a app rule adds local is_app is_rule = adds.shape local ∙ ap₂ with_rule is_app is_rule

pub still_local : (before after : Command) (a : Arg) → AddsArg before a after → a.global ≡ false
    → (out-Command before).has_globals ≡ false → (out-Command after).has_globals ≡ false
still_local before after a adds local none = adds.globals ∙ ap₂ (λ (x y : Bool). x || y) none local
