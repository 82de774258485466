use Rattle.std.proofs.Common.{◌≡◌, ◌∙◌, ◌⊎◌, sym, ap, subst, map, string_bytes, List, [], Option}
use Rattle.clap.specs.Words.{App, IsAmong, Kinds, Row, Text, app_of, fault_of, is_simple, is_simple_and_free, kind_of, subcommand_of}
use Rattle.clap.specs.declared.error.kind.ErrorKind.TheVariants as parse
use Rattle.gw_tool_line.specs.CommandLine.{IsChosen}
use Rattle.gw_tool_line.specs.Commands.{commands}
use Rattle.gw_tool_line.specs.Requests.{asked_by}
use Rattle.gw_tool_line.proofs.WordsLemmas.{chooses, commands_are_simple, parse_is_simple, refusal_answers, taken_answers}
use Rattle.gw_tool_line.proofs.command_line.choice_of.Goals as goal

pub returns-in-Ok-clause-answers : goal.returns-in-Ok-clause-answers
returns-in-Ok-clause-answers c =
    let words : List Text = map string_bytes c.args.words.now in
    let is : app_of c.in_ok-command.command ≡ commands = c.in_ok-command.ensures in
    let none : fault_of commands words ≡ [] = sym (ap (λ (a : App). fault_of a words) is) ∙ c.in-Ok.ensures.kinds (ap is_simple_and_free is ∙ commands_are_simple) in
    let entered = (c.in-Ok.ensures.matches (ap is_simple is ∙ parse_is_simple)).1 ∙ ap (λ (a : App). subcommand_of a words) is in
    taken_answers words c.choice_among.result none
    (subst (λ (o : Option (Text × List Row)). IsChosen (asked_by o) c.choice_among.result) entered c.choice_among.ensures)

pub returns-in-Err-clause-answers : goal.returns-in-Err-clause-answers
returns-in-Err-clause-answers c =
    let words : List Text = map string_bytes c.args.words.now in
    let is : app_of c.in_ok-command.command ≡ commands = c.in_ok-command.ensures in
    refusal_answers words (kind_of c.in-Err.error) c.refusal_of.result
    (subst (λ (kinds : Kinds). (kind_of c.in-Err.error ≡ parse.OutOfMemory) ⊎ IsAmong (kind_of c.in-Err.error) kinds) (ap (λ (a : App). fault_of a words) is)
    (c.in-Err.ensures.kinds (ap is_simple_and_free is ∙ commands_are_simple)))
    c.refusal_of.ensures

pub returns-in-Ok-clause-chooses : goal.returns-in-Ok-clause-chooses
returns-in-Ok-clause-chooses c = λ request asks. chooses (map string_bytes c.args.words.now) request c.choice_among.result asks (returns-in-Ok-clause-answers c)

pub returns-in-Err-clause-chooses : goal.returns-in-Err-clause-chooses
returns-in-Err-clause-chooses c = λ request asks. chooses (map string_bytes c.args.words.now) request c.refusal_of.result asks (returns-in-Err-clause-answers c)
