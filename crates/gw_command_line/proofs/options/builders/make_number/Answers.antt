use Rattle.gw_command_line.proofs.options_lemmas.BuildLemmas.{number_rule}
use Rattle.gw_command_line.proofs.options.builders.make_number.Goals as goal

pub returns-clause-rule : goal.returns-clause-rule
returns-clause-rule c =
    number_rule c.make_option.result c.value_parser.result c.unsigned-parser.result _ _ c.args.most
    c.value_parser.ensures.others c.value_parser.ensures.given.1 c.value_parser.ensures.given.2 c.unsigned-parser.ensures c.make_option.ensures.rule
