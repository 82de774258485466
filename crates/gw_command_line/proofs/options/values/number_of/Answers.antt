use Rattle.gw_command_line.proofs.options_lemmas.ValueLemmas.{number_is}
use Rattle.gw_command_line.proofs.options.values.number_of.Goals as goal

pub returns-clause-number : goal.returns-clause-number
returns-clause-number c = number_is c.args.most c.args.text.now c.parse_number.result c.parse_number.ensures.number
