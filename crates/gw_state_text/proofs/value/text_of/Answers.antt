use Rattle.gw_state_text.proofs.ValueReadLemmas.{not_text}
use Rattle.gw_state_text.proofs.value.text_of.Goals as goal

pub returns-in_default-clause-exact : goal.returns-in_default-clause-exact
returns-in_default-clause-exact c = λ other. not_text c.args.text.charset c.args.text.octets.now c.in_default.ensures.cases.0
