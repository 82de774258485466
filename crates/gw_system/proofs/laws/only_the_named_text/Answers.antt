use Rattle.gw_system.proofs.RequestLemmas.{named_alone}
use Rattle.gw_system.proofs.laws.only_the_named_text.Goals as goal

pub returns-clause-empty : goal.returns-clause-empty
returns-clause-empty c = λ read given is. is

pub returns-clause-named : goal.returns-clause-named
returns-clause-named c = named_alone
