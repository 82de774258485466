use Rattle.gw_service.proofs.LawLemmas.{numbers_above, numbers_above_alone}
use Rattle.gw_service.proofs.laws.numbers_go_on.Goals as goal

pub returns-clause-shown : goal.returns-clause-shown
returns-clause-shown c = numbers_above

pub returns-clause-lost : goal.returns-clause-lost
returns-clause-lost c = numbers_above_alone
