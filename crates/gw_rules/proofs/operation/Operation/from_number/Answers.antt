use Rattle.gw_rules.proofs.Operations.{number_found}
use Rattle.gw_rules.proofs.operation.Operation.from_number.Goals as goal

pub returns : goal.returns
returns c = number_found _ c.args.number c.of_number.ensures
