use Rattle.gw_rules.proofs.Operations.{name_found}
use Rattle.gw_rules.proofs.operation.Operation.from_name.Goals as goal

pub returns : goal.returns
returns c = name_found _ c.args.text.now c.of_name.ensures
