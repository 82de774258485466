use Rattle.std.proofs.Common.{refl}
use Rattle.gw_rules.proofs.Operations.{one_name, one_number, operation_places}
use Rattle.gw_rules.proofs.laws.operations.Goals as goal

pub returns : goal.returns
returns c = record { all = refl; places = operation_places; names = one_name; numbers = one_number }
