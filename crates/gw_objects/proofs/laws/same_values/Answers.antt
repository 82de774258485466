use Rattle.gw_objects.proofs.SameValues.{same_values_are_equal}
use Rattle.gw_objects.proofs.laws.same_values.Goals as goal

pub returns : goal.returns
returns c = same_values_are_equal
