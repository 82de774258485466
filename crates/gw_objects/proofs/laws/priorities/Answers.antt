use Rattle.gw_objects.proofs.Priorities.{writes_can_be_made}
use Rattle.gw_objects.proofs.laws.priorities.Goals as goal

pub returns : goal.returns
returns c = writes_can_be_made
