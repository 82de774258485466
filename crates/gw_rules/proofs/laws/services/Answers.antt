use Rattle.gw_rules.proofs.Numbers.{one_service}
use Rattle.gw_rules.proofs.laws.services.Goals as goal

pub returns : goal.returns
returns c = one_service
