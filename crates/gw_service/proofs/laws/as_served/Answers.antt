use Rattle.gw_service.proofs.ServedLemmas.{as_served}
use Rattle.gw_service.proofs.laws.as_served.Goals as goal

pub returns : goal.returns
returns g c = λ given. as_served given
