use Rattle.gw_service.proofs.NothingLemmas.{as_plain}
use Rattle.gw_service.proofs.laws.as_plain.Goals as goal

pub returns : goal.returns
returns g c = λ given. as_plain given
