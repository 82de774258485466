use Rattle.gw_service.proofs.WatchedLemmas.{as_unwatched}
use Rattle.gw_service.proofs.laws.as_unwatched.Goals as goal

pub returns : goal.returns
returns g c = λ given. as_unwatched given
