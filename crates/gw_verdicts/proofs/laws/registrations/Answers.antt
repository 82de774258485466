use Rattle.gw_verdicts.proofs.PeerLaw.{peers_raise_the_ask}
use Rattle.gw_verdicts.proofs.laws.registrations.Goals as goal

pub returns : goal.returns
returns c = peers_raise_the_ask
