use Rattle.gw_text_laws.proofs.Before.{kept}
use Rattle.gw_text_laws.proofs.laws.without_neighbours.Goals as goal

pub returns : goal.returns
returns c = kept
