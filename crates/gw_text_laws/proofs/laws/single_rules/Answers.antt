use Rattle.gw_text_laws.proofs.Single.{kept}
use Rattle.gw_text_laws.proofs.laws.single_rules.Goals as goal

pub returns : goal.returns
returns c = kept
