use Rattle.gw_core_laws.proofs.DropLemmas.{drops_have_reasons}
use Rattle.gw_core_laws.proofs.laws.drops.Goals as goal

pub returns : goal.returns
returns c = drops_have_reasons
