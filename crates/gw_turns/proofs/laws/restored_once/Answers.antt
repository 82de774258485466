use Rattle.gw_turns.proofs.ByPortLemmas.{again_is_reported_once}
use Rattle.gw_turns.proofs.laws.restored_once.Goals as goal

pub returns : goal.returns
returns c = again_is_reported_once
