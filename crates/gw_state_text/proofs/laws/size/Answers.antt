use Rattle.gw_state_text.proofs.LengthLemmas.{texts_are_short}
use Rattle.gw_state_text.proofs.laws.size.Goals as goal

pub returns : goal.returns
returns c = texts_are_short
