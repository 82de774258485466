use Rattle.gw_turns.proofs.AnnouncingLemmas.{ports_are_all}
use Rattle.gw_turns.proofs.laws.announced.Goals as goal

pub returns : goal.returns
returns c = ports_are_all
