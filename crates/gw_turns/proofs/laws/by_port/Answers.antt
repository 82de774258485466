use Rattle.gw_turns.proofs.ByPortLemmas.{ports_add_up}
use Rattle.gw_turns.proofs.laws.by_port.Goals as goal

pub returns : goal.returns
returns g c = ports_add_up g.G.Guard.Passes
