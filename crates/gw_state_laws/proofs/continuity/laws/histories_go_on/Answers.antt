use Rattle.gw_state_laws.proofs.continuity_lemmas.Whole.{histories_go_on}
use Rattle.gw_state_laws.proofs.continuity.laws.histories_go_on.Goals as goal

pub returns : goal.returns
returns c = histories_go_on c.args.config.now c.accepted.ensures
