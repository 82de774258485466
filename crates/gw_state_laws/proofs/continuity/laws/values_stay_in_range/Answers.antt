use Rattle.gw_state_laws.proofs.continuity_lemmas.Whole.{values_stay_in_range}
use Rattle.gw_state_laws.proofs.continuity.laws.values_stay_in_range.Goals as goal

pub returns : goal.returns
returns c = values_stay_in_range c.args.config.now c.accepted.ensures
