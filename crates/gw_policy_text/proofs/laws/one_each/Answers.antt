use Rattle.gw_policy_text.proofs.OneEach.{one_each}
use Rattle.gw_policy_text.proofs.laws.one_each.Goals as goal

pub returns : goal.returns
returns c = one_each
