use Rattle.gw_policy_review.proofs.permissions_lemmas.Hidden.{hidden_is_not_read}
use Rattle.gw_policy_review.proofs.permissions.laws.hidden.Goals as goal

pub returns : goal.returns
returns c = hidden_is_not_read
