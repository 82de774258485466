use Rattle.gw_policy_review.proofs.permissions_lemmas.Allowing.{each_ask_is_allowed}
use Rattle.gw_policy_review.proofs.permissions.laws.everyone.Goals as goal

pub returns : goal.returns
returns c = each_ask_is_allowed
