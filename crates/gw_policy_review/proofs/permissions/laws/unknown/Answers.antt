use Rattle.gw_policy_review.proofs.permissions_lemmas.Passage.{only_used_up_is_unknown}
use Rattle.gw_policy_review.proofs.permissions.laws.unknown.Goals as goal

pub returns : goal.returns
returns c = only_used_up_is_unknown
