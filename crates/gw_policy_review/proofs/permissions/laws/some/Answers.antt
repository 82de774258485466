use Rattle.gw_policy_review.proofs.permissions_lemmas.Letting.{some_are_allowed}
use Rattle.gw_policy_review.proofs.permissions.laws.some.Goals as goal

pub returns : goal.returns
returns c = some_are_allowed
