use Rattle.gw_policy_review.proofs.lint_lemmas.Passing.{no_broadcast_is_allowed}
use Rattle.gw_policy_review.proofs.lint.laws.broadcasts.Goals as goal

pub returns : goal.returns
returns c = no_broadcast_is_allowed
