use Rattle.gw_policy_review.proofs.permissions_lemmas.Excepting.{only_exceptions_deny}
use Rattle.gw_policy_review.proofs.permissions.laws.exceptions.Goals as goal

pub returns : goal.returns
returns c = only_exceptions_deny
