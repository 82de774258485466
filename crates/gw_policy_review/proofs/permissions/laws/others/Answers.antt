use Rattle.gw_policy_review.proofs.permissions_lemmas.Allowing.{no_ask_is_allowed, only_listed_allow}
use Rattle.gw_policy_review.proofs.permissions.laws.others.Goals as goal

pub returns-clause-listed : goal.returns-clause-listed
returns-clause-listed c = only_listed_allow

pub returns-clause-none : goal.returns-clause-none
returns-clause-none c = no_ask_is_allowed
