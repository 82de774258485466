use Rattle.gw_policy_review.proofs.permissions_lemmas.Letting.{none_is_let, only_letting_allow}
use Rattle.gw_policy_review.proofs.permissions.laws.lines.Goals as goal

pub returns-clause-letting : goal.returns-clause-letting
returns-clause-letting c = only_letting_allow

pub returns-clause-none : goal.returns-clause-none
returns-clause-none c = none_is_let
