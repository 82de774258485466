use Rattle.gw_policy_review.proofs.comparison_lemmas.OneGroup.{each_has_one_group}
use Rattle.gw_policy_review.proofs.comparison.laws.groups.Goals as goal

pub returns : goal.returns
returns c = each_has_one_group
