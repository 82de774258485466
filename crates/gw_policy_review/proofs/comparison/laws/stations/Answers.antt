use Rattle.gw_policy_review.proofs.comparison_lemmas.StationLaw.{rest_is_meant, subnet_is_range}
use Rattle.gw_policy_review.proofs.comparison.laws.stations.Goals as goal

pub returns : goal.returns
returns c = record { subnets = subnet_is_range; rest = rest_is_meant }
