use Rattle.gw_rules.proofs.First.{first_iff, first_within, none_iff}
use Rattle.gw_rules.proofs.laws.first_match.Goals as goal

pub returns : goal.returns
returns c = record { least = first_iff; none = none_iff; within = first_within }
