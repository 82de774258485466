use Rattle.gw_rules.proofs.Matching.{matches_iff}
use Rattle.gw_rules.proofs.laws.matching.Goals as goal

pub returns : goal.returns
returns c = matches_iff
