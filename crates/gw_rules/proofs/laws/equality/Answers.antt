use Rattle.gw_rules.proofs.Equality.{asks_iff, refusals_iff}
use Rattle.gw_rules.proofs.laws.equality.Goals as goal

pub returns-clause-asks : goal.returns-clause-asks
returns-clause-asks c = asks_iff

pub returns-clause-refusals : goal.returns-clause-refusals
returns-clause-refusals c = refusals_iff
