use Rattle.gw_audit.proofs.LineLemmas.{ends_once, names_one_denial, stays_short}
use Rattle.gw_audit.proofs.laws.lines.Goals as goal

pub returns-clause-one : goal.returns-clause-one
returns-clause-one c = names_one_denial

pub returns-clause-ended : goal.returns-clause-ended
returns-clause-ended c = ends_once

pub returns-clause-short : goal.returns-clause-short
returns-clause-short c = stays_short
