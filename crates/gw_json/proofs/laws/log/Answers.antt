use Rattle.gw_json.proofs.Entries.{denials_stay, records_allowed}
use Rattle.gw_json.proofs.laws.log.Goals as goal

pub returns-clause-denials : goal.returns-clause-denials
returns-clause-denials c = denials_stay

pub returns-clause-audit : goal.returns-clause-audit
returns-clause-audit c = records_allowed
