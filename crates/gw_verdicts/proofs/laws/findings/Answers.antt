use Rattle.gw_verdicts.proofs.FoundLaw.{found_never_decides}
use Rattle.gw_verdicts.proofs.laws.findings.Goals as goal

pub returns : goal.returns
returns c = found_never_decides
