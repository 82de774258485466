use Rattle.gw_verdicts.proofs.RunsLaw.{alike_runs_alike}
use Rattle.gw_verdicts.proofs.laws.runs.Goals as goal

pub returns : goal.returns
returns c = alike_runs_alike
