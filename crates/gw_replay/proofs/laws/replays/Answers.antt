use Rattle.gw_replay.proofs.DeniedLemmas.{denied_lines_are_logged}
use Rattle.gw_replay.proofs.ReplayLemmas.{runs_are_told}
use Rattle.gw_replay.proofs.laws.replays.Goals as goal

pub returns-clause-wording : goal.returns-clause-wording
returns-clause-wording c = runs_are_told

pub returns-clause-denied : goal.returns-clause-denied
returns-clause-denied c = denied_lines_are_logged
