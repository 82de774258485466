use Rattle.gw_policy_text.proofs.faults_lemmas.Known.{are_known}
use Rattle.gw_policy_text.proofs.faults.laws.keys.Goals as goal

pub returns : goal.returns
returns c = are_known
