use Rattle.gw_verdicts.proofs.questions_lemmas.Logged.{denied_is_logged}
use Rattle.gw_verdicts.proofs.questions.laws.denials.Goals as goal

pub returns : goal.returns
returns c = denied_is_logged
