use Rattle.gw_policy_drafts.proofs.suggestion_lemmas.LeavingLaw.{leaves_none_out}
use Rattle.gw_policy_drafts.proofs.suggestion.laws.unasserted.Goals as goal

pub returns : goal.returns
returns c = leaves_none_out
