use Rattle.gw_state_laws.proofs.continuity_lemmas.LastingChanges.{only_lasting_changes}
use Rattle.gw_state_laws.proofs.continuity.laws.only_lasting_changes.Goals as goal

pub returns : goal.returns
returns c = only_lasting_changes
