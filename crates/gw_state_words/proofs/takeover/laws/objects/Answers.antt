use Rattle.gw_state.specs.Saved.{SavedObject}
use Rattle.gw_state_words.proofs.takeover_lemmas.Firsts.{firsts_are_found}
use Rattle.gw_state_words.proofs.takeover_lemmas.ObjectLaws.{defaults_are_as_said, lost_objects_are_lost}
use Rattle.gw_state_words.proofs.takeover.laws.objects.Goals as goal

pub returns-clause-defaults : goal.returns-clause-defaults
returns-clause-defaults c = defaults_are_as_said

pub returns-clause-lost : goal.returns-clause-lost
returns-clause-lost c = lost_objects_are_lost

pub returns-clause-found : goal.returns-clause-found
returns-clause-found c = firsts_are_found SavedObject
