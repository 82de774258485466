use Rattle.gw_state_words.proofs.takeover_lemmas.ObjectLaws.{dropped_slots_are_empty, slots_are_as_said}
use Rattle.gw_state_words.proofs.takeover.laws.slots.Goals as goal

pub returns-clause-kept : goal.returns-clause-kept
returns-clause-kept c = slots_are_as_said

pub returns-clause-dropped : goal.returns-clause-dropped
returns-clause-dropped c = dropped_slots_are_empty
