use Rattle.gw_state_laws.proofs.continuity_lemmas.Slots.{slots_are_carried, slots_are_kept, slots_are_saved, slots_go_on}
use Rattle.gw_state_laws.proofs.continuity.laws.slots_are_kept.Goals as goal

pub returns-clause-histories : goal.returns-clause-histories
returns-clause-histories c = slots_are_kept c.args.config.now

pub returns-clause-runs : goal.returns-clause-runs
returns-clause-runs c = slots_go_on

pub returns-clause-saved : goal.returns-clause-saved
returns-clause-saved c = slots_are_saved c.args.config.now

pub returns-clause-carried : goal.returns-clause-carried
returns-clause-carried c = slots_are_carried c.args.config.now
