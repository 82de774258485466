use Rattle.gw_state_text.proofs.SlotLemmas.{none_one, one_of_kind}
use Rattle.gw_state_text.proofs.object.slot_at.Goals as goal

pub returns-in_default-clause-is : goal.returns-in_default-clause-is
returns-in_default-clause-is c = none_one c.args.kind

pub returns-then-named-priority-clause-is : goal.returns-then-named-priority-clause-is
returns-then-named-priority-clause-is c = none_one c.args.kind

pub returns-clause-is : goal.returns-clause-is
returns-clause-is c = one_of_kind c.args.kind _ c.in_ok-value.ensures.is
