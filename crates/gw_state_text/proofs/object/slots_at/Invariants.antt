use Rattle.gw_state_text.proofs.SlotLemmas.{Slots}
use Rattle.gw_state_text.proofs.StepLemmas.{SlotSteps}
use Rattle.gw_state_text.proofs.object.slots_at.Given as goal

-- the slots so far are read
abbrev pub invariant-loop-place : goal.invariant-loop-place
invariant-loop-place l = Slots l.kind l.fn.text l.place l.slots l.rest × SlotSteps l.kind l.fn.text l.place l.slots l.rest
