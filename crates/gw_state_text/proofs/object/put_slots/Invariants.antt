use Rattle.std.proofs.Common.{◌≡◌, ◌++◌, take}
use Rattle.gw_state_text.specs.Text.{slots_text}
use Rattle.gw_state_text.proofs.object.put_slots.Given as goal

abbrev pub invariant-loop-place : goal.invariant-loop-place
invariant-loop-place l = l.out.items ≡ l.fn.out.items ++ slots_text 1 (take l.place l.slots)
