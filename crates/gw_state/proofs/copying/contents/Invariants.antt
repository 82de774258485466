use Rattle.std.proofs.Common.{◌≡◌, length, take}
use Rattle.gw_state.proofs.copying.contents.Given as goal

abbrev pub invariant-loop-place : goal.invariant-loop-place
invariant-loop-place l = (length l.copies ≡ 16) × (take l.place l.copies ≡ take l.place l.slots)
