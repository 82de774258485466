use Rattle.std.proofs.Common.{◌≡◌, length, map, take}
use Rattle.gw_objects.specs.Objects.{details_of}
use Rattle.gw_state.specs.Carried.{slot_from}
use Rattle.gw_state.proofs.states.contents_for.Given as goal

abbrev pub invariant-loop-place : goal.invariant-loop-place
invariant-loop-place l = (length l.contents ≡ 16) × (take l.place l.contents ≡ map (slot_from (details_of l.object)) (take l.place l.slots))
