use Rattle.std.proofs.Common.{take}
use Rattle.gw_objects.specs.internal.Index.{FindsIds}
use Rattle.gw_objects.proofs.index.places_by_id.Given as goal

abbrev pub invariant-loop-place : goal.invariant-loop-place
invariant-loop-place l = FindsIds l.places.entries (take l.place l.objects)
