use Rattle.std.proofs.Common.{take}
use Rattle.gw_objects.specs.internal.Index.{FindsNames}
use Rattle.gw_objects.proofs.index.places_by_name.Given as goal

abbrev pub invariant-loop-place : goal.invariant-loop-place
invariant-loop-place l = FindsNames l.places.entries (take l.place l.objects)
