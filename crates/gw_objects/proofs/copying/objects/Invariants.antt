use Rattle.std.proofs.Common.{◌≡◌, map, take}
use Rattle.gw_objects.specs.Objects.{configured_of}
use Rattle.gw_objects.proofs.copying.objects.Given as goal

abbrev pub invariant-loop-one : goal.invariant-loop-one
invariant-loop-one l = l.copies ≡ map configured_of (take l.one-index l.objects)
