use Rattle.std.proofs.Common.{◌≡◌, map, take}
use Rattle.gw_state.specs.Saved.{origin_object}
use Rattle.gw_state.proofs.origin.objects_of.Given as goal

abbrev pub invariant-loop-object : goal.invariant-loop-object
invariant-loop-object l = l.origins.items ≡ map origin_object (take l.object-index l.objects)
