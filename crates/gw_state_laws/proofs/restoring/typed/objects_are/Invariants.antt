use Rattle.std.proofs.Common.{take}
use Rattle.std.specs.List.{AllByRecursion}
use Rattle.gw_state_laws.specs.restoring.internal.Typed.{IsSavedObject}
use Rattle.gw_state_laws.proofs.restoring.typed.objects_are.Given as goal

abbrev pub invariant-loop-object : goal.invariant-loop-object
invariant-loop-object l = AllByRecursion IsSavedObject (take l.object-index l.objects)
