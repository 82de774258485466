use Rattle.std.proofs.Common.{take}
use Rattle.std.specs.List.{AllByRecursion}
use Rattle.gw_state_laws.specs.continuity.StateOf.{IsDefaultInRange}
use Rattle.gw_state_laws.proofs.continuity.accepted.defaults_fit.Given as goal

abbrev pub invariant-loop-object : goal.invariant-loop-object
invariant-loop-object l = AllByRecursion IsDefaultInRange (take l.object-index l.objects)
