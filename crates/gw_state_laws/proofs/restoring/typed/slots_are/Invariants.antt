use Rattle.std.proofs.Common.{take}
use Rattle.std.specs.Prelude.{IfSome}
use Rattle.std.specs.List.{AllByRecursion}
use Rattle.gw_state_laws.specs.restoring.internal.Typed.{IsValue}
use Rattle.gw_state_laws.proofs.restoring.typed.slots_are.Given as goal

abbrev pub invariant-loop-slot : goal.invariant-loop-slot
invariant-loop-slot l = AllByRecursion (λ slot. IfSome slot IsValue) (take l.slot-index l.slots)
