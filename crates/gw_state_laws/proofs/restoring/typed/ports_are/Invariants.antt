use Rattle.std.proofs.Common.{take}
use Rattle.std.specs.List.{AllByRecursion}
use Rattle.gw_state_laws.specs.restoring.internal.Typed.{IsPort}
use Rattle.gw_state_laws.proofs.restoring.typed.ports_are.Given as goal

abbrev pub invariant-loop-port : goal.invariant-loop-port
invariant-loop-port l = AllByRecursion IsPort (take l.port-index l.ports)
