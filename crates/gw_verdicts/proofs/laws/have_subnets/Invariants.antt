use Rattle.std.proofs.Common.{take}
use Rattle.std.specs.List.{AllByRecursion}
use Rattle.gw_verdicts.specs.Laws.{HasSubnets}
use Rattle.gw_verdicts.proofs.laws.have_subnets.Given as goal

abbrev pub invariant-loop-port : goal.invariant-loop-port
invariant-loop-port l = AllByRecursion HasSubnets (take l.port-index l.ports)
