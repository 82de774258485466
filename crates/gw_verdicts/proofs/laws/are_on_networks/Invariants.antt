use Rattle.std.proofs.Common.{take}
use Rattle.std.specs.List.{AllByRecursion}
use Rattle.gw_verdicts.specs.Laws.{IsOnNetwork}
use Rattle.gw_verdicts.proofs.laws.are_on_networks.Given as goal

abbrev pub invariant-loop-port : goal.invariant-loop-port
invariant-loop-port l = AllByRecursion IsOnNetwork (take l.port-index l.ports)
