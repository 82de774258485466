use Rattle.std.proofs.Common.{take}
use Rattle.std.specs.List.{AllByRecursion}
use Rattle.gw_configuration.specs.Subnet.{IsSubnet}
use Rattle.gw_verdicts.proofs.laws.are_subnets.Given as goal

abbrev pub invariant-loop-subnet : goal.invariant-loop-subnet
invariant-loop-subnet l = AllByRecursion IsSubnet (take l.subnet-index l.subnets)
