use Rattle.std.proofs.Common.{◌≡◌, take}
use Rattle.gw_configuration.proofs.stations.Stations.copy.Given as goal

abbrev pub invariant-loop-subnet : goal.invariant-loop-subnet
invariant-loop-subnet l = l.subnets ≡ take l.subnet-index l.self
