use Rattle.std.proofs.Common.{◌≡◌, map, take}
use Rattle.gw_configuration.specs.Subnet.{keys_of}
use Rattle.gw_ask_sets.proofs.assertions.asserted.subnet_keys.Given as goal

abbrev pub invariant-loop-subnet : goal.invariant-loop-subnet
invariant-loop-subnet l = l.keys ≡ map keys_of (take l.subnet-index l.stations)
