use Rattle.std.proofs.Common.{◌≡◌, map, take}
use Rattle.gw_configuration.specs.Subnet.{keys_of}
use Rattle.gw_policy_review.proofs.comparison.parts.keys_of_all.Given as goal

abbrev pub invariant-loop-subnet : goal.invariant-loop-subnet
invariant-loop-subnet l = l.keys.items ≡ map keys_of (take l.subnet-index l.stations)
