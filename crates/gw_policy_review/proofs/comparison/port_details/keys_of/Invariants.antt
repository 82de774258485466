use Rattle.std.proofs.Common.{◌≡◌, [], ◌∷◌, take}
use Rattle.std.specs.List.{flat_map}
use Rattle.gw_configuration.specs.Subnet.{Subnet, keys_of}
use Rattle.gw_policy_review.proofs.comparison.port_details.keys_of.Given as goal

abbrev pub invariant-loop-subnet : goal.invariant-loop-subnet
invariant-loop-subnet l = l.keys.items ≡ flat_map (λ (s : Subnet). keys_of s ∷ []) (take l.subnet-index l.subnets)
