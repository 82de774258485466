use Rattle.std.proofs.Common.{◌≡◌, ◌++◌, take}
use Rattle.std.specs.List.{flat_map}
use Rattle.gw_policy_review.specs.permissions.Permissions.{subnet_words}
use Rattle.gw_policy_review.proofs.permissions.ports.put_subnets.Given as goal

abbrev pub invariant-loop-subnet : goal.invariant-loop-subnet
invariant-loop-subnet l = l.out.items ≡ l.fn.out.items ++ flat_map (subnet_words) (take l.subnet-index l.stations)
