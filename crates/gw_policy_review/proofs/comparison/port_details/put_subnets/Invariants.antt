use Rattle.std.proofs.Common.{◌≡◌, ◌++◌, take}
use Rattle.std.specs.List.{flat_map}
use Rattle.gw_policy_review.specs.comparison.Details.{subnet_line}
use Rattle.gw_policy_review.proofs.comparison.port_details.put_subnets.Given as goal

abbrev pub invariant-loop-subnet : goal.invariant-loop-subnet
invariant-loop-subnet l =
    l.out.items ≡ l.fn.out.items ++ flat_map (subnet_line l.head l.words l.ranges.items) (take l.subnet-index l.subnets)
