use Rattle.std.proofs.Common.{◌≡◌, ◌++◌, take}
use Rattle.std.specs.List.{flat_map}
use Rattle.gw_policy_review.specs.permissions.Permissions.{reached_line}
use Rattle.gw_policy_review.proofs.permissions.reach.PlacedRule.put_subnets.Given as goal

abbrev pub invariant-loop-subnet : goal.invariant-loop-subnet
invariant-loop-subnet l =
    l.out.items ≡ l.fn.out.items ++ flat_map (reached_line l.self.placed.now.config.now l.self.placed.now.lines.now l.self.number l.self.rule.now l.port)
    (take l.subnet-index l.stations)
