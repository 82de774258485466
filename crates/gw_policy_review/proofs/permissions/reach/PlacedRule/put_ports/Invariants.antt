use Rattle.std.proofs.Common.{◌≡◌, ◌++◌, take}
use Rattle.std.specs.List.{flat_map}
use Rattle.gw_policy_review.specs.permissions.Permissions.{reached_lines}
use Rattle.gw_policy_review.proofs.permissions.reach.PlacedRule.put_ports.Given as goal

abbrev pub invariant-loop-port : goal.invariant-loop-port
invariant-loop-port l =
    l.out.items ≡ l.fn.out.items ++ flat_map (reached_lines l.self.placed.now.config.now l.self.placed.now.lines.now l.self.number l.self.rule.now)
    (take l.port-index l.ports)
