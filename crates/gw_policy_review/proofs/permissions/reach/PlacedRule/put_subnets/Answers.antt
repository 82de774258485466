use Rattle.std.proofs.Common.{◌≡◌, ◌++◌, subst}
use Rattle.gw_configuration.specs.Subnet.{Subnet}
use Rattle.gw_policy_review.specs.permissions.Permissions.{reached_line}
use Rattle.gw_ask_sets.proofs.shapes_lemmas.Listing.{flat_step}
use Rattle.gw_policy_review.proofs.permissions.reach.PlacedRule.put_subnets.Goals as goal

pub loop-subnet-preserved : goal.loop-subnet-preserved
loop-subnet-preserved c =
    let self = c.args.self.now in
    let text = reached_line self.placed.now.config.now self.placed.now.lines.now self.number self.rule.now c.args.port.now in
    let grown = subst (λ (one : Subnet). c.put_subnet.new.out.items ≡ c.loop-subnet.out.items ++ text one) c.subnet-item.is
    c.in_ok-put_subnet.ensures in
    flat_step text c.args.stations.now c.loop-subnet.subnet-index c.subnet-item.result c.args.out.now.items
    c.loop-subnet.out.items c.put_subnet.new.out.items c.loop-subnet-test.true c.loop-subnet.invariant grown
