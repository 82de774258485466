use Rattle.gw_policy_review.specs.warnings.Oversights.{behind_lines}
use Rattle.gw_script.proofs.Order.{in_order_none, in_order_step}
use Rattle.gw_policy_review.proofs.warnings.rule_oversights.NumberedRule.put_each_behind.Goals as goal

pub loop-place-init : goal.loop-place-init
loop-place-init c = in_order_none (behind_lines c.args.self.now.config.now c.args.self.now.lines.now c.args.self.now.number c.args.self.now.rule.now) c.args.out.now.items

pub loop-place-preserved : goal.loop-place-preserved
loop-place-preserved c =
    in_order_step (behind_lines c.args.self.now.config.now c.args.self.now.lines.now c.args.self.now.number c.args.self.now.rule.now) c.args.out.now.items c.loop-place.out.items c.put_behind.new.out.items c.args.ranges.now c.loop-place.place _
    c.loop-place-test.true c.loop-place.invariant c.in_ok-put_behind.ensures
