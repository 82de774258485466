use Rattle.std.proofs.Common.{arith, length, rules, ◌≡◌, false, get_or, ◌++◌, ◌+◌}
use Rattle.gw_policy_review.specs.comparison.Details.{audit_line}
use Rattle.gw_script.proofs.Order.{in_order_end, in_order_none, in_order_step}
use Rattle.gw_policy_review.proofs.comparison.rule_details.put_audits.Goals as goal

pub loop-place-init : goal.loop-place-init
loop-place-init c = in_order_none (audit_line c.args.old.now c.args.rules.now) c.args.out.now.items

pub loop-place-preserved : goal.loop-place-preserved
loop-place-preserved c =
    let text = audit_line c.args.old.now c.args.rules.now in
    let place = c.loop-place.place in
    let then : c.put_audit.new.out.items ≡ c.loop-place.out.items ++ text (place + 1) (get_or c.args.audits.now place false) = search rules in
    in_order_step text c.args.out.now.items c.loop-place.out.items c.put_audit.new.out.items c.args.audits.now place false
    c.loop-place-test.true c.loop-place.invariant then

pub returns : goal.returns
returns c =
    let ends : c.loop-place.place ≡ length c.args.audits.now = omega (arith, c.loop-place.auto.place-end, c.loop-place-test.false) in
    in_order_end (audit_line c.args.old.now c.args.rules.now) c.args.out.now.items c.loop-place.out.items c.args.audits.now
    c.loop-place.place ends c.loop-place.invariant
