use Rattle.std.proofs.Common.{rules, ◌≡◌, ◌++◌, ◌+◌, get_or, subst, sym}
use Rattle.gw_rules.specs.declared.rule.Rule.{Rule}
use Rattle.gw_policy_review.specs.warnings.Oversights.{rule_oversights}
use Rattle.gw_script.proofs.Order.{in_order_none, in_order_step}
use Rattle.gw_policy_review.proofs.warnings.rule_oversights.put_rules.Goals as goal

pub loop-place-init : goal.loop-place-init
loop-place-init c = in_order_none (rule_oversights c.args.config.now c.args.lines.now) c.args.out.now.items

pub loop-place-preserved : goal.loop-place-preserved
loop-place-preserved c =
    let text = rule_oversights c.args.config.now c.args.lines.now in
    let item = c.index-rules-place.result in
    let here : get_or c.rules-rules.result.now c.loop-place.place item ≡ item = search rules in
    let then : c.put_rule.new.out.items ≡ c.loop-place.out.items ++ text (c.loop-place.place + 1) item = search rules in
    in_order_step text c.args.out.now.items c.loop-place.out.items c.put_rule.new.out.items c.rules-rules.result.now c.loop-place.place item
    c.loop-place-test.true c.loop-place.invariant
    (subst (λ (x : Rule). c.put_rule.new.out.items ≡ c.loop-place.out.items ++ text (c.loop-place.place + 1) x) (sym here) then)
