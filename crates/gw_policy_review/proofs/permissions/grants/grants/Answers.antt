use Rattle.std.proofs.Common.{rules, ◌≡◌, ◌∙◌, ◌++◌, ◌+◌, [], get_or, subst, sym}
use Rattle.gw_rules.specs.declared.rule.Rule.{Rule}
use Rattle.gw_policy_review.specs.permissions.Permissions.{grant_line}
use Rattle.gw_script.proofs.Order.{in_order_none, in_order_step}
use Rattle.gw_policy_review.proofs.permissions.grants.grants.Goals as goal

pub loop-place-init : goal.loop-place-init
loop-place-init c =
    c.new-text.ensures.items
    ∙ in_order_none (grant_line c.args.inquiry.now.placed.config.now c.args.inquiry.now.placed.lines.now c.args.inquiry.now.deed c.args.inquiry.now.shape c.args.findings.now)
    []

pub loop-place-preserved : goal.loop-place-preserved
loop-place-preserved c =
    let text = grant_line c.args.inquiry.now.placed.config.now c.args.inquiry.now.placed.lines.now c.args.inquiry.now.deed c.args.inquiry.now.shape c.args.findings.now in
    let item = c.index-rules-place.result in
    let here : get_or c.rules-rules.result.now c.loop-place.place item ≡ item = search rules in
    let then : c.put_line.new.out.items ≡ c.loop-place.text.items ++ text (c.loop-place.place + 1) item = search rules in
    in_order_step text [] c.loop-place.text.items c.put_line.new.out.items c.rules-rules.result.now c.loop-place.place item
    c.loop-place-test.true c.loop-place.invariant
    (subst (λ (x : Rule). c.put_line.new.out.items ≡ c.loop-place.text.items ++ text (c.loop-place.place + 1) x) (sym here) then)
