use Rattle.std.proofs.Common.{rules, ◌≡◌, ◌++◌, ◌+◌, get_or, subst, sym}
use Rattle.gw_rules.specs.declared.rule.Rule.{Rule}
use Rattle.gw_policy_review.specs.lint.Notes.{rule_notes}
use Rattle.gw_script.proofs.Order.{in_order_none, in_order_step}
use Rattle.gw_policy_review.proofs.lint.note.put_rules_notes.Goals as goal

pub loop-place-init : goal.loop-place-init
loop-place-init c = in_order_none (rule_notes c.args.unnamed.now c.args.lint.now.config.now c.args.lint.now.lines.now) c.args.out.now.items

pub loop-place-preserved : goal.loop-place-preserved
loop-place-preserved c =
    let text = rule_notes c.args.unnamed.now c.args.lint.now.config.now c.args.lint.now.lines.now in
    let item = c.index-rules-place.result in
    let here : get_or c.rules-rules.result.now c.loop-place.place item ≡ item = search rules in
    let then : c.put_rule_notes.new.out.items ≡ c.loop-place.out.items ++ text (c.loop-place.place + 1) item = search rules in
    in_order_step text c.args.out.now.items c.loop-place.out.items c.put_rule_notes.new.out.items c.rules-rules.result.now c.loop-place.place item
    c.loop-place-test.true c.loop-place.invariant
    (subst (λ (x : Rule). c.put_rule_notes.new.out.items ≡ c.loop-place.out.items ++ text (c.loop-place.place + 1) x) (sym here) then)
