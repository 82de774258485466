use Rattle.std.proofs.Common.{rules, ◌≡◌, ◌+◌, ◌++◌, get_or, subst, sym}
use Rattle.gw_rules.specs.declared.rule.Rule.{Rule}
use Rattle.gw_script.proofs.Order.{in_order_none, in_order_step}
use Rattle.gw_report.specs.Report.{rule_row}
use Rattle.gw_report.proofs.rules.put_rows.Goals as goal

pub loop-place-init : goal.loop-place-init
loop-place-init c =
    in_order_none (rule_row c.args.config.now c.args.lines.now c.args.times.now.are_shown c.args.times.now.counts.items) c.args.page.now

pub loop-place-preserved : goal.loop-place-preserved
loop-place-preserved c =
    let text = rule_row c.args.config.now c.args.lines.now c.args.times.now.are_shown c.args.times.now.counts.items in
    let item = c.index-rules-place.result in
    let here : get_or c.rules-rules.result.now c.loop-place.place item ≡ item = search rules in
    let then : c.put.new.page ≡ c.loop-place.page ++ text (c.loop-place.place + 1) item = search rules in
    in_order_step text c.args.page.now c.loop-place.page c.put.new.page c.rules-rules.result.now c.loop-place.place item
    c.loop-place-test.true c.loop-place.invariant
    (subst (λ (x : Rule). c.put.new.page ≡ c.loop-place.page ++ text (c.loop-place.place + 1) x) (sym here) then)
