use Rattle.std.proofs.Common.{rules, ◌≡◌, ◌+◌, ◌++◌, arith, get_or, length, subst, sym}
use Rattle.gw_configuration.specs.declared.assertion.Assertion.{Assertion}
use Rattle.gw_script.proofs.Order.{in_order_end, in_order_none, in_order_step}
use Rattle.gw_report.specs.Report.{assertion_row}
use Rattle.gw_report.proofs.assertions.put_rows.Goals as goal

pub loop-place-init : goal.loop-place-init
loop-place-init c = in_order_none (assertion_row c.args.rules.now c.args.judged.now) c.args.page.now

pub loop-place-preserved : goal.loop-place-preserved
loop-place-preserved c =
    let text = assertion_row c.args.rules.now c.args.judged.now in
    let item = c.index-assertions-place.result in
    let here : get_or c.args.assertions.now c.loop-place.place item ≡ item = search rules in
    let then : c.put_row.new.page ≡ c.loop-place.page ++ text (c.loop-place.place + 1) item = search rules in
    in_order_step text c.args.page.now c.loop-place.page c.put_row.new.page c.args.assertions.now c.loop-place.place item
    c.loop-place-test.true c.loop-place.invariant
    (subst (λ (x : Assertion). c.put_row.new.page ≡ c.loop-place.page ++ text (c.loop-place.place + 1) x) (sym here) then)

pub returns : goal.returns
returns c =
    let ends : c.loop-place.place ≡ length c.args.assertions.now = omega (arith, c.loop-place.auto.place-end, c.loop-place-test.false) in
    in_order_end (assertion_row c.args.rules.now c.args.judged.now) c.args.page.now c.loop-place.page c.args.assertions.now c.loop-place.place ends c.loop-place.invariant
