use Rattle.std.proofs.Common.{◌≡◌, arith, length}
use Rattle.gw_json.specs.internal.View.{values_view}
use Rattle.gw_json.proofs.Numbered.{unheld_end, unheld_step}
use Rattle.gw_json.proofs.unheld.unheld_values.Goals as goal

pub loop-place-preserved : goal.loop-place-preserved
loop-place-preserved c =
    unheld_step c.args.config.now c.args.judged.now c.loop-place.place _ (values_view c.loop-place.values.items) (values_view c.push_unheld.new.values.items)
    c.loop-place-test.true c.loop-place.invariant c.in_ok-push_unheld.ensures

pub returns : goal.returns
returns c =
    let ends : c.loop-place.place ≡ length c.args.judged.now = omega (arith, c.loop-place.auto.place-end, c.loop-place-test.false) in
    unheld_end c.args.config.now c.args.judged.now c.loop-place.place (values_view c.loop-place.values.items) ends c.loop-place.invariant
