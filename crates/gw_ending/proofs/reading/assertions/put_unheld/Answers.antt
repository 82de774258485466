use Rattle.std.proofs.Common.{length, rules, ◌≡◌, ◌<◌, ◌++◌, ◌+◌, get_or}
use Rattle.gw_ask_sets.specs.declared.assertions.judging.Judged.TheVariants as judged
use Rattle.gw_ending.specs.reading.Assertions.{unheld_line}
use Rattle.gw_script.proofs.Order.{in_order_none, in_order_step}
use Rattle.gw_ending.proofs.reading.assertions.put_unheld.Goals as goal

pub loop-place-init : goal.loop-place-init
loop-place-init c = in_order_none (unheld_line c.args.config.now) c.args.out.now.items

pub loop-place-preserved : goal.loop-place-preserved
loop-place-preserved c =
    let text = unheld_line c.args.config.now in
    let found = c.args.judged.now in
    let place = c.loop-place.place in
    let within : place < length found = search rules in
    let then : c.put_line.new.out.items ≡ c.loop-place.out.items ++ text (place + 1) (get_or found place judged.Holds) =
    c.in_ok-put_line.ensures in
    in_order_step text c.args.out.now.items c.loop-place.out.items c.put_line.new.out.items found place judged.Holds within
    c.loop-place.invariant then
