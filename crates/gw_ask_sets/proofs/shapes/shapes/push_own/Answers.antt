use Rattle.gw_ask_sets.proofs.shapes_lemmas.Listing.{port_step}
use Rattle.gw_ask_sets.proofs.shapes.shapes.push_own.Goals as goal

pub loop-place-preserved : goal.loop-place-preserved
loop-place-preserved c =
    let grown = c.in_ok-push_within.ensures in
    let grown = rw (c.own-from.ensures, c.from-network.ensures, c.get.ensures.value, c.is_manager.ensures) at grown in
    port_step c.args.format c.args.device c.loop-place.place c.args.ports.now c.index-ports-place.result c.loop-place.out.items
    c.push_within.new.out.items _ c.loop-place-test.true c.index-ports-place.is grown c.loop-place.invariant
