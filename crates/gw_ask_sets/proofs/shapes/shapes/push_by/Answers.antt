use Rattle.gw_ask_sets.specs.shapes.Shapes.{shapes_by}
use Rattle.gw_ask_sets.proofs.shapes_lemmas.Listing.{flat_step}
use Rattle.gw_ask_sets.proofs.shapes.shapes.push_by.Goals as goal

pub loop-by-preserved : goal.loop-by-preserved
loop-by-preserved c =
    let grown = c.in_ok-push_beyond.ensures in
    let grown = rw c.foreign.ensures at grown in
    flat_step (shapes_by c.args.format c.args.device c.args.networks.now) c.args.entrances.now c.loop-by.by-index _ c.args.out.now.items
    c.loop-by.out.items c.push_beyond.new.out.items c.loop-by-test.true c.loop-by.invariant grown
