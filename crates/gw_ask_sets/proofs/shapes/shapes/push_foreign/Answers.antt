use Rattle.gw_ask_sets.proofs.shapes_lemmas.Listing.{gap_step}
use Rattle.gw_ask_sets.proofs.shapes.shapes.push_foreign.Goals as goal

pub loop-network-preserved : goal.loop-network-preserved
loop-network-preserved c =
    gap_step c.args.format c.args.device c.loop-network.network-index c.args.entrances.now c.args.networks.now _ c.loop-network.out.items
    c.push_by.new.out.items _ c.loop-network-test.true c.in_ok-push_by.ensures c.loop-network.invariant
