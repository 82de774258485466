use Rattle.gw_ask_sets.proofs.assertions_lemmas.GrowingLaw.{shape_next}
use Rattle.gw_ask_sets.proofs.assertions.asserted.regions_of.Goals as goal

pub loop-shape-preserved : goal.loop-shape-preserved
loop-shape-preserved c =
    shape_next c.args.shapes.now c.loop-shape.shape-index _ c.loop-shape.regions.items c.push.new.self.items c.in_ok-region.region
    c.loop-shape-test.true c.in_ok-push.ensures.items c.in_ok-region.ensures.region c.loop-shape.invariant
