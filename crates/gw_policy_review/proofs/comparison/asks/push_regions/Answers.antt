use Rattle.gw_policy_review.proofs.comparison_lemmas.AskLaw.{region_next}
use Rattle.gw_policy_review.proofs.comparison.asks.push_regions.Goals as goal

pub loop-shape-preserved : goal.loop-shape-preserved
loop-shape-preserved c =
    region_next c.args.shapes.now c.loop-shape.shape-index _ c.args.out.now.items c.loop-shape.out.items c.push.new.self.items c.in_ok-region_of.field-0
    c.loop-shape-test.true c.in_ok-push.ensures.items c.in_ok-region_of.ensures.region c.loop-shape.invariant
