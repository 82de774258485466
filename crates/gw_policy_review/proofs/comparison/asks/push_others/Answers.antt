use Rattle.gw_ask_sets.proofs.shapes_lemmas.Listing.{flat_end, flat_step}
use Rattle.gw_policy_review.specs.comparison.Asks.{other_region}
use Rattle.gw_policy_review.proofs.comparison.asks.push_others.Goals as goal

pub loop-shape-preserved : goal.loop-shape-preserved
loop-shape-preserved c =
    flat_step (other_region c.args.known.now) c.args.shapes.now c.loop-shape.shape-index _ c.args.out.now.items c.loop-shape.out.items _ c.loop-shape-test.true
    c.loop-shape.invariant c.in_ok-push_other.ensures

pub returns : goal.returns
returns c =
    flat_end (other_region c.args.known.now) c.args.shapes.now c.loop-shape.shape-index c.args.out.now.items _ c.loop-shape-test.false c.loop-shape.invariant
