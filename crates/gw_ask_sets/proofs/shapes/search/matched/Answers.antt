use Rattle.gw_ask_sets.proofs.shapes_lemmas.Narrowing.{matched_next}
use Rattle.gw_ask_sets.proofs.shapes.search.matched.Goals as goal

pub loop-shape-preserved : goal.loop-shape-preserved
loop-shape-preserved c =
    matched_next c.args.shapes.now c.loop-shape.shape-index _ c.args.rule.now c.loop-shape.regions.items c.push_matched.new.regions.items
    c.loop-shape-test.true c.loop-shape.invariant c.in_ok-push_matched.ensures
