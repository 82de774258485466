use Rattle.gw_policy_review.proofs.lint_lemmas.Notes.{passages_next}
use Rattle.gw_policy_review.proofs.lint.passage.search_shapes.Goals as goal

pub loop-shape-preserved : goal.loop-shape-preserved
loop-shape-preserved c =
    passages_next c.args.rules.now c.args.shapes.now c.loop-shape.shape-index _ c.loop-shape.found.items c.push.new.self.items _ c.args.left
    c.loop-shape.rest c.in_ok-one.one.left c.loop-shape-test.true c.loop-shape.invariant c.in_ok-one.ensures c.in_ok-push.ensures.items
