use Rattle.std.proofs.Common.{[]}
use Rattle.gw_ask_sets.proofs.shapes_lemmas.Listing.{flat_end, flat_step}
use Rattle.gw_policy_review.specs.lint.Passage.{unnamed_of}
use Rattle.gw_policy_review.proofs.lint.passage.unnamed_shapes.Goals as goal

pub loop-shape-preserved : goal.loop-shape-preserved
loop-shape-preserved c =
    flat_step (unnamed_of c.args.device) c.args.shapes.now c.loop-shape.shape-index _ [] c.loop-shape.made.items _ c.loop-shape-test.true
    c.loop-shape.invariant c.in_ok-push_unnamed.ensures

pub returns : goal.returns
returns c =
    flat_end (unnamed_of c.args.device) c.args.shapes.now c.loop-shape.shape-index [] _ c.loop-shape-test.false c.loop-shape.invariant
