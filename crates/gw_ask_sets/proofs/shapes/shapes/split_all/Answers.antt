use Rattle.std.proofs.Common.{[]}
use Rattle.gw_ask_sets.specs.shapes.Shapes.{split}
use Rattle.gw_ask_sets.proofs.shapes_lemmas.Listing.{flat_end, flat_step}
use Rattle.gw_ask_sets.proofs.shapes.shapes.split_all.Goals as goal

pub loop-side-preserved : goal.loop-side-preserved
loop-side-preserved c =
    flat_step (split c.args.number) c.args.sides.now c.loop-side.side-index _ [] c.loop-side.out.items _ c.loop-side-test.true
    c.loop-side.invariant c.in_ok-push_split.ensures

pub returns : goal.returns
returns c = flat_end (split c.args.number) c.args.sides.now c.loop-side.side-index [] _ c.loop-side-test.false c.loop-side.invariant
