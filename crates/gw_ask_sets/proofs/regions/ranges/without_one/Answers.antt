use Rattle.std.proofs.Common.{[]}
use Rattle.gw_ask_sets.specs.regions.Ranges.{outside}
use Rattle.gw_ask_sets.proofs.regions_lemmas.Growing.{flat_end, flat_step}
use Rattle.gw_ask_sets.proofs.regions.ranges.without_one.Goals as goal

pub loop-x-preserved : goal.loop-x-preserved
loop-x-preserved c =
    flat_step (outside c.args.y.now) c.args.xs.now c.loop-x.x-index _ [] c.loop-x.out _ c.loop-x-test.true
    c.loop-x.invariant c.in_ok-push_outside.ensures

pub returns : goal.returns
returns c = flat_end (outside c.args.y.now) c.args.xs.now c.loop-x.x-index [] _ c.loop-x-test.false c.loop-x.invariant
