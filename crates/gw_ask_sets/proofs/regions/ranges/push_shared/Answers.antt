use Rattle.std.specs.Option.{option_to_list}
use Rattle.gw_ask_sets.specs.regions.Ranges.{both}
use Rattle.gw_ask_sets.proofs.regions_lemmas.Growing.{flat_end, flat_step}
use Rattle.gw_ask_sets.proofs.regions.ranges.push_shared.Goals as goal

pub loop-y-preserved : goal.loop-y-preserved
loop-y-preserved c =
    let grown = rw c.both.ensures at c.in_ok-push_some.ensures in
    flat_step (λ y. option_to_list (both c.args.x.now y)) c.args.ys.now c.loop-y.y-index _ c.args.out.now c.loop-y.out _ c.loop-y-test.true
    c.loop-y.invariant grown

pub returns : goal.returns
returns c =
    flat_end (λ y. option_to_list (both c.args.x.now y)) c.args.ys.now c.loop-y.y-index c.args.out.now _ c.loop-y-test.false c.loop-y.invariant
