use Rattle.std.proofs.Common.{◌++◌}
use Rattle.std.specs.Prelude.{codes}
use Rattle.gw_policy_review.specs.comparison.Words.{range_text}
use Rattle.gw_ask_sets.proofs.shapes_lemmas.Listing.{flat_end, flat_step}
use Rattle.gw_policy_review.proofs.comparison.words.put_more_ranges.Goals as goal

pub loop-range-preserved : goal.loop-range-preserved
loop-range-preserved c =
    flat_step (λ other. codes " or " ++ range_text c.args.field other) c.args.ranges.now c.loop-range.range-index _ c.args.out.now.items c.loop-range.out.items _ c.loop-range-test.true
    c.loop-range.invariant c.in_ok-put_other_range.ensures

pub returns : goal.returns
returns c =
    flat_end (λ other. codes " or " ++ range_text c.args.field other) c.args.ranges.now c.loop-range.range-index c.args.out.now.items _ c.loop-range-test.false c.loop-range.invariant
