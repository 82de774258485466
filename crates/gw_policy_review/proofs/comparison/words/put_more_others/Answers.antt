use Rattle.gw_policy_review.specs.comparison.Words.{other_text}
use Rattle.gw_ask_sets.proofs.shapes_lemmas.Listing.{flat_end, flat_step}
use Rattle.gw_policy_review.proofs.comparison.words.put_more_others.Goals as goal

pub loop-range-preserved : goal.loop-range-preserved
loop-range-preserved c =
    flat_step (other_text c.args.field c.args.absent) c.args.ranges.now c.loop-range.range-index _ c.args.out.now.items c.loop-range.out.items _ c.loop-range-test.true
    c.loop-range.invariant c.in_ok-put_other.ensures

pub returns : goal.returns
returns c =
    flat_end (other_text c.args.field c.args.absent) c.args.ranges.now c.loop-range.range-index c.args.out.now.items _ c.loop-range-test.false c.loop-range.invariant
