use Rattle.gw_ask_sets.proofs.assertions_lemmas.GrowingLaw.{pushed_next}
use Rattle.gw_ask_sets.specs.regions.Regions.{lies_in_one}
use Rattle.gw_ask_sets.specs.assertions.internal.Conditions.{is_met}
use Rattle.gw_ask_sets.proofs.assertions.condition.push_all_meeting.Goals as goal

pub loop-region-preserved : goal.loop-region-preserved
loop-region-preserved c = λ ask.
    pushed_next c.args.regions.now c.loop-region.region-index c.region-item.result ask (is_met c.args.condition.now ask) (lies_in_one c.args.out.now.items ask)
    (lies_in_one c.loop-region.out.items ask) (lies_in_one c.push_meeting.new.out.items ask) c.loop-region-test.true c.region-item.is
    (c.loop-region.invariant ask) (c.in_ok-push_meeting.ensures ask)
