use Rattle.std.proofs.Common.{false}
use Rattle.gw_rules.specs.Rule.{matches}
use Rattle.gw_ask_sets.specs.regions.Regions.{lies_in_one}
use Rattle.gw_ask_sets.proofs.assertions_lemmas.GrowingLaw.{pushed_next}
use Rattle.gw_ask_sets.proofs.regions.matching.matched.Goals as goal

pub loop-region-preserved : goal.loop-region-preserved
loop-region-preserved c = λ ask.
    pushed_next c.args.regions.now c.loop-region.region-index c.region-item.result ask (matches c.args.rule.now ask) false
    (lies_in_one c.loop-region.out.items ask) (lies_in_one c.push_matched.new.out.items ask) c.loop-region-test.true c.region-item.is
    (c.loop-region.invariant ask) (c.in_ok-push_matched.ensures ask)
