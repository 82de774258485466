use Rattle.std.proofs.Common.{sym}
use Rattle.gw_ask_sets.proofs.assertions_lemmas.GrowingLaw.{apart_next}
use Rattle.gw_ask_sets.proofs.regions_lemmas.CoverageLaw.{apart_law}
use Rattle.gw_ask_sets.proofs.assertions.passing.may_match.Goals as goal

pub loop-region-preserved : goal.loop-region-preserved
loop-region-preserved c = λ ask.
    apart_next c.args.regions.now c.loop-region.region-index c.region-item.result c.args.rule.now ask c.loop-region-test.true c.region-item.is
    (c.loop-region.invariant ask) (apart_law c.args.rule.now c.region-item.result ask (sym c.if-meets_each.ensures))
