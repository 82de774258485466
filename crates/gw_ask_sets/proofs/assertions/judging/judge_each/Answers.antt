use Rattle.gw_ask_sets.proofs.assertions_lemmas.GrowingLaw.{judged_next}
use Rattle.gw_ask_sets.proofs.assertions.judging.judge_each.Goals as goal

pub loop-assertion-preserved : goal.loop-assertion-preserved
loop-assertion-preserved c =
    judged_next c.args.config.now c.args.steps c.args.assertions.now c.loop-assertion.assertion-index c.assertion-item.result c.loop-assertion.judged.items
    c.push.new.self.items c.in_ok-one.one c.loop-assertion-test.true c.assertion-item.is c.in_ok-push.ensures.items c.loop-assertion.invariant c.in_ok-one.ensures
