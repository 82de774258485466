use Rattle.std.proofs.Common.{false, take}
use Rattle.gw_ask_sets.proofs.regions_lemmas.PairLaw.{taken}
use Rattle.gw_ask_sets.proofs.regions.pairs.first_rules.Goals as goal

pub loop-rule-preserved : goal.loop-rule-preserved
loop-rule-preserved c = λ ask.
    taken (take c.args.count c.args.rules.now) c.loop-rule.front.items c.push_rule.new.front.items c.loop-rule.rule-index c.rule-item.result ask false
    c.loop-rule-test.true c.rule-item.is (c.loop-rule.invariant ask) (c.in_ok-push_rule.ensures ask)
