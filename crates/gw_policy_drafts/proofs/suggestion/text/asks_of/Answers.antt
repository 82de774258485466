use Rattle.gw_rules.specs.Rule.{matches}
use Rattle.gw_policy_drafts.proofs.suggestion_lemmas.Totals.{total_none, total_step}
use Rattle.gw_policy_drafts.proofs.suggestion.text.asks_of.Goals as goal

pub loop-each-init : goal.loop-each-init
loop-each-init c = total_none (matches c.args.rule.now)

pub loop-each-preserved : goal.loop-each-preserved
loop-each-preserved c =
    total_step (matches c.args.rule.now) c.args.asks.now c.loop-each.each-index _ c.loop-each.count c.counted_on-count.result c.matches.result c.loop-each-test.true
    c.loop-each.invariant c.matches.ensures c.counted_on-count.ensures
