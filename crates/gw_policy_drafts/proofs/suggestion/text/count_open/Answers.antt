use Rattle.gw_policy_drafts.specs.suggestion.Given.{is_open}
use Rattle.gw_policy_drafts.proofs.suggestion_lemmas.Totals.{total_none, total_step}
use Rattle.gw_policy_drafts.proofs.suggestion.text.count_open.Goals as goal

pub loop-each-init : goal.loop-each-init
loop-each-init c = total_none is_open

pub loop-each-preserved : goal.loop-each-preserved
loop-each-preserved c =
    total_step is_open c.args.asks.now c.loop-each.each-index _ c.loop-each.count c.counted_on-count.result c.is_open.result c.loop-each-test.true
    c.loop-each.invariant c.is_open.ensures c.counted_on-count.ensures
