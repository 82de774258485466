use Rattle.gw_rules.specs.Fields.{with_value}
use Rattle.gw_policy_drafts.proofs.suggestion_lemmas.GroupLaw.{cut_ends, cut_step}
use Rattle.gw_policy_drafts.proofs.suggestion.cutting.add_cut.Goals as goal

pub loop-rest-preserved : goal.loop-rest-preserved
loop-rest-preserved c = λ ask.
    cut_step c.args.field c.args.group.now c.loop-rest.done.items c.push_with.new.done.items c.loop-rest.rest.now c.split_at.result.0.now
    c.split_at.result.1.now ask _ c.loop-rest-test.true c.split_at.ensures.front c.split_at.ensures.back c.in_ok-push_with.ensures
    (c.loop-rest.invariant ask)

pub returns : goal.returns
returns c = λ ask.
    cut_ends (with_value c.args.field c.loop-rest.rest.now c.args.group.now) c.loop-rest.done.items c.push_with-2.new.done.items ask _
    c.in_ok-push_with-2.ensures (c.loop-rest.invariant ask)
