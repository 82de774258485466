use Rattle.gw_policy_drafts.proofs.suggestion_lemmas.SuggestLaw.{own_step}
use Rattle.gw_policy_drafts.proofs.suggestion.suggestion.own_groups.Goals as goal

pub loop-ask-preserved : goal.loop-ask-preserved
loop-ask-preserved c = λ ask.
    own_step c.args.keeps c.args.asks.now c.loop-ask.ask-index _ c.loop-ask.groups.items c.push.new.self.items c.in_ok-made.made ask
    c.loop-ask-test.true c.in_ok-push.ensures.items c.in_ok-made.ensures (c.loop-ask.invariant ask)
