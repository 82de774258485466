use Rattle.gw_policy_drafts.proofs.suggestion_lemmas.SuggestLaw.{pushed_rule}
use Rattle.gw_policy_drafts.proofs.suggestion.rules.push_rule.Goals as goal

pub returns-clause-matching : goal.returns-clause-matching
returns-clause-matching c = λ ask.
    pushed_rule c.args.rules.now.items c.push.new.self.items c.in_ok-rule.rule c.args.group.now ask c.in_ok-push.ensures.items
    c.in_ok-rule.ensures.ranges
