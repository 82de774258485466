use Rattle.gw_policy_drafts.proofs.suggestion_lemmas.GroupLaw.{put_last}
use Rattle.gw_policy_drafts.proofs.suggestion.joining.add_joined.Goals as goal

pub returns : goal.returns
returns c = λ ask.
    put_last c.args.done.now.items c.try_join.new.done.items c.push.new.self.items c.in_ok-copied.copied c.args.group.now ask
    c.in_ok-is_joined.is_joined c.if-is_joined.false (c.in_ok-is_joined.ensures ask) c.in_ok-push.ensures.items c.in_ok-copied.ensures
