use Rattle.gw_policy_drafts.proofs.suggestion_lemmas.LeavingLaw.{stays_out}
use Rattle.gw_policy_drafts.proofs.suggestion.leaving.Parted.leave_out.Goals as goal

pub returns-clause-stays : goal.returns-clause-stays
returns-clause-stays c =
    stays_out c.args.self.now.kept.items c.remove-rule.new.self.items c.args.self.now.left.items c.push.new.self.items c.args.found
    c.remove-rule.result c.requires c.remove-rule.ensures.value c.remove-rule.ensures.items c.in_ok-push.ensures.items
