use Rattle.gw_notices.proofs.rule_changes_lemmas.SameRules.{same_if_equal}
use Rattle.gw_notices.proofs.rule_changes.same.same_rule.Goals as goal

pub returns : goal.returns
returns c = same_if_equal c.is_same.result c.args.a.now c.args.b.now c.is_same.ensures
