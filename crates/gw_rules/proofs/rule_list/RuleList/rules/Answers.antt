use Rattle.std.proofs.Common.{sym, ◌∙◌, ap}
use Rattle.std.proofs.lemmas.Bool.{and_parts}
use Rattle.gw_rules.specs.RuleList.{keeps_long_counts, keeps_order}
use Rattle.gw_rules.proofs.Limits.{long_counts_iff, order_iff}
use Rattle.gw_rules.proofs.rule_list.RuleList.rules.Goals as goal

-- the invariant holds of the fields, and so of the list that they are seen as
pub returns-clause-counts : goal.returns-clause-counts
returns-clause-counts c =
    let rules = c.self.inside.rules.items in
    let kept = and_parts (keeps_long_counts rules) (keeps_order rules) c.self.invariant.0 in
    (long_counts_iff c.args.self.now).0 (sym (ap keeps_long_counts c.self.view_is) ∙ kept.0)

pub returns-clause-order : goal.returns-clause-order
returns-clause-order c =
    let rules = c.self.inside.rules.items in
    let kept = and_parts (keeps_long_counts rules) (keeps_order rules) c.self.invariant.0 in
    (order_iff c.args.self.now).0 (sym (ap keeps_order c.self.view_is) ∙ kept.1)
