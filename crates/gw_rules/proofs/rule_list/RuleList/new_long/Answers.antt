use Rattle.std.proofs.Common.{◌≡◌, true, ◌≤◌, List, length, sym, subst, ap, ◌∙◌}
use Rattle.gw_rules.specs.declared.rule.Rule.{Rule}
use Rattle.gw_rules.specs.declared.rule_list.TheConstants.{MAX_RULES}
use Rattle.gw_rules.specs.RuleList.{keeps_long_counts}
use Rattle.gw_rules.proofs.Limits.{long_counts_iff}
use Rattle.gw_rules.proofs.rule_list.RuleList.new_long.Goals as goal

pub others_of-others-requires : goal.others_of-others-requires
others_of-others-requires c =
    let rules = c.args.rules.items in
    let few : keeps_long_counts rules ≡ true = sym (c.are_few_enough.ensures ∙ ap keeps_long_counts c.deref.ensures.value) ∙ c.if-not-are_few_enough.false in
    let within : length rules ≤ MAX_RULES = ((long_counts_iff rules).0 few).few_rules in
    record { few = subst (λ (l : List Rule). length l ≤ MAX_RULES) (sym c.deref-3.ensures.value) within }
