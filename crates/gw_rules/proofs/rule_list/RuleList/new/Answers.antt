use Rattle.std.proofs.Common.{◌≡◌, true, sym, subst, ap, ◌∙◌}
use Rattle.std.proofs.lemmas.Bool.{and_from}
use Rattle.gw_rules.specs.RuleList.{keeps_counts, keeps_long_counts, keeps_order}
use Rattle.gw_rules.specs.internal.Grouped.{SayOthers}
use Rattle.gw_rules.proofs.Limits.{short_passes}
use Rattle.gw_rules.proofs.rule_list.RuleList.new.Goals as goal

pub invariant_of-result : goal.invariant_of-result
invariant_of-result c =
    let rules = c.args.rules.items in
    let few : keeps_counts rules ≡ true = sym (c.are_few.ensures ∙ ap keeps_counts c.deref.ensures.value) ∙ c.if-not-are_few.false in
    let ordered : keeps_order rules ≡ true = sym (c.are_ordered.ensures ∙ ap keeps_order c.deref-2.ensures.value) ∙ c.if-not-are_ordered.false in (
      and_from (keeps_long_counts rules) (keeps_order rules) (short_passes rules few) ordered,
      subst (SayOthers c.others_of-others.result) c.deref-3.ensures.value c.others_of-others.ensures,
    )
