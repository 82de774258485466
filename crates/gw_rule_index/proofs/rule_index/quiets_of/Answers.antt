use Rattle.std.proofs.Common.{◌∙◌, ◌++◌, Bool, List, ◌∷◌, [], ap, map, sym, take}
use Rattle.std.proofs.lemmas.List.{map_more}
use Rattle.gw_rule_index.proofs.rule_index.quiets_of.Goals as goal

pub loop-rule-preserved : goal.loop-rule-preserved
loop-rule-preserved c =
    c.in_ok-push.ensures.items
    ∙ ap (λ (quiets : List Bool). quiets ++ c.rule-item.result.quiet ∷ []) c.loop-rule.invariant
    ∙ ap (λ rule. map (λ rule. rule.quiet) (take c.loop-rule.rule-index c.args.rules.now) ++ rule.quiet ∷ []) c.rule-item.is
    ∙ sym (map_more (λ rule. rule.quiet) c.args.rules.now c.loop-rule.rule-index c.rule-item.result c.loop-rule-test.true)
