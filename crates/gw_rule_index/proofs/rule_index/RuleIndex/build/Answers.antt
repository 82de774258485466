use Rattle.std.proofs.Common.{◌≤◌, length, subst, sym}
use Rattle.gw_rule_index.specs.declared.rule_index.RuleIndex.{RuleIndex}
use Rattle.gw_rule_index.specs.internal.Index.{IsBuiltFrom}
use Rattle.gw_rule_index.proofs.rule_index.RuleIndex.build.Goals as goal

pub returns : goal.returns
returns c =
    let index : RuleIndex = record { fields = c.in_ok-indexes_of.field-0; every = c.every.result; verdicts = c.in_ok-verdicts_of.field-0; quiets = c.in_ok-quiets_of.field-0 } in
    let same = c.rules-rules.ensures.rules in
    subst (IsBuiltFrom index) same (record {
      few = subst (λ rules. length rules ≤ 512) (sym same) c.rules-rules.ensures.counts.few_rules;
      fields = c.in_ok-indexes_of.ensures;
      every = c.every.ensures;
      verdicts = c.in_ok-verdicts_of.ensures;
      quiets = c.in_ok-quiets_of.ensures;
    })
