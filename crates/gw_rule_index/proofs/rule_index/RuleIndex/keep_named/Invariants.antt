use Rattle.std.proofs.Common.{◌≡◌, ◌*◌, ◌≤◌, List, take, true}
use Rattle.std.specs.List.{sum_by}
use Rattle.gw_rules.specs.Fields.{value_of}
use Rattle.gw_rules.specs.declared.rule.Rule.{Rule}
use Rattle.gw_rule_index.specs.Comparisons.{most_comparisons_in, one_comparison}
use Rattle.gw_rule_index.specs.internal.Index.{IsBuiltFrom}
use Rattle.gw_rule_index.specs.internal.Row.{Marks, admits_all}
use Rattle.gw_rule_index.proofs.rule_index.RuleIndex.keep_named.Given as goal

abbrev pub invariant-loop-field : goal.invariant-loop-field
invariant-loop-field l = record {
  row : (rules : List Rule) → IsBuiltFrom l.self rules → Marks l.fn.row.words (λ _. true) rules → Marks l.row.words (admits_all l.ask (take l.field-index l.self.fields.named.items)) rules;
  each_field : l.counted.comparisons ≤ most_comparisons_in l.ask (take l.field-index l.self.fields.named.items);
  most : l.counted.comparisons ≤ 13 * l.field-index;
  least : sum_by (λ field. one_comparison (value_of field l.ask)) (take l.field-index l.self.fields.named.items) ≤ l.counted.comparisons;
  ands : l.counted.ands ≡ l.field-index;
}
