-- What the index of a rule list is.
use Rattle.std.specs.Prelude.{◌≡◌, ◌≤◌, true, List, length, map}
use Rattle.gw_rules.specs.Fields.{value_of}
use Rattle.gw_rules.specs.declared.field.FieldName.{FieldName}
use Rattle.gw_rules.specs.declared.rule.Rule.{Rule}
use Rattle.gw_rules.specs.declared.rule_list.TheConstants.{MAX_RULES}
use Rattle.gw_rule_index.specs.declared.rule_index.RuleIndex.{RuleIndex}
use Rattle.gw_rule_index.specs.internal.Field.{IsIndexOf}
use Rattle.gw_rule_index.specs.internal.Row.{Marks}

-- each field has its index, and each rule its place, what it says and whether it is quiet
pub record IsBuiltFrom (index : RuleIndex) (rules : List Rule) : Type 0 where
  pub few : length rules ≤ MAX_RULES
  pub fields : (field : FieldName) → IsIndexOf rules field (value_of field index.fields.each)
  pub every : Marks index.every.words (λ _. true) rules
  pub verdicts : index.verdicts.items ≡ map (λ rule. rule.allow) rules
  pub quiets : index.quiets.items ≡ map (λ rule. rule.quiet) rules
