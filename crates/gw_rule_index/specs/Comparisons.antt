-- How many comparisons an ask may cost, and how many ANDs.
use Rattle.std.specs.Prelude.{ℕ, Bool, if◌then◌else◌, List, length, nat_lt, Option}
use Rattle.std.specs.List.{count_by, list_any, sum_by}
use Rattle.std.specs.Option.{option_map_or}
use Rattle.gw_rules.specs.Ask.{Ask}
use Rattle.gw_rules.specs.Fields.{value_of}
use Rattle.gw_rules.specs.Rule.{ranges_of}
use Rattle.gw_rules.specs.declared.field.FieldName.{FieldName}
use Rattle.gw_rules.specs.declared.rule.Rule.{Rule}
use Rattle.gw_rules.specs.declared.field.TheConstants.FieldName.{ALL}
use Rattle.gw_rule_index.specs.declared.counted.TheConstants.{COMPARISONS_A_FIELD}

-- at most thirteen comparisons if the ask has the field, and none if it doesn't
abbrev pub most_comparisons : Option ℕ → ℕ
most_comparisons value = option_map_or (λ _. COMPARISONS_A_FIELD) value 0

-- so for each of some fields
abbrev pub most_comparisons_in : Ask → List FieldName → ℕ
most_comparisons_in ask fields = sum_by (λ field. most_comparisons (value_of field ask)) fields

-- and for each of the twelve
abbrev pub most_comparisons_of : Ask → ℕ
most_comparisons_of ask = most_comparisons_in ask ALL

-- some rule names the field
abbrev pub is_named : List Rule → FieldName → Bool
is_named rules field = list_any (λ rule. nat_lt 0 (length (ranges_of field rule))) rules

-- how many of some fields some rule names
abbrev pub named_fields_in : List Rule → List FieldName → ℕ
named_fields_in rules fields = count_by (is_named rules) fields

-- and how many of the twelve
abbrev pub named_fields : List Rule → ℕ
named_fields rules = named_fields_in rules ALL

-- at most thirteen comparisons if the ask has a field that a rule names
abbrev pub most_named_comparisons : List Rule → FieldName → Option ℕ → ℕ
most_named_comparisons rules field value = if is_named rules field then most_comparisons value else 0

-- so for each of some fields
abbrev pub most_named_comparisons_in : List Rule → Ask → List FieldName → ℕ
most_named_comparisons_in rules ask fields =
    sum_by (λ field. most_named_comparisons rules field (value_of field ask)) fields

-- and for each of the twelve
abbrev pub most_named_comparisons_of : List Rule → Ask → ℕ
most_named_comparisons_of rules ask = most_named_comparisons_in rules ask ALL

-- one comparison if the ask has the field, and none if it doesn't
abbrev pub one_comparison : Option ℕ → ℕ
one_comparison value = option_map_or (λ _. 1) value 0

-- at least one comparison if the ask has a field that a rule names
abbrev pub least_comparisons : List Rule → FieldName → Option ℕ → ℕ
least_comparisons rules field value = if is_named rules field then one_comparison value else 0

-- so for each of some fields
abbrev pub least_comparisons_in : List Rule → Ask → List FieldName → ℕ
least_comparisons_in rules ask fields =
    sum_by (λ field. least_comparisons rules field (value_of field ask)) fields

-- and for each of the twelve
abbrev pub least_comparisons_of : List Rule → Ask → ℕ
least_comparisons_of rules ask = least_comparisons_in rules ask ALL
