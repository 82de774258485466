-- What a rule says of each field, when it matches an ask, and the limits that it keeps.
use Rattle.std.specs.Prelude.{ℕ, ◌≤◌, ◌<◌, Bool, false, if◌then◌else◌, List, [], ◌∷◌, ◌++◌, length, nat_le, codes, All, Any}
use Rattle.std.specs.List.{list_all}
use Rattle.std.specs.Option.{IsSomeAnd}
use Rattle.gw_rules.specs.Ask.{Ask}
use Rattle.gw_rules.specs.declared.field.FieldName.{FieldName}
use Rattle.gw_rules.specs.declared.field.TheConstants.FieldName.{ALL}
use Rattle.gw_rules.specs.declared.range.Range.{Range}
use Rattle.gw_rules.specs.declared.rule.Rule.{Rule}
use Rattle.gw_rules.specs.declared.rule.TheConstants.{MAX_LONG_RANGES, MAX_RANGES}
use Rattle.gw_rules.specs.Fields.{in_each, value_of, with_value}
use Rattle.gw_rules.specs.Range.{admits, is_ordered}

-- the ranges that a rule has for a field
abbrev pub ranges_of : FieldName → Rule → List Range
ranges_of field rule = value_of field rule.ranges

-- a rule that names no field, and isn't quiet
abbrev pub rule_without_fields : List ℕ → Bool → Rule
rule_without_fields name allow = record { name = name; allow = allow; quiet = false; ranges = in_each [] }

-- the rule with one more range for a field, after those that it has
abbrev pub with_range : FieldName → Range → Rule → Rule
with_range field range rule =
    record rule { ranges = with_value field (ranges_of field rule ++ range ∷ []) rule.ranges }

-- what follows the name of a rule that is quiet, so that a reader knows why the log lacks what it denies
abbrev pub quiet_mark : Bool → List ℕ
quiet_mark is_quiet = if is_quiet then codes " (quiet)" else []

-- each of the twelve fields passes the test
abbrev pub each_field : (FieldName → Bool) → Bool
each_field test = list_all test ALL

-- a rule matches an ask if, in each field, its ranges admit what the ask has
unfoldable pub matches : Rule → Ask → Bool
matches rule ask = each_field (λ field. admits (ranges_of field rule) (value_of field ask))

-- a rule names the fields that it has a range for
abbrev pub Names : Rule → FieldName → Type 0
Names rule field = 0 < length (ranges_of field rule)

-- the ask has the field, and one of the rule's ranges holds its value
abbrev pub Meets : Ask → Rule → FieldName → Type 0
Meets ask rule field =
    IsSomeAnd (value_of field ask)
    (λ value. Any (λ range. (range.low ≤ value) × (value ≤ range.high)) (ranges_of field rule))

-- every field that the rule names is met by the ask: what `matches` says, in words
abbrev pub Matches : Rule → Ask → Type 0
Matches rule ask = (field : FieldName) → Names rule field → Meets ask rule field

-- at most four ranges for each field, and the test that computes it
abbrev pub HasFewRanges : Rule → Type 0
HasFewRanges rule = (field : FieldName) → length (ranges_of field rule) ≤ MAX_RANGES

abbrev pub has_few_ranges : Rule → Bool
has_few_ranges rule = each_field (λ field. nat_le (length (ranges_of field rule)) MAX_RANGES)

-- at most 256 ranges for each field, and the test that computes it
abbrev pub HasLongRanges : Rule → Type 0
HasLongRanges rule = (field : FieldName) → length (ranges_of field rule) ≤ MAX_LONG_RANGES

abbrev pub has_long_ranges : Rule → Bool
has_long_ranges rule = each_field (λ field. nat_le (length (ranges_of field rule)) MAX_LONG_RANGES)

-- no range has its low end above its high end, and the test that computes it
abbrev pub HasOrderedRanges : Rule → Type 0
HasOrderedRanges rule = (field : FieldName) → All (λ range. range.low ≤ range.high) (ranges_of field rule)

abbrev pub has_ordered_ranges : Rule → Bool
has_ordered_ranges rule = each_field (λ field. list_all is_ordered (ranges_of field rule))
