-- How many of some rules miss an ask, field by field.
use Rattle.std.specs.Prelude.{◌≡◌, ◌≤◌, ℕ, ◌+◌, ◌==◌, Bool, true, false, not, List, [], ◌∷◌, length, slice_get, Option}
use Rattle.std.specs.List.{filter, list_any}
use Rattle.std.specs.Option.{option_map_or}
use Rattle.gw_rules.specs.Ask.{Ask}
use Rattle.gw_rules.specs.Fields.{value_of}
use Rattle.gw_rules.specs.Range.{admits}
use Rattle.gw_rules.specs.Rule.{ranges_of}
use Rattle.gw_rules.specs.declared.field.FieldName.{FieldName}
use Rattle.gw_rules.specs.declared.rule.Rule.{Rule}
use Rattle.gw_ask_sets.specs.regions.Values.{has}
use Rattle.gw_ask_sets.specs.declared.regions.values.Values.{Values}

-- the rule at a place isn't there, or doesn't admit this value of a field
abbrev pub misses : List Rule → FieldName → Option ℕ → (place : ℕ) → Bool
misses rules field value place =
    option_map_or (λ rule. not (admits (ranges_of field rule) value)) (slice_get rules place) true

-- how many of those at these places miss it
abbrev pub miss_count : List Rule → (places : List ℕ) → FieldName → Option ℕ → ℕ
miss_count rules places field value = length (filter (misses rules field value) places)

-- one of the ranges of the rule at a place ends with this number
abbrev pub ends_at : List Rule → FieldName → ℕ → (place : ℕ) → Bool
ends_at rules field number place =
    option_map_or (λ rule. list_any (λ range. range.high == number) (ranges_of field rule)) (slice_get rules place) false

-- at most so many miss any of these values
abbrev pub AreFew : List Rule → (places : List ℕ) → FieldName → Values → (most : ℕ) → Type 0
AreFew rules places field values most =
    (value : Option ℕ) → has values value ≡ true → miss_count rules places field value ≤ most

-- how many miss what an ask has in these fields, counted for each of them
abbrev pub miss_sum : List Rule → (places : List ℕ) → List FieldName → Ask → ℕ
miss_sum rules places [] ask = 0
miss_sum rules places (field ∷ fields) ask =
    miss_count rules places field (value_of field ask) + miss_sum rules places fields ask
