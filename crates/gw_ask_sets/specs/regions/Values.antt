-- Sets of values that a field of an ask may have.
use Rattle.std.specs.Prelude.{ℕ, Bool, false, not, ◌&&◌, ◌==◌, if◌then◌else◌, List, [], ◌∷◌, length, Option, Some, None}
use Rattle.std.specs.List.{list_any}
use Rattle.gw_rules.specs.Operation.{operation_number}
use Rattle.gw_rules.specs.Range.{holds}
use Rattle.gw_rules.specs.declared.operation.Operation.{Operation}
use Rattle.gw_rules.specs.declared.range.Range.{Range}
use Rattle.gw_ask_sets.specs.regions.Coverage.{is_within}
use Rattle.gw_ask_sets.specs.regions.Ranges.{between, first_number, shared, without}
use Rattle.gw_ask_sets.specs.declared.regions.values.Values.{Values}

-- the field may be so
abbrev pub has : Values → Option ℕ → Bool
has values None = values.absent
has values (Some number) = list_any (holds number) values.ranges

-- the operation may be this
abbrev pub has_operation : Values → Operation → Bool
has_operation values operation = has values (Some (operation_number operation))

-- no field is so
abbrev pub is_empty : Values → Bool
is_empty values = not values.absent && (length values.ranges == 0)

-- the numbers below 2^64
abbrev pub all_numbers : Range
all_numbers = between 0 18446744073709551615

-- the field may be anything: absent, or any number
abbrev pub is_any : Values → Bool
is_any values = values.absent && list_any (is_within all_numbers) values.ranges

-- all other values
abbrev pub others : Values → Values
others values = record { absent = not values.absent; ranges = without (all_numbers ∷ []) values.ranges }

-- what of the values the ranges of a rule admit, and what they don't
abbrev pub admitted : Values → List Range → Values
admitted values ranges =
    if length ranges == 0 then values else record { absent = false; ranges = shared values.ranges ranges }

abbrev pub refused : Values → List Range → Values
refused values ranges =
    if length ranges == 0 then record { absent = false; ranges = [] }
    else record { absent = values.absent; ranges = without values.ranges ranges }

-- a value that both have, if there is one: a number, if both have one, else absent
abbrev pub common : Values → Values → Option ℕ
common a b = first_number (shared a.ranges b.ranges)

-- both have a value
abbrev pub shares : Values → Values → Bool
shares a b = has a (common a b) && has b (common a b)
