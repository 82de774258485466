-- The bounds of a field, which part the numbers into elementary ranges.
use Rattle.std.specs.Prelude.{ℕ, ◌+◌, ◌*◌, ◌^◌, ◌≤◌, ◌<◌, if◌then◌else◌, List, [], ◌∷◌, length, nat_lt, slice_index_or}
use Rattle.std.specs.List.{flat_map}
use Rattle.std.specs.List.Sorted.{IsNonDecreasingBy}
use Rattle.gw_rules.specs.Rule.{ranges_of}
use Rattle.gw_rules.specs.declared.field.FieldName.{FieldName}
use Rattle.gw_rules.specs.declared.range.Range.{Range}
use Rattle.gw_rules.specs.declared.rule.Rule.{Rule}
use Rattle.gw_rules.specs.declared.rule_list.TheConstants.{MAX_RANGES_IN_ALL}
use Rattle.gw_rule_index.specs.declared.bound.Bound.{Bound}

-- the most bounds of a field: two for each of the 2048 ranges that all rules together may have for it
abbrev pub most_bounds : ℕ
most_bounds = 2 * MAX_RANGES_IN_ALL

-- the bounds ascend, and thirteen comparisons are enough for them
abbrev pub AreSearchable : List Bound → Type 0
AreSearchable bounds = IsNonDecreasingBy (λ bound. bound.number) bounds × (length bounds ≤ most_bounds)

-- the bounds before the place aren't above the value, and those from it on are
pub record IsPlace (bounds : List Bound) (value place : ℕ) : Type 0 where
  pub below : (k : ℕ) (d : Bound) → k < place → (slice_index_or bounds k d).number ≤ value
  pub above : (k : ℕ) (d : Bound) → place ≤ k → k < length bounds →
      value < (slice_index_or bounds k d).number

-- where a range begins, and where it has ended; one up to 2^64 - 1 doesn't end
abbrev pub ends : Range → List ℕ
ends range = range.low ∷ (if nat_lt (range.high + 1) (2 ^ 64) then (range.high + 1) ∷ [] else [])

-- the ends of the ranges that the rules have for a field
abbrev pub field_ends : FieldName → List Rule → List ℕ
field_ends field rules = flat_map (λ rule. flat_map ends (ranges_of field rule)) rules

-- the bound at a number
abbrev pub bound_at : ℕ → Bound
bound_at number = record { number = number }
