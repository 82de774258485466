-- Which of some rules is nearest to matching all of a region.
use Rattle.std.specs.Prelude.{◌≡◌, ◌<◌, ℕ, true, false, List, [], ◌∷◌, Some, length, slice_get}
use Rattle.gw_rules.specs.Ask.{Ask}
use Rattle.gw_rules.specs.Fields.{value_of}
use Rattle.gw_rules.specs.Rule.{ranges_of}
use Rattle.gw_rules.specs.declared.field.FieldName.{FieldName}
use Rattle.gw_rules.specs.declared.rule.Rule.{Rule}
use Rattle.gw_ask_sets.specs.regions.Coverage.{covers}
use Rattle.gw_ask_sets.specs.regions.Regions.{Region, lies}
use Rattle.gw_ask_sets.specs.regions.Steps.{divides}
use Rattle.gw_ask_sets.specs.regions.Unmatched.{AreAllMatched, is_matched}
use Rattle.gw_ask_sets.specs.declared.regions.unmatched.Nearest.{Nearest}
use Rattle.gw_ask_sets.specs.declared.regions.unmatched.Nearest.TheVariants as nearest

-- the rule at a place divides a region, and isn't seen to admit all values of a field
pub record IsOpen (rules : List Rule) (region : Region) (place : ℕ) (field : FieldName) : Type 0 where
  pub rule : Rule
  pub within : place < length rules
  pub there : slice_get rules place ≡ Some rule
  pub dividing : divides rule region ≡ true
  pub open_there : covers (value_of field region) (ranges_of field rule) ≡ false

-- what is said of those of the rules that were looked at is right
abbrev pub IsNearest : List Rule → List Rule → Region → Nearest → Type 0
IsNearest seen rules region nearest.Apart = (ask : Ask) → lies region ask ≡ true → is_matched seen ask ≡ false
IsNearest seen rules region nearest.Whole = AreAllMatched (region ∷ []) rules
IsNearest seen rules region (nearest.Open place field lacking) = IsOpen rules region place field
