-- Regions in the place of others: two that are made one, and one that is made wider.
use Rattle.std.specs.Prelude.{◌≡◌, ℕ, Bool, true, ◌||◌, ◌==◌, List}
use Rattle.std.specs.List.{list_any}
use Rattle.gw_rules.specs.Ask.{Ask}
use Rattle.gw_rules.specs.Field.{field_number}
use Rattle.gw_rules.specs.Fields.{value_of}
use Rattle.gw_rules.specs.Range.{holds}
use Rattle.gw_rules.specs.Rule.{each_field}
use Rattle.gw_rules.specs.declared.field.FieldName.{FieldName}
use Rattle.gw_rules.specs.declared.range.Range.{Range}
use Rattle.gw_rules.specs.declared.rule.Rule.{Rule}
use Rattle.gw_ask_sets.specs.regions.Comparing.{IsFoundFor, is_found}
use Rattle.gw_ask_sets.specs.regions.Regions.{Region, lies, lies_in_one}
use Rattle.gw_ask_sets.specs.regions.Values.{has}
use Rattle.gw_ask_sets.specs.declared.regions.comparison.Found.{Found}

-- a list of ranges holds the numbers of two lists
abbrev pub AreUnited : List Range → List Range → List Range → Type 0
AreUnited all xs ys =
    (number : ℕ) → list_any (holds number) all ≡ (list_any (holds number) xs || list_any (holds number) ys)

-- in one field an ask has a value of the region, or this is the field that doesn't matter
abbrev pub has_but : FieldName → FieldName → Region → Ask → Bool
has_but field other region ask =
    (field_number other == field_number field) || has (value_of other region) (value_of other ask)

-- an ask lies in a region, whatever it has in this field
abbrev pub lies_but : FieldName → Region → Ask → Bool
lies_but field region ask = each_field (λ other. has_but field other region ask)

-- two that were found say the same, and their regions differ in this field alone
pub record AreJoint (field : FieldName) (one other : Found) : Type 0 where
  pub allows : one.allows ≡ other.allows
  pub old_rules : one.old_rules.items ≡ other.old_rules.items
  pub new_rules : one.new_rules.items ≡ other.new_rules.items
  pub regions : (ask : Ask) → lies_but field one.region ask ≡ lies_but field other.region ask

-- one in the place of two: it has their asks, and says what they say
pub record IsJoined (both one other : Found) : Type 0 where
  pub regions : (ask : Ask) → lies both.region ask ≡ (lies one.region ask || lies other.region ask)
  pub ask : both.ask ≡ one.ask
  pub allows : both.allows ≡ one.allows
  pub old_rules : both.old_rules.items ≡ one.old_rules.items
  pub new_rules : both.new_rules.items ≡ one.new_rules.items
  pub same_allows : one.allows ≡ other.allows
  pub same_old_rules : one.old_rules.items ≡ other.old_rules.items
  pub same_new_rules : one.new_rules.items ≡ other.new_rules.items

-- these have the asks that those had, and are as right as they were
pub record AreKept (before after : List Found) : Type 0 where
  pub asks : (ask : Ask) → is_found after ask ≡ is_found before ask
  pub found : (test : Ask → Bool) (shapes : List Region) (old new : List Rule) (left : List Region)
      → IsFoundFor test shapes old new before left → IsFoundFor test shapes old new after left

-- of the asks of the shapes a wider region has those that it had
abbrev pub IsWide : List Region → Region → Region → Type 0
IsWide shapes region wide = (ask : Ask) → lies_in_one shapes ask ≡ true → lies wide ask ≡ lies region ask
