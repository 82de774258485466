-- What a look at a region shows.
use Rattle.std.specs.Prelude.{◌≡◌, ℕ, Bool, true, List, Some, slice_get}
use Rattle.std.specs.List.{AllByRecursion}
use Rattle.gw_rules.specs.declared.rule.Rule.{Rule}
use Rattle.gw_ask_sets.specs.regions.Comparing.{AreAlike, AreUnlike}
use Rattle.gw_ask_sets.specs.regions.Deciding.{AllowsIn}
use Rattle.gw_ask_sets.specs.regions.Regions.{Region}
use Rattle.gw_ask_sets.specs.regions.Steps.{divides}
use Rattle.gw_ask_sets.specs.declared.regions.comparing.Look.{Look}
use Rattle.gw_ask_sets.specs.declared.regions.comparing.Look.TheVariants as look

-- the rule at a place divides a region
pub record Divides (rules : List Rule) (region : Region) (place : ℕ) : Type 0 where
  pub rule : Rule
  pub there : slice_get rules place ≡ Some rule
  pub dividing : divides rule region ≡ true

-- the rules at these places decide in a region, and each of them divides it
pub record AreDeciding (rules : List Rule) (region : Region) (places : List ℕ) (otherwise : Bool) : Type 0 where
  pub allows : AllowsIn rules region places otherwise
  pub divide : AllByRecursion (λ place. Divides rules region place) places

-- what is said of a region is right
abbrev pub IsLook : List Rule → List Rule → Region → Look → Type 0
IsLook old new region look.Alike = AreAlike old new region
IsLook old new region (look.Unlike allows) = AreUnlike old new region allows
IsLook old new region (look.PartByOld place) = Divides old region place
IsLook old new region (look.PartByNew place) = Divides new region place
