-- The regions of the asks that the gateways of two configurations may raise.
use Rattle.std.specs.Prelude.{◌≡◌, ◌⊎◌, Bool, true, not, ◌&&◌, ◌==◌, if◌then◌else◌, List, [], ◌∷◌, ◌++◌, map}
use Rattle.std.specs.List.{flat_map, list_any}
use Rattle.gw_configuration.specs.Configuration.{Configuration}
use Rattle.gw_ask_sets.specs.regions.Regions.{Region, lies_in_one}
use Rattle.gw_rules.specs.Ask.{Ask}
use Rattle.gw_rules.specs.Fields.{value_of}
use Rattle.gw_rules.specs.Rule.{each_field}
use Rattle.gw_ask_sets.specs.shapes.Regions.{region_of}
use Rattle.gw_ask_sets.specs.shapes.Shape.{LiesInOne, Shape}
use Rattle.gw_ask_sets.specs.shapes.Shapes.{shapes}
use Rattle.gw_ask_sets.specs.declared.shapes.side.Side.{Side}

-- two sides are the same, and two shapes
abbrev pub is_alike : Bool → Bool → Bool
is_alike a b = if a then b else not b

abbrev pub is_same_side : Side → Side → Bool
is_same_side a b =
    is_alike a.absent b.absent
    && (is_alike a.keyed b.keyed && (a.range.low == b.range.low && a.range.high == b.range.high))

abbrev pub is_same : Shape → Shape → Bool
is_same a b = each_field (λ field. is_same_side (value_of field a) (value_of field b))

-- the region of a shape, unless the shape is among these
abbrev pub other_region : List Shape → Shape → List Region
other_region known shape = if list_any (is_same shape) known then [] else region_of shape ∷ []

-- those of the shapes of both configurations, each once
abbrev pub asks_of : Configuration → Configuration → List Region
asks_of old new = map region_of (shapes old) ++ flat_map (other_region (shapes old)) (shapes new)

-- ---- what they have

-- an ask lies in one of these regions exactly if it lies in a shape of one of the two configurations
pub record AreAsksOf (old new : Configuration) (regions : List Region) : Type 0 where
  pub inner : (ask : Ask) → lies_in_one regions ask ≡ true
      → LiesInOne (shapes old) ask ⊎ LiesInOne (shapes new) ask
  pub by_old : (ask : Ask) → LiesInOne (shapes old) ask → lies_in_one regions ask ≡ true
  pub by_new : (ask : Ask) → LiesInOne (shapes new) ask → lies_in_one regions ask ≡ true
