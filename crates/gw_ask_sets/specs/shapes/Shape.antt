-- Shapes of asks: for each field whether it may be absent, and the numbers that it may have.
use Rattle.std.specs.Prelude.{◌≡◌, ◌⊎◌, ℕ, ◌≤◌, Bool, true, false, IsTrue, List, [], ◌∷◌, Option, Some, None}
use Rattle.std.specs.List.{list_any}
use Rattle.gw_rules.specs.Ask.{Ask}
use Rattle.gw_rules.specs.Fields.{value_of}
use Rattle.gw_rules.specs.Range.{holds}
use Rattle.gw_rules.specs.declared.field.FieldName.{FieldName}
use Rattle.gw_rules.specs.declared.fields.Fields.{Fields}
use Rattle.gw_rules.specs.declared.range.Range.{Range}
use Rattle.gw_ask_sets.specs.declared.shapes.side.Side.{Side}
use Rattle.gw_ask_sets.specs.regions.Ranges.{between}

-- a side for each field
abbrev pub Shape : Type 0
Shape = Fields Side

-- a number is between the ends of a range, or is one of them
abbrev pub IsIn : Range → ℕ → Type 0
IsIn range number = (range.low ≤ number) × (number ≤ range.high)

-- the keys of stations: of six octets their number, and of one to five and of seven their count times 2 to the power of 56,
-- plus their number (clause 6.2.2, ours)
abbrev pub key_ranges : List Range
key_ranges =
    between 0 281474976710655
    ∷ between 72057594037927936 72057594037928191
    ∷ between 144115188075855872 144115188075921407
    ∷ between 216172782113783808 216172782130561023
    ∷ between 288230376151711744 288230380446679039
    ∷ between 360287970189639680 360289069701267455
    ∷ between 504403158265495552 576460752303423487
    ∷ []

-- a number is the key of a station
abbrev pub is_key : ℕ → Bool
is_key number = list_any (holds number) key_ranges

-- a number of a range, which is the key of a station where keys alone count
abbrev pub IsOneOf : Bool → Range → ℕ → Type 0
IsOneOf false range number = IsIn range number
IsOneOf true range number = IsIn range number × (is_key number ≡ true)

-- a field may be so: absent where the side says that it may, else one of its numbers
abbrev pub IsWithin : Side → Option ℕ → Type 0
IsWithin side None = IsTrue side.absent
IsWithin side (Some number) = IsOneOf side.keyed side.range number

-- each field of an ask is within the shape's side
abbrev pub LiesIn : Shape → Ask → Type 0
LiesIn shape ask = (field : FieldName) → IsWithin (value_of field shape) (value_of field ask)

-- an ask lies in one of these shapes
abbrev pub LiesInOne : List Shape → Ask → Type 0
LiesInOne [] ask = ⊥
LiesInOne (shape ∷ shapes) ask = LiesIn shape ask ⊎ LiesInOne shapes ask
