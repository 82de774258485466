-- What two regions have in common, and the region of all asks to a number.
use Rattle.std.specs.Prelude.{◌≡◌, ℕ, Bool, true, [], ◌∷◌}
use Rattle.gw_rules.specs.Ask.{Ask}
use Rattle.gw_rules.specs.Fields.{value_of}
use Rattle.gw_rules.specs.Rule.{each_field}
use Rattle.gw_rules.specs.declared.field.FieldName.{FieldName}
use Rattle.gw_ask_sets.specs.regions.Ranges.{between}
use Rattle.gw_ask_sets.specs.regions.Regions.{Region}
use Rattle.gw_ask_sets.specs.regions.Values.{common, shares}
use Rattle.gw_ask_sets.specs.declared.regions.values.Values.{Values}

-- both have a value in each field
abbrev pub have_common : Region → Region → Bool
have_common a b = each_field (λ field. shares (value_of field a) (value_of field b))

-- an ask has in each field a value of both, if there is one
abbrev pub AreCommon : Region → Region → Ask → Type 0
AreCommon a b ask = (field : FieldName) → value_of field ask ≡ common (value_of field a) (value_of field b)

-- absent, or a number to the last one
abbrev pub any_to : ℕ → Values
any_to last = record { absent = true; ranges = between 0 last ∷ [] }
