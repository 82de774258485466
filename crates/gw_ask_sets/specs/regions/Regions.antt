-- Regions: a set of values for each field; and their parts by a rule.
use Rattle.std.specs.Prelude.{◌≡◌, Bool, not, ◌&&◌, if◌then◌else◌, List, [], ◌∷◌, ◌++◌}
use Rattle.std.specs.List.{list_any}
use Rattle.gw_rules.specs.Ask.{Ask}
use Rattle.gw_rules.specs.Fields.{value_of, with_value}
use Rattle.gw_rules.specs.Rule.{each_field, matches, ranges_of}
use Rattle.gw_rules.specs.declared.field.FieldName.{FieldName}
use Rattle.gw_rules.specs.declared.fields.Fields.{Fields}
use Rattle.gw_rules.specs.declared.rule.Rule.{Rule}
use Rattle.gw_ask_sets.specs.regions.Values.{admitted, has, is_empty, refused}
use Rattle.gw_ask_sets.specs.declared.regions.values.Values.{Values}

-- a set of values for each field
abbrev pub Region : Type 0
Region = Fields Values

-- an ask lies in a region
abbrev pub lies : Region → Ask → Bool
lies region ask = each_field (λ field. has (value_of field region) (value_of field ask))

-- an ask lies in one of these regions
abbrev pub lies_in_one : List Region → Ask → Bool
lies_in_one regions ask = list_any (λ region. lies region ask) regions

-- the region with other values for a field, where there are some
abbrev pub piece : FieldName → Region → Values → List Region
piece field region values = if is_empty values then [] else with_value field values region ∷ []

-- the region as far as the rule admits its values in a field, and the piece where it doesn't
abbrev pub inside_at : FieldName → Rule → Region → Region
inside_at field rule region =
    with_value field (admitted (value_of field region) (ranges_of field rule)) region

abbrev pub piece_at : FieldName → Rule → Region → List Region
piece_at field rule region = piece field region (refused (value_of field region) (ranges_of field rule))

-- field by field: the pieces outside, and what is left inside
abbrev pub pieces : List FieldName → Rule → Region → List Region
pieces [] rule region = []
pieces (field ∷ fields) rule region = piece_at field rule region ++ pieces fields rule (inside_at field rule region)

abbrev pub inside : List FieldName → Rule → Region → Region
inside [] rule region = region
inside (field ∷ fields) rule region = inside fields rule (inside_at field rule region)

-- A rule parts a region: the rule matches each ask of the one part and none of the pieces, and together they have
-- exactly its asks.
pub record IsParted (rule : Rule) (region within : Region) (beyond : List Region) : Type 0 where
  pub inner : (ask : Ask) → lies within ask ≡ (lies region ask && matches rule ask)
  pub outer : (ask : Ask) → lies_in_one beyond ask ≡ (lies region ask && not (matches rule ask))
