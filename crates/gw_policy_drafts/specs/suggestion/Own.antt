-- The rule that an ask gives by itself, and which asks the ranges of a rule cover.
use Rattle.std.specs.Prelude.{◌≡◌, ℕ, Bool, true, false, not, ◌==◌, ◌||◌, if◌then◌else◌, List, [], ◌∷◌, Option}
use Rattle.std.specs.List.{list_any}
use Rattle.std.specs.Option.{option_map_or}
use Rattle.gw_rules.specs.Ask.{Ask}
use Rattle.gw_rules.specs.Field.{field_number}
use Rattle.gw_rules.specs.Fields.{value_of}
use Rattle.gw_rules.specs.Range.{admits}
use Rattle.gw_rules.specs.Rule.{each_field}
use Rattle.gw_rules.specs.declared.field.FieldName.{FieldName}
use Rattle.gw_rules.specs.declared.fields.Fields.{Fields}
use Rattle.gw_rules.specs.declared.range.Range.{Range}
use Rattle.gw_rules.specs.declared.rule.Rule.{Rule}

-- ---- the own rule of an ask

-- the range of one number
abbrev pub only : ℕ → Range
only number = record { low = number; high = number }

-- a field that the ask has is named by its value; another isn't named
abbrev pub own_values : Option ℕ → List Range
own_values value = option_map_or (λ number. only number ∷ []) value []

-- reads, 9, and lists, 11, whose service doesn't matter unless it is kept
abbrev pub is_reading : Ask → Bool
is_reading ask = option_map_or (λ number. number == 9 || number == 11) ask.operation false

abbrev pub own_service : Bool → Ask → List Range
own_service keeps ask = if keeps || not (is_reading ask) then own_values ask.service else []

-- ranges for each field, as those of a rule
abbrev pub Group : Type 0
Group = Fields (List Range)

unfoldable pub own_ranges : Bool → Ask → Group
own_ranges keeps ask = record {
  operation = own_values ask.operation;
  port = own_values ask.port;
  source_network = own_values ask.source_network;
  source_key = own_values ask.source_key;
  destination_network = own_values ask.destination_network;
  service = own_service keeps ask;
  object_type = own_values ask.object_type;
  instance = own_values ask.instance;
  property = own_values ask.property;
  priority = own_values ask.priority;
  sender = own_values ask.sender;
  station = own_values ask.station;
}

-- the rule that allows an ask and names each field that it has, but the service of a read and of a list unless it keeps it
abbrev pub own_rule : Bool → Ask → Rule
own_rule keeps ask = record { name = []; allow = true; quiet = false; ranges = own_ranges keeps ask }

-- ---- what ranges cover

-- a rule with these ranges matches the ask
abbrev pub covers : Group → Ask → Bool
covers ranges ask = each_field (λ field. admits (value_of field ranges) (value_of field ask))

-- one of these does
abbrev pub covered : List Group → Ask → Bool
covered groups ask = list_any (λ ranges. covers ranges ask) groups

-- the same, whatever the ask has in this field
abbrev pub admits_but : FieldName → FieldName → Group → Ask → Bool
admits_but field other ranges ask =
    (field_number other == field_number field) || admits (value_of other ranges) (value_of other ask)

abbrev pub covers_but : FieldName → Group → Ask → Bool
covers_but field ranges ask = each_field (λ other. admits_but field other ranges ask)

-- these cover the asks that those cover
abbrev pub CoverAlike : List Group → List Group → Type 0
CoverAlike before after = (ask : Ask) → covered after ask ≡ covered before ask
