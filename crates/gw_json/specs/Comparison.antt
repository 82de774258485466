-- What two policies decide otherwise: a JSON object for each region, and a last one that sums up.
use Rattle.std.specs.Prelude.{ℕ, ◌-◌, Bool, false, ◌==◌, if◌then◌else◌, List, [], ◌∷◌, ◌++◌, drop, length, map, slice_get, codes, decimal}
use Rattle.std.specs.Prelude.{Option}
use Rattle.std.specs.List.{flat_map, list_all}
use Rattle.std.specs.Option.{option_map_or}
use Rattle.std.specs.Str.Lines.{lines}
use Rattle.json.specs.Json.{Json, null, boolean, number, string, array}
use Rattle.gw_json.specs.Ask.{key_value}
use Rattle.gw_json.specs.Document.{items_of, object_of}
use Rattle.gw_ask_sets.specs.regions.Ranges.{both}
use Rattle.gw_ask_sets.specs.regions.Regions.{Region}
use Rattle.gw_ask_sets.specs.regions.Values.{has_operation, is_any}
use Rattle.gw_ask_sets.specs.declared.regions.comparison.Found.{Found}
use Rattle.gw_ask_sets.specs.declared.regions.values.Values.{Values}
use Rattle.gw_rules.specs.Field.{field_key}
use Rattle.gw_rules.specs.Bounds.{bounds}
use Rattle.gw_rules.specs.Fields.{value_of}
use Rattle.gw_rules.specs.Operation.{operation_name}
use Rattle.gw_rules.specs.declared.field.FieldName.{FieldName}
use Rattle.gw_rules.specs.declared.field.FieldName.TheVariants.{SourceKey, Sender, Station}
use Rattle.gw_rules.specs.declared.field.TheConstants.FieldName as fields
use Rattle.gw_rules.specs.declared.format.Format.TheVariants.{Three}
use Rattle.gw_rules.specs.declared.operation.Operation.{Operation as SpecOperation}
use Rattle.gw_rules.specs.declared.operation.TheConstants.Operation.{ALL}
use Rattle.gw_rules.specs.declared.range.Range.{Range}
use Rattle.gw_rules.specs.declared.rule.Rule.{Rule}

-- ---- operations

-- the name of an operation, if it is one of these
abbrev pub named_operation : Values → SpecOperation → List Json
named_operation values operation = if has_operation values operation then string (operation_name operation) ∷ [] else []

-- the names of the operations in the order of their numbers, or null if it may be each of the thirteen
abbrev pub operations_value : Values → Json
operations_value values =
    if list_all (has_operation values) ALL then null else array (items_of (flat_map (named_operation values) ALL))

-- ---- other fields

-- an end of a range: of stations as the log's objects show one, and else a number
abbrev pub end_value : FieldName → ℕ → Json
end_value SourceKey key = key_value key
end_value Sender key = key_value key
end_value Station key = key_value key
end_value _ n = number (decimal n)

-- `[1,7]`, from the least number to the greatest
abbrev pub range_value : FieldName → Range → Json
range_value field range = array (items_of (end_value field range.low ∷ end_value field range.high ∷ []))

-- a range without numbers that its field can't have, if others are left
abbrev pub range_values : FieldName → Range → List Json
range_values field range = option_map_or (λ shown. range_value field shown ∷ []) (both range (bounds Three field)) []

abbrev pub ranges_value : FieldName → List Range → Json
ranges_value field ranges = array (items_of (flat_map (range_values field) ranges))

-- `{"absent":true,"ranges":[[1,7],[9,9]]}`, or null if the field may be anything
abbrev pub values_value : FieldName → Values → Json
values_value field values =
    if is_any values then null
    else object_of ((codes "absent", boolean values.absent) ∷ (codes "ranges", ranges_value field values.ranges) ∷ [])

-- the fields but the operation, in the order of their numbers
abbrev pub other_fields : List FieldName
other_fields = drop 1 fields.ALL

abbrev pub field_member : Region → FieldName → List ℕ × Json
field_member region field = (field_key field, values_value field (value_of field region))

-- ---- regions

abbrev pub verdict_word : Bool → List ℕ
verdict_word allows = if allows then codes "allowed" else codes "denied"

-- the name of the rule of a number, counted from 1, or `default` for 0, the deny of no rule; null if no rule has it
abbrev pub name_or_null : Option Rule → Json
name_or_null rule = option_map_or (λ r. string r.name) rule null

abbrev pub rule_value : List Rule → ℕ → Json
rule_value rules place = if place == 0 then string (codes "default") else name_or_null (slice_get rules (place - 1))

abbrev pub rules_value : List Rule → List ℕ → Json
rules_value rules places = array (items_of (map (rule_value rules) places))

-- what the new policy says of a region, and its operations
abbrev pub outcome_members : Found → List (List ℕ × Json)
outcome_members f = (codes "verdict", string (verdict_word f.allows)) ∷ (codes "operation", operations_value f.region.operation) ∷ []

-- the rules of the new and of the old policy that decide it
abbrev pub deciders_members : List Rule → List Rule → Found → List (List ℕ × Json)
deciders_members old new f = (codes "by", rules_value new f.new_rules.items) ∷ (codes "was_by", rules_value old f.old_rules.items) ∷ []

-- these, and the other fields of its asks
abbrev pub found_value : List Rule → List Rule → Found → Json
found_value old new f = object_of (outcome_members f ++ map (field_member f.region) other_fields ++ deciders_members old new f)

-- the lines of a text, or null if there is none
abbrev pub lines_value : Option (List ℕ) → Json
lines_value text = option_map_or (λ text. array (items_of (map string (lines text)))) text null

-- the parts that differ, and what is said of them
abbrev pub parts_members : (names details : Option (List ℕ)) → List (List ℕ × Json)
parts_members names details = (codes "differ", lines_value names) ∷ (codes "details", lines_value details) ∷ []

-- a text that says nothing
abbrev pub is_nothing : Option (List ℕ) → Bool
is_nothing text = option_map_or (λ text. length text == 0) text false

-- what is said of assertions, if anything is
abbrev pub assertions_members : Option (List ℕ) → List (List ℕ × Json)
assertions_members text = if is_nothing text then [] else (codes "asserts", lines_value text) ∷ []

-- all of that
abbrev pub differences_value : (names details asserts : Option (List ℕ)) → Json
differences_value names details asserts = object_of (parts_members names details ++ assertions_members asserts)

-- how many regions there are, whether they are all, and how many steps it took
abbrev pub summary_value : ℕ → Bool → ℕ → Json
summary_value kinds finished steps =
    object_of ((codes "kinds", number (decimal kinds)) ∷ (codes "finished", boolean finished)
    ∷ (codes "steps", number (decimal steps)) ∷ [])
