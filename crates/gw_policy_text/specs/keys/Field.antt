-- The fields of a table, and the fault of a table.
use Rattle.std.specs.Prelude.{ℕ, Bool, true, false, ◌||◌, nat_lt, nat_eq, if◌then◌else◌, List, [], length}
use Rattle.std.specs.Prelude.{find, position, Option, Some, None, is_some, Ok, Err}
use Rattle.std.specs.Cmp.Lexicographic.{pointwise}
use Rattle.std.specs.List.{list_any}
use Rattle.std.specs.Option.{option_map}
use Rattle.std.specs.Result.{result_err}
use Rattle.toml.specs.Data.{Data, Members, no_members, member, get_member}
use Rattle.gw_configuration.specs.declared.fault.ConfigFault.{ConfigFault}
use Rattle.gw_configuration.specs.declared.fault.ConfigFault.TheVariants.{UnknownKey, Missing, Kind, Range, TooMany}
use Rattle.gw_configuration.specs.declared.located.Place.{Place}
use Rattle.gw_configuration.specs.declared.shape.Scalar.{Scalar}
use Rattle.gw_configuration.specs.declared.shape.Scalar.TheVariants.{Number, Signed, ObjectType, Text, RuleName}
use Rattle.gw_configuration.specs.declared.shape.Scalar.TheVariants.{ShortName, True, False, Verdict, AnyStations}
use Rattle.gw_configuration.specs.declared.shape.Scalar.TheVariants.{Operation, Boolean, Address, Manager, Mask, Table}
use Rattle.gw_configuration.specs.declared.shape.Scalar.TheVariants.{Named, Stations, Subnet, Item}
use Rattle.gw_configuration.specs.declared.shape.Shape.{Shape}
use Rattle.gw_configuration.specs.declared.shape.Shape.TheVariants.{One, List as Listing, Ranges, Items}
use Rattle.gw_configuration.specs.Duplicates.{or_else}
use Rattle.gw_configuration.specs.Located.{Located, Read, at_key}
use Rattle.gw_policy_text.specs.keys.Items.{count_in, items_in, named_in, set_item_fault, stations_in}
use Rattle.gw_policy_text.specs.keys.Range.{is_kind, is_missing, is_range, is_too_many, range_in}
use Rattle.gw_policy_text.specs.keys.Value.{address_in, boolean_in, deed_in, fixed_in, kind_in, list_in, mask_in, number_in}
use Rattle.gw_policy_text.specs.keys.Value.{rule_name_in, short_name_in, signed_in, subnet_in, table_in, text_in, verdict_in}

-- one value of its own

-- the fault of a single value
abbrev pub scalar_fault : Scalar → Data → Option ConfigFault
scalar_fault (Number low high) value = result_err (number_in low high value)
scalar_fault Signed value = result_err (signed_in value)
scalar_fault ObjectType value = result_err (kind_in value)
scalar_fault (Text least) value = result_err (text_in least value)
scalar_fault RuleName value = result_err (rule_name_in value)
scalar_fault ShortName value = result_err (short_name_in value)
scalar_fault (Operation naming) value = result_err (deed_in naming value)
scalar_fault Boolean value = result_err (boolean_in value)
scalar_fault True value = result_err (fixed_in true value)
scalar_fault False value = result_err (fixed_in false value)
scalar_fault Verdict value = result_err (verdict_in value)
scalar_fault Address value = result_err (address_in value)
scalar_fault Manager value = result_err (address_in value)
scalar_fault Mask value = result_err (mask_in value)
scalar_fault Table value = result_err (table_in value)
scalar_fault (Named names) value = result_err (named_in names value)
scalar_fault Stations value = result_err (stations_in false value)
scalar_fault AnyStations value = result_err (stations_in true value)
scalar_fault Subnet value = result_err (subnet_in value)
scalar_fault Item value = set_item_fault value

-- lists

-- the fault of a list of least to most values, of which some are of a wrong kind or out of range
abbrev pub list_fault_by : Bool → Bool → ℕ → ℕ → ℕ → Option ConfigFault
list_fault_by kinds ranges least most count =
    if kinds then Some Kind
    else if ranges || nat_lt count least then Some Range
    else if nat_lt most count then Some TooMany
    else None

-- the same where each value has its own fault or none
abbrev pub list_fault : (Data → Option ConfigFault) → ℕ → ℕ → List Data → Option ConfigFault
list_fault fault least most values =
    list_fault_by (list_any (λ value. is_kind (fault value)) values)
    (list_any (λ value. is_range (fault value)) values) least most (length values)

-- values of any shape, beside the tables of a text's sets

-- the fault of an item of a list
abbrev pub item_fault : List Data → Shape → Data → Option ConfigFault
item_fault sets (One scalar) item = None
item_fault sets (Listing scalar least most) item = scalar_fault scalar item
item_fault sets (Ranges scalar) item = result_err (range_in scalar item)
item_fault sets (Items scalar) item = result_err (items_in sets scalar item)

-- more than 256 ranges once sets are put in
abbrev pub has_too_many : List Data → List Data → Bool
has_too_many sets items = nat_lt 256 (count_in sets items)

abbrev pub count_fault : Bool → Option ConfigFault
count_fault many = if many then Some TooMany else None

-- the fault of the items of a rule's field, as they are written and by what they name
abbrev pub items_fault : List Data → Scalar → List Data → Option ConfigFault
items_fault sets scalar items =
    or_else (list_fault (item_fault sets (Items scalar)) 1 64 items) (count_fault (has_too_many sets items))

-- the fault of the values of a list
abbrev pub values_fault : List Data → Shape → List Data → Option ConfigFault
values_fault sets (One scalar) values = None
values_fault sets (Listing scalar least most) values =
    list_fault (item_fault sets (Listing scalar least most)) least most values
values_fault sets (Ranges scalar) values = list_fault (item_fault sets (Ranges scalar)) 1 4 values
values_fault sets (Items scalar) values = items_fault sets scalar values

abbrev pub listed_fault : List Data → Shape → Read (List Data) → Option ConfigFault
listed_fault sets shape (Ok values) = values_fault sets shape values
listed_fault sets shape (Err other) = Some other

-- the fault of a value: the first of Kind, Range and TooMany that it has
abbrev pub value_fault : List Data → Shape → Data → Option ConfigFault
value_fault sets (One scalar) value = scalar_fault scalar value
value_fault sets shape value = listed_fault sets shape (list_in value)

-- the position of the first item that has this fault
abbrev pub item_with : List Data → ConfigFault → Shape → List Data → Option ℕ
item_with sets Kind shape items = position (λ item. is_kind (item_fault sets shape item)) items
item_with sets Range shape items = position (λ item. is_range (item_fault sets shape item)) items
item_with sets _ shape items = None

abbrev pub position_in : List Data → ConfigFault → Shape → Read (List Data) → Option ℕ
position_in sets fault shape (Ok items) = item_with sets fault shape items
position_in sets fault shape (Err _) = None

-- tables

-- a key of a table, whether it must be there, and the shape of its value
pub record Field : Type 0 where
  pub key : List ℕ
  pub required : Bool
  pub shape : Shape

abbrev pub fault_where : List Data → Field → Option Data → Option ConfigFault
fault_where sets field None = if field.required then Some Missing else None
fault_where sets field (Some value) = value_fault sets field.shape value

-- the fault of a field in a table, beside the sets of the text
abbrev pub field_fault : List Data → Members → Field → Option ConfigFault
field_fault sets table field = fault_where sets field (get_member field.key table)

-- some field has a fault that passes the test
abbrev pub has : List Data → (Option ConfigFault → Bool) → List Field → Members → Bool
has sets test fields table = list_any (λ field. test (field_fault sets table field)) fields

-- the key is that of a field
abbrev pub is_key : List Field → List ℕ → Bool
is_key fields key = list_any (λ field. pointwise nat_eq field.key key) fields

-- the first key of the table that is that of no field
abbrev pub stranger : List Field → Members → Option (List ℕ)
stranger fields no_members = None
stranger fields (member key value members) = if is_key fields key then stranger fields members else Some key

-- the fault of a table that has no other keys
abbrev pub fault_of_fields : List Data → List Field → Members → Option ConfigFault
fault_of_fields sets fields table =
    if has sets is_missing fields table then Some Missing
    else if has sets is_kind fields table then Some Kind
    else if has sets is_range fields table then Some Range
    else if has sets is_too_many fields table then Some TooMany
    else None

-- the fault of a table, each of the five judged for the whole table before the next
abbrev pub fault_of : List Data → List Field → Members → Option ConfigFault
fault_of sets fields table =
    if is_some (stranger fields table) then Some UnknownKey else fault_of_fields sets fields table

-- where it is

-- whether a fault that was found is this one of the four that a field may have
abbrev pub is_this : ConfigFault → Option ConfigFault → Bool
is_this Missing found = is_missing found
is_this Kind found = is_kind found
is_this Range found = is_range found
is_this TooMany found = is_too_many found
is_this _ found = false

-- the first field that has this fault
abbrev pub field_with : List Data → ConfigFault → List Field → Members → Option Field
field_with sets fault fields table = find (λ field. is_this fault (field_fault sets table field)) fields

abbrev pub item_of : List Data → ConfigFault → Shape → Option Data → Option ℕ
item_of sets fault shape None = None
item_of sets fault shape (Some value) = position_in sets fault shape (list_in value)

-- this fault of a field
abbrev pub at_field : List Data → Place → ConfigFault → Members → Option Field → Located
at_field sets place fault table (Some field) = record {
  fault = fault;
  place = place;
  key = field.key;
  item = item_of sets fault field.shape (get_member field.key table);
  wanted = Some field.shape;
}
at_field sets place fault table None = at_key place fault None

-- where in a table this fault of it is: at the first key that is no field's, or at the first field that has it
abbrev pub located_as : List Data → Place → List Field → Members → ConfigFault → Located
located_as sets place fields table UnknownKey = at_key place UnknownKey (stranger fields table)
located_as sets place fields table fault = at_field sets place fault table (field_with sets fault fields table)

-- the fault of a table with its place, beside the sets of the text
unfoldable pub located_beside : List Data → Place → List Field → Members → Option Located
located_beside sets place fields table =
    option_map (located_as sets place fields table) (fault_of sets fields table)

-- the same if there are no sets
abbrev pub located_in : Place → List Field → Members → Option Located
located_in place fields table = located_beside [] place fields table
