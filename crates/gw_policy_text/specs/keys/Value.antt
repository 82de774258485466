-- Single values of a configuration: what each is read to, or its fault.
use Rattle.std.specs.Prelude.{ℕ, pos, negsuc, ℤ, ◌^◌, Bool, ◌&&◌, ◌==◌, not, nat_le, nat_lt, nat_eq}
use Rattle.std.specs.Prelude.{true, false, if◌then◌else◌, List, [], ◌∷◌, length, codes, Option, Some, None, Err, find}
use Rattle.std.specs.Cmp.Lexicographic.{pointwise}
use Rattle.std.specs.Option.{ok_or, option_and_then, option_map}
use Rattle.toml.specs.Data.{Data, Items, no_items, item, Members, as_str, as_integer, as_bool, as_array, as_table}
use Rattle.gw_addr.specs.declared.bip.BipAddr.{BipAddr}
use Rattle.gw_addr.specs.declared.mask.Mask.{Mask}
use Rattle.gw_rules.specs.declared.operation.Operation.{Operation}
use Rattle.gw_rules.specs.declared.operation.Operation.TheVariants.{Read as Reading, Route, Write}
use Rattle.gw_rules.specs.declared.operation.TheConstants.Operation.{ALL}
use Rattle.gw_rules.specs.declared.field.FieldName.TheVariants as fields
use Rattle.gw_rules.specs.Bounds.{bounds}
use Rattle.gw_rules.specs.Name.{is_name, is_no_rule}
use Rattle.gw_rules.specs.Operation.{operation_name, operation_number}
use Rattle.gw_rules.specs.Range.{holds}
use Rattle.gw_configuration.specs.declared.fault.ConfigFault.TheVariants.{Kind, Range}
use Rattle.gw_configuration.specs.declared.object.ObjectKind.{ObjectKind}
use Rattle.gw_configuration.specs.declared.shape.Naming.{Naming}
use Rattle.gw_configuration.specs.declared.shape.Naming.TheVariants.{Rule, BothWays, Assertion}
use Rattle.gw_configuration.specs.Duplicates.{or_else}
use Rattle.gw_configuration.specs.Kinds.{kind_numbered}
use Rattle.gw_configuration.specs.Located.{Read}
use Rattle.gw_configuration.specs.Subnet.{Subnet}
use Rattle.gw_configuration.specs.Text.{text_of_length}
use Rattle.gw_policy_text.specs.keys.Written.{address_written, mask_written, subnet_written}

-- of a value that is there; of another kind is Kind, without a reading Range
abbrev pub reading : {A B : Type 0} → (A → Option B) → Option A → Read B
reading read None = Err Kind
reading read (Some value) = ok_or (read value) Range

-- numbers

abbrev pub natural_within : ℕ → ℕ → ℤ → Option ℕ
natural_within low high (pos n) = if nat_le low n && nat_le n high then Some n else None
natural_within low high (negsuc n) = None

-- a number from low to high
abbrev pub number_in : ℕ → ℕ → Data → Read ℕ
number_in low high value = reading (natural_within low high) (as_integer value)

-- a number of 32 bits with its sign
abbrev pub signed_of : ℤ → Option ℤ
signed_of (pos n) = if nat_lt n (2 ^ 31) then Some (pos n) else None
signed_of (negsuc n) = if nat_lt n (2 ^ 31) then Some (negsuc n) else None

abbrev pub signed_in : Data → Read ℤ
signed_in value = reading signed_of (as_integer value)

-- the type of an object by its number
abbrev pub kind_of : ℤ → Option ObjectKind
kind_of (pos n) = kind_numbered n
kind_of (negsuc n) = None

abbrev pub kind_in : Data → Read ObjectKind
kind_in value = reading kind_of (as_integer value)

-- texts

abbrev pub text_in : ℕ → Data → Read (List ℕ)
text_in least value = reading (text_of_length least) (as_str value)

-- a name for a rule: not the word that the log has for no rule
abbrev pub is_rule_name : List ℕ → Bool
is_rule_name text = is_name text && not (is_no_rule text)

abbrev pub rule_name : List ℕ → Option (List ℕ)
rule_name text = if is_rule_name text then Some text else None

abbrev pub rule_name_in : Data → Read (List ℕ)
rule_name_in value = reading rule_name (as_str value)

-- the same of a rule that goes both ways, whose two others have five octets more
abbrev pub short_name : List ℕ → Option (List ℕ)
short_name text = if is_rule_name text && nat_le (length text) 27 then Some text else None

abbrev pub short_name_in : Data → Read (List ℕ)
short_name_in value = reading short_name (as_str value)

-- whether what an assertion means is to be allowed
abbrev pub verdict_named : List ℕ → Option Bool
verdict_named text =
    if pointwise nat_eq text (codes "allowed") then Some true
    else if pointwise nat_eq text (codes "denied") then Some false
    else None

abbrev pub verdict_in : Data → Read Bool
verdict_in value = reading verdict_named (as_str value)

-- an operation by its name, of those that can be named there
abbrev pub operation_named : List ℕ → Option Operation
operation_named text = find (λ operation. pointwise nat_eq (operation_name operation) text) ALL

abbrev pub is_nameable : Naming → Operation → Bool
is_nameable (Rule format) operation = holds (operation_number operation) (bounds format fields.Operation)
is_nameable BothWays Reading = true
is_nameable BothWays Write = true
is_nameable BothWays Route = true
is_nameable BothWays _ = false
is_nameable Assertion operation = true

abbrev pub if_nameable : Naming → Operation → Option Operation
if_nameable naming operation = if is_nameable naming operation then Some operation else None

abbrev pub operation_of : Naming → List ℕ → Option Operation
operation_of naming text = option_and_then (if_nameable naming) (operation_named text)

-- what an assertion may have in the place of an operation: all that reads, and all that writes, by numbers behind those of
-- operations
abbrev pub any_named : List ℕ → Option ℕ
any_named text =
    if pointwise nat_eq text (codes "any-read") then Some 14
    else if pointwise nat_eq text (codes "any-write") then Some 15
    else None

abbrev pub any_of : Naming → List ℕ → Option ℕ
any_of Assertion text = any_named text
any_of naming text = None

-- the number of what is named
abbrev pub deed_of : Naming → List ℕ → Option ℕ
deed_of naming text = or_else (option_map operation_number (operation_of naming text)) (any_of naming text)

abbrev pub deed_in : Naming → Data → Read ℕ
deed_in naming value = reading (deed_of naming) (as_str value)

-- addresses, masks and subnets

abbrev pub address_in : Data → Read BipAddr
address_in value = reading address_written (as_str value)

abbrev pub mask_in : Data → Read Mask
mask_in value = reading mask_written (as_str value)

abbrev pub subnet_in : Data → Read Subnet
subnet_in value = reading subnet_written (as_str value)

-- true or false
abbrev pub boolean_in : Data → Read Bool
boolean_in value = ok_or (as_bool value) Kind

-- this one of the two
abbrev pub is_bool : Bool → Bool → Bool
is_bool true other = other
is_bool false other = not other

abbrev pub if_bool : Bool → Bool → Option Bool
if_bool wanted other = if is_bool wanted other then Some other else None

abbrev pub fixed_in : Bool → Data → Read Bool
fixed_in wanted value = reading (if_bool wanted) (as_bool value)

-- a table
abbrev pub table_in : Data → Read Members
table_in value = ok_or (as_table value) Kind

-- lists

abbrev pub values_of : Items → List Data
values_of no_items = []
values_of (item value items) = value ∷ values_of items

-- the values of a list
abbrev pub list_in : Data → Read (List Data)
list_in value = ok_or (option_map values_of (as_array value)) Kind
