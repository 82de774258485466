-- Writes: what a write does, or the first fault, by the configuration and the write alone. No slot
-- and no default is looked at (ISO 16484-5 clauses 15.9 and 19.2).
use Rattle.std.specs.Prelude.{◌≡◌, ◌≢◌, ℕ, ◌==◌, ◌&&◌, nat_le, nat_lt, not, Bool, true, false, if◌then◌else◌, List, []}
use Rattle.std.specs.Prelude.{◌∷◌, length, slice_get, IsTrue, Option, Some, None, Result, Ok, Err}
use Rattle.std.specs.Option.{ok_or}
use Rattle.gw_addr.specs.Reading.{◌>>=◌}
use Rattle.gw_configuration.specs.declared.text.TheConstants.{MAX_TEXT}
use Rattle.gw_tables.specs.declared.priority.array.TheConstants.{RESERVED}
use Rattle.gw_tables.specs.priority.Commandable.{IsPriority}
use Rattle.gw_tables.specs.priority.History.{Act, Command, Relinquish, SetDefault}
use Rattle.gw_codecs.specs.declared.tags.fault.ValueFault.{ValueFault}
use Rattle.gw_codecs.specs.declared.tags.fault.ValueFault.TheVariants.{Short, BadTag, BadLength, BadText}
use Rattle.gw_codecs.specs.tags.Object.{Object}
use Rattle.gw_codecs.specs.tags.Reading.{value_at}
use Rattle.gw_codecs.specs.tags.Value.{Value, null, unsigned, signed, character_string, enumerated}
use Rattle.gw_objects.specs.declared.configured.Configured.{Configured}
use Rattle.gw_objects.specs.declared.configured.ConfiguredObject.{ConfiguredObject}
use Rattle.gw_objects.specs.declared.configured.Details.{Details}
use Rattle.gw_objects.specs.declared.configured.Details.TheVariants.{BinaryValue, MultiStateValue, CharacterStringValue}
use Rattle.gw_objects.specs.declared.configured.Details.TheVariants.{IntegerValue, PositiveIntegerValue}
use Rattle.gw_objects.specs.declared.fault.WriteFault.{WriteFault}
use Rattle.gw_objects.specs.declared.fault.WriteFault.TheVariants.{UnknownObject, UnknownProperty, NotWritable}
use Rattle.gw_objects.specs.declared.fault.WriteFault.TheVariants.{NotArray, Reserved, WrongKind, CharacterSet}
use Rattle.gw_objects.specs.declared.fault.WriteFault.TheVariants.{OutOfRange, NoSpace, Memory}
use Rattle.gw_objects.specs.declared.property.ObjectType.{ObjectType}
use Rattle.gw_objects.specs.declared.property.ObjectType.TheVariants as types
use Rattle.gw_objects.specs.declared.property.Property.{Property}
use Rattle.gw_objects.specs.declared.property.Property.TheVariants as the
use Rattle.gw_objects.specs.declared.value.PropertyValue.{PropertyValue}
use Rattle.gw_objects.specs.declared.value.PropertyValue.TheVariants.{Binary, State, Text, Integer, PositiveInteger}
use Rattle.gw_objects.specs.Objects.{type_of, device_id, same, place_of}
use Rattle.gw_objects.specs.Property.{property_of}

-- a successful write: the place of its value object, and what it does there: a command at a
-- priority, a relinquish at one, or a new default
pub record Write : Type 0 where
  pub place : ℕ
  pub act : Act PropertyValue

-- the properties that can be written: Present_Value and Relinquish_Default
abbrev pub is_writable : Property → Bool
is_writable the.PresentValue = true
is_writable the.RelinquishDefault = true
is_writable _ = false

-- Present_Value can't be written at priority 6; the priority of another property isn't looked at
abbrev pub is_reserved : Property → ℕ → Bool
is_reserved the.PresentValue priority = priority == RESERVED
is_reserved _ priority = false

-- what is wrong with a write of a property, whatever the value
abbrev pub property_fault : Property → Option ℕ → ℕ → Result Property WriteFault
property_fault property index priority =
    if not (is_writable property) then Err NotWritable
    else if has_index index then Err NotArray
    else if is_reserved property priority then Err Reserved
    else Ok property
  where
    has_index : Option ℕ → Bool
    has_index None = false
    has_index (Some n) = true

-- the property of a type that a write names, where it can be written so
abbrev pub property_for : ObjectType → ℕ → Option ℕ → ℕ → Result Property WriteFault
property_for kind number index priority =
    ok_or (property_of kind number) UnknownProperty
    >>= λ property. property_fault property index priority

-- one value fills the octets, and nothing follows it
abbrev pub filled : Value → List ℕ → Result Value WriteFault
filled value [] = Ok value
filled value (octet ∷ rest) = Err WrongKind

abbrev pub whole : Result (Value × List ℕ) ValueFault → Result Value WriteFault
whole (Ok x) = filled x.0 x.1
whole (Err BadText) = Err OutOfRange
whole (Err Short) = Err WrongKind
whole (Err BadTag) = Err WrongKind
whole (Err BadLength) = Err WrongKind

-- a text that is written: in character set 0, and no longer than a text may be
abbrev pub text_in : ℕ → List ℕ → Result PropertyValue WriteFault
text_in charset octets =
    if not (charset == 0) then Err CharacterSet
    else if nat_lt MAX_TEXT (length octets) then Err NoSpace
    else Ok (Text octets)

-- a number that is written to a Binary Value is 0 or 1, and to a Multi-state Value one of so many
abbrev pub binary_value : ℕ → Result PropertyValue WriteFault
binary_value n = if nat_lt n 2 then Ok (Binary (n == 1)) else Err OutOfRange

abbrev pub state_value : ℕ → ℕ → Result PropertyValue WriteFault
state_value count n = if nat_le 1 n && nat_le n count then Ok (State n) else Err OutOfRange

-- the value that an object takes, by its type
abbrev pub value_for : Details → Value → Result PropertyValue WriteFault
value_for (BinaryValue active inactive) (enumerated n) = binary_value n
value_for (MultiStateValue states) (unsigned n) = state_value (length states) n
value_for CharacterStringValue (character_string charset octets) = text_in charset octets
value_for (IntegerValue units) (signed z) = Ok (Integer z)
value_for (PositiveIntegerValue units) (unsigned n) = Ok (PositiveInteger n)
value_for _ _ = Err WrongKind

-- Null empties a slot, a value fills it; a default is a value
abbrev pub present_act : Details → ℕ → Value → Result (Act PropertyValue) WriteFault
present_act details priority null = Ok (Relinquish priority)
present_act details priority value = value_for details value >>= λ v. Ok (Command priority v)

abbrev pub act_for : Details → Property → ℕ → Value → Result (Act PropertyValue) WriteFault
act_for details the.PresentValue priority value = present_act details priority value
act_for details the.RelinquishDefault priority value =
    value_for details value >>= λ v. Ok (SetDefault v)
act_for details _ priority value = Err NotWritable

-- a write to a value object
abbrev pub act_of :
    ConfiguredObject → ℕ → Option ℕ → ℕ → List ℕ → Result (Act PropertyValue) WriteFault
act_of object number index priority octets = do
  property ← property_for (type_of object.details) number index priority
  value ← whole (value_at octets)
  act_for object.details property priority value

abbrev pub object_write : ℕ → ConfiguredObject → ℕ → Option ℕ → ℕ → List ℕ → Result Write WriteFault
object_write place object number index priority octets =
    act_of object number index priority octets >>= λ act. Ok (record { place = place; act = act })

-- the Device object has no property that can be written
abbrev pub device_write : ℕ → Result Write WriteFault
device_write number =
    ok_or (property_of types.Device number) UnknownProperty >>= λ property. Err NotWritable

-- what a write does, or the first fault
unfoldable pub write_of : Configured → Object → ℕ → Option ℕ → ℕ → List ℕ → Result Write WriteFault
write_of c wanted number index priority octets =
    if same wanted (device_id c.device) then device_write number
    else (do
      place ← ok_or (place_of c wanted) UnknownObject
      object ← ok_or (slice_get c.objects place) UnknownObject
      object_write place object number index priority octets)

-- an act at a priority that can be written
abbrev pub CanAct : Act PropertyValue → Type 0
CanAct (Command priority value) = IsPriority priority × (priority ≢ RESERVED)
CanAct (Relinquish priority) = IsPriority priority × (priority ≢ RESERVED)
CanAct (SetDefault value) = Unit {0}

-- a value, and what a write puts, is a text, which alone takes memory
abbrev pub is_text : PropertyValue → Bool
is_text (Text octets) = true
is_text _ = false

abbrev pub puts_text : Act PropertyValue → Bool
puts_text (Command priority value) = is_text value
puts_text (Relinquish priority) = false
puts_text (SetDefault value) = is_text value

abbrev pub writes_text : Write → Bool
writes_text write = puts_text write.act

-- what a call returned, seen by view, is what is due, or the fault that is due; want of memory only
-- where no fault is due, and what is due has a text
abbrev pub Decides : {X Y : Type 0} → (X → Y) → (Y → Bool) → Result X WriteFault → Result Y WriteFault → Type 0
Decides view has_text (Ok x) due = due ≡ Ok (view x)
Decides view has_text (Err fault) (Ok y) = (fault ≡ Memory) × IsTrue (has_text y)
Decides view has_text (Err fault) (Err due) = due ≡ fault
