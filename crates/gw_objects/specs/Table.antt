-- The table of properties: what each holds, by the configuration, the slots and the default (ISO
-- 16484-5 clause 12). The sets of properties are in Property.
use Rattle.std.specs.Prelude.{ℕ, ◌+◌, ◌*◌, nat_eq, false, if◌then◌else◌, List, [], ◌∷◌, length, map, slice_get, Option}
use Rattle.std.specs.Prelude.{Result, Ok}
use Rattle.std.specs.List.{list_any, range_with_len}
use Rattle.std.specs.Option.{ok_or, option_map_or}
use Rattle.gw_addr.specs.Reading.{◌>>=◌}
use Rattle.gw_tables.specs.priority.Commandable.{present}
use Rattle.gw_codecs.specs.tags.Object.{Object}
use Rattle.gw_codecs.specs.tags.Value.{Value, null, boolean, unsigned, signed, character_string, bit_string, enumerated}
use Rattle.gw_codecs.specs.tags.Value.{object_id, bit_of}
use Rattle.gw_objects.specs.declared.configured.Configured.{Configured}
use Rattle.gw_objects.specs.declared.configured.ConfiguredObject.{ConfiguredObject}
use Rattle.gw_objects.specs.declared.configured.Details.{Details}
use Rattle.gw_objects.specs.declared.configured.Details.TheVariants.{BinaryValue, MultiStateValue, IntegerValue}
use Rattle.gw_objects.specs.declared.configured.Details.TheVariants.{PositiveIntegerValue}
use Rattle.gw_objects.specs.declared.fault.ReadFault.{ReadFault}
use Rattle.gw_objects.specs.declared.fault.ReadFault.TheVariants.{UnknownObject, UnknownProperty}
use Rattle.gw_objects.specs.declared.property.ObjectType.{ObjectType}
use Rattle.gw_objects.specs.declared.property.ObjectType.TheVariants as types
use Rattle.gw_objects.specs.declared.property.Property.{Property}
use Rattle.gw_objects.specs.declared.property.Property.TheVariants as the
use Rattle.gw_objects.specs.declared.value.PropertyValue.{PropertyValue}
use Rattle.gw_objects.specs.declared.value.PropertyValue.TheVariants.{Binary, State, Text, Integer, PositiveInteger}
use Rattle.gw_objects.specs.Contents.{Contents, one, array, empty_list, octets_of}
use Rattle.gw_objects.specs.Objects.{Slots, Database, type_of, device_id, object_id_of, ids, same, place_of}
use Rattle.gw_objects.specs.Property.{type_number, property_of}

-- a text in character set 0
abbrev pub text : List ℕ → Value
text octets = character_string 0 octets

-- a value of Present_Value and Relinquish_Default, by its kind
abbrev pub value_of : PropertyValue → Value
value_of (Binary active) = enumerated (bit_of active)
value_of (State number) = unsigned number
value_of (Text octets) = text octets
value_of (Integer number) = signed number
value_of (PositiveInteger number) = unsigned number

-- a slot: its value, or Null where it is empty
abbrev pub slot_value : Option PropertyValue → Value
slot_value slot = option_map_or value_of slot null

-- octets of bits, of which these are set; the first bit is the highest of the first octet
abbrev pub bit : List ℕ → ℕ → ℕ
bit set n = bit_of (list_any (nat_eq n) set)

abbrev pub eight_bits : List ℕ → ℕ → ℕ
eight_bits set n =
    128 * bit set n + 64 * bit set (n + 1) + 32 * bit set (n + 2) + 16 * bit set (n + 3)
    + 8 * bit set (n + 4) + 4 * bit set (n + 5) + 2 * bit set (n + 6) + bit set (n + 7)

abbrev pub bits : ℕ → List ℕ → List ℕ
bits octets set = map (λ place. eight_bits set (8 * place)) (range_with_len 0 octets)

-- a bit for each service that is supported: ReadProperty, ReadPropertyMultiple, WriteProperty,
-- Who-Has and Who-Is
abbrev pub services : List ℕ
services = 12 ∷ 14 ∷ 15 ∷ 33 ∷ 34 ∷ []

-- a bit for each type of object that is supported
abbrev pub object_types : List ℕ
object_types =
    type_number types.BinaryValue ∷ type_number types.Device ∷ type_number types.MultiStateValue
    ∷ type_number types.CharacterStringValue ∷ type_number types.IntegerValue
    ∷ type_number types.PositiveIntegerValue ∷ []

-- ---- the Device object (clause 12.11)

abbrev pub device_line : Configured → Property → Contents
device_line c the.ObjectIdentifier = one (object_id (device_id c.device))
device_line c the.ObjectName = one (text c.device.name)
device_line c the.ObjectType = one (enumerated (type_number types.Device))
device_line c the.SystemStatus = one (enumerated 0)
device_line c the.VendorName = one (text c.device.vendor_name)
device_line c the.VendorIdentifier = one (unsigned c.device.vendor)
device_line c the.ModelName = one (text c.device.model)
device_line c the.FirmwareRevision = one (text c.device.firmware)
device_line c the.ApplicationSoftwareVersion = one (text c.device.software)
device_line c the.ProtocolVersion = one (unsigned 1)
device_line c the.ProtocolRevision = one (unsigned c.device.revision)
device_line c the.ProtocolServicesSupported = one (bit_string 0 (bits 5 services))
device_line c the.ProtocolObjectTypesSupported = one (bit_string 0 (bits 7 object_types))
device_line c the.ObjectList = array (map object_id (ids c))
device_line c the.MaxApduLengthAccepted = one (unsigned 1476)
device_line c the.SegmentationSupported = one (enumerated 3)
device_line c the.ApduTimeout = one (unsigned 3000)
device_line c the.NumberOfApduRetries = one (unsigned 3)
device_line c the.DeviceAddressBinding = empty_list
device_line c the.DatabaseRevision = one (unsigned c.device.database)
device_line c the.Description = one (text c.device.description)
device_line c _ = empty_list

-- ---- the value objects (clauses 12.8, 12.20, 12.39, 12.43 and 12.44)

-- what only some types have
abbrev pub details_line : Details → Property → Contents
details_line (BinaryValue active inactive) the.ActiveText = one (text active)
details_line (BinaryValue active inactive) the.InactiveText = one (text inactive)
details_line (MultiStateValue states) the.NumberOfStates = one (unsigned (length states))
details_line (MultiStateValue states) the.StateText = array (map text states)
details_line (IntegerValue units) the.Units = one (enumerated units)
details_line (PositiveIntegerValue units) the.Units = one (enumerated units)
details_line _ _ = empty_list

abbrev pub object_line : ConfiguredObject → Slots → Property → Contents
object_line o slots the.ObjectIdentifier = one (object_id (object_id_of o))
object_line o slots the.ObjectName = one (text o.name)
object_line o slots the.ObjectType = one (enumerated (type_number (type_of o.details)))
object_line o slots the.PresentValue = one (value_of (present slots))
object_line o slots the.PriorityArray = array (map slot_value slots.slots)
object_line o slots the.RelinquishDefault = one (value_of slots.default)
object_line o slots the.StatusFlags = one (bit_string 4 (0 ∷ []))
object_line o slots the.EventState = one (enumerated 0)
object_line o slots the.OutOfService = one (boolean false)
object_line o slots the.Description = one (text o.description)
object_line o slots property = details_line o.details property

-- ---- reading

-- the line of a property that a type has
abbrev pub known_line : ObjectType → (Property → Contents) → ℕ → Result Contents ReadFault
known_line kind line number =
    ok_or (property_of kind number) UnknownProperty >>= λ property. Ok (line property)

-- a value object with its slots
abbrev pub object_at : Database → Object → Result (ConfiguredObject × Slots) ReadFault
object_at d wanted = do
  place ← ok_or (place_of d.configured wanted) UnknownObject
  object ← ok_or (slice_get d.configured.objects place) UnknownObject
  slots ← ok_or (slice_get d.states place) UnknownObject
  Ok (object, slots)

abbrev pub object_contents : Database → Object → ℕ → Result Contents ReadFault
object_contents d wanted number =
    object_at d wanted
    >>= λ found. known_line (type_of found.0.details) (object_line found.0 found.1) number

-- what a property of an object holds, or the first fault
abbrev pub contents_of : Database → Object → ℕ → Result Contents ReadFault
contents_of d wanted number =
    if same wanted (device_id d.configured.device)
    then known_line types.Device (device_line d.configured) number
    else object_contents d wanted number

-- the octets of a property of an object, or of one element of it, or the first fault
unfoldable pub read_of : Database → Object → ℕ → Option ℕ → Result (List ℕ) ReadFault
read_of d wanted number index = contents_of d wanted number >>= λ contents. octets_of contents index
