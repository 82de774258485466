-- Which object is meant: by its type and instance, or by its name.
use Rattle.std.specs.Prelude.{ℕ, ◌==◌, ◌&&◌, nat_eq, Bool, List}
use Rattle.std.specs.Cmp.Lexicographic.{pointwise}
use Rattle.gw_configuration.specs.declared.device.Device.{Device}
use Rattle.gw_codecs.specs.tags.Object.{Object}
use Rattle.gw_objects.specs.declared.configured.ConfiguredObject.{ConfiguredObject}
use Rattle.gw_objects.specs.declared.configured.Details.{Details}
use Rattle.gw_objects.specs.declared.configured.Details.TheVariants.{BinaryValue, MultiStateValue, CharacterStringValue}
use Rattle.gw_objects.specs.declared.configured.Details.TheVariants.{IntegerValue, PositiveIntegerValue}
use Rattle.gw_objects.specs.declared.property.ObjectType.{ObjectType}
use Rattle.gw_objects.specs.declared.property.ObjectType.TheVariants as types
use Rattle.gw_objects.specs.Property.{type_number}

-- the type of a value object
abbrev pub type_of : Details → ObjectType
type_of (BinaryValue active inactive) = types.BinaryValue
type_of (MultiStateValue states) = types.MultiStateValue
type_of CharacterStringValue = types.CharacterStringValue
type_of (IntegerValue units) = types.IntegerValue
type_of (PositiveIntegerValue units) = types.PositiveIntegerValue

-- an object identifier by type and instance
abbrev pub id : ObjectType → ℕ → Object
id kind instance = record { kind = type_number kind; instance = instance }

-- the identifiers of the device and of a value object
abbrev pub device_id : Device → Object
device_id device = id types.Device device.instance

abbrev pub object_id_of : ConfiguredObject → Object
object_id_of object = id (type_of object.details) object.instance

-- two identifiers are one
abbrev pub same : Object → Object → Bool
same a b = (a.kind == b.kind) && (a.instance == b.instance)

-- a name is these octets
abbrev pub is_name : List ℕ → List ℕ → Bool
is_name wanted name = pointwise nat_eq wanted name
