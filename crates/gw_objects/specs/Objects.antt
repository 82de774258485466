-- The objects of a device: what is configured of them, which never changes, and for each value
-- object its slots and its default, which writes change.
pub use Rattle.gw_objects.specs.Identifier.{type_of, id, device_id, object_id_of, same, is_name}
use Rattle.std.specs.Prelude.{ℕ, if◌then◌else◌, List, ◌∷◌, map, find, position, slice_get, Option, Some}
use Rattle.std.specs.Option.{option_and_then, option_map}
use Rattle.gw_configuration.specs.declared.object.Object.{Object as PolicyObject}
use Rattle.gw_configuration.specs.declared.object.ObjectValue.{ObjectValue}
use Rattle.gw_configuration.specs.declared.object.ObjectValue.TheVariants as policy
use Rattle.gw_configuration.specs.Configuration.{Configuration}
use Rattle.gw_tables.specs.priority.Commandable.{Commandable, no_command}
use Rattle.gw_codecs.specs.tags.Object.{Object}
use Rattle.gw_objects.specs.declared.configured.Configured.{Configured}
use Rattle.gw_objects.specs.declared.configured.ConfiguredObject.{ConfiguredObject}
use Rattle.gw_objects.specs.declared.configured.Details.{Details}
use Rattle.gw_objects.specs.declared.configured.Details.TheVariants.{BinaryValue, MultiStateValue, CharacterStringValue}
use Rattle.gw_objects.specs.declared.configured.Details.TheVariants.{IntegerValue, PositiveIntegerValue}
use Rattle.gw_objects.specs.declared.property.ObjectType.{ObjectType}
use Rattle.gw_objects.specs.declared.property.ObjectType.TheVariants as types
use Rattle.gw_objects.specs.declared.value.PropertyValue.{PropertyValue}
use Rattle.gw_objects.specs.declared.value.PropertyValue.TheVariants.{Binary, State, Text, Integer, PositiveInteger}

-- the slots and the default of a value object
abbrev pub Slots : Type 0
Slots = Commandable PropertyValue

-- what is configured, and the slots and the default of each value object in the same order
pub record Database : Type 0 where
  pub configured : Configured
  pub states : List Slots

-- the identifiers of all objects: the device, then the others in their order
abbrev pub ids : Configured → List Object
ids c = device_id c.device ∷ map object_id_of c.objects

-- the place of the value object of an identifier
abbrev pub place_of : Configured → Object → Option ℕ
place_of c wanted = position (λ object. same wanted (object_id_of object)) c.objects

-- ---- from a configuration

-- what stays of a value object
abbrev pub details_of : ObjectValue → Details
details_of (policy.BinaryValue default active inactive) = BinaryValue active inactive
details_of (policy.MultiStateValue value) = MultiStateValue value.states
details_of (policy.CharacterStringValue default) = CharacterStringValue
details_of (policy.IntegerValue default units) = IntegerValue units
details_of (policy.PositiveIntegerValue default units) = PositiveIntegerValue units

abbrev pub configured_of : PolicyObject → ConfiguredObject
configured_of object = record {
  instance = object.instance;
  name = object.name;
  description = object.description;
  details = details_of object.value;
}

-- the default that a value object begins with
abbrev pub default_of : ObjectValue → PropertyValue
default_of (policy.BinaryValue default active inactive) = Binary default
default_of (policy.MultiStateValue value) = State value.default
default_of (policy.CharacterStringValue default) = Text default
default_of (policy.IntegerValue default units) = Integer default
default_of (policy.PositiveIntegerValue default units) = PositiveInteger default

-- the defaults that the value objects of a configuration begin with
abbrev pub defaults_of : Configuration → List PropertyValue
defaults_of c = map (λ object. default_of object.value) c.objects

-- the objects of a configuration, before any write
abbrev pub database_of : Configuration → Database
database_of c = record {
  configured = record { device = c.device; objects = map configured_of c.objects };
  states = map (λ object. no_command (default_of object.value)) c.objects;
}

-- ---- finding

-- the type of the value object at a place
abbrev pub type_in : Configured → ℕ → Option ObjectType
type_in c place = option_map (λ object. type_of object.details) (slice_get c.objects place)

-- the type of the object of an identifier
abbrev pub type_at : Configured → Object → Option ObjectType
type_at c wanted =
    if same wanted (device_id c.device) then Some types.Device
    else option_and_then (type_in c) (place_of c wanted)

-- the identifier of the object of a name
abbrev pub named : Configured → List ℕ → Option Object
named c wanted =
    if is_name wanted c.device.name then Some (device_id c.device)
    else option_map object_id_of (find (λ object. is_name wanted object.name) c.objects)

-- the name of the object of an identifier
abbrev pub name_at : Configured → Object → Option (List ℕ)
name_at c wanted =
    if same wanted (device_id c.device) then Some c.device.name
    else option_and_then
    (λ place. option_map (λ object. object.name) (slice_get c.objects place))
    (place_of c wanted)
