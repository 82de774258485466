-- The properties of each type of object, and their numbers (ISO 16484-5 clauses 12 and 21). Which
-- properties a type has, which of them are required, and their order are this project's own choice.
use Rattle.std.specs.Prelude.{ℕ, ◌==◌, ◌++◌, List, [], ◌∷◌, find, Option}
use Rattle.gw_objects.specs.declared.property.ObjectType.{ObjectType}
use Rattle.gw_objects.specs.declared.property.ObjectType.TheVariants.{Device, BinaryValue, MultiStateValue}
use Rattle.gw_objects.specs.declared.property.ObjectType.TheVariants.{CharacterStringValue, IntegerValue}
use Rattle.gw_objects.specs.declared.property.ObjectType.TheVariants.{PositiveIntegerValue}
use Rattle.gw_objects.specs.declared.property.Property.{Property}
use Rattle.gw_objects.specs.declared.property.Property.TheVariants.{ActiveText, ApduTimeout, ApplicationSoftwareVersion}
use Rattle.gw_objects.specs.declared.property.Property.TheVariants.{DatabaseRevision, Description, DeviceAddressBinding}
use Rattle.gw_objects.specs.declared.property.Property.TheVariants.{EventState, FirmwareRevision, InactiveText}
use Rattle.gw_objects.specs.declared.property.Property.TheVariants.{MaxApduLengthAccepted, ModelName}
use Rattle.gw_objects.specs.declared.property.Property.TheVariants.{NumberOfApduRetries, NumberOfStates}
use Rattle.gw_objects.specs.declared.property.Property.TheVariants.{ObjectIdentifier, ObjectList, ObjectName}
use Rattle.gw_objects.specs.declared.property.Property.TheVariants.{ObjectType as TypeOfObject, OutOfService}
use Rattle.gw_objects.specs.declared.property.Property.TheVariants.{PresentValue, PriorityArray}
use Rattle.gw_objects.specs.declared.property.Property.TheVariants.{ProtocolObjectTypesSupported, ProtocolRevision}
use Rattle.gw_objects.specs.declared.property.Property.TheVariants.{ProtocolServicesSupported, ProtocolVersion}
use Rattle.gw_objects.specs.declared.property.Property.TheVariants.{RelinquishDefault, SegmentationSupported, StateText}
use Rattle.gw_objects.specs.declared.property.Property.TheVariants.{StatusFlags, SystemStatus, Units, VendorIdentifier}
use Rattle.gw_objects.specs.declared.property.Property.TheVariants.{VendorName}
use Rattle.gw_objects.specs.declared.property.PropertySet.{PropertySet}
use Rattle.gw_objects.specs.declared.property.PropertySet.TheVariants.{All, Required, Optional}

-- the number of a type of object
abbrev pub type_number : ObjectType → ℕ
type_number BinaryValue = 5
type_number Device = 8
type_number MultiStateValue = 19
type_number CharacterStringValue = 40
type_number IntegerValue = 45
type_number PositiveIntegerValue = 48

-- the number of a property
abbrev pub property_number : Property → ℕ
property_number ActiveText = 4
property_number ApduTimeout = 11
property_number ApplicationSoftwareVersion = 12
property_number Description = 28
property_number DeviceAddressBinding = 30
property_number EventState = 36
property_number FirmwareRevision = 44
property_number InactiveText = 46
property_number MaxApduLengthAccepted = 62
property_number ModelName = 70
property_number NumberOfApduRetries = 73
property_number NumberOfStates = 74
property_number ObjectIdentifier = 75
property_number ObjectList = 76
property_number ObjectName = 77
property_number TypeOfObject = 79
property_number OutOfService = 81
property_number PresentValue = 85
property_number PriorityArray = 87
property_number ProtocolObjectTypesSupported = 96
property_number ProtocolServicesSupported = 97
property_number ProtocolVersion = 98
property_number RelinquishDefault = 104
property_number SegmentationSupported = 107
property_number StateText = 110
property_number StatusFlags = 111
property_number SystemStatus = 112
property_number Units = 117
property_number VendorIdentifier = 120
property_number VendorName = 121
property_number ProtocolRevision = 139
property_number DatabaseRevision = 155

-- the required properties of a type, in their order
abbrev pub required : ObjectType → List Property
required Device =
    ObjectIdentifier ∷ ObjectName ∷ TypeOfObject ∷ SystemStatus ∷ VendorName ∷ VendorIdentifier
    ∷ ModelName ∷ FirmwareRevision ∷ ApplicationSoftwareVersion ∷ ProtocolVersion
    ∷ ProtocolRevision ∷ ProtocolServicesSupported ∷ ProtocolObjectTypesSupported ∷ ObjectList
    ∷ MaxApduLengthAccepted ∷ SegmentationSupported ∷ ApduTimeout ∷ NumberOfApduRetries
    ∷ DeviceAddressBinding ∷ DatabaseRevision ∷ []
required BinaryValue =
    ObjectIdentifier ∷ ObjectName ∷ TypeOfObject ∷ PresentValue ∷ StatusFlags ∷ EventState
    ∷ OutOfService ∷ []
required MultiStateValue =
    ObjectIdentifier ∷ ObjectName ∷ TypeOfObject ∷ PresentValue ∷ StatusFlags ∷ EventState
    ∷ OutOfService ∷ NumberOfStates ∷ []
required CharacterStringValue =
    ObjectIdentifier ∷ ObjectName ∷ TypeOfObject ∷ PresentValue ∷ StatusFlags ∷ []
required IntegerValue =
    ObjectIdentifier ∷ ObjectName ∷ TypeOfObject ∷ PresentValue ∷ StatusFlags ∷ Units ∷ []
required PositiveIntegerValue =
    ObjectIdentifier ∷ ObjectName ∷ TypeOfObject ∷ PresentValue ∷ StatusFlags ∷ Units ∷ []

-- the optional properties of a type, in their order
abbrev pub optional : ObjectType → List Property
optional Device = Description ∷ []
optional BinaryValue =
    Description ∷ PriorityArray ∷ RelinquishDefault ∷ ActiveText ∷ InactiveText ∷ []
optional MultiStateValue = Description ∷ PriorityArray ∷ RelinquishDefault ∷ StateText ∷ []
optional CharacterStringValue =
    Description ∷ EventState ∷ OutOfService ∷ PriorityArray ∷ RelinquishDefault ∷ []
optional IntegerValue =
    Description ∷ EventState ∷ OutOfService ∷ PriorityArray ∷ RelinquishDefault ∷ []
optional PositiveIntegerValue =
    Description ∷ EventState ∷ OutOfService ∷ PriorityArray ∷ RelinquishDefault ∷ []

-- a set of the properties of a type: all are the required ones, then the optional ones
abbrev pub properties : ObjectType → PropertySet → List Property
properties kind All = required kind ++ optional kind
properties kind Required = required kind
properties kind Optional = optional kind

-- a property is known to a type exactly where one of its two lists has it
abbrev pub property_of : ObjectType → ℕ → Option Property
property_of kind number =
    find (λ property. property_number property == number) (properties kind All)
