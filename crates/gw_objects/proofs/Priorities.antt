-- A write that is made is at a priority that can be written.
use Rattle.std.proofs.Common.{◌≡◌, ◌≢◌, refl, subst, ℕ, Bool, true, false, List, Option, Some, None, Result, Ok, Err}
use Rattle.std.specs.Prelude.{if◌then◌else◌, not, slice_get}
use Rattle.std.specs.Option.{ok_or}
use Rattle.std.proofs.lemmas.Bool.{eqb-false}
use Rattle.gw_addr.specs.Reading.{◌>>=◌}
use Rattle.gw_addr.proofs.Reading.{bind_ok}
use Rattle.gw_objects.specs.declared.configured.Configured.{Configured}
use Rattle.gw_objects.specs.declared.configured.ConfiguredObject.{ConfiguredObject}
use Rattle.gw_objects.specs.declared.configured.Details.{Details}
use Rattle.gw_objects.specs.declared.fault.WriteFault.{WriteFault}
use Rattle.gw_objects.specs.declared.fault.WriteFault.TheVariants.{NotArray, NotWritable, Reserved, UnknownObject, UnknownProperty}
use Rattle.gw_objects.specs.declared.property.ObjectType.TheVariants as types
use Rattle.gw_objects.specs.declared.property.Property.{Property}
use Rattle.gw_objects.specs.declared.property.Property.TheVariants as the
use Rattle.gw_objects.specs.declared.value.PropertyValue.{PropertyValue}
use Rattle.gw_objects.specs.Laws.{WritesCanBeMade}
use Rattle.gw_objects.specs.Objects.{device_id, place_of, same, type_of}
use Rattle.gw_objects.specs.Property.{property_of}
use Rattle.gw_objects.specs.Write.{CanAct, Write, act_for, act_of, device_write, is_reserved, is_writable, object_write, present_act, property_fault, property_for, value_for, whole, write_of}
use Rattle.gw_objects.proofs.Others.{no_device_write, ok_is}
use Rattle.gw_tables.specs.declared.priority.array.TheConstants.{RESERVED}
use Rattle.gw_tables.specs.priority.Commandable.{IsPriority}
use Rattle.gw_tables.specs.priority.History.{Act, Command, Relinquish, SetDefault}
use Rattle.gw_codecs.specs.tags.Object.{Object}
use Rattle.gw_codecs.specs.tags.Reading.{value_at}
use Rattle.gw_codecs.specs.tags.Value.{Value, null, boolean, unsigned, signed, real, double, octet_string, character_string, bit_string, enumerated, date, time, object_id}

-- ---- the property

no_fault : (a b reserved : Bool) (p q : Property)
    → ◌≡◌ {A = Result Property WriteFault} (if a then Err NotWritable else if b then Err NotArray else if reserved then Err Reserved else Ok p) (Ok q)
    → (reserved ≡ false) × (p ≡ q)
no_fault true b reserved p q e = absurd cc
no_fault false true reserved p q e = absurd cc
no_fault false false true p q e = absurd cc
no_fault false false false p q e = (refl, ok_is p q e)

-- a property that can be written at a priority isn't reserved there
not_reserved : (p q : Property) (index : Option ℕ) (priority : ℕ) → property_fault p index priority ≡ Ok q → is_reserved q priority ≡ false
not_reserved p q index priority e =
    let free = no_fault (not (is_writable p)) _ (is_reserved p priority) p q e in
    subst (λ (x : Property). is_reserved x priority ≡ false) free.1 free.0

-- ---- what it does there

-- an act at a priority, where it can be
module _ (priority : ℕ) (is : IsPriority priority) where
  commanded : (v : Result PropertyValue WriteFault) (act : Act PropertyValue) → priority ≢ RESERVED
      → ◌≡◌ {A = Result (Act PropertyValue) WriteFault} (v >>= λ x. Ok (Command priority x)) (Ok act) → CanAct act
  commanded (Ok x) act free e = subst CanAct (ok_is (Command priority x) act e) (is, free)
  commanded (Err fault) act free e = absurd cc

  present_can : (details : Details) (value : Value) (act : Act PropertyValue) → priority ≢ RESERVED → present_act details priority value ≡ Ok act → CanAct act
  present_can details null act free e = subst CanAct (ok_is (Relinquish priority) act e) (is, free)
  present_can details (boolean b) act free e = commanded (value_for details (boolean b)) act free e
  present_can details (unsigned n) act free e = commanded (value_for details (unsigned n)) act free e
  present_can details (signed z) act free e = commanded (value_for details (signed z)) act free e
  present_can details (real x) act free e = commanded (value_for details (real x)) act free e
  present_can details (double x) act free e = commanded (value_for details (double x)) act free e
  present_can details (octet_string x) act free e = commanded (value_for details (octet_string x)) act free e
  present_can details (character_string charset x) act free e = commanded (value_for details (character_string charset x)) act free e
  present_can details (bit_string unused x) act free e = commanded (value_for details (bit_string unused x)) act free e
  present_can details (enumerated n) act free e = commanded (value_for details (enumerated n)) act free e
  present_can details (date x) act free e = commanded (value_for details (date x)) act free e
  present_can details (time x) act free e = commanded (value_for details (time x)) act free e
  present_can details (object_id x) act free e = commanded (value_for details (object_id x)) act free e

  default_can : (v : Result PropertyValue WriteFault) (act : Act PropertyValue)
      → ◌≡◌ {A = Result (Act PropertyValue) WriteFault} (v >>= λ x. Ok (SetDefault x)) (Ok act) → CanAct act
  default_can (Ok x) act e = subst CanAct (ok_is (SetDefault x) act e) tt
  default_can (Err fault) act e = absurd cc

  act_can : (details : Details) (p : Property) (value : Value) (act : Act PropertyValue) → is_reserved p priority ≡ false → act_for details p priority value ≡ Ok act
      → CanAct act
  act_can details the.PresentValue value act free e = present_can details value act (eqb-false priority RESERVED free) e
  act_can details the.RelinquishDefault value act free e = default_can (value_for details value) act e
  act_can details the.ActiveText value act free e = absurd cc
  act_can details the.ApduTimeout value act free e = absurd cc
  act_can details the.ApplicationSoftwareVersion value act free e = absurd cc
  act_can details the.Description value act free e = absurd cc
  act_can details the.DeviceAddressBinding value act free e = absurd cc
  act_can details the.EventState value act free e = absurd cc
  act_can details the.FirmwareRevision value act free e = absurd cc
  act_can details the.InactiveText value act free e = absurd cc
  act_can details the.MaxApduLengthAccepted value act free e = absurd cc
  act_can details the.ModelName value act free e = absurd cc
  act_can details the.NumberOfApduRetries value act free e = absurd cc
  act_can details the.NumberOfStates value act free e = absurd cc
  act_can details the.ObjectIdentifier value act free e = absurd cc
  act_can details the.ObjectList value act free e = absurd cc
  act_can details the.ObjectName value act free e = absurd cc
  act_can details the.ObjectType value act free e = absurd cc
  act_can details the.OutOfService value act free e = absurd cc
  act_can details the.PriorityArray value act free e = absurd cc
  act_can details the.ProtocolObjectTypesSupported value act free e = absurd cc
  act_can details the.ProtocolServicesSupported value act free e = absurd cc
  act_can details the.ProtocolVersion value act free e = absurd cc
  act_can details the.SegmentationSupported value act free e = absurd cc
  act_can details the.StateText value act free e = absurd cc
  act_can details the.StatusFlags value act free e = absurd cc
  act_can details the.SystemStatus value act free e = absurd cc
  act_can details the.Units value act free e = absurd cc
  act_can details the.VendorIdentifier value act free e = absurd cc
  act_can details the.VendorName value act free e = absurd cc
  act_can details the.ProtocolRevision value act free e = absurd cc
  act_can details the.DatabaseRevision value act free e = absurd cc

  act_of_can : (object : ConfiguredObject) (number : ℕ) (index : Option ℕ) (octets : List ℕ) (act : Act PropertyValue)
      → act_of object number index priority octets ≡ Ok act → CanAct act
  act_of_can object number index octets act e =
      let at = bind_ok (property_for (type_of object.details) number index priority) _ act e in
      let value = bind_ok (whole (value_at octets)) _ act at.2 in
      let named = bind_ok (ok_or (property_of (type_of object.details) number) UnknownProperty) _ at.0 at.1 in
      act_can object.details at.0 value.0 act (not_reserved named.0 at.0 index priority named.2) value.2

  made_can : (place : ℕ) (due : Result (Act PropertyValue) WriteFault) (write : Write) → ((act : Act PropertyValue) → due ≡ Ok act → CanAct act)
      → ◌≡◌ {A = Result Write WriteFault} (due >>= λ act. Ok (record { place = place; act = act })) (Ok write) → CanAct write.act
  made_can place (Ok act) write can e = subst (λ (w : Write). CanAct w.act) (ok_is _ write e) (can act refl)
  made_can place (Err fault) write can e = absurd cc

  at_object : (place : ℕ) (object : Option ConfiguredObject) (number : ℕ) (index : Option ℕ) (octets : List ℕ) (write : Write)
      → ◌≡◌ {A = Result Write WriteFault} (ok_or object UnknownObject >>= λ object. object_write place object number index priority octets) (Ok write)
      → CanAct write.act
  at_object place None number index octets write e = absurd cc
  at_object place (Some object) number index octets write e =
      made_can place (act_of object number index priority octets) write (act_of_can object number index octets) e

  at_place : (c : Configured) (place : Option ℕ) (number : ℕ) (index : Option ℕ) (octets : List ℕ) (write : Write)
      → ◌≡◌ {A = Result Write WriteFault} (ok_or place UnknownObject >>= λ place. ok_or (slice_get c.objects place) UnknownObject >>= λ object. object_write place object number index priority octets) (Ok write)
      → CanAct write.act
  at_place c None number index octets write e = absurd cc
  at_place c (Some place) number index octets write e = at_object place (slice_get c.objects place) number index octets write e

  write_can : (c : Configured) (o : Object) (number : ℕ) (index : Option ℕ) (octets : List ℕ) (write : Write)
      → write_of c o number index priority octets ≡ Ok write → CanAct write.act
  unfolding write_of
  write_can c o number index octets write e = by (same o (device_id c.device)) e
    where
      by : (b : Bool) → (if b then device_write number else (ok_or (place_of c o) UnknownObject >>= λ place. ok_or (slice_get c.objects place) UnknownObject >>= λ object. object_write place object number index priority octets)) ≡ Ok write
          → CanAct write.act
      by true e = absurd (no_device_write (property_of types.Device number) write e)
      by false e = at_place c (place_of c o) number index octets write e

pub writes_can_be_made : WritesCanBeMade
writes_can_be_made c o number index priority octets write is made = write_can priority is c o number index octets write made
