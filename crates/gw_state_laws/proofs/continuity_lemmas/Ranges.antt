-- Each write that is made puts a value in the range of its object.
use Rattle.std.proofs.Common.{◌≡◌, sym, refl, subst, ℕ, zero, suc, ◌-◌, Bool, true, false, not, ◌&&◌, nat_lt, List, [], ◌∷◌, length, map, set, if◌then◌else◌, Option, Some, None, Result, Ok, Err}
use Rattle.std.specs.Prelude.{◌==◌, ⊤, nat_le, slice_get, IfSome}
use Rattle.std.specs.List.{AllByRecursion}
use Rattle.std.specs.Option.{ok_or, option_map}
use Rattle.gw_addr.specs.Reading.{◌>>=◌}
use Rattle.gw_configuration.specs.declared.object.Object.{Object as ConfiguredObject}
use Rattle.gw_objects.specs.declared.configured.Configured.{Configured}
use Rattle.gw_objects.specs.declared.configured.ConfiguredObject.{ConfiguredObject as Described}
use Rattle.gw_objects.specs.declared.configured.Details.{Details}
use Rattle.gw_objects.specs.declared.configured.Details.TheVariants as details
use Rattle.gw_objects.specs.declared.fault.WriteFault.{WriteFault}
use Rattle.gw_objects.specs.declared.fault.WriteFault.TheVariants.{OutOfRange, CharacterSet, NoSpace, UnknownObject}
use Rattle.gw_objects.specs.declared.property.Property.{Property}
use Rattle.gw_objects.specs.declared.property.Property.TheVariants as the
use Rattle.gw_objects.specs.declared.property.ObjectType.TheVariants as types
use Rattle.gw_objects.specs.declared.value.PropertyValue.{PropertyValue}
use Rattle.gw_objects.specs.declared.value.PropertyValue.TheVariants.{Binary, State as Numbered, Text, Integer, PositiveInteger}
use Rattle.gw_objects.specs.History.{acted, after_write, put_at}
use Rattle.gw_objects.specs.Objects.{Slots, configured_of, details_of, device_id, place_of, type_of}
use Rattle.gw_objects.specs.Objects.{same as same_object}
use Rattle.gw_objects.specs.Property.{property_of}
use Rattle.gw_objects.specs.Write.{Write, act_for, act_of, device_write, object_write, present_act, property_for, value_for, whole, write_of}
use Rattle.gw_objects.proofs.Others.{no_device_write, ok_is}
use Rattle.gw_tables.specs.priority.History.{Act, Command, Relinquish, SetDefault}
use Rattle.gw_codecs.specs.tags.Object.{Object}
use Rattle.gw_codecs.specs.tags.Reading.{value_at}
use Rattle.gw_codecs.specs.tags.Value.{Value, null, boolean, unsigned, signed, real, double, octet_string, character_string, bit_string, enumerated, date, time, object_id}
use Rattle.gw_objects.specs.Values.{fits}
use Rattle.gw_state_laws.specs.continuity.StateOf.{AllInRange, AreInRange}
use Rattle.gw_state_laws.proofs.continuity_lemmas.Values.{SlotFits}

-- ---- a value

fits_made : (d : Details) (x value : PropertyValue) → ◌≡◌ {A = Result PropertyValue WriteFault} (Ok x) (Ok value) → fits d x ≡ true → fits d value ≡ true
fits_made d x value e fit = subst (λ v. fits d v ≡ true) (ok_is x value e) fit

binary_fits : (b : Bool) (active inactive : List ℕ) (on : Bool) (value : PropertyValue)
    → ◌≡◌ {A = Result PropertyValue WriteFault} (if b then Ok (Binary on) else Err OutOfRange) (Ok value)
    → fits (details.BinaryValue active inactive) value ≡ true
binary_fits true active inactive on value e = fits_made (details.BinaryValue active inactive) (Binary on) value e refl
binary_fits false active inactive on value e = absurd cc

state_fits : (b : Bool) (states : List (List ℕ)) (n : ℕ) (value : PropertyValue) → (nat_le 1 n && nat_le n (length states)) ≡ b
    → ◌≡◌ {A = Result PropertyValue WriteFault} (if b then Ok (Numbered n) else Err OutOfRange) (Ok value)
    → fits (details.MultiStateValue states) value ≡ true
state_fits true states n value is e = fits_made (details.MultiStateValue states) (Numbered n) value e is
state_fits false states n value is e = absurd cc

text_fits : (a b : Bool) (octets : List ℕ) (value : PropertyValue)
    → ◌≡◌ {A = Result PropertyValue WriteFault} (if a then Err CharacterSet else if b then Err NoSpace else Ok (Text octets)) (Ok value)
    → fits details.CharacterStringValue value ≡ true
text_fits true b octets value e = absurd cc
text_fits false true octets value e = absurd cc
text_fits false false octets value e = fits_made details.CharacterStringValue (Text octets) value e refl

value_fits : (d : Details) (v : Value) (value : PropertyValue) → value_for d v ≡ Ok value → fits d value ≡ true
value_fits (details.BinaryValue active inactive) null value e = absurd cc
value_fits (details.BinaryValue active inactive) (boolean b) value e = absurd cc
value_fits (details.BinaryValue active inactive) (unsigned n) value e = absurd cc
value_fits (details.BinaryValue active inactive) (signed z) value e = absurd cc
value_fits (details.BinaryValue active inactive) (real octets) value e = absurd cc
value_fits (details.BinaryValue active inactive) (double octets) value e = absurd cc
value_fits (details.BinaryValue active inactive) (octet_string octets) value e = absurd cc
value_fits (details.BinaryValue active inactive) (character_string charset octets) value e = absurd cc
value_fits (details.BinaryValue active inactive) (bit_string unused octets) value e = absurd cc
value_fits (details.BinaryValue active inactive) (enumerated n) value e = binary_fits (nat_lt n 2) active inactive (n == 1) value e
value_fits (details.BinaryValue active inactive) (date octets) value e = absurd cc
value_fits (details.BinaryValue active inactive) (time octets) value e = absurd cc
value_fits (details.BinaryValue active inactive) (object_id o) value e = absurd cc
value_fits (details.MultiStateValue states) null value e = absurd cc
value_fits (details.MultiStateValue states) (boolean b) value e = absurd cc
value_fits (details.MultiStateValue states) (unsigned n) value e = state_fits (nat_le 1 n && nat_le n (length states)) states n value refl e
value_fits (details.MultiStateValue states) (signed z) value e = absurd cc
value_fits (details.MultiStateValue states) (real octets) value e = absurd cc
value_fits (details.MultiStateValue states) (double octets) value e = absurd cc
value_fits (details.MultiStateValue states) (octet_string octets) value e = absurd cc
value_fits (details.MultiStateValue states) (character_string charset octets) value e = absurd cc
value_fits (details.MultiStateValue states) (bit_string unused octets) value e = absurd cc
value_fits (details.MultiStateValue states) (enumerated n) value e = absurd cc
value_fits (details.MultiStateValue states) (date octets) value e = absurd cc
value_fits (details.MultiStateValue states) (time octets) value e = absurd cc
value_fits (details.MultiStateValue states) (object_id o) value e = absurd cc
value_fits details.CharacterStringValue null value e = absurd cc
value_fits details.CharacterStringValue (boolean b) value e = absurd cc
value_fits details.CharacterStringValue (unsigned n) value e = absurd cc
value_fits details.CharacterStringValue (signed z) value e = absurd cc
value_fits details.CharacterStringValue (real octets) value e = absurd cc
value_fits details.CharacterStringValue (double octets) value e = absurd cc
value_fits details.CharacterStringValue (octet_string octets) value e = absurd cc
value_fits details.CharacterStringValue (character_string charset octets) value e = text_fits (not (charset == 0)) (nat_lt 255 (length octets)) octets value e
value_fits details.CharacterStringValue (bit_string unused octets) value e = absurd cc
value_fits details.CharacterStringValue (enumerated n) value e = absurd cc
value_fits details.CharacterStringValue (date octets) value e = absurd cc
value_fits details.CharacterStringValue (time octets) value e = absurd cc
value_fits details.CharacterStringValue (object_id o) value e = absurd cc
value_fits (details.IntegerValue units) null value e = absurd cc
value_fits (details.IntegerValue units) (boolean b) value e = absurd cc
value_fits (details.IntegerValue units) (unsigned n) value e = absurd cc
value_fits (details.IntegerValue units) (signed z) value e = fits_made (details.IntegerValue units) (Integer z) value e refl
value_fits (details.IntegerValue units) (real octets) value e = absurd cc
value_fits (details.IntegerValue units) (double octets) value e = absurd cc
value_fits (details.IntegerValue units) (octet_string octets) value e = absurd cc
value_fits (details.IntegerValue units) (character_string charset octets) value e = absurd cc
value_fits (details.IntegerValue units) (bit_string unused octets) value e = absurd cc
value_fits (details.IntegerValue units) (enumerated n) value e = absurd cc
value_fits (details.IntegerValue units) (date octets) value e = absurd cc
value_fits (details.IntegerValue units) (time octets) value e = absurd cc
value_fits (details.IntegerValue units) (object_id o) value e = absurd cc
value_fits (details.PositiveIntegerValue units) null value e = absurd cc
value_fits (details.PositiveIntegerValue units) (boolean b) value e = absurd cc
value_fits (details.PositiveIntegerValue units) (unsigned n) value e = fits_made (details.PositiveIntegerValue units) (PositiveInteger n) value e refl
value_fits (details.PositiveIntegerValue units) (signed z) value e = absurd cc
value_fits (details.PositiveIntegerValue units) (real octets) value e = absurd cc
value_fits (details.PositiveIntegerValue units) (double octets) value e = absurd cc
value_fits (details.PositiveIntegerValue units) (octet_string octets) value e = absurd cc
value_fits (details.PositiveIntegerValue units) (character_string charset octets) value e = absurd cc
value_fits (details.PositiveIntegerValue units) (bit_string unused octets) value e = absurd cc
value_fits (details.PositiveIntegerValue units) (enumerated n) value e = absurd cc
value_fits (details.PositiveIntegerValue units) (date octets) value e = absurd cc
value_fits (details.PositiveIntegerValue units) (time octets) value e = absurd cc
value_fits (details.PositiveIntegerValue units) (object_id o) value e = absurd cc

-- ---- an act

abbrev pub ActFits : Details → Act PropertyValue → Type 0
ActFits d (Command priority value) = fits d value ≡ true
ActFits d (Relinquish priority) = ⊤
ActFits d (SetDefault value) = fits d value ≡ true

act_made : (d : Details) (x act : Act PropertyValue) → ◌≡◌ {A = Result (Act PropertyValue) WriteFault} (Ok x) (Ok act) → ActFits d x → ActFits d act
act_made d x act e fit = subst (ActFits d) (ok_is x act e) fit

commanded : (d : Details) (priority : ℕ) (due : Result PropertyValue WriteFault) (act : Act PropertyValue)
    → ((value : PropertyValue) → due ≡ Ok value → fits d value ≡ true)
    → ◌≡◌ {A = Result (Act PropertyValue) WriteFault} (due >>= λ v. Ok (Command priority v)) (Ok act) → ActFits d act
commanded d priority (Ok v) act each e = act_made d (Command priority v) act e (each v refl)
commanded d priority (Err fault) act each e = absurd cc

defaulted : (d : Details) (due : Result PropertyValue WriteFault) (act : Act PropertyValue)
    → ((value : PropertyValue) → due ≡ Ok value → fits d value ≡ true)
    → ◌≡◌ {A = Result (Act PropertyValue) WriteFault} (due >>= λ v. Ok (SetDefault v)) (Ok act) → ActFits d act
defaulted d (Ok v) act each e = act_made d (SetDefault v) act e (each v refl)
defaulted d (Err fault) act each e = absurd cc

present_fits : (d : Details) (priority : ℕ) (v : Value) (act : Act PropertyValue) → present_act d priority v ≡ Ok act → ActFits d act
present_fits d priority null act e = act_made d (Relinquish priority) act e tt
present_fits d priority (boolean b) act e = commanded d priority (value_for d (boolean b)) act (value_fits d (boolean b)) e
present_fits d priority (unsigned n) act e = commanded d priority (value_for d (unsigned n)) act (value_fits d (unsigned n)) e
present_fits d priority (signed z) act e = commanded d priority (value_for d (signed z)) act (value_fits d (signed z)) e
present_fits d priority (real octets) act e = commanded d priority (value_for d (real octets)) act (value_fits d (real octets)) e
present_fits d priority (double octets) act e = commanded d priority (value_for d (double octets)) act (value_fits d (double octets)) e
present_fits d priority (octet_string octets) act e = commanded d priority (value_for d (octet_string octets)) act (value_fits d (octet_string octets)) e
present_fits d priority (character_string charset octets) act e = commanded d priority (value_for d (character_string charset octets)) act (value_fits d (character_string charset octets)) e
present_fits d priority (bit_string unused octets) act e = commanded d priority (value_for d (bit_string unused octets)) act (value_fits d (bit_string unused octets)) e
present_fits d priority (enumerated n) act e = commanded d priority (value_for d (enumerated n)) act (value_fits d (enumerated n)) e
present_fits d priority (date octets) act e = commanded d priority (value_for d (date octets)) act (value_fits d (date octets)) e
present_fits d priority (time octets) act e = commanded d priority (value_for d (time octets)) act (value_fits d (time octets)) e
present_fits d priority (object_id o) act e = commanded d priority (value_for d (object_id o)) act (value_fits d (object_id o)) e

act_fits : (d : Details) (property : Property) (priority : ℕ) (v : Value) (act : Act PropertyValue) → act_for d property priority v ≡ Ok act → ActFits d act
act_fits d the.ActiveText priority v act e = absurd cc
act_fits d the.ApduTimeout priority v act e = absurd cc
act_fits d the.ApplicationSoftwareVersion priority v act e = absurd cc
act_fits d the.Description priority v act e = absurd cc
act_fits d the.DeviceAddressBinding priority v act e = absurd cc
act_fits d the.EventState priority v act e = absurd cc
act_fits d the.FirmwareRevision priority v act e = absurd cc
act_fits d the.InactiveText priority v act e = absurd cc
act_fits d the.MaxApduLengthAccepted priority v act e = absurd cc
act_fits d the.ModelName priority v act e = absurd cc
act_fits d the.NumberOfApduRetries priority v act e = absurd cc
act_fits d the.NumberOfStates priority v act e = absurd cc
act_fits d the.ObjectIdentifier priority v act e = absurd cc
act_fits d the.ObjectList priority v act e = absurd cc
act_fits d the.ObjectName priority v act e = absurd cc
act_fits d the.ObjectType priority v act e = absurd cc
act_fits d the.OutOfService priority v act e = absurd cc
act_fits d the.PresentValue priority v act e = present_fits d priority v act e
act_fits d the.PriorityArray priority v act e = absurd cc
act_fits d the.ProtocolObjectTypesSupported priority v act e = absurd cc
act_fits d the.ProtocolServicesSupported priority v act e = absurd cc
act_fits d the.ProtocolVersion priority v act e = absurd cc
act_fits d the.RelinquishDefault priority v act e = defaulted d (value_for d v) act (value_fits d v) e
act_fits d the.SegmentationSupported priority v act e = absurd cc
act_fits d the.StateText priority v act e = absurd cc
act_fits d the.StatusFlags priority v act e = absurd cc
act_fits d the.SystemStatus priority v act e = absurd cc
act_fits d the.Units priority v act e = absurd cc
act_fits d the.VendorIdentifier priority v act e = absurd cc
act_fits d the.VendorName priority v act e = absurd cc
act_fits d the.ProtocolRevision priority v act e = absurd cc
act_fits d the.DatabaseRevision priority v act e = absurd cc

-- ---- a write

-- an object of a place takes what is written there
abbrev pub WriteFits : List Described → Write → Type 0
WriteFits objects write = IfSome (slice_get objects write.place) (λ object. ActFits object.details write.act)

act_given : (d : Details) (priority : ℕ) (property : Result Property WriteFault) (value : Result Value WriteFault) (act : Act PropertyValue)
    → ◌≡◌ {A = Result (Act PropertyValue) WriteFault} (property >>= λ property. value >>= λ value. act_for d property priority value) (Ok act)
    → ActFits d act
act_given d priority (Ok property) (Ok v) act e = act_fits d property priority v act e
act_given d priority (Ok property) (Err fault) act e = absurd cc
act_given d priority (Err fault) value act e = absurd cc

abbrev placed : ℕ → Act PropertyValue → Write
placed place act = record { place = place; act = act }

made_given : (objects : List Described) (object : Described) (place : ℕ) (due : Result (Act PropertyValue) WriteFault) (write : Write)
    → slice_get objects place ≡ Some object → ((act : Act PropertyValue) → due ≡ Ok act → ActFits object.details act)
    → ◌≡◌ {A = Result Write WriteFault} (due >>= λ act. Ok (placed place act)) (Ok write) → WriteFits objects write
made_given objects object place (Ok act) write there each e =
    subst (WriteFits objects) (ok_is (placed place act) write e)
    (subst (λ (x : Option Described). IfSome x (λ o. ActFits o.details act)) (sym there) (each act refl))
made_given objects object place (Err fault) write there each e = absurd cc

of_object : (objects : List Described) (place : ℕ) (object : Option Described) (number : ℕ) (index : Option ℕ) (priority : ℕ) (octets : List ℕ) (write : Write)
    → slice_get objects place ≡ object
    → ◌≡◌ {A = Result Write WriteFault} (ok_or object UnknownObject >>= λ object. object_write place object number index priority octets) (Ok write)
    → WriteFits objects write
of_object objects place None number index priority octets write there e = absurd cc
of_object objects place (Some object) number index priority octets write there e =
    made_given objects object place (act_of object number index priority octets) write there
    (λ act is. act_given object.details priority (property_for (type_of object.details) number index priority) (whole (value_at octets)) act is) e

of_place : (objects : List Described) (place : Option ℕ) (number : ℕ) (index : Option ℕ) (priority : ℕ) (octets : List ℕ) (write : Write)
    → ◌≡◌ {A = Result Write WriteFault} (ok_or place UnknownObject >>= λ place. ok_or (slice_get objects place) UnknownObject >>= λ object. object_write place object number index priority octets) (Ok write)
    → WriteFits objects write
of_place objects None number index priority octets write e = absurd cc
of_place objects (Some place) number index priority octets write e =
    of_object objects place (slice_get objects place) number index priority octets write refl e

-- a write that is made fits its object
pub write_fits : (c : Configured) (wanted : Object) (number : ℕ) (index : Option ℕ) (priority : ℕ) (octets : List ℕ) (write : Write)
    → write_of c wanted number index priority octets ≡ Ok write → WriteFits c.objects write
unfolding write_of
write_fits c wanted number index priority octets write e = by (same_object wanted (device_id c.device)) e
  where
    by : (b : Bool) → (if b then device_write number else (ok_or (place_of c wanted) UnknownObject >>= λ place. ok_or (slice_get c.objects place) UnknownObject >>= λ object. object_write place object number index priority octets)) ≡ Ok write
        → WriteFits c.objects write
    by true e = absurd (no_device_write (property_of types.Device number) write e)
    by false e = of_place c.objects (place_of c wanted) number index priority octets write e

-- ---- the slots after a write

set_range : (d : Details) (slots : List (Option PropertyValue)) (i : ℕ) (content : Option PropertyValue) → SlotFits d content
    → AllByRecursion (λ slot. SlotFits d slot) slots → AllByRecursion (λ slot. SlotFits d slot) (set slots i content)
set_range d [] i content fit each = tt
set_range d (slot ∷ slots) zero content fit each = (fit, each.1)
set_range d (slot ∷ slots) (suc i) content fit each = (each.0, set_range d slots i content fit each.1)

acted_range : (object : ConfiguredObject) (act : Act PropertyValue) (slots : Slots) → ActFits (details_of object.value) act
    → AreInRange object slots → AreInRange object (acted act slots)
acted_range object (Command priority value) slots fit range =
    (set_range (details_of object.value) slots.slots (priority - 1) (Some value) fit range.0, range.1)
acted_range object (Relinquish priority) slots fit range =
    (set_range (details_of object.value) slots.slots (priority - 1) None tt range.0, range.1)
acted_range object (SetDefault value) slots fit range = (range.0, fit)

pub put_more : (place : ℕ) (x : Option Slots) (slots : Slots) (states : List Slots) → put_at (suc place) x (slots ∷ states) ≡ slots ∷ put_at place x states
put_more place None slots states = refl
put_more place (Some x) slots states = refl

pub put_range : (objects : List ConfiguredObject) (states : List Slots) (place : ℕ) (act : Act PropertyValue) → AllInRange objects states
    → IfSome (slice_get (map configured_of objects) place) (λ object. ActFits object.details act)
    → AllInRange objects (put_at place (option_map (acted act) (slice_get states place)) states)
put_range [] [] place act range fit = tt
put_range [] (slots ∷ states) place act range fit = absurd range
put_range (o ∷ objects) [] place act range fit = absurd range
put_range (o ∷ objects) (slots ∷ states) zero act range fit = (acted_range o act slots fit range.0, range.1)
put_range (o ∷ objects) (slots ∷ states) (suc place) act range fit =
    subst (AllInRange (o ∷ objects)) (sym (put_more place (option_map (acted act) (slice_get states place)) slots states))
    (range.0, put_range objects states place act range.1 fit)

-- the values stay in range
pub written_range : (objects : List ConfiguredObject) (states : List Slots) (write : Write) → AllInRange objects states
    → WriteFits (map configured_of objects) write → AllInRange objects (after_write write states)
written_range objects states write range fit = put_range objects states write.place write.act range fit
