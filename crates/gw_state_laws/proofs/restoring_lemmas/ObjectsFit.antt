-- The objects that are saved, with their slots and defaults, fit their text.
use Rattle.std.proofs.Common.{◌≡◌, ◌∙◌, sym, ap, refl, ℕ, ◌+◌, ◌*◌, ◌^◌, ◌≤◌, Bool, true, false, ◌&&◌, List, [], ◌∷◌, length, map, Option, Some, None}
use Rattle.std.specs.Prelude.{nat_eq, IfSome, IsTrue}
use Rattle.std.specs.Cmp.{nat_eq_equiv}
use Rattle.std.specs.List.{AllByRecursion, list_any}
use Rattle.std.proofs.lemmas.Bool.{and_parts, eqb-true}
use Rattle.gw_configuration.specs.Duplicates.{has_twice, identifier, identifiers}
use Rattle.gw_configuration.specs.Kinds.{kind_numbered, type_number}
use Rattle.gw_configuration.specs.declared.object.Object.{Object as ConfiguredObject}
use Rattle.gw_configuration.specs.declared.object.ObjectKind.{ObjectKind}
use Rattle.gw_configuration.specs.declared.object.ObjectKind.TheVariants as kinds
use Rattle.gw_configuration.specs.declared.object.ObjectValue.{ObjectValue}
use Rattle.gw_configuration.specs.declared.object.ObjectValue.TheVariants as policy
use Rattle.gw_objects.specs.declared.value.PropertyValue.{PropertyValue}
use Rattle.gw_objects.specs.declared.value.PropertyValue.TheVariants.{Binary, State, Text, Integer, PositiveInteger}
use Rattle.gw_objects.specs.Objects.{Slots, default_of, details_of, type_of}
use Rattle.gw_objects.specs.Property.{type_number as number_of}
use Rattle.gw_objects.specs.Values.{fits}
use Rattle.gw_state.specs.Saved.{SavedObject}
use Rattle.gw_state_text.specs.Fit.{AreOfKind, FitsKind, FitsObjects, is_object}
use Rattle.gw_state_text.specs.Items.{AreItems}
use Rattle.gw_state_laws.specs.continuity.StateOf.{AllInRange, AreInRange, HasItsSlots, HaveTheirSlots}
use Rattle.gw_state_laws.proofs.continuity_lemmas.Values.{object_saved, objects_saved}
use Rattle.gw_state_laws.specs.restoring.internal.Typed.{IsSavedObject, IsValue}
use Rattle.gw_state_laws.proofs.restoring_lemmas.Once.{Once, all_fit, apart_first, once_by}

-- ---- values

-- the type of a value object
abbrev kind_of : ObjectValue → ObjectKind
kind_of (policy.BinaryValue default active inactive) = kinds.BinaryValue
kind_of (policy.MultiStateValue states) = kinds.MultiStateValue
kind_of (policy.CharacterStringValue default) = kinds.CharacterStringValue
kind_of (policy.IntegerValue default units) = kinds.IntegerValue
kind_of (policy.PositiveIntegerValue default units) = kinds.PositiveIntegerValue

known : (value : ObjectValue) → kind_numbered (number_of (type_of (details_of value))) ≡ Some (kind_of value)
known (policy.BinaryValue default active inactive) = refl
known (policy.MultiStateValue states) = refl
known (policy.CharacterStringValue default) = refl
known (policy.IntegerValue default units) = refl
known (policy.PositiveIntegerValue default units) = refl

-- the two numbers of a type are one
one_number : (value : ObjectValue) → number_of (type_of (details_of value)) ≡ type_number value
one_number (policy.BinaryValue default active inactive) = refl
one_number (policy.MultiStateValue states) = refl
one_number (policy.CharacterStringValue default) = refl
one_number (policy.IntegerValue default units) = refl
one_number (policy.PositiveIntegerValue default units) = refl

-- a default that is configured is of the type
default_fits : (value : ObjectValue) → IsValue (default_of value) → FitsKind (kind_of value) (default_of value)
default_fits (policy.BinaryValue default active inactive) is = tt
default_fits (policy.MultiStateValue states) is = is
default_fits (policy.CharacterStringValue default) is = is
default_fits (policy.IntegerValue default units) is = is
default_fits (policy.PositiveIntegerValue default units) is = is

-- a value that an object can hold is of its type
value_fits : (object : ObjectValue) (value : PropertyValue) → IsTrue (fits (details_of object) value) → IsValue value
    → FitsKind (kind_of object) value
value_fits (policy.BinaryValue default active inactive) (Binary b) can is = tt
value_fits (policy.BinaryValue default active inactive) (State n) can is = absurd cc
value_fits (policy.BinaryValue default active inactive) (Text t) can is = absurd cc
value_fits (policy.BinaryValue default active inactive) (Integer z) can is = absurd cc
value_fits (policy.BinaryValue default active inactive) (PositiveInteger n) can is = absurd cc
value_fits (policy.MultiStateValue states) (Binary b) can is = absurd cc
value_fits (policy.MultiStateValue states) (State n) can is = is
value_fits (policy.MultiStateValue states) (Text t) can is = absurd cc
value_fits (policy.MultiStateValue states) (Integer z) can is = absurd cc
value_fits (policy.MultiStateValue states) (PositiveInteger n) can is = absurd cc
value_fits (policy.CharacterStringValue default) (Binary b) can is = absurd cc
value_fits (policy.CharacterStringValue default) (State n) can is = absurd cc
value_fits (policy.CharacterStringValue default) (Text t) can is = is
value_fits (policy.CharacterStringValue default) (Integer z) can is = absurd cc
value_fits (policy.CharacterStringValue default) (PositiveInteger n) can is = absurd cc
value_fits (policy.IntegerValue default units) (Binary b) can is = absurd cc
value_fits (policy.IntegerValue default units) (State n) can is = absurd cc
value_fits (policy.IntegerValue default units) (Text t) can is = absurd cc
value_fits (policy.IntegerValue default units) (Integer z) can is = is
value_fits (policy.IntegerValue default units) (PositiveInteger n) can is = absurd cc
value_fits (policy.PositiveIntegerValue default units) (Binary b) can is = absurd cc
value_fits (policy.PositiveIntegerValue default units) (State n) can is = absurd cc
value_fits (policy.PositiveIntegerValue default units) (Text t) can is = absurd cc
value_fits (policy.PositiveIntegerValue default units) (Integer z) can is = absurd cc
value_fits (policy.PositiveIntegerValue default units) (PositiveInteger n) can is = is

slots_fit : (object : ObjectValue) (slots : List (Option PropertyValue))
    → AllByRecursion (λ slot. IfSome slot (λ value. IsTrue (fits (details_of object) value))) slots
    → AllByRecursion (λ slot. IfSome slot IsValue) slots → AreOfKind (kind_of object) slots
unfolding AreOfKind
slots_fit object [] can is = tt
slots_fit object (None ∷ slots) can is = slots_fit object slots can.1 is.1
slots_fit object (Some value ∷ slots) can is = (value_fits object value can.0 is.0, slots_fit object slots can.1 is.1)

-- ---- objects

-- two objects have one identifier
abbrev pub one_object : SavedObject → SavedObject → Bool
one_object a b = is_object a.object b

object_symm : (a b : SavedObject) → one_object a b ≡ one_object b a
object_symm a b = λ j. nat_eq_equiv.symm a.object.kind b.object.kind j && nat_eq_equiv.symm a.object.instance b.object.instance j

-- type and instance as one number (clause 20.2.14)
abbrev number : SavedObject → ℕ
number s = s.object.kind * 2 ^ 22 + s.object.instance

same_number : (a b : SavedObject) → one_object a b ≡ true → nat_eq (number a) (number b) ≡ true
same_number a b is =
    let parts = and_parts (nat_eq a.object.kind b.object.kind) (nat_eq a.object.instance b.object.instance) is in
    let kind : b.object.kind ≡ a.object.kind = sym (eqb-true a.object.kind b.object.kind parts.0) in
    let instance : b.object.instance ≡ a.object.instance = sym (eqb-true a.object.instance b.object.instance parts.1) in
    (λ j. nat_eq (number a) (kind j * 2 ^ 22 + instance j)) ∙ nat_eq_equiv.refl (number a)

-- what an object needs to fit those before it
record Fitting (s : SavedObject) : Type 0 where
  pub fits : (before : List SavedObject) → list_any (one_object s) before ≡ false → FitsObjects before s

object_fits : (o : ConfiguredObject) (slots : Slots) → AreInRange o slots → HasItsSlots slots → IsSavedObject (object_saved o slots)
    → Fitting (object_saved o slots)
object_fits o slots range has is = record {
  fits = λ before none. record {
    is = is.object;
    kind = kind_of o.value;
    known = known o.value;
    once = none;
    configured = default_fits o.value is.configured;
    default = value_fits o.value slots.default range.1 is.default;
    sixteen = has.sixteen;
    slots = slots_fit o.value slots.slots range.0 is.slots;
    sixth = has.sixth;
  };
}

each_fits : (objects : List ConfiguredObject) (states : List Slots) → AllInRange objects states → HaveTheirSlots states
    → AllByRecursion IsSavedObject (objects_saved objects states) → AllByRecursion Fitting (objects_saved objects states)
each_fits [] states range has is = tt
each_fits (o ∷ objects) [] range has is = tt
each_fits (o ∷ objects) (slots ∷ states) range has is =
    (object_fits o slots range.0 has.0 is.0, each_fits objects states range.1 has.1 is.1)

-- the identifiers of what is saved are those of the objects
numbers_saved : (objects : List ConfiguredObject) (states : List Slots) → AllInRange objects states
    → map number (objects_saved objects states) ≡ identifiers objects
numbers_saved [] states range = refl
numbers_saved (o ∷ objects) [] range = absurd range
numbers_saved (o ∷ objects) (slots ∷ states) range =
    λ j. (one_number o.value j * 2 ^ 22 + o.instance) ∷ numbers_saved objects states range.1 j

pub objects_fit : (objects : List ConfiguredObject) (states : List Slots) → AllInRange objects states → HaveTheirSlots states
    → has_twice nat_eq (identifiers objects) ≡ false → length (objects_saved objects states) ≤ 256
    → AllByRecursion IsSavedObject (objects_saved objects states) → AreItems FitsObjects 256 (objects_saved objects states)
objects_fit objects states range has once few is =
    let saved = objects_saved objects states in
    let numbers = ap (has_twice nat_eq) (numbers_saved objects states range) ∙ once in
    record {
      few = few;
      fit =
          all_fit one_object object_symm FitsObjects Fitting (λ before s fit none. fit.fits before none) [] saved
          (each_fits objects states range has is) (once_by one_object number same_number saved numbers) (apart_first one_object saved);
    }
