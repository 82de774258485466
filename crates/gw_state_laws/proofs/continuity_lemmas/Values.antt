-- The slots and the defaults of the objects are taken over.
use Rattle.std.proofs.Common.{◌≡◌, ◌∙◌, sym, ap, refl, ℕ, zero, suc, ◌+◌, ◌*◌, ◌^◌, Bool, true, false, ◌&&◌, List, [], ◌∷◌, ◌++◌, map, nat_eq, if◌then◌else◌, Option, Some, None, append_assoc, replicate, IsTrue}
use Rattle.std.specs.Prelude.{find, ◌==◌, IfSome}
use Rattle.std.specs.Cmp.{int_eq_equiv, nat_eq_equiv}
use Rattle.std.specs.List.{AllByRecursion, list_any}
use Rattle.std.proofs.lemmas.Bool.{and_from, and_parts, or_parts, eqb-true}
use Rattle.std.proofs.lemmas.Cmp.{nat_list_eq_equiv}
use Rattle.gw_configuration.specs.Duplicates.{has_twice, identifier, identifiers}
use Rattle.gw_configuration.specs.Kinds.{type_number}
use Rattle.gw_configuration.specs.declared.object.Object.{Object as ConfiguredObject}
use Rattle.gw_configuration.specs.declared.object.ObjectValue.{ObjectValue}
use Rattle.gw_configuration.specs.declared.object.ObjectValue.TheVariants as policy
use Rattle.gw_objects.specs.declared.configured.Details.{Details}
use Rattle.gw_objects.specs.declared.value.PropertyValue.{PropertyValue}
use Rattle.gw_objects.specs.declared.value.PropertyValue.TheVariants.{Binary, State as Numbered, Text, Integer, PositiveInteger}
use Rattle.gw_objects.specs.Objects.{Slots, default_of, details_of, type_of}
use Rattle.gw_objects.specs.Property.{type_number as number_of}
use Rattle.gw_tables.specs.priority.Commandable.{no_command}
use Rattle.gw_state.specs.Saved.{SavedObject, id_of, origin_object, saved_object, saved_objects}
use Rattle.gw_objects.specs.Values.{fits, same_value}
use Rattle.gw_state.specs.Carried.{default_from, is_object, slot_from, slots_from, states_carried}
use Rattle.gw_state_laws.specs.continuity.StateOf.{AllInRange, AreInRange, IsDefaultInRange}
use Rattle.gw_state_laws.proofs.continuity_lemmas.Found.{AllApart, all_push, find_after}

-- what is saved of an object
abbrev pub object_saved : ConfiguredObject → Slots → SavedObject
object_saved object slots = saved_object (origin_object object) slots

abbrev pub objects_saved : List ConfiguredObject → List Slots → List SavedObject
objects_saved objects states = saved_objects (map origin_object objects) states

-- ---- an object is itself, and no other

own_value : (value : PropertyValue) → same_value value value ≡ true
own_value (Binary true) = refl
own_value (Binary false) = refl
own_value (Numbered n) = nat_eq_equiv.refl n
own_value (Text octets) = nat_list_eq_equiv.refl octets
own_value (Integer z) = int_eq_equiv.refl z
own_value (PositiveInteger n) = nat_eq_equiv.refl n

is_own : (object : ConfiguredObject) (slots : Slots) → is_object object (object_saved object slots) ≡ true
is_own object slots =
    and_from ((id_of object).kind == (id_of object).kind) ((id_of object).instance == (id_of object).instance)
    (nat_eq_equiv.refl (id_of object).kind) (nat_eq_equiv.refl (id_of object).instance)

-- the two numbers of a type are one
typed : (value : ObjectValue) → number_of (type_of (details_of value)) ≡ type_number value
typed (policy.BinaryValue default active inactive) = refl
typed (policy.MultiStateValue states) = refl
typed (policy.CharacterStringValue default) = refl
typed (policy.IntegerValue default units) = refl
typed (policy.PositiveIntegerValue default units) = refl

-- objects of two identifiers are two
other : (q o : ConfiguredObject) (slots : Slots) → nat_eq (identifier o) (identifier q) ≡ false → is_object q (object_saved o slots) ≡ false
other q o slots ne = by (is_object q (object_saved o slots)) refl
  where
    by : (b : Bool) → is_object q (object_saved o slots) ≡ b → b ≡ false
    by false e = refl
    by true e =
        let parts = and_parts ((id_of q).kind == (id_of o).kind) ((id_of q).instance == (id_of o).instance) e in
        let kind : type_number o.value ≡ type_number q.value = sym (typed o.value) ∙ sym (eqb-true (id_of q).kind (id_of o).kind parts.0) ∙ typed q.value in
        let instance : o.instance ≡ q.instance = sym (eqb-true (id_of q).instance (id_of o).instance parts.1) in
        sym (nat_eq_equiv.refl (identifier o)) ∙ (λ j. nat_eq (identifier o) (kind j * 2 ^ 22 + instance j)) ∙ ne

others : (o : ConfiguredObject) (slots : Slots) (objects : List ConfiguredObject) → list_any (nat_eq (identifier o)) (identifiers objects) ≡ false
    → AllByRecursion (λ q. is_object q (object_saved o slots) ≡ false) objects
others o slots [] none = tt
others o slots (q ∷ objects) none =
    let parts = or_parts (nat_eq (identifier o) (identifier q)) (list_any (nat_eq (identifier o)) (identifiers objects)) none in
    (other q o slots parts.0, others o slots objects parts.1)

-- ---- each is taken over

slots_stay : (d : Details) (slots : List (Option PropertyValue)) → AllByRecursion (λ slot. IfSome slot (λ value. IsTrue (fits d value))) slots
    → map (slot_from d) slots ≡ slots
slots_stay d [] fit = refl
slots_stay d (None ∷ slots) fit = ap (λ rest. None ∷ rest) (slots_stay d slots fit.1)
slots_stay d (Some value ∷ slots) fit =
    λ j. (if fit.0 j then Some value else None) ∷ slots_stay d slots fit.1 j

abbrev with : List (Option PropertyValue) → PropertyValue → Slots
with slots default = record { slots = slots; default = default }

taken_over : (object : ConfiguredObject) (slots : Slots) → AreInRange object slots → slots_from object (Some (object_saved object slots)) ≡ slots
taken_over object slots range =
    λ j. with (slots_stay (details_of object.value) slots.slots range.0 j)
    (if own_value (default_of object.value) j && range.1 j then slots.default else default_of object.value)

pub states_back : (objects : List ConfiguredObject) (states : List Slots) (before : List SavedObject) → AllInRange objects states
    → AllApart is_object objects before → has_twice nat_eq (identifiers objects) ≡ false
    → states_carried objects (before ++ objects_saved objects states) ≡ states
states_back [] [] before range apart once = refl
states_back [] (slots ∷ states) before range apart once = absurd range
states_back (o ∷ objects) [] before range apart once = absurd range
states_back (o ∷ objects) (slots ∷ states) before range apart once =
    let s = object_saved o slots in
    let rest = objects_saved objects states in
    let parts = or_parts (list_any (nat_eq (identifier o)) (identifiers objects)) (has_twice nat_eq (identifiers objects)) once in
    let found : find (is_object o) (before ++ s ∷ rest) ≡ Some s = find_after is_object o before s rest apart.0 (is_own o slots) in
    let later = states_back objects states (before ++ s ∷ []) range.1
    (all_push is_object objects before s apart.1 (others o slots objects parts.0)) parts.1 in
    (λ j. slots_from o (found j) ∷ states_carried objects (sym (append_assoc before (s ∷ []) rest) j))
    ∙ (λ j. taken_over o slots range.0 j ∷ later j)

-- ---- whatever was saved, the values are in range

abbrev pub SlotFits : Details → Option PropertyValue → Type 0
SlotFits d slot = IfSome slot (λ value. IsTrue (fits d value))

slot_within : (d : Details) (slot : Option PropertyValue) → SlotFits d (slot_from d slot)
slot_within d None = tt
slot_within d (Some value) = by (fits d value) refl
  where
    by : (b : Bool) → fits d value ≡ b → SlotFits d (if b then Some value else None)
    by true e = e
    by false e = tt

slots_within : (d : Details) (slots : List (Option PropertyValue)) → AllByRecursion (λ slot. SlotFits d slot) (map (slot_from d) slots)
slots_within d [] = tt
slots_within d (slot ∷ slots) = (slot_within d slot, slots_within d slots)

-- sixteen empty slots
pub none_within : (d : Details) (n : ℕ) → AllByRecursion (λ slot. SlotFits d slot) (replicate n None)
none_within d zero = tt
none_within d (suc n) = (tt, none_within d n)

default_within : (object : ConfiguredObject) (s : SavedObject) → IsDefaultInRange object
    → IsTrue (fits (details_of object.value) (default_from object s))
default_within object s range =
    by (same_value s.configured (default_of object.value)) (fits (details_of object.value) s.slots.default) refl
  where
    by : (same fit : Bool) → fits (details_of object.value) s.slots.default ≡ fit
        → IsTrue (fits (details_of object.value) (if same && fit then s.slots.default else default_of object.value))
    by true true e = e
    by true false e = range
    by false fit e = range

object_within : (object : ConfiguredObject) (s : Option SavedObject) → IsDefaultInRange object → AreInRange object (slots_from object s)
object_within object None range = (none_within (details_of object.value) 16, range)
object_within object (Some s) range = (slots_within (details_of object.value) s.slots.slots, default_within object s range)

pub states_within : (objects : List ConfiguredObject) (saved : List SavedObject) → AllByRecursion IsDefaultInRange objects
    → AllInRange objects (states_carried objects saved)
states_within [] saved range = tt
states_within (o ∷ objects) saved range =
    (object_within o (find (is_object o) saved) range.0, states_within objects saved range.1)

-- ---- before any event

pub states_begin : (objects : List ConfiguredObject) → AllByRecursion IsDefaultInRange objects
    → AllInRange objects (map (λ object. no_command (default_of object.value)) objects)
states_begin [] range = tt
states_begin (o ∷ objects) range = ((none_within (details_of o.value) 16, range.0), states_begin objects range.1)
