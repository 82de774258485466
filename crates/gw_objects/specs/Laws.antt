-- What a write leaves, and what a read doesn't rest on.
use Rattle.std.specs.Prelude.{◌≡◌, ◌≢◌, ℕ, List, Option, Some, Ok, slice_get}
use Rattle.gw_codecs.specs.tags.Object.{Object}
use Rattle.gw_objects.specs.declared.configured.Configured.{Configured}
use Rattle.gw_objects.specs.History.{after_write}
use Rattle.gw_objects.specs.Objects.{Database, Slots, place_of}
use Rattle.gw_objects.specs.Table.{read_of}
use Rattle.gw_objects.specs.Write.{CanAct, Write, write_of}
use Rattle.gw_tables.specs.priority.Commandable.{IsPriority}

-- the objects of a configuration with these slots and defaults
abbrev pub standing : Configured → List Slots → Database
standing c states = record { configured = c; states = states }

-- Every value object but this one has the same slots and default in both.
abbrev pub AgreeBut : Object → Configured → List Slots → List Slots → Type 0
AgreeBut o c s t = (place : ℕ) → (place_of c o ≡ Some place → ⊥) → slice_get s place ≡ slice_get t place

-- What a property of another object reads as doesn't rest on the slots and the default of an object.
abbrev pub OthersReadAlike : Type 0
OthersReadAlike =
    (o : Object) (c : Configured) (s t : List Slots) → AgreeBut o c s t →
    (other : Object) (number : ℕ) (index : Option ℕ) → other ≢ o →
    read_of (standing c s) other number index ≡ read_of (standing c t) other number index

-- A write is made at the place of the object that it names.
abbrev pub WritesAreInPlace : Type 0
WritesAreInPlace =
    (c : Configured) (o : Object) (number : ℕ) (index : Option ℕ) (priority : ℕ) (octets : List ℕ) (write : Write) →
    write_of c o number index priority octets ≡ Ok write → place_of c o ≡ Some write.place

-- It leaves the slots and the default of every object but its own.
abbrev pub WritesLeaveOthers : Type 0
WritesLeaveOthers =
    (c : Configured) (o : Object) (number : ℕ) (index : Option ℕ) (priority : ℕ) (octets : List ℕ) (write : Write) →
    write_of c o number index priority octets ≡ Ok write →
    (states : List Slots) → AgreeBut o c (after_write write states) states

-- Where all value objects but one agree, they do so after the same write to both.
abbrev pub WritesKeepAgreement : Type 0
WritesKeepAgreement =
    (o : Object) (c : Configured) (s t : List Slots) (write : Write) → AgreeBut o c s t →
    AgreeBut o c (after_write write s) (after_write write t)

-- A write that is made at a priority is at one that isn't reserved, or of a default.
abbrev pub WritesCanBeMade : Type 0
WritesCanBeMade =
    (c : Configured) (o : Object) (number : ℕ) (index : Option ℕ) (priority : ℕ) (octets : List ℕ) (write : Write) →
    IsPriority priority → write_of c o number index priority octets ≡ Ok write → CanAct write.act
