-- ReadPropertyMultiple (ISO 16484-5, clause 15.7).
use Rattle.std.specs.Prelude.{◌≡◌, ◌≢◌, ℕ, zero, suc, Bool, true, false, List, [], ◌∷◌, ◌++◌, Option, Some, None}
use Rattle.std.specs.Prelude.{is_some, not, ◌==◌, ◌&&◌, ◌||◌}
use Rattle.gw_codecs.specs.declared.tags.tag.Kind.TheVariants.{Opening, Closing}
use Rattle.gw_codecs.specs.tags.Tag.{BeginsWith, canonical}
use Rattle.gw_codecs.specs.tags.List.{context}
use Rattle.gw_codecs.specs.tags.Context.{in_context}
use Rattle.gw_codecs.specs.tags.Number.{unsigned_encoding}
use Rattle.gw_codecs.specs.tags.Object.{Object, object_view, object_octets}
use Rattle.gw_codecs.specs.declared.services.fault.BodyFault.{BodyFault}
use Rattle.gw_codecs.specs.declared.services.fault.BodyFault.TheVariants.{InvalidTag, Missing, TooMany, Inconsistent}
use Rattle.gw_codecs.specs.declared.services.reference.Reference.{Reference as RustReference}
use Rattle.gw_codecs.specs.services.Limits.{last_property, last_number}
use Rattle.gw_codecs.specs.services.Parameter.{Parameter, object, number, an_object, a_number, under}
use Rattle.gw_codecs.specs.services.Body.{Begins, IsAbsent, IsWrong}
use Rattle.gw_codecs.specs.services.Read.{number_part}

-- ---- what is read

-- a property of an object, or one element of it; and whether the object's list begins with it
pub record Reference : Type 0 where
  pub begins : Bool
  pub object : Object
  pub property : ℕ
  pub index : Option ℕ

abbrev pub reference_view : RustReference → Reference
reference_view r = record {
  begins = r.begins;
  object = object_view r.object;
  property = r.property;
  index = r.index;
}

-- how many properties a body may name (ours)
abbrev pub most_references : ℕ
most_references = 128

-- the three names for sets of properties (clause 15.7.3.1)
abbrev pub all_properties : ℕ
all_properties = 8

abbrev pub required_properties : ℕ
required_properties = 105

abbrev pub optional_properties : ℕ
optional_properties = 80

-- whether the number names a set
abbrev pub is_set_name : ℕ → Bool
is_set_name p = p == all_properties || p == required_properties || p == optional_properties

-- a set of properties has no element (ours)
abbrev pub is_consistent : Reference → Bool
is_consistent r = not (is_set_name r.property && is_some r.index)

-- ---- one reference

-- [0] property, in the list of an object
abbrev pub a_property : Parameter
a_property = under 0 (a_number 0 last_property)

-- [1] index, where it is given
abbrev pub an_index : Parameter
an_index = under 1 (a_number 0 last_number)

-- [0] object
abbrev pub the_object : Parameter
the_object = under 0 an_object

-- a property, and its index where it is given
pub data IsNamed : List ℕ → ℕ → Option ℕ → List ℕ → Type 0 where
  with_index : {octets : List ℕ} {p i : ℕ} {rest : List ℕ} (middle : List ℕ)
      → Begins a_property octets (number p) middle → Begins an_index middle (number i) rest
      → IsNamed octets p (Some i) rest
  whole : {octets : List ℕ} {p : ℕ} {rest : List ℕ} → Begins a_property octets (number p) rest
      → IsAbsent 1 rest → IsNamed octets p None rest

-- Where no object's list is open: [0] object, [1] opening, and a property. Within a list: a
-- property of its object.
pub data IsReference : Option Object → List ℕ → Reference → List ℕ → Type 0 where
  in_new_list : {octets rest : List ℕ} {p : ℕ} {i : Option ℕ} (id : Object) (a b : List ℕ)
      → Begins the_object octets (object id) a → BeginsWith a (context 1 Opening) b
      → IsNamed b p i rest
      → IsReference None octets (record { begins = true; object = id; property = p; index = i }) rest
  in_same_list : {octets rest : List ℕ} {id : Object} {p : ℕ} {i : Option ℕ}
      → IsNamed octets p i rest
      → IsReference (Some id) octets (record { begins = false; object = id; property = p; index = i }) rest

-- ---- the body

-- References one after the other, at most so many: an object's list ends by [1] closing, and the
-- body with the end of a list.
pub data IsList : ℕ → Option Object → List ℕ → List Reference → Type 0 where
  last_one : {left : ℕ} {current : Option Object} {octets : List ℕ} (r : Reference) (at : List ℕ)
      → IsReference current octets r at → is_consistent r ≡ true
      → BeginsWith at (context 1 Closing) [] → IsList (suc left) current octets (r ∷ [])
  next_object : {left : ℕ} {current : Option Object} {octets : List ℕ} {others : List Reference}
      (r : Reference) (at rest : List ℕ) → IsReference current octets r at → is_consistent r ≡ true
      → BeginsWith at (context 1 Closing) rest → IsList left None rest others
      → IsList (suc left) current octets (r ∷ others)
  next_property : {left : ℕ} {current : Option Object} {octets : List ℕ} {others : List Reference}
      (r : Reference) (at : List ℕ) → IsReference current octets r at → is_consistent r ≡ true
      → IsList left (Some r.object) at others → IsList (suc left) current octets (r ∷ others)

-- the octets are the body of this request
abbrev pub IsMulti : List ℕ → List Reference → Type 0
IsMulti octets references = IsList most_references None octets references

-- the octets begin with a reference that is no element of a set
abbrev pub HasReference : List ℕ → Type 0
HasReference octets =
    (r : Reference) × ((rest : List ℕ) × (IsReference None octets r rest × (is_consistent r ≡ true)))

-- ---- what is wrong with octets that are no such body

-- the closing tag of a list
abbrev pub IsClosed : List ℕ → Type 0
IsClosed octets = (rest : List ℕ) × BeginsWith octets (context 1 Closing) rest

-- what is wrong where a list has to current
pub data IsWrongOpening : BodyFault → List ℕ → Type 0 where
  nothing_opens : {octets : List ℕ} → octets ≡ [] → IsWrongOpening Missing octets
  something_else : {octets : List ℕ} → octets ≢ []
      → ((rest : List ℕ) → BeginsWith octets (context 1 Opening) rest → ⊥)
      → IsWrongOpening InvalidTag octets

-- what is wrong where a property is named
pub data IsBadName (fault : BodyFault) : List ℕ → Type 0 where
  at_property : {octets : List ℕ} → IsWrong fault a_property octets → IsBadName fault octets
  at_index : {octets : List ℕ} (p : ℕ) (rest : List ℕ) → Begins a_property octets (number p) rest
      → (IsAbsent 1 rest → ⊥) → IsWrong fault an_index rest → IsBadName fault octets

-- what is wrong with a reference; a list without one lacks it
pub data IsBadReference (fault : BodyFault) : Option Object → List ℕ → Type 0 where
  at_object : {octets : List ℕ} → IsWrong fault the_object octets → IsBadReference fault None octets
  at_opening : {octets : List ℕ} (id : Object) (rest : List ℕ)
      → Begins the_object octets (object id) rest → IsWrongOpening fault rest
      → IsBadReference fault None octets
  empty_list : {octets : List ℕ} (id : Object) (a b : List ℕ)
      → Begins the_object octets (object id) a → BeginsWith a (context 1 Opening) b → IsClosed b
      → fault ≡ Missing → IsBadReference fault None octets
  at_first : {octets : List ℕ} (id : Object) (a b : List ℕ)
      → Begins the_object octets (object id) a → BeginsWith a (context 1 Opening) b
      → (IsClosed b → ⊥) → IsBadName fault b → IsBadReference fault None octets
  at_next : {octets : List ℕ} {id : Object} → IsBadName fault octets
      → IsBadReference fault (Some id) octets

-- What is wrong with the body: the first reference that is wrong; one too many, once it is read
-- whole; an index beside a set; or what follows a reference that is right.
pub data IsBadMulti (fault : BodyFault) : ℕ → Option Object → List ℕ → Type 0 where
  in_reference : {left : ℕ} {current : Option Object} {octets : List ℕ}
      → IsBadReference fault current octets → IsBadMulti fault left current octets
  one_too_many : {current : Option Object} {octets : List ℕ} (r : Reference) (rest : List ℕ)
      → IsReference current octets r rest → fault ≡ TooMany → IsBadMulti fault zero current octets
  set_with_index : {left : ℕ} {current : Option Object} {octets : List ℕ} (r : Reference)
      (rest : List ℕ) → IsReference current octets r rest → is_consistent r ≡ false
      → fault ≡ Inconsistent → IsBadMulti fault (suc left) current octets
  behind_list : {left : ℕ} {current : Option Object} {octets : List ℕ} (r : Reference)
      (at rest : List ℕ) → IsReference current octets r at → is_consistent r ≡ true
      → BeginsWith at (context 1 Closing) rest → rest ≢ [] → IsBadMulti fault left None rest
      → IsBadMulti fault (suc left) current octets
  behind_reference : {left : ℕ} {current : Option Object} {octets : List ℕ} (r : Reference)
      (at : List ℕ) → IsReference current octets r at → is_consistent r ≡ true
      → (IsClosed at → ⊥) → IsBadMulti fault left (Some r.object) at
      → IsBadMulti fault (suc left) current octets

-- the octets are no body of ReadPropertyMultiple, for this reason
abbrev pub HasMultiFault : BodyFault → List ℕ → Type 0
HasMultiFault fault octets = IsBadMulti fault most_references None octets

-- ---- as it is written

-- [0] object and [1] opening, where an object's list begins
abbrev pub head_part : Bool → Object → List ℕ
head_part false id = []
head_part true id = in_context 0 (object_octets id) ++ canonical (context 1 Opening)

-- [1] closing, where it ends
abbrev pub tail_part : Bool → List ℕ
tail_part false = []
tail_part true = canonical (context 1 Closing)

-- [0] property, and [1] index where it is given
abbrev pub name_part : ℕ → Option ℕ → List ℕ
name_part p i = in_context 0 (unsigned_encoding p) ++ number_part 1 i

-- a list ends where the next one begins, and with the body
abbrev pub list_ends : List Reference → Bool
list_ends [] = true
list_ends (r ∷ others) = r.begins

abbrev pub reference_part : Reference → Bool → List ℕ
reference_part r ends =
    head_part r.begins r.object ++ name_part r.property r.index ++ tail_part ends

abbrev pub multi_encoding : List Reference → List ℕ
multi_encoding [] = []
multi_encoding (r ∷ others) = reference_part r (list_ends others) ++ multi_encoding others

-- a body names these references: what is written of them is one
abbrev pub AreNamed : List Reference → Type 0
AreNamed references = IsMulti (multi_encoding references) references
