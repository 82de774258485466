-- The parameters of a service's body (ISO 16484-5, clauses 15, 16 and 20.2): what each may hold, and
-- how octets hold it.
use Rattle.std.specs.Prelude.{◌≡◌, ℕ, Bool, true, List, ◌∷◌, nat_le, ◌&&◌}
use Rattle.gw_codecs.specs.declared.tags.tag.Kind.TheVariants.{Opening}
use Rattle.gw_codecs.specs.tags.Tag.{BeginsWith}
use Rattle.gw_codecs.specs.tags.List.{context, EndsList}
use Rattle.gw_codecs.specs.tags.Context.{BeginsWithContent}
use Rattle.gw_codecs.specs.tags.Number.{EncodesUnsigned}
use Rattle.gw_codecs.specs.tags.Object.{Object, IsObject, object_octets}
use Rattle.gw_codecs.specs.tags.Strings.{IsText}
use Rattle.gw_codecs.specs.tags.Value.{unsigned, enumerated, object_id, character_string, IsValue, BeginsWithValue}

-- what a parameter holds: an object, a number, the octets of any values, or a character string with
-- its set
pub data Content : Type 0 where
  object : Object → Content
  number : ℕ → Content
  values : List ℕ → Content
  text : ℕ → List ℕ → Content

-- what a parameter has to hold; a number from the least to the most
pub data Shape : Type 0 where
  an_object : Shape
  a_number : (least most : ℕ) → Shape
  a_text : Shape

-- A parameter: one content under a context tag, values between the opening and the closing tag of a
-- number, or an application value of one kind.
pub data Parameter : Type 0 where
  under : (tag : ℕ) → Shape → Parameter
  between : (tag : ℕ) → Parameter
  plain_object : Parameter
  plain_unsigned : (least most : ℕ) → Parameter
  plain_enumerated : (least most : ℕ) → Parameter
  plain_text : Parameter

-- these octets are a content of the shape (clauses 20.2.4, 20.2.9, 20.2.11 and 20.2.14)
pub data IsContentOf : Shape → List ℕ → Content → Type 0 where
  of_object : {octets : List ℕ} (id : Object) → IsObject id → octets ≡ object_octets id
      → IsContentOf an_object octets (object id)
  of_number : {least most : ℕ} {octets : List ℕ} (n : ℕ) → EncodesUnsigned octets n
      → IsContentOf (a_number least most) octets (number n)
  of_text : {octets : List ℕ} (charset : ℕ) (own : List ℕ) → IsText charset own
      → octets ≡ charset ∷ own → IsContentOf a_text octets (text charset own)

-- The octets begin with the parameter, which holds this, and then comes the rest. Whether a number
-- is in its range is not asked.
pub data Holds : Parameter → List ℕ → Content → List ℕ → Type 0 where
  tagged : {tag : ℕ} {shape : Shape} {octets : List ℕ} {held : Content} {rest : List ℕ}
      (own : List ℕ) → BeginsWithContent tag octets own rest → IsContentOf shape own held
      → Holds (under tag shape) octets held rest
  enclosed : {tag : ℕ} {octets own rest : List ℕ} (inner : List ℕ)
      → BeginsWith octets (context tag Opening) inner → EndsList tag inner own rest
      → Holds (between tag) octets (values own) rest
  an_object_value : {octets rest : List ℕ} (id : Object) → IsValue (object_id id)
      → BeginsWithValue octets (object_id id) rest → Holds plain_object octets (object id) rest
  an_unsigned_value : {least most : ℕ} {octets rest : List ℕ} (n : ℕ) → IsValue (unsigned n)
      → BeginsWithValue octets (unsigned n) rest → Holds (plain_unsigned least most) octets (number n) rest
  an_enumerated_value : {least most : ℕ} {octets rest : List ℕ} (n : ℕ) → IsValue (enumerated n)
      → BeginsWithValue octets (enumerated n) rest
      → Holds (plain_enumerated least most) octets (number n) rest
  a_text_value : {octets rest : List ℕ} (charset : ℕ) (own : List ℕ)
      → IsValue (character_string charset own)
      → BeginsWithValue octets (character_string charset own) rest
      → Holds plain_text octets (text charset own) rest

-- from the least to the most
abbrev pub in_range : ℕ → ℕ → ℕ → Bool
in_range least most n = nat_le least n && nat_le n most

-- a number is in the range that the shape asks for
abbrev pub shape_allows : Shape → Content → Bool
shape_allows (a_number least most) (number n) = in_range least most n
shape_allows _ _ = true

-- a number is in the range that the parameter asks for
abbrev pub allows : Parameter → Content → Bool
allows (under tag shape) held = shape_allows shape held
allows (plain_unsigned least most) (number n) = in_range least most n
allows (plain_enumerated least most) (number n) = in_range least most n
allows _ _ = true
