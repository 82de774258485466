-- Application values (ISO 16484-5, clause 20.2): the encodings of each of the thirteen kinds.
use Rattle.std.specs.Prelude.{◌≡◌, ◌≢◌, ℕ, ◌<◌, ◌^◌, Bool, true, false, List, [], ◌∷◌, ◌++◌, length, nat_lt, ◌==◌, ◌&&◌}
use Rattle.std.specs.Prelude.{◌||◌, not, ◌⊎◌, ℤ}
use Rattle.std.specs.Str.{is_utf8}
use Rattle.gw_codecs.specs.declared.tags.tag.Kind.TheVariants.{Length}
use Rattle.gw_codecs.specs.declared.tags.value.AppValue.{AppValue}
use Rattle.gw_codecs.specs.declared.tags.value.AppValue.TheVariants.{Null, Boolean, Unsigned, Signed, Real, Double, Octets}
use Rattle.gw_codecs.specs.declared.tags.value.AppValue.TheVariants.{Text, Bits, Enumerated, Date, Time}
use Rattle.gw_codecs.specs.declared.tags.value.AppValue.TheVariants.{Object as ObjectVariant}
use Rattle.gw_codecs.specs.tags.Tag.{Tag, EncodesTag, EncodesInLowBits, BeginsWith, IsShortTag, canonical, is_tag}
use Rattle.gw_codecs.specs.tags.Object.{Object, IsObject, object_view, object_octets}
use Rattle.gw_codecs.specs.tags.Strings.{is_unused}
use Rattle.gw_codecs.specs.tags.Number.{EncodesUnsigned, EncodesSigned, IsSigned, unsigned_encoding, signed_encoding}

-- a value, by its kind
pub data Value : Type 0 where
  null : Value
  boolean : Bool → Value
  unsigned : ℕ → Value
  signed : ℤ → Value
  real : List ℕ → Value
  double : List ℕ → Value
  octet_string : List ℕ → Value
  character_string : ℕ → List ℕ → Value
  bit_string : ℕ → List ℕ → Value
  enumerated : ℕ → Value
  date : List ℕ → Value
  time : List ℕ → Value
  object_id : Object → Value

-- a value of the code, without where its octets lie in memory
abbrev pub value_view : AppValue → Value
value_view Null = null
value_view (Boolean b) = boolean b
value_view (Unsigned n) = unsigned n
value_view (Signed z) = signed z
value_view (Real octets) = real octets
value_view (Double octets) = double octets
value_view (Octets octets) = octet_string octets.now
value_view (Text text) = character_string text.charset text.octets.now
value_view (Bits bits) = bit_string bits.unused bits.octets.now
value_view (Enumerated n) = enumerated n
value_view (Date octets) = date octets
value_view (Time octets) = time octets
value_view (ObjectVariant id) = object_id (object_view id)

-- ---- the table of the kinds

-- what the length bits of a tag are: the length of the content, or the value itself
pub data LengthBits : Type 0 where
  length_of_content : LengthBits
  value_itself : ℕ → LengthBits

-- what follows the tag
pub data Content : Type 0 where
  empty : Content
  natural : ℕ → Content
  integer : ℤ → Content
  opaque : List ℕ → Content
  exactly : ℕ → List ℕ → Content
  bits_of : ℕ → List ℕ → Content
  identifier : Object → Content

-- the number of the tag, its length bits, and the content
pub record Layout : Type 0 where
  pub number : ℕ
  pub bits : LengthBits
  pub content : Content

abbrev pub tag : ℕ → LengthBits → Content → Layout
tag number bits content = record { number = number; bits = bits; content = content }

-- false is 0, true is 1 (clause 20.2.3)
abbrev pub bit_of : Bool → ℕ
bit_of false = 0
bit_of true = 1

-- The thirteen kinds: the number of the tag, what its length bits are, and the content (clauses
-- 20.2.1.4 and 20.2.2 to 20.2.14).
abbrev pub layout : Value → Layout
layout null = tag 0 length_of_content empty
layout (boolean b) = tag 1 (value_itself (bit_of b)) empty
layout (unsigned n) = tag 2 length_of_content (natural n)
layout (signed z) = tag 3 length_of_content (integer z)
layout (real own) = tag 4 length_of_content (exactly 4 own)
layout (double own) = tag 5 length_of_content (exactly 8 own)
layout (octet_string own) = tag 6 length_of_content (opaque own)
layout (character_string charset own) = tag 7 length_of_content (opaque (charset ∷ own))
layout (bit_string unused own) = tag 8 length_of_content (bits_of unused own)
layout (enumerated n) = tag 9 length_of_content (natural n)
layout (date own) = tag 10 length_of_content (exactly 4 own)
layout (time own) = tag 11 length_of_content (exactly 4 own)
layout (object_id id) = tag 12 length_of_content (identifier id)

-- ---- encoding

-- these octets are the content
abbrev pub IsContent : Content → List ℕ → Type 0
IsContent empty octets = octets ≡ []
IsContent (natural n) octets = EncodesUnsigned octets n
IsContent (integer z) octets = EncodesSigned octets z
IsContent (opaque own) octets = octets ≡ own
IsContent (exactly count own) octets = (octets ≡ own) × (length own ≡ count)
IsContent (bits_of unused own) octets =
    (octets ≡ unused ∷ own) × (is_unused unused (length own) ≡ true)
IsContent (identifier id) octets = (octets ≡ object_octets id) × IsObject id

-- a tag of application class
abbrev pub application : ℕ → ℕ → Tag
application number count = record { number = number; context = false; kind = Length count }

-- These octets are a header: if the length bits are the value, they have no octets of their own.
abbrev pub IsHeader : List ℕ → ℕ → LengthBits → ℕ → Type 0
IsHeader header number length_of_content count = EncodesTag header (application number count)
IsHeader header number (value_itself n) count = EncodesInLowBits header (application number n)

-- The octets encode the value: a header, and the content that it announces.
pub record EncodesValue (octets : List ℕ) (value : Value) : Type 0 where
  pub header : List ℕ
  pub content : List ℕ
  pub parts : octets ≡ header ++ content
  pub tagged : IsHeader header (layout value).number (layout value).bits (length content)
  pub encoded : IsContent (layout value).content content

-- a character string of set 0 is UTF-8 (clause 20.2.9); of every other value nothing more is asked
abbrev pub is_text : Value → Bool
is_text (character_string charset own) = not (charset == 0) || is_utf8 own
is_text _ = true

-- which contents have an encoding, but for their length
abbrev pub IsWithin : Content → Type 0
IsWithin empty = Unit {0}
IsWithin (natural n) = n < 2 ^ 32
IsWithin (integer z) = IsSigned z
IsWithin (opaque own) = Unit {0}
IsWithin (exactly count own) = length own ≡ count
IsWithin (bits_of unused own) = is_unused unused (length own) ≡ true
IsWithin (identifier id) = IsObject id

-- the one content that is written
abbrev pub content_encoding : Content → List ℕ
content_encoding empty = []
content_encoding (natural n) = unsigned_encoding n
content_encoding (integer z) = signed_encoding z
content_encoding (opaque own) = own
content_encoding (exactly count own) = own
content_encoding (bits_of unused own) = unused ∷ own
content_encoding (identifier id) = object_octets id

-- the length of a content fits 32 bits
abbrev pub LengthFits : Value → Type 0
LengthFits value = length (content_encoding (layout value).content) < 2 ^ 32

-- what can be written and is read again
pub record IsValue (value : Value) : Type 0 where
  pub within : IsWithin (layout value).content
  pub length_fits : LengthFits value
  pub text : is_text value ≡ true

-- what the tag announces
abbrev pub announced : LengthBits → ℕ → ℕ
announced length_of_content count = count
announced (value_itself n) count = n

-- a content after the tag of this number
abbrev pub tagged : ℕ → List ℕ → List ℕ
tagged number content = canonical (application number (length content)) ++ content

-- a content after its tag
abbrev pub behind_tag : ℕ → LengthBits → List ℕ → List ℕ
behind_tag number bits content = canonical (application number (announced bits (length content)))
    ++ content

-- the one encoding that is written, with the fewest octets
abbrev pub value_encoding : Value → List ℕ
value_encoding value =
    behind_tag (layout value).number (layout value).bits (content_encoding (layout value).content)

-- ---- octets that begin with a value

-- an encoding of the value, and then the rest
pub record BeginsWithValue (octets : List ℕ) (value : Value) (rest : List ℕ) : Type 0 where
  pub front : List ℕ
  pub encodes : EncodesValue front value
  pub parts : octets ≡ front ++ rest

-- the octets end before the content does
pub record EndsInContent (octets : List ℕ) : Type 0 where
  pub value : Value
  pub missing : List ℕ
  pub some_missing : missing ≢ []
  pub encodes : EncodesValue (octets ++ missing) value

-- 1: the octets end within the tag, or before the content does
abbrev pub IsShortValue : List ℕ → Type 0
IsShortValue octets = IsShortTag octets ⊎ EndsInContent octets

-- the tag of a value: no reserved one, of application class, with a number up to 12
abbrev pub is_value_tag : Tag → Bool
is_value_tag tag = is_tag tag && not tag.context && nat_lt tag.number 13

-- 2: the tag is whole, but no value has it
pub record IsBadValueTag (octets : List ℕ) : Type 0 where
  pub tag : Tag
  pub rest : List ℕ
  pub begins : BeginsWith octets tag rest
  pub other : is_value_tag tag ≡ false

-- 3: The tag is that of a value, and no encoding begins so, whatever follows: the kind has no such
-- length, or the bit string no such count of unused bits.
pub record IsBadLength (octets : List ℕ) : Type 0 where
  pub tag : Tag
  pub rest : List ℕ
  pub begins : BeginsWith octets tag rest
  pub known : is_value_tag tag ≡ true
  pub none : (more : List ℕ) (value : Value) (behind : List ℕ)
      → BeginsWithValue (octets ++ more) value behind → ⊥

-- 4: a character string of set 0 that isn't UTF-8
pub record IsBadText (octets : List ℕ) : Type 0 where
  pub value : Value
  pub rest : List ℕ
  pub begins : BeginsWithValue octets value rest
  pub other : is_text value ≡ false

-- the octets encode these values, one after the other
pub data EncodeAll : List ℕ → List Value → Type 0 where
  no_values : EncodeAll [] []
  value_first : {octets : List ℕ} (front rest : List ℕ) (value : Value) (values : List Value)
      → EncodesValue front value → octets ≡ front ++ rest → EncodeAll rest values
      → EncodeAll octets (value ∷ values)
