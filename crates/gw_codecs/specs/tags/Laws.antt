-- What holds of all encodings of tags, objects and values.
use Rattle.std.specs.Prelude.{◌≡◌, ℕ, ◌<◌, ◌≤◌, ◌^◌, ◌↔◌, List, ◌++◌, length, Some, Ok, ℤ}
use Rattle.gw_addr.specs.Reading.{AreOctets}
use Rattle.gw_codecs.specs.tags.Tag.{Tag, IsTag, EncodesTag, BeginsWith, canonical}
use Rattle.gw_codecs.specs.tags.Reading.{tag_at, value_at}
use Rattle.gw_codecs.specs.tags.Object.{Object, IsObject, object_octets, object_of}
use Rattle.gw_codecs.specs.tags.Value.{Value, IsValue, EncodesValue, BeginsWithValue, EncodeAll, value_encoding}
use Rattle.gw_codecs.specs.tags.Number.{IsSigned, unsigned_of, unsigned_encoding, signed_of, signed_encoding}

-- If two encodings are at the front of the same octets, they are one encoding of one tag: none
-- is a proper front of another.
abbrev pub TagsArePrefixFree : Type 0
TagsArePrefixFree = (a b x y : List ℕ) (s t : Tag) → EncodesTag a s → EncodesTag b t
    → a ++ x ≡ b ++ y → (a ≡ b) × (s ≡ t)

-- What is written is an encoding.
abbrev pub CanonicalEncodes : Type 0
CanonicalEncodes = (tag : Tag) → IsTag tag → EncodesTag (canonical tag) tag

-- No encoding is shorter than what is written.
abbrev pub CanonicalIsShortest : Type 0
CanonicalIsShortest = (octets : List ℕ) (tag : Tag) → EncodesTag octets tag
    → length (canonical tag) ≤ length octets

-- What is written is read again, whatever follows it.
abbrev pub CanonicalIsRead : Type 0
CanonicalIsRead = (tag : Tag) (rest : List ℕ) → IsTag tag
    → tag_at (canonical tag ++ rest) ≡ Ok (tag, rest)

-- An object identifier and its four octets are one to one.
abbrev pub ObjectsAreRead : Type 0
ObjectsAreRead = (object : Object) → IsObject object → object_of (object_octets object) ≡ object

abbrev pub ObjectsAreEncoded : Type 0
ObjectsAreEncoded = (octets : List ℕ) → length octets ≡ 4 → AreOctets octets
    → IsObject (object_of octets) × (object_octets (object_of octets) ≡ octets)

-- If two encodings of values are at the front of the same octets, they are one encoding of one
-- value.
abbrev pub ValuesArePrefixFree : Type 0
ValuesArePrefixFree = (a b x y : List ℕ) (v w : Value) → EncodesValue a v → EncodesValue b w
    → a ++ x ≡ b ++ y → (a ≡ b) × (v ≡ w)

-- What is written is an encoding.
abbrev pub ValueEncodingEncodes : Type 0
ValueEncodingEncodes = (value : Value) → IsValue value → EncodesValue (value_encoding value) value

-- No encoding is shorter than what is written.
abbrev pub ValueEncodingIsShortest : Type 0
ValueEncodingIsShortest = (octets : List ℕ) (value : Value) → EncodesValue octets value
    → length (value_encoding value) ≤ length octets

-- A number written in the fewest octets is read again (clauses 20.2.4 and 20.2.5).
abbrev pub UnsignedIsRead : Type 0
UnsignedIsRead = (n : ℕ) → n < 2 ^ 32 → unsigned_of (unsigned_encoding n) ≡ Some n

abbrev pub SignedIsRead : Type 0
SignedIsRead = (z : ℤ) → IsSigned z → signed_of (signed_encoding z) ≡ Some z

-- Reading a tag or a value agrees with what its octets are.
abbrev pub TagAtIsTag : Type 0
TagAtIsTag = (octets : List ℕ) (tag : Tag) (rest : List ℕ) → AreOctets octets
    → (tag_at octets ≡ Ok (tag, rest)) ↔ (BeginsWith octets tag rest × IsTag tag)

abbrev pub ValueAtIsValue : Type 0
ValueAtIsValue = (octets : List ℕ) (value : Value) (rest : List ℕ) → AreOctets octets
    → (value_at octets ≡ Ok (value, rest)) ↔ (BeginsWithValue octets value rest × IsValue value)

-- A list of values has one reading: octets that encode one list, value after value, encode no
-- other.
abbrev pub ListsHaveOneReading : Type 0
ListsHaveOneReading = (octets : List ℕ) (values others : List Value) → EncodeAll octets values
    → EncodeAll octets others → values ≡ others
