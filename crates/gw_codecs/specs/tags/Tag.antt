-- Tags (ISO 16484-5, clause 20.2.1): what they are, each of their encodings, and the shortest one.
use Rattle.std.specs.Prelude.{◌≡◌, ◌≢◌, ℕ, ◌+◌, ◌*◌, ◌<◌, ◌^◌, Bool, false, IsTrue, List, [], ◌∷◌, ◌++◌, nat_lt, ◌||◌}
use Rattle.std.specs.Prelude.{◌&&◌, if◌then◌else◌}
use Rattle.std.specs.Int.{w16, w32, to_be_bytes}
use Rattle.gw_codecs.specs.declared.tags.tag.Kind.{Kind}
use Rattle.gw_codecs.specs.declared.tags.tag.Kind.TheVariants.{Length, Opening, Closing}
use Rattle.gw_codecs.specs.declared.tags.tag.Tag.{Tag as RustTag}
use Rattle.gw_codecs.specs.tags.Kind.{is_length}

-- a tag: its number, whether its class is context specific, and what it announces
pub record Tag : Type 0 where
  pub number : ℕ
  pub context : Bool
  pub kind : Kind

-- a tag of the code, without the proof that it is one
abbrev pub tag_view : RustTag → Tag
tag_view tag = record { number = tag.number; context = tag.context; kind = tag.kind }

-- The number 255 is reserved, and in the application class nothing opens or closes a list (clauses
-- 20.2.1.2 and 20.2.1.3.2).
abbrev pub is_tag : Tag → Bool
is_tag tag = nat_lt tag.number 255 && (is_length tag.kind || tag.context)

-- the tag of a content of so many octets
abbrev pub length_tag : ℕ → Bool → ℕ → Tag
length_tag number context count = record { number = number; context = context; kind = Length count }

-- a length has at most 32 bits
abbrev pub LengthFits : Kind → Type 0
LengthFits (Length n) = n < 2 ^ 32
LengthFits Opening = Unit {0}
LengthFits Closing = Unit {0}

-- what can be written
pub record IsTag (tag : Tag) : Type 0 where
  pub numbered : tag.number < 255
  pub classed : IsTrue (is_length tag.kind || tag.context)
  pub length_fits : LengthFits tag.kind

-- ---- encoding

-- where the number is: in the four high bits of the first octet, or in the octet after it
pub data NumberPlace : Type 0 where
  high_bits : NumberPlace
  own_octet : NumberPlace

-- where a length is: in the three low bits of the first octet, or after it in one, two or four
-- octets
pub data LengthPlace : Type 0 where
  low_bits : LengthPlace
  one_octet : LengthPlace
  two_octets : LengthPlace
  four_octets : LengthPlace

-- the four high bits (clause 20.2.1.2)
abbrev pub high_of : ℕ → NumberPlace → ℕ
high_of n high_bits = n
high_of n own_octet = 15

-- the class bit (clause 20.2.1.1)
abbrev pub class_of : Bool → ℕ
class_of context = if context then 8 else 0

-- the three low bits (clause 20.2.1.3)
abbrev pub low_of : Kind → LengthPlace → ℕ
low_of (Length n) low_bits = n
low_of (Length n) one_octet = 5
low_of (Length n) two_octets = 5
low_of (Length n) four_octets = 5
low_of Opening place = 6
low_of Closing place = 7

-- the octets of a number that has its own
abbrev pub number_octets : ℕ → NumberPlace → List ℕ
number_octets n high_bits = []
number_octets n own_octet = n ∷ []

-- the octets of a length that has its own: of more than one, 254 or 255 says how many
abbrev pub length_octets : Kind → LengthPlace → List ℕ
length_octets (Length n) low_bits = []
length_octets (Length n) one_octet = n ∷ []
length_octets (Length n) two_octets = 254 ∷ to_be_bytes w16 n
length_octets (Length n) four_octets = 255 ∷ to_be_bytes w32 n
length_octets Opening place = []
length_octets Closing place = []

-- which numbers have room at a place
abbrev pub NumberHasRoom : ℕ → NumberPlace → Type 0
NumberHasRoom n high_bits = n < 15
NumberHasRoom n own_octet = n < 256

-- which lengths have room at a place
abbrev pub LengthHasRoom : Kind → LengthPlace → Type 0
LengthHasRoom (Length n) low_bits = n < 5
LengthHasRoom (Length n) one_octet = n < 254
LengthHasRoom (Length n) two_octets = n < 2 ^ 16
LengthHasRoom (Length n) four_octets = n < 2 ^ 32
LengthHasRoom Opening place = Unit {0}
LengthHasRoom Closing place = Unit {0}

-- the octets of a tag with its number and length at these places
abbrev pub tag_encoding : NumberPlace → LengthPlace → Tag → List ℕ
tag_encoding number_place length_place tag =
    (16 * high_of tag.number number_place + class_of tag.context + low_of tag.kind length_place)
    ∷ (number_octets tag.number number_place ++ length_octets tag.kind length_place)

-- The octets encode the tag, be its number and class reserved or not. A number or length may have
-- more octets than it needs.
pub record EncodesTag (octets : List ℕ) (tag : Tag) : Type 0 where
  pub number_place : NumberPlace
  pub length_place : LengthPlace
  pub number_room : NumberHasRoom tag.number number_place
  pub length_room : LengthHasRoom tag.kind length_place
  pub encoded : octets ≡ tag_encoding number_place length_place tag

-- an encoding with the length in the three low bits of the first octet
pub record EncodesInLowBits (octets : List ℕ) (tag : Tag) : Type 0 where
  pub encodes : EncodesTag octets tag
  pub place : encodes.length_place ≡ low_bits

-- the place with the fewest octets
abbrev pub shortest_number : ℕ → NumberPlace
shortest_number n = if nat_lt n 15 then high_bits else own_octet

abbrev pub shortest_length : Kind → LengthPlace
shortest_length (Length n) =
    if nat_lt n 5 then low_bits
    else (if nat_lt n 254 then one_octet else (if nat_lt n 65536 then two_octets else four_octets))
shortest_length Opening = low_bits
shortest_length Closing = low_bits

-- the one encoding that is written
abbrev pub canonical : Tag → List ℕ
canonical tag = tag_encoding (shortest_number tag.number) (shortest_length tag.kind) tag

-- ---- octets that begin with a tag

-- an encoding of the tag, and then the rest
pub record BeginsWith (octets : List ℕ) (tag : Tag) (rest : List ℕ) : Type 0 where
  pub front : List ℕ
  pub encodes : EncodesTag front tag
  pub parts : octets ≡ front ++ rest

-- the octets end before an encoding does that begins with them
pub record IsShortTag (octets : List ℕ) : Type 0 where
  pub tag : Tag
  pub missing : List ℕ
  pub some_missing : missing ≢ []
  pub encodes : EncodesTag (octets ++ missing) tag

-- the octets begin with what is whole and no tag: its number or its class is reserved
pub record IsBadTag (octets : List ℕ) : Type 0 where
  pub tag : Tag
  pub rest : List ℕ
  pub begins : BeginsWith octets tag rest
  pub reserved : is_tag tag ≡ false
