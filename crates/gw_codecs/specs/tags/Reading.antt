-- Reading tags and values from the front of octets (ISO 16484-5, clause 20.2). This file computes;
-- believe `BeginsWith`, `BeginsWithValue` and what is said of the faults.
use Rattle.std.specs.Prelude.{ℕ, ◌-◌, ◌/◌, ◌%◌, Bool, true, false, List, [], ◌∷◌, Result, Ok, Err, nat_lt, nat_le, ◌==◌}
use Rattle.std.specs.Prelude.{◌&&◌, if◌then◌else◌}
use Rattle.std.specs.Int.{w16, w32}
use Rattle.gw_addr.specs.Address.{big_endian}
use Rattle.gw_addr.specs.Reading.{◌>>=◌, octet_at, front_at, number_at}
use Rattle.gw_codecs.specs.declared.tags.tag.Kind.{Kind}
use Rattle.gw_codecs.specs.declared.tags.tag.Kind.TheVariants.{Length, Opening, Closing}
use Rattle.gw_codecs.specs.declared.tags.fault.TagFault.{TagFault}
use Rattle.gw_codecs.specs.declared.tags.fault.TagFault.TheVariants.{Short, BadTag}
use Rattle.gw_codecs.specs.declared.tags.fault.ValueFault.{ValueFault}
use Rattle.gw_codecs.specs.declared.tags.fault.ValueFault.TheVariants.{Short as ShortValue, BadTag as BadValueTag, BadLength}
use Rattle.gw_codecs.specs.declared.tags.fault.ValueFault.TheVariants.{BadText}
use Rattle.gw_codecs.specs.declared.tags.datatype.Datatype.{Datatype}
use Rattle.gw_codecs.specs.declared.tags.datatype.Datatype.TheVariants as kinds
use Rattle.gw_codecs.specs.tags.Fault.{fault_of_tag}
use Rattle.gw_codecs.specs.tags.Tag.{Tag, is_tag}
use Rattle.gw_codecs.specs.tags.Object.{object_of}
use Rattle.gw_codecs.specs.tags.Number.{twos_complement}
use Rattle.gw_codecs.specs.tags.Strings.{is_unused}
use Rattle.gw_codecs.specs.tags.Value.{Value, null, boolean, unsigned, signed, real, double, octet_string, character_string}
use Rattle.gw_codecs.specs.tags.Value.{bit_string, enumerated, date, time, object_id, is_text}

-- ---- tags

-- the number: the four high bits of the first octet, or if they are all set, the next octet
abbrev pub tag_number_at : ℕ → List ℕ → Result (ℕ × List ℕ) TagFault
tag_number_at first rest = if first / 16 == 15 then octet_at Short rest else Ok (first / 16, rest)

-- a length with octets of its own
abbrev pub length_at : List ℕ → Result (ℕ × List ℕ) TagFault
length_at octets = do
  first ← octet_at Short octets
  if first.0 == 254 then number_at Short w16 first.1
      else (if first.0 == 255 then number_at Short w32 first.1 else Ok first)

-- what the three low bits announce
abbrev pub kind_at : ℕ → List ℕ → Result (Kind × List ℕ) TagFault
kind_at low rest = if low == 6 then Ok (Opening, rest) else (if low == 7 then Ok (Closing, rest)
    else (if low == 5 then (length_at rest >>= λ n. Ok (Length n.0, n.1))
    else Ok (Length low, rest)))

-- number, class and kind as they are read, and the octets after them
abbrev pub header_at : List ℕ → Result (Tag × List ℕ) TagFault
header_at octets = do
  first ← octet_at Short octets
  number ← tag_number_at first.0 first.1
  kind ← kind_at (first.0 % 8) number.1
  Ok (record { number = number.0; context = nat_lt 7 (first.0 % 16); kind = kind.0 }, kind.1)

-- the tag at the front and the octets after it: it is read whole before it is judged
abbrev pub tag_at : List ℕ → Result (Tag × List ℕ) TagFault
tag_at octets = do
  header ← header_at octets
  if is_tag header.0 then Ok header else Err BadTag

-- the three low bits of the first octet, which of an application Boolean are the value (clause
-- 20.2.3)
abbrev pub low_bits_at : List ℕ → ℕ
low_bits_at [] = 0
low_bits_at (first ∷ rest) = first % 8

-- ---- values

abbrev pub of_tag : {A : Type 0} → Result A TagFault → Result A ValueFault
of_tag (Ok x) = Ok x
of_tag (Err fault) = Err (fault_of_tag fault)

-- the kind whose tag has this number
abbrev pub datatype_of : ℕ → Result Datatype ValueFault
datatype_of number =
    if number == 0 then Ok kinds.Null
    else (if number == 1 then Ok kinds.Boolean
    else (if number == 2 then Ok kinds.Unsigned
    else (if number == 3 then Ok kinds.Signed
    else (if number == 4 then Ok kinds.Real
    else (if number == 5 then Ok kinds.Double
    else (if number == 6 then Ok kinds.Octets
    else (if number == 7 then Ok kinds.Text
    else (if number == 8 then Ok kinds.Bits
    else (if number == 9 then Ok kinds.Enumerated
    else (if number == 10 then Ok kinds.Date
    else (if number == 11 then Ok kinds.Time
    else (if number == 12 then Ok kinds.Object
    else Err BadValueTag))))))))))))

-- what follows a value's tag: the three low bits of the tag's first octet, the length, and the
-- octets
pub record Body : Type 0 where
  pub low_bits : ℕ
  pub count : ℕ
  pub octets : List ℕ

-- the length that a tag announces
abbrev pub count_of : Kind → Result ℕ ValueFault
count_of (Length n) = Ok n
count_of Opening = Err BadValueTag
count_of Closing = Err BadValueTag

-- the kind of the value at the front, and what follows its tag
abbrev pub head_at : List ℕ → Result (Datatype × Body) ValueFault
head_at octets = do
  header ← of_tag (tag_at octets)
  datatype ← if header.0.context then Err BadValueTag else datatype_of header.0.number
  count ← count_of header.0.kind
  Ok (datatype, record { low_bits = low_bits_at octets; count = count; octets = header.1 })

-- the content, if the kind has one of this length
abbrev pub octets_at : Bool → Body → Result (List ℕ × List ℕ) ValueFault
octets_at has_length body = if has_length then front_at ShortValue body.count body.octets
    else Err BadLength

-- a value that its content is
abbrev pub content_at : (ℕ → Bool) → (List ℕ → Value) → Body → Result (Value × List ℕ) ValueFault
content_at has_length value body = octets_at (has_length body.count) body
    >>= λ x. Ok (value x.0, x.1)

abbrev pub one_to_four : ℕ → Bool
one_to_four count = nat_le 1 count && nat_le count 4

-- a number in one to four octets, and what it is
abbrev pub number_in : {N : Type 0} → (List ℕ → N) → Body → Result (N × List ℕ) ValueFault
number_in number body = octets_at (one_to_four body.count) body >>= λ x. Ok (number x.0, x.1)

abbrev pub null_at : Body → Result (Value × List ℕ) ValueFault
null_at body = if body.count == 0 then Ok (null, body.octets) else Err BadLength

abbrev pub boolean_at : Body → Result (Value × List ℕ) ValueFault
boolean_at body =
    if body.low_bits == 0 then Ok (boolean false, body.octets)
    else (if body.low_bits == 1 then Ok (boolean true, body.octets) else Err BadLength)

-- the character set, and the octets after it
abbrev pub text_of : List ℕ → Value
text_of [] = character_string 0 []
text_of (charset ∷ own) = character_string charset own

abbrev pub text_at : Body → Result (Value × List ℕ) ValueFault
text_at body = content_at (nat_lt 0) text_of body

-- the count of unused bits is judged before the octets after it
abbrev pub bits_at : Body → Result (Value × List ℕ) ValueFault
bits_at body =
    if body.count == 0 then Err BadLength
    else (octet_at ShortValue body.octets >>= λ unused.
    if is_unused unused.0 (body.count - 1)
    then (front_at ShortValue (body.count - 1) unused.1
    >>= λ x. Ok (bit_string unused.0 x.0, x.1))
    else Err BadLength)

-- a character string of set 0 has to be UTF-8
abbrev pub judged : Value × List ℕ → Result (Value × List ℕ) ValueFault
judged x = if is_text x.0 then Ok x else Err BadText

abbrev pub judged_text_at : Body → Result (Value × List ℕ) ValueFault
judged_text_at body = text_at body >>= judged

-- the content of each kind
abbrev pub body_at : Datatype → Body → Result (Value × List ℕ) ValueFault
body_at kinds.Null body = null_at body
body_at kinds.Boolean body = boolean_at body
body_at kinds.Unsigned body = content_at one_to_four (λ o. unsigned (big_endian o)) body
body_at kinds.Signed body = content_at one_to_four (λ o. signed (twos_complement o)) body
body_at kinds.Real body = content_at (λ n. n == 4) real body
body_at kinds.Double body = content_at (λ n. n == 8) double body
body_at kinds.Octets body = content_at (λ n. true) octet_string body
body_at kinds.Text body = text_at body
body_at kinds.Bits body = bits_at body
body_at kinds.Enumerated body = content_at one_to_four (λ o. enumerated (big_endian o)) body
body_at kinds.Date body = content_at (λ n. n == 4) date body
body_at kinds.Time body = content_at (λ n. n == 4) time body
body_at kinds.Object body = content_at (λ n. n == 4) (λ o. object_id (object_of o)) body

-- the value at the front, whatever its text is, and the octets after it
abbrev pub encoding_at : List ℕ → Result (Value × List ℕ) ValueFault
encoding_at octets = head_at octets >>= λ head. body_at head.0 head.1

abbrev pub judged_body_at : Datatype → Body → Result (Value × List ℕ) ValueFault
judged_body_at datatype body = body_at datatype body >>= judged

-- the value at the front and the octets after it
abbrev pub value_at : List ℕ → Result (Value × List ℕ) ValueFault
value_at octets = head_at octets >>= λ head. judged_body_at head.0 head.1
