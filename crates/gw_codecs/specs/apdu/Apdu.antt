-- APDUs (ISO 16484-5, clause 20.1): their headers, and which octets are an APDU.
use Rattle.std.specs.Prelude.{◌≡◌, ℕ, ◌+◌, ◌/◌, ◌%◌, ◌≤◌, Bool, ◌==◌, List, [], ◌∷◌, ◌++◌, get_or, Option, Some, None}
use Rattle.std.specs.Prelude.{is_some, IfSome}
use Rattle.std.specs.Int.RustNames.{bit_and}
use Rattle.gw_codecs.specs.declared.apdu.header.Apdu.{Apdu}
use Rattle.gw_codecs.specs.declared.apdu.header.Segment.{Segment}
use Rattle.gw_codecs.specs.declared.apdu.header.Header.{Header}
use Rattle.gw_codecs.specs.declared.apdu.header.Header.TheVariants.{ConfirmedRequest, UnconfirmedRequest, SimpleAck}
use Rattle.gw_codecs.specs.declared.apdu.header.Header.TheVariants.{ComplexAck, SegmentAck, Error, Reject, Abort}
use Rattle.gw_codecs.specs.declared.apdu.pdu_type.PduType.{PduType}
use Rattle.gw_codecs.specs.declared.apdu.pdu_type.PduType.TheVariants as types
use Rattle.gw_codecs.specs.apdu.Numbers.{segmented_bit, more_bit, accepted_bit}

-- an APDU: its header, and the octets after it
pub record Fields : Type 0 where
  pub header : Header
  pub rest : List ℕ

-- an APDU of the code, without where its octets lie in memory
abbrev pub view : Apdu → Fields
view apdu = record { header = apdu.header; rest = apdu.rest.now }

-- ---- the eight types

-- the number of a type, the four high bits of the first octet
abbrev pub type_number : PduType → ℕ
type_number types.ConfirmedRequest = 0
type_number types.UnconfirmedRequest = 1
type_number types.SimpleAck = 2
type_number types.ComplexAck = 3
type_number types.SegmentAck = 4
type_number types.Error = 5
type_number types.Reject = 6
type_number types.Abort = 7

-- the type of an APDU
abbrev pub type_of : Header → PduType
type_of (ConfirmedRequest request) = types.ConfirmedRequest
type_of (UnconfirmedRequest service) = types.UnconfirmedRequest
type_of (SimpleAck invoke service) = types.SimpleAck
type_of (ComplexAck segment invoke service) = types.ComplexAck
type_of (SegmentAck invoke sequence window) = types.SegmentAck
type_of (Error invoke service) = types.Error
type_of (Reject invoke reason) = types.Reject
type_of (Abort invoke reason) = types.Abort

-- ---- the octets of a header

-- the number of a segment, and the window
abbrev pub segment_part : Option Segment → List ℕ
segment_part None = []
segment_part (Some segment) = segment.sequence ∷ segment.window ∷ []

-- What follows the first octet, one line for each type (20.1.2 to 20.1.9). Of a confirmed
-- request the next octet says what the client takes.
abbrev pub fixed_part : ℕ → Header → List ℕ
fixed_part sizes (ConfirmedRequest request) =
    sizes ∷ request.invoke ∷ [] ++ segment_part request.segment ++ request.service ∷ []
fixed_part sizes (UnconfirmedRequest service) = service ∷ []
fixed_part sizes (SimpleAck invoke service) = invoke ∷ service ∷ []
fixed_part sizes (ComplexAck segment invoke service) =
    invoke ∷ [] ++ segment_part segment ++ service ∷ []
fixed_part sizes (SegmentAck invoke sequence window) = invoke ∷ sequence ∷ window ∷ []
fixed_part sizes (Error invoke service) = invoke ∷ service ∷ []
fixed_part sizes (Reject invoke reason) = invoke ∷ reason ∷ []
fixed_part sizes (Abort invoke reason) = invoke ∷ reason ∷ []

-- whether this bit of the octet is set
abbrev pub is_set : ℕ → ℕ → Bool
is_set octet worth = bit_and octet worth == worth

-- the first octet says whether the message is a segment, and whether more of them follow
abbrev pub TellsSegment : ℕ → Option Segment → Type 0
TellsSegment first segment =
    (is_set first segmented_bit ≡ is_some segment)
    × IfSome segment (λ s. is_set first more_bit ≡ s.more_follows)

-- the first octet says these flags of the header
abbrev pub HasFlags : ℕ → Header → Type 0
HasFlags first (ConfirmedRequest request) =
    TellsSegment first request.segment × (is_set first accepted_bit ≡ request.accepts_segments)
HasFlags first (ComplexAck segment invoke service) = TellsSegment first segment
HasFlags first _ = Unit {0}

-- the four low bits are the longest APDU that the client takes, and the three above them how many
-- segments (20.1.2.4 and 20.1.2.5)
abbrev pub HasSizes : ℕ → Header → Type 0
HasSizes sizes (ConfirmedRequest request) =
    (sizes / 16 % 8 ≡ request.max_segments) × (sizes % 16 ≡ request.max_apdu)
HasSizes sizes _ = Unit {0}

-- The octets are an APDU with this header and these octets after it. What the header doesn't name
-- of its first two octets is ignored.
pub record IsApdu (octets : List ℕ) (f : Fields) : Type 0 where
  pub first : ℕ
  pub sizes : ℕ
  pub parts : octets ≡ first ∷ [] ++ fixed_part sizes f.header ++ f.rest
  pub numbered : first / 16 ≡ type_number (type_of f.header)
  pub flags : HasFlags first f.header
  pub sized : HasSizes sizes f.header

-- ---- what is wrong with octets that are no APDU

-- there is a first octet, and its type is one of those that are reserved
pub record HasUnknownType (octets : List ℕ) : Type 0 where
  pub first : ℕ
  pub rest : List ℕ
  pub parts : octets ≡ first ∷ rest
  pub reserved : 8 ≤ first / 16

-- the type is no reserved one, and the octets are no APDU: they end too early
pub record IsShort (octets : List ℕ) : Type 0 where
  pub known : ¬ HasUnknownType octets
  pub none : (f : Fields) → ¬ IsApdu octets f

-- ---- what is read off a header

-- The number by which rules name what an APDU asks for (ours): the service of a confirmed request,
-- 256 and that of an unconfirmed one, and of other types 1024 and the number of the type.
abbrev pub code_of : Header → ℕ
code_of (ConfirmedRequest request) = request.service
code_of (UnconfirmedRequest service) = 256 + service
code_of other = 1024 + type_number (type_of other)

-- the longest APDU that a client takes, by its code (20.1.2.5); a reserved code counts as the
-- longest (ours)
abbrev pub max_apdu_len : ℕ → ℕ
max_apdu_len code = get_or (50 ∷ 128 ∷ 206 ∷ 480 ∷ 1024 ∷ 1476 ∷ []) code 1476
