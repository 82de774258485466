-- Computes; believe `IsApdu` (Apdu.antt). How octets are read as an APDU, from the front. The law
-- `laws::reading` ties what is computed here to the relations.
use Rattle.std.specs.Prelude.{ℕ, ◌/◌, ◌%◌, Bool, true, false, List, [], ◌∷◌, slice_get, Option, Some, None, Result, Ok}
use Rattle.std.specs.Prelude.{Err}
use Rattle.std.specs.Option.{ok_or}
use Rattle.gw_addr.specs.Reading.{◌>>=◌, octet_at}
use Rattle.gw_codecs.specs.declared.apdu.fault.ApduFault.{ApduFault}
use Rattle.gw_codecs.specs.declared.apdu.fault.ApduFault.TheVariants as faults
use Rattle.gw_codecs.specs.declared.apdu.header.Segment.{Segment}
use Rattle.gw_codecs.specs.declared.apdu.header.ConfirmedRequest.{ConfirmedRequest as Request}
use Rattle.gw_codecs.specs.declared.apdu.header.Header.{Header}
use Rattle.gw_codecs.specs.declared.apdu.header.Header.TheVariants.{ConfirmedRequest, UnconfirmedRequest, SimpleAck}
use Rattle.gw_codecs.specs.declared.apdu.header.Header.TheVariants.{ComplexAck, SegmentAck, Error, Reject, Abort}
use Rattle.gw_codecs.specs.declared.apdu.pdu_type.PduType.{PduType}
use Rattle.gw_codecs.specs.declared.apdu.pdu_type.PduType.TheVariants as types
use Rattle.gw_codecs.specs.apdu.Numbers.{segmented_bit, more_bit, accepted_bit}
use Rattle.gw_codecs.specs.apdu.Apdu.{Fields, is_set, code_of}

-- the types in the order of their numbers, from 0
abbrev pub all_types : List PduType
all_types =
    types.ConfirmedRequest ∷ types.UnconfirmedRequest ∷ types.SimpleAck ∷ types.ComplexAck
    ∷ types.SegmentAck ∷ types.Error ∷ types.Reject ∷ types.Abort ∷ []

-- the type of this number
abbrev pub type_of_number : ℕ → Result PduType ApduFault
type_of_number number = ok_or (slice_get all_types number) faults.Kind

-- the type of a first octet
abbrev pub type_at : ℕ → Result PduType ApduFault
type_at first = type_of_number (first / 16)

-- the number of a segment and the window, if they follow
abbrev pub segment_at : Bool → Bool → List ℕ → Result (Option Segment × List ℕ) ApduFault
segment_at false more octets = Ok (None, octets)
segment_at true more octets = do
  sequence ← octet_at faults.Short octets
  window ← octet_at faults.Short sequence.1
  Ok (Some (record { more_follows = more; sequence = sequence.0; window = window.0 }), window.1)

-- the segment that the first octet announces
abbrev pub told_segment_at : ℕ → List ℕ → Result (Option Segment × List ℕ) ApduFault
told_segment_at first octets =
    segment_at (is_set first segmented_bit) (is_set first more_bit) octets

-- what is read of a confirmed request
abbrev pub request_of : ℕ → ℕ → ℕ → Option Segment → ℕ → Request
request_of first sizes invoke segment service = record {
  segment = segment;
  accepts_segments = is_set first accepted_bit;
  max_segments = sizes / 16 % 8;
  max_apdu = sizes % 16;
  invoke = invoke;
  service = service;
}

abbrev pub confirmed_at : ℕ → List ℕ → Result (Header × List ℕ) ApduFault
confirmed_at first octets = do
  sizes ← octet_at faults.Short octets
  invoke ← octet_at faults.Short sizes.1
  segment ← told_segment_at first invoke.1
  service ← octet_at faults.Short segment.1
  Ok (ConfirmedRequest (request_of first sizes.0 invoke.0 segment.0 service.0), service.1)

abbrev pub complex_ack_at : ℕ → List ℕ → Result (Header × List ℕ) ApduFault
complex_ack_at first octets = do
  invoke ← octet_at faults.Short octets
  segment ← told_segment_at first invoke.1
  service ← octet_at faults.Short segment.1
  Ok (ComplexAck segment.0 invoke.0 service.0, service.1)

-- two octets, and the header that they make
abbrev pub pair_at : (ℕ → ℕ → Header) → List ℕ → Result (Header × List ℕ) ApduFault
pair_at make octets = do
  invoke ← octet_at faults.Short octets
  other ← octet_at faults.Short invoke.1
  Ok (make invoke.0 other.0, other.1)

-- the header of a type after its first octet
abbrev pub header_at : PduType → ℕ → List ℕ → Result (Header × List ℕ) ApduFault
header_at types.ConfirmedRequest first octets = confirmed_at first octets
header_at types.UnconfirmedRequest first octets = do
  service ← octet_at faults.Short octets
  Ok (UnconfirmedRequest service.0, service.1)
header_at types.SimpleAck first octets = pair_at SimpleAck octets
header_at types.ComplexAck first octets = complex_ack_at first octets
header_at types.SegmentAck first octets = do
  invoke ← octet_at faults.Short octets
  sequence ← octet_at faults.Short invoke.1
  window ← octet_at faults.Short sequence.1
  Ok (SegmentAck invoke.0 sequence.0 window.0, window.1)
header_at types.Error first octets = pair_at Error octets
header_at types.Reject first octets = pair_at Reject octets
header_at types.Abort first octets = pair_at Abort octets

-- the APDU that the octets are, or the fault
abbrev pub apdu_at : List ℕ → Result Fields ApduFault
apdu_at octets = do
  first ← octet_at faults.Short octets
  pdu_type ← type_at first.0
  header ← header_at pdu_type first.0 first.1
  Ok (record { header = header.0; rest = header.1 })

-- the number by which rules name what it asks for, of an APDU or of none
abbrev pub code_at : Result Fields ApduFault → Option ℕ
code_at (Ok f) = Some (code_of f.header)
code_at (Err fault) = None

abbrev pub service_at : List ℕ → Option ℕ
service_at octets = code_at (apdu_at octets)
