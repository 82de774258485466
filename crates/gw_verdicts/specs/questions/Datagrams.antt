-- The datagrams of a question: the request by which a station asks, and the answer to a request that is done.
use Rattle.std.specs.Prelude.{◌≡◌, ◌==◌, ℕ, Bool, true, false, List, [], ◌∷◌, ◌++◌, Option, Some, None, Ok, if◌then◌else◌}
use Rattle.std.specs.List.{list_any}
use Rattle.gw_addr.specs.declared.station.Source.{Source}
use Rattle.gw_codecs.specs.apdu.Answers.{complex_ack, simple_ack}
use Rattle.gw_codecs.specs.services.Read.{Read, read_encoding, read_view}
use Rattle.gw_codecs.specs.services.Reply.{read_answer_head, read_answer_tail}
use Rattle.gw_codecs.specs.services.Write.{write_encoding, write_view}
use Rattle.gw_frames.specs.bvll.Bvll.{original_unicast}
use Rattle.gw_frames.specs.bvll.Bvll as frame
use Rattle.gw_frames.specs.npdu.Npdu.{Address, Fields, apdu}
use Rattle.gw_frames.specs.npdu.Npdu as npdu
use Rattle.gw_frames.specs.bvll.Reading.{bvll_at}
use Rattle.gw_frames.specs.npdu.Reading.{npdu_at}
use Rattle.gw_script.specs.Event.{Event, Datagram}
use Rattle.gw_verdicts.specs.declared.questions.deed.Deed.{Deed}
use Rattle.gw_verdicts.specs.declared.questions.deed.Deed.TheVariants as deed
use Rattle.gw_verdicts.specs.declared.questions.place.Question.{Question}
use Rattle.gw_verdicts.specs.declared.questions.place.Station.{Station}
use Rattle.gw_verdicts.specs.questions.Places.{place_of}

-- ---- what they say

-- a confirmed request that is whole, of the invoke id 1, by a client that takes answers of 1476 octets (clause 20.1.2)
abbrev pub confirmed : (service : ℕ) → List ℕ → List ℕ
confirmed service body = (0x00 ∷ 0x05 ∷ 1 ∷ service ∷ []) ++ body

-- ReadProperty is the service 12, and WriteProperty 15 (clause 21)
abbrev pub request_apdu : Deed → List ℕ
request_apdu (deed.Read read) = confirmed 12 (read_encoding (read_view read))
request_apdu (deed.Write write) = confirmed 15 (write_encoding (write_view write))
request_apdu (deed.Serve service) = confirmed service []

-- a service that is done says more than that: GetAlarmSummary 3, GetEnrollmentSummary 4, AtomicReadFile 6, AtomicWriteFile 7,
-- CreateObject 10, three that read 12 to 14, ConfirmedPrivateTransfer 18, VT-Open 21, VT-Data 23, ReadRange 26,
-- GetEventInformation 29, AuditLogQuery 33 (clauses 13 to 17)
abbrev pub has_result : (service : ℕ) → Bool
has_result service =
    list_any (λ other. other == service)
    (3 ∷ 4 ∷ 6 ∷ 7 ∷ 10 ∷ 12 ∷ 13 ∷ 14 ∷ 18 ∷ 21 ∷ 23 ∷ 26 ∷ 29 ∷ 33 ∷ [])

abbrev pub served_answer : (service : ℕ) → List ℕ
served_answer service = if has_result service then complex_ack 1 service else simple_ack 1 service

-- the answer to a read has the value Null (clause 20.2.2), and that to a write has none
abbrev pub read_answer : Read → List ℕ
read_answer read = complex_ack 1 12 ++ read_answer_head read ++ 0x00 ∷ [] ++ read_answer_tail

abbrev pub answer_apdu : Deed → List ℕ
answer_apdu (deed.Read read) = read_answer (read_view read)
answer_apdu (deed.Write write) = simple_ack 1 15
answer_apdu (deed.Serve service) = served_answer service

-- ---- how they are sent

abbrev pub address_of : Source → Address
address_of place = record { network = place.net; mac = place.mac }

-- a station names itself as the source only if a router is between (clause 6.2.2)
abbrev pub source_of : Station → Option Address
source_of station = if station.is_routed then Some (address_of station.place) else None

-- the message by which a station sends an APDU to another place, with a whole count of hops, at normal priority
abbrev pub message_of : Station → Source → (is_request : Bool) → List ℕ → Fields
message_of from to is_request octets = record {
  destination = Some (record { address = address_of to; hops = 255 });
  source = source_of from;
  reply_expected = is_request;
  priority = 0;
  payload = apdu octets;
}

-- the Original-Unicast-NPDU that carries it (Annex J.2.11)
abbrev pub datagram_of : Fields → List ℕ
datagram_of message = frame.encoding (original_unicast (npdu.encoding message))

-- octets that are read as such a frame, and what it carries as this message
pub record IsDatagram (message : Fields) (octets : List ℕ) : Type 0 where
  pub carried : List ℕ
  pub framed : bvll_at octets ≡ Ok (original_unicast carried)
  pub says : npdu_at carried ≡ Ok message

abbrev pub request_of : Question → Fields
request_of q = message_of q.asker (place_of q.target) true (request_apdu q.deed)

-- the answer of the station that is asked
abbrev pub answer_of : Question → Station → Fields
answer_of q station = message_of station q.asker.place false (answer_apdu q.deed)

-- that a station's datagram comes
abbrev pub event_of : Station → List ℕ → Event
event_of station octets = Datagram station.port station.link octets

abbrev pub request_event : Question → Event
request_event q = event_of q.asker (datagram_of (request_of q))

abbrev pub answer_event : Question → Station → Event
answer_event q station = event_of station (datagram_of (answer_of q station))
