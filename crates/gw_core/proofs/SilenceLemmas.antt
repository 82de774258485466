-- Where nothing is asked and nothing is sent, nothing is answered.
use Rattle.std.proofs.Common.{◌≡◌, ℕ, ◌+◌, ◌≤◌, Bool, true, false, not, ◌&&◌, map, List, [], ◌∷◌, ◌++◌, length, length-append, Option, Some, None, Result, Ok, Err, refl, sym, ap, subst, ◌∙◌, arith}
use Rattle.std.specs.Prelude.{nat_le, is_some, ◌==◌, if◌then◌else◌}
use Rattle.std.specs.Option.{option_map}
use Rattle.std.proofs.lemmas.Bool.Decides.{nat_tests}
use Rattle.std.proofs.lemmas.Bool.{le-leb}
use Rattle.gw_codecs.specs.declared.apdu.fault.ApduFault.{ApduFault}
use Rattle.gw_codecs.specs.declared.apdu.header.ConfirmedRequest.{ConfirmedRequest}
use Rattle.gw_codecs.specs.declared.apdu.header.Header.{Header}
use Rattle.gw_codecs.specs.declared.apdu.header.Header.TheVariants as header
use Rattle.gw_codecs.specs.apdu.Apdu.{Fields as Apdu}
use Rattle.gw_codecs.specs.apdu.Reading.{apdu_at}
use Rattle.gw_frames.specs.npdu.Npdu.{Fields}
use Rattle.gw_frames.specs.npdu.Npdu as npdu
use Rattle.gw_objects.specs.declared.property.PropertySet.{PropertySet}
use Rattle.gw_objects.specs.Objects.{Database}
use Rattle.gw_rules.specs.declared.format.Format.{Format}
use Rattle.gw_rules.specs.declared.rule.Rule.{Rule}
use Rattle.gw_rules.specs.Ask.{Ask}
use Rattle.gw_rules.specs.RuleList.{allows}
use Rattle.gw_codecs.specs.declared.services.fault.BodyFault.{BodyFault}
use Rattle.gw_codecs.specs.services.Multi.{Reference}
use Rattle.gw_codecs.specs.services.MultiReading.{multi_at}
use Rattle.gw_codecs.specs.services.Read.{read_at}
use Rattle.gw_codecs.specs.services.WhoHas.{who_has_at}
use Rattle.gw_codecs.specs.services.WhoIs.{who_is_at}
use Rattle.gw_codecs.specs.services.Write.{write_at}
use Rattle.gw_codecs.specs.tags.Object.{Object}
use Rattle.gw_device.specs.declared.context.Context.{Context}
use Rattle.gw_device.specs.Asks.{named_object}
use Rattle.gw_device.specs.Device.{apdu_response, confirmed_response, device_answer, device_asks, device_response, header_response, or_reject, or_silence, service_response, unconfirmed_response}
use Rattle.gw_device.specs.Multi.{Part, asked, joined, multi_ack, multi_ask, multi_part, multi_response, named_part}
use Rattle.gw_device.specs.Read.{read_response}
use Rattle.gw_device.specs.Response.{Answer, Response, fits, silence, turned_down}
use Rattle.gw_codecs.specs.services.Choices.{read_property, read_property_multiple, write_property, who_has, who_is}
use Rattle.gw_device.specs.Services.{set_of}
use Rattle.gw_device.specs.WhoHas.{object_response, sought_object, who_has_response}
use Rattle.gw_device.specs.WhoIs.{is_within, who_is_response}
use Rattle.gw_device.specs.Write.{write_response}
use Rattle.gw_addr.specs.declared.bip.BipAddr.{BipAddr}
use Rattle.gw_frames.specs.bvll.Bvll.{Message as Frame}
use Rattle.gw_frames.specs.bvll.Bvll as bvll
use Rattle.gw_rules.specs.declared.operation.Operation.{Operation}
use Rattle.gw_relay.specs.Asks.{link_asks, management_of}
use Rattle.gw_relay.specs.Link.{answer_to, is_misplaced, link_answer, refused}
use Rattle.gw_relay.specs.declared.port.PortState.{PortState}
use Rattle.gw_relay.specs.Sends.{sending}
use Rattle.gw_relay.specs.State.{Relay, is_manager}
use Rattle.gw_relay.specs.Steps.{npdu_octets, unicast}
use Rattle.gw_relay.proofs.Asking.{misplaced_answer, unasked_change}
use Rattle.gw_relay.proofs.Learning.{unasked_learning}
use Rattle.gw_core.specs.Asks.{apdu_asks, asks, asks_for, cast_asks_for, first_asks_for, manage_asks_for, message_asks, route_asks_for}
use Rattle.gw_core.specs.Effects.{answer_sends, apdu_change, change_for, first_sends_for, message_sends, relay_change_for, sends, sends_for}
use Rattle.gw_relay.specs.Message.{Message}
use Rattle.gw_core.specs.Receive.{Received, barred, dropped, managed, unregistered, message}
use Rattle.gw_core.specs.Reply.{apdu_for, context_of, reply_npdu, reply_sends, max_reply_apdu}
use Rattle.gw_core.specs.State.{device_network}
use Rattle.gw_core.proofs.DenialLemmas.{answer_put, asks_put}
use Rattle.gw_core.proofs.RespondLemmas.{empty_left, empty_right}

-- an answer of a few octets to the client alone
record IsShort (a : Answer) : Type 0 where
  few : length a.apdu ≤ 3
  alone : a.broadcast ≡ false

abbrev alone_answer : List ℕ → Answer
alone_answer x = record { apdu = x; broadcast = false }

short_is : (x : List ℕ) (a : Answer) → length x ≤ 3 → Some (alone_answer x) ≡ Some a → IsShort a
short_is x a le e =
    let same : alone_answer x ≡ a = cc in
    subst IsShort same (record { few = le; alone = refl })

-- where nothing is asked, an answer is short and nothing is written
abbrev Brief : Response → Type 0
Brief due = due.asks ≡ [] → ((a : Answer) → due.answer ≡ Some a → IsShort a) × (due.change ≡ None)

brief_silence : Brief silence
brief_silence none = (λ a e. absurd cc, refl)

asks_something : (due : Response) → (due.asks ≡ [] → ⊥) → Brief due
asks_something due some none = absurd (some none)

brief_down : (x : List ℕ) → length x ≤ 3 → Brief (turned_down x)
brief_down x le none = (λ a e. short_is x a le e, refl)

brief_if : (b : Bool) (x y : Response) → Brief x → Brief y → Brief (if b then x else y)
brief_if true x y f g = f
brief_if false x y f g = g

brief_reject : {B : Type 0} (invoke : ℕ) (respond : B → Response) (body : Result B BodyFault) → ((b : B) → Brief (respond b))
    → Brief (or_reject invoke respond body)
brief_reject invoke respond (Ok b) each = each b
brief_reject invoke respond (Err fault) each = brief_down _ (omega arith)

brief_silenced : {B : Type 0} (respond : B → Response) (body : Result B BodyFault) → ((b : B) → Brief (respond b))
    → Brief (or_silence respond body)
brief_silenced respond (Ok b) each = each b
brief_silenced respond (Err fault) each = brief_silence

set_asks : (b : Bool) (ask : Ask) (x : Part) (octets : List ℕ) (others : List Ask)
    → (if b then joined (asked ask) x else record { asks = ask ∷ []; octets = octets }).asks ++ others ≡ [] → ⊥
set_asks true ask x octets others e = absurd cc
set_asks false ask x octets others e = absurd cc

named_asks : (rules : List Rule) (d : Database) (context : Context) (object : Object) (p : ℕ) (index : Option ℕ) (set : Option PropertySet)
    (others : List Ask) → (named_part rules d context object p index set).asks ++ others ≡ [] → ⊥
named_asks rules d context object p index None others e = absurd cc
named_asks rules d context object p index (Some set) others e = set_asks (allows rules (multi_ask d context object p))
    (multi_ask d context object p) _ _ others e

short_ack : (b : Bool) (invoke reason : ℕ) → length (if b then multi_ack invoke [] else 0x71 ∷ invoke ∷ reason ∷ []) ≤ 3
short_ack true invoke reason = omega arith
short_ack false invoke reason = omega arith

brief_multi : (rules : List Rule) (d : Database) (context : Context) (request : ConfirmedRequest) (rs : List Reference)
    → Brief (multi_response rules d context request rs)
brief_multi rules d context request [] none =
    (λ a e. short_is _ a (short_ack (fits request context (multi_ack request.invoke [])) request.invoke _) e, refl)
brief_multi rules d context request (r ∷ rs) none =
    absurd (named_asks rules d context (named_object d.configured r.object) r.property r.index (set_of r.property)
    (multi_part rules d context rs).asks none)

brief_service : (rules : List Rule) (d : Database) (context : Context) (request : ConfirmedRequest) (body : List ℕ)
    → Brief (service_response rules d context request body)
brief_service rules d context request body =
    brief_if (request.service == read_property) _ _
    (brief_reject request.invoke (read_response rules d context request) (read_at body) (λ read. asks_something _ (λ none. absurd cc)))
    (brief_if (request.service == read_property_multiple) _ _
    (brief_reject request.invoke (multi_response rules d context request) (multi_at body) (brief_multi rules d context request))
    (brief_if (request.service == write_property) _ _
    (brief_reject request.invoke (write_response rules d context request.invoke) (write_at body)
    (λ write. asks_something _ (λ none. absurd cc)))
    (brief_down _ (omega arith))))

brief_confirmed : (rules : List Rule) (d : Database) (context : Context) (request : ConfirmedRequest) (body : List ℕ)
    → Brief (confirmed_response rules d context request body)
brief_confirmed rules d context request body =
    brief_if context.broadcast _ _ brief_silence
    (brief_if (is_some request.segment) _ _ (brief_down _ (omega arith)) (brief_service rules d context request body))

brief_object : (rules : List Rule) (d : Database) (context : Context) (sought : Option Object)
    → Brief (object_response rules d context sought)
brief_object rules d context None = brief_silence
brief_object rules d context (Some object) = asks_something _ (λ none. absurd cc)

brief_unconfirmed : (rules : List Rule) (d : Database) (context : Context) (service : ℕ) (body : List ℕ)
    → Brief (unconfirmed_response rules d context service body)
brief_unconfirmed rules d context service body =
    brief_if (service == who_has) _ _ (brief_silenced (who_has_response rules d context) (who_has_at body)
    (λ request. brief_if (is_within request.limits d.configured.device.instance) _ _
    (brief_object rules d context (sought_object d.configured request.sought)) brief_silence))
    (brief_if (service == who_is) _ _ (brief_silenced (who_is_response rules d context) (who_is_at body)
    (λ request. brief_if (is_within request.limits d.configured.device.instance) _ _ (asks_something _ (λ none. absurd cc)) brief_silence))
    brief_silence)

brief_header : (rules : List Rule) (d : Database) (context : Context) (by : Header) (body : List ℕ)
    → Brief (header_response rules d context by body)
brief_header rules d context (header.ConfirmedRequest request) body = brief_confirmed rules d context request body
brief_header rules d context (header.UnconfirmedRequest service) body = brief_unconfirmed rules d context service body
brief_header rules d context (header.SimpleAck invoke service) body = brief_silence
brief_header rules d context (header.ComplexAck segment invoke service) body = brief_silence
brief_header rules d context (header.SegmentAck invoke sequence window) body = brief_silence
brief_header rules d context (header.Error invoke service) body = brief_silence
brief_header rules d context (header.Reject invoke reason) body = brief_silence
brief_header rules d context (header.Abort invoke reason) body = brief_silence

brief_apdu : (rules : List Rule) (d : Database) (context : Context) (apdu : Result Apdu ApduFault)
    → Brief (apdu_response rules d context apdu)
brief_apdu rules d context (Ok apdu) = brief_header rules d context apdu.header apdu.rest
brief_apdu rules d context (Err fault) = brief_silence

brief_device : (rules : List Rule) (d : Database) (context : Context) (octets : List ℕ) → Brief (device_response rules d context octets)
brief_device rules d context octets = brief_apdu rules d context (apdu_at octets)

-- ---- a short answer is sent

fits_octets : (f : Fields) → length (npdu.encoding f) ≤ 1497 → npdu_octets f ≡ Some (npdu.encoding f)
fits_octets f le =
    let low : nat_le (length (npdu.encoding f)) 1497 ≡ true = grind (arith, nat_tests) in
    rw low refl

-- a datagram of such an NPDU is within its length
unicast_len : (octets : List ℕ) → length (bvll.encoding (bvll.original_unicast octets)) ≡ length octets + 4
unicast_len octets = omega arith

cons_none : {A : Type 0} (x : A) (xs : List A) → x ∷ xs ≡ [] → ⊥
cons_none x xs e = cc

unicast_sent : (port : ℕ) (to : BipAddr) (f : Fields) → length (npdu.encoding f) ≤ 1497 → unicast port to f ≡ [] → ⊥
unicast_sent port to f le none =
    let low : nat_le (length (bvll.encoding (bvll.original_unicast (npdu.encoding f)))) 1507 ≡ true = le-leb _ 1507
    (omega (arith, le, unicast_len (npdu.encoding f))) in
    let some : unicast port to f ≡ sending port (bvll.encoding (bvll.original_unicast (npdu.encoding f))) to ∷ [] = rw
    (fits_octets f le, low) refl in
    absurd (cons_none _ _ (sym some ∙ none))

alone_sent : (network : ℕ) (m : Message) (x : List ℕ) → length x ≤ 3
    → length (npdu.header (reply_npdu network m.npdu (alone_answer []))) ≤ 522 → reply_sends network m (alone_answer x) ≡ [] → ⊥
alone_sent network m x few room none =
    let f : Fields = reply_npdu network m.npdu (alone_answer x) in
    let len = length-append (npdu.header f) x in
    unicast_sent m.here.port.number m.link f (omega (arith, len, few, room)) none

short_sent : (network : ℕ) (m : Message) (a : Answer) → IsShort a → length (npdu.header (reply_npdu network m.npdu (alone_answer []))) ≤ 522
    → reply_sends network m a ≡ [] → ⊥
short_sent network m a short room none =
    let same : ◌≡◌ {A = Answer} a (alone_answer a.apdu) = ap (λ (b : Bool). record { apdu = a.apdu; broadcast = b }) short.alone in
    alone_sent network m a.apdu short.few room (sym (ap (reply_sends network m) same) ∙ none)

none_answered : (network : ℕ) (m : Message) (due : Option Answer) → ((a : Answer) → due ≡ Some a → IsShort a)
    → length (npdu.header (reply_npdu network m.npdu (alone_answer []))) ≤ 522 → answer_sends network m due ≡ [] → due ≡ None
none_answered network m None short room none = refl
none_answered network m (Some a) short room none = absurd (short_sent network m a (short a refl) room none)

-- a message for the device that asks and sends nothing is not answered
pub silent_message : (rules : List Rule) (format : Format) (d : Database) (m : Message) (network : ℕ) (context : Context) (octets : List ℕ)
    → network ≡ device_network d → Some octets ≡ apdu_for network m.npdu → context ≡ context_of format network m → 1497 ≤ context.room + 522
    → message_asks rules format d m ≡ [] → message_sends rules format d m ≡ []
    → (device_asks rules d context octets ≡ []) × (device_answer rules d context octets ≡ None)
silent_message rules format d m network context octets its apdu wording least asks sends =
    let put : device_asks rules d context octets ≡ [] = sym (asks_put rules format d m network context octets its apdu wording) ∙ asks in
    let due = answer_put rules format d m network context octets its apdu wording in
    let room : 1497 ≤ max_reply_apdu network m.npdu + 522 = subst (λ (x : Context). 1497 ≤ x.room + 522) wording least in
    let header_fits : length (npdu.header (reply_npdu network m.npdu (alone_answer []))) ≤ 522 = omega (arith, room) in
    let sent : answer_sends network m (device_answer rules d context octets) ≡ [] =
    ap (λ (n : ℕ). answer_sends n m (device_answer rules d context octets)) its
    ∙ ap (answer_sends (device_network d) m) (sym due) ∙ sends in
    (put, none_answered network m (device_answer rules d context octets) (brief_device rules d context octets put).0 header_fits sent)

pub none_mapped : {A B : Type 0} (f : A → B) (o : Option A) → option_map f o ≡ None → o ≡ None
none_mapped f None e = refl
none_mapped f (Some x) e = absurd cc

-- ---- nothing is asked

-- of five lists that are nothing together, each is
pub five_empty : {A : Type 0} (a b c d e : List A) → a ++ b ++ c ++ d ++ e ≡ [] → (a ≡ []) × (b ≡ []) × (c ≡ []) × (d ≡ []) × (e ≡ [])
five_empty a b c d e none =
    let four = empty_left (a ++ b ++ c ++ d) e none in
    let three = empty_left (a ++ b ++ c) d four in
    let two = empty_left (a ++ b) c three in (
      empty_left a b two,
      empty_right a b two,
      empty_right (a ++ b) c three,
      empty_right (a ++ b ++ c) d four,
      empty_right
          (a ++ b ++ c ++ d) e none,
    )

-- what asks nothing writes nothing
unwritten_apdu : (rules : List Rule) (d : Database) (context : Context) (apdu : Option (List ℕ)) → apdu_asks rules d context apdu ≡ []
    → apdu_change rules d context apdu ≡ None
unwritten_apdu rules d context None none = refl
unwritten_apdu rules d context (Some octets) none = (brief_device rules d context octets none).1

pub unwritten : (rules : List Rule) (relay : Relay) (d : Database) (received : Received) → asks_for rules relay d received ≡ []
    → change_for rules relay.format d received ≡ None
unwritten rules relay d dropped none = refl
unwritten rules relay d (managed on from frame) none = refl
unwritten rules relay d (unregistered m) none = refl
unwritten rules relay d (barred m) none = refl
unwritten rules relay d (message m) none =
    let parts = five_empty (first_asks_for rules relay (message m)) (cast_asks_for relay (message m)) (route_asks_for relay (message m))
    (manage_asks_for relay (message m)) (message_asks rules relay.format d m) none in
    unwritten_apdu rules d (context_of relay.format (device_network d) m) (apdu_for (device_network d) m.npdu) parts.4

-- what asks nothing changes no table and no route
pub unchanged : (rules : List Rule) (relay : Relay) (d : Database) (received : Received) → asks_for rules relay d received ≡ []
    → relay_change_for rules relay received ≡ None
unchanged rules relay d dropped none = refl
unchanged rules relay d (managed on from frame) none =
    let parts = five_empty (first_asks_for rules relay (managed on from frame)) [] [] [] [] none in
    unasked_change rules relay.format on from frame parts.0
unchanged rules relay d (unregistered m) none = refl
unchanged rules relay d (barred m) none = refl
unchanged rules relay d (message m) none =
    let parts = five_empty (first_asks_for rules relay (message m)) (cast_asks_for relay (message m)) (route_asks_for relay (message m))
    (manage_asks_for relay (message m)) (message_asks rules relay.format d m) none in
    unasked_learning rules relay m parts.3

-- ---- a frame for a table that the port doesn't have is refused, and so isn't silent

refused_loud : (on : PortState) (from : BipAddr) (frame : Frame) (op : Operation) → management_of frame ≡ Some op
    → map (answer_to on.port from) (refused frame) ≡ [] → ⊥
refused_loud on from (bvll.result_code code) op is none = absurd cc
refused_loud on from (bvll.write_bdt entries) op is none = absurd cc
refused_loud on from bvll.read_bdt op is none = absurd cc
refused_loud on from (bvll.read_bdt_ack entries) op is none = absurd cc
refused_loud on from (bvll.forwarded originator octets) op is none = absurd cc
refused_loud on from (bvll.register time_to_live) op is none = absurd cc
refused_loud on from bvll.read_fdt op is none = absurd cc
refused_loud on from (bvll.read_fdt_ack entries) op is none = absurd cc
refused_loud on from (bvll.delete address) op is none = absurd cc
refused_loud on from (bvll.distribute octets) op is none = absurd cc
refused_loud on from (bvll.original_unicast octets) op is none = absurd cc
refused_loud on from (bvll.original_broadcast octets) op is none = absurd cc

placed_by : (rules : List Rule) (format : Format) (on : PortState) (from : BipAddr) (frame : Frame) (op : Option Operation)
    → management_of frame ≡ op → (b : Bool) → is_manager on.port ≡ b → link_answer rules format on from frame ≡ []
    → (is_some op && not b) ≡ false
placed_by rules format on from frame None is b e none = refl
placed_by rules format on from frame (Some op) is true e none = refl
placed_by rules format on from frame (Some op) is false e none =
    absurd (refused_loud on from frame op is (sym (misplaced_answer rules format on from frame op is e) ∙ none))

-- what asks and sends nothing of such a frame was for a table of the port
pub placed_silent : (rules : List Rule) (relay : Relay) (d : Database) (on : PortState) (from : BipAddr) (frame : Frame)
    → asks_for rules relay d (managed on from frame) ≡ [] → sends_for rules relay d (managed on from frame) ≡ []
    → (link_asks relay.format on.port from frame ≡ []) × (is_misplaced on.port frame ≡ false)
placed_silent rules relay d on from frame asks sends = (
  (five_empty (first_asks_for rules relay (managed on from frame)) [] [] [] [] asks).0,
  placed_by rules relay.format on from frame (management_of frame) refl (is_manager on.port) refl
      (five_empty (first_sends_for rules relay (managed on from frame)) [] [] [] [] sends).0,
)
