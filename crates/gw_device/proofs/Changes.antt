-- When a device makes a write, of what, and whose asks there are.
use Rattle.std.proofs.Common.{◌≡◌, sym, ap, refl, subst, ℕ, Bool, true, false, List, [], ◌∷◌, Option, Some, None, Result, Ok, Err, ◌∙◌}
use Rattle.std.specs.Prelude.{◌==◌, if◌then◌else◌, is_some}
use Rattle.std.specs.List.{AllByRecursion}
use Rattle.gw_codecs.specs.declared.apdu.fault.ApduFault.{ApduFault}
use Rattle.gw_codecs.specs.declared.apdu.header.ConfirmedRequest.{ConfirmedRequest}
use Rattle.gw_codecs.specs.declared.apdu.header.Header.{Header}
use Rattle.gw_codecs.specs.declared.apdu.header.Header.TheVariants as header
use Rattle.gw_codecs.specs.apdu.Apdu.{Fields as Apdu}
use Rattle.gw_codecs.specs.apdu.Reading.{apdu_at}
use Rattle.gw_objects.specs.declared.configured.Configured.{Configured}
use Rattle.gw_objects.specs.declared.fault.WriteFault.{WriteFault}
use Rattle.gw_objects.specs.declared.property.ObjectType.{ObjectType}
use Rattle.gw_objects.specs.declared.property.Property.{Property}
use Rattle.gw_objects.specs.declared.property.PropertySet.{PropertySet}
use Rattle.gw_objects.specs.Laws.{standing}
use Rattle.gw_objects.specs.Objects.{Database, Slots, place_of, type_at}
use Rattle.gw_objects.specs.Property.{properties}
use Rattle.gw_objects.specs.Write.{Write}
use Rattle.gw_objects.proofs.Others.{write_place}
use Rattle.gw_rules.specs.declared.operation.Operation.TheVariants as operations
use Rattle.gw_rules.specs.declared.rule.Rule.{Rule}
use Rattle.gw_rules.specs.Allowed.{NoneAllowed}
use Rattle.gw_rules.specs.Ask.{Ask, IsFor, IsFrom}
use Rattle.gw_rules.specs.RuleList.{allows}
use Rattle.gw_rules.proofs.EachAsk.{each_both}
use Rattle.gw_codecs.specs.declared.services.fault.BodyFault.{BodyFault}
use Rattle.gw_codecs.specs.services.Multi.{Reference, list_ends}
use Rattle.gw_codecs.specs.services.MultiReading.{multi_at}
use Rattle.gw_codecs.specs.services.Read.{read_at}
use Rattle.gw_codecs.specs.services.WhoHas.{who_has_at}
use Rattle.gw_codecs.specs.services.WhoIs.{who_is_at}
use Rattle.gw_codecs.specs.services.Limits.{priority_of}
use Rattle.gw_codecs.specs.services.Write.{Write as Request, write_at}
use Rattle.gw_codecs.specs.tags.Object.{Object}
use Rattle.gw_device.specs.declared.context.Context.{Context}
use Rattle.gw_device.specs.Asks.{named_object}
use Rattle.gw_device.specs.Device.{apdu_response, confirmed_response, device_response, header_response, or_reject, or_silence, service_response}
use Rattle.gw_device.specs.Errors.{write_denied}
use Rattle.gw_device.specs.Laws.{AsksHaveTheirSender, AsksHaveTheirSource, IsSentBy, ChangesAreAllowed, ChangesAreInPlace, ChangesRestOnRequests, apdu_writes, body_writes, header_writes}
use Rattle.gw_device.specs.Multi.{Part, members_part, multi_ask, multi_part, multi_response, named_part, properties_part, reference_part}
use Rattle.gw_device.specs.Read.{read_response}
use Rattle.gw_device.specs.Response.{Response}
use Rattle.gw_codecs.specs.services.Choices.{read_property, read_property_multiple, write_property, who_has, who_is}
use Rattle.gw_device.specs.Services.{set_of}
use Rattle.gw_device.specs.WhoHas.{object_response, sought_object, who_has_response}
use Rattle.gw_device.specs.WhoIs.{is_within, who_is_response}
use Rattle.gw_device.specs.Write.{change_of, or_error, write_ask, write_response}

-- ---- of what

-- a change is one of the object
abbrev Puts : Object → Configured → Response → Type 0
Puts o c due = (write : Write) → due.change ≡ Some write → place_of c o ≡ Some write.place

pub no_some : {A : Type 0} (x : A) → ◌≡◌ {A = Option A} None (Some x) → ⊥
no_some x e = cc

puts_if : (o : Object) (c : Configured) (b : Bool) (x y : Response) → Puts o c x → Puts o c y → Puts o c (if b then x else y)
puts_if o c true x y f g = f
puts_if o c false x y f g = g

puts_reject : {B : Type 0} (o : Object) (c : Configured) (invoke : ℕ) (respond : B → Response) (body : Result B BodyFault)
    → ((b : B) → body ≡ Ok b → Puts o c (respond b)) → Puts o c (or_reject invoke respond body)
puts_reject o c invoke respond (Ok b) each = each b refl
puts_reject o c invoke respond (Err fault) each = λ write e. absurd (no_some write e)

pub changed_by : (b : Bool) (due : Result Write WriteFault) (write : Write) → change_of (if b then or_error due else Err write_denied) ≡ Some write → due ≡ Ok write
changed_by true (Ok made) write e = ap (λ (w : Write). Ok w) (let is : made ≡ write = cc in is)
changed_by true (Err fault) write e = absurd (no_some write e)
changed_by false due write e = absurd (no_some write e)

puts_write : (o : Object) (rules : List Rule) (d : Database) (context : Context) (invoke : ℕ) (request : Request) → request.object ≡ o
    → Puts o d.configured (write_response rules d context invoke request)
puts_write o rules d context invoke request is write e =
    subst (λ (x : Object). place_of d.configured x ≡ Some write.place) is
    (write_place d.configured request.object request.property request.index (priority_of request.priority) request.value write
    (changed_by (allows rules (write_ask d context request)) _ write e))

written_is : (body : Result Request BodyFault) (o : Object) (request : Request) → body_writes body ≡ Some o → body ≡ Ok request → request.object ≡ o
written_is body o request names is =
    let some : Some request.object ≡ Some o = ap body_writes (sym is) ∙ names in cc

puts_service : (o : Object) (rules : List Rule) (d : Database) (context : Context) (request : ConfirmedRequest) (body : List ℕ)
    → body_writes (write_at body) ≡ Some o → Puts o d.configured (service_response rules d context request body)
puts_service o rules d context request body names =
    puts_if o d.configured (request.service == read_property) _ _
    (puts_reject o d.configured request.invoke (read_response rules d context request) (read_at body) (λ read is write e. absurd (no_some write e)))
    (puts_if o d.configured (request.service == read_property_multiple) _ _
    (puts_reject o d.configured request.invoke (multi_response rules d context request) (multi_at body) (λ rs is write e. absurd (no_some write e)))
    (puts_if o d.configured (request.service == write_property) _ _
    (puts_reject o d.configured request.invoke (write_response rules d context request.invoke) (write_at body)
    (λ asked is. puts_write o rules d context request.invoke asked (written_is (write_at body) o asked names is)))
    (λ write e. absurd (no_some write e))))

puts_header : (o : Object) (rules : List Rule) (d : Database) (context : Context) (by : Header) (body : List ℕ)
    → header_writes by body ≡ Some o → Puts o d.configured (header_response rules d context by body)
puts_header o rules d context (header.ConfirmedRequest request) body names = by (request.service == write_property) names
  where
    by : (b : Bool) → (if b then body_writes (write_at body) else None) ≡ Some o → Puts o d.configured (confirmed_response rules d context request body)
    by true names =
        puts_if o d.configured context.broadcast _ _ (λ write e. absurd (no_some write e))
        (puts_if o d.configured (is_some request.segment) _ _ (λ write e. absurd (no_some write e)) (puts_service o rules d context request body names))
    by false names = absurd (no_some o names)
puts_header o rules d context (header.UnconfirmedRequest service) body names = absurd (no_some o names)
puts_header o rules d context (header.SimpleAck invoke service) body names = absurd (no_some o names)
puts_header o rules d context (header.ComplexAck segment invoke service) body names = absurd (no_some o names)
puts_header o rules d context (header.SegmentAck invoke sequence window) body names = absurd (no_some o names)
puts_header o rules d context (header.Error invoke service) body names = absurd (no_some o names)
puts_header o rules d context (header.Reject invoke reason) body names = absurd (no_some o names)
puts_header o rules d context (header.Abort invoke reason) body names = absurd (no_some o names)

puts_apdu : (o : Object) (rules : List Rule) (d : Database) (context : Context) (x : Result Apdu ApduFault) → apdu_writes x ≡ Some o
    → Puts o d.configured (apdu_response rules d context x)
puts_apdu o rules d context (Ok x) names = puts_header o rules d context x.header x.rest names
puts_apdu o rules d context (Err fault) names = absurd (no_some o names)

puts_device : (o : Object) (rules : List Rule) (d : Database) (context : Context) (octets : List ℕ) → apdu_writes (apdu_at octets) ≡ Some o
    → Puts o d.configured (device_response rules d context octets)
puts_device o rules d context octets names = puts_apdu o rules d context (apdu_at octets) names

-- ---- on what it rests

-- the change never does
abbrev AlikeChange : Response → Response → Type 0
AlikeChange x y = x.change ≡ y.change

alike_if : (b : Bool) (x y v w : Response) → AlikeChange x v → AlikeChange y w → AlikeChange (if b then x else y) (if b then v else w)
alike_if true x y v w f g = f
alike_if false x y v w f g = g

alike_reject : {B : Type 0} (invoke : ℕ) (f g : B → Response) (body : Result B BodyFault) → ((b : B) → AlikeChange (f b) (g b))
    → AlikeChange (or_reject invoke f body) (or_reject invoke g body)
alike_reject invoke f g (Ok b) each = each b
alike_reject invoke f g (Err fault) each = refl

alike_service : (rules : List Rule) (c : Configured) (s t : List Slots) (context : Context) (request : ConfirmedRequest) (body : List ℕ)
    → AlikeChange (service_response rules (standing c s) context request body) (service_response rules (standing c t) context request body)
alike_service rules c s t context request body =
    alike_if (request.service == read_property) _ _ _ _
    (alike_reject request.invoke (read_response rules (standing c s) context request) (read_response rules (standing c t) context request) (read_at body) (λ read. refl))
    (alike_if (request.service == read_property_multiple) _ _ _ _
    (alike_reject request.invoke (multi_response rules (standing c s) context request) (multi_response rules (standing c t) context request) (multi_at body) (λ rs. refl))
    refl)

alike_header : (rules : List Rule) (c : Configured) (s t : List Slots) (context : Context) (by : Header) (body : List ℕ)
    → AlikeChange (header_response rules (standing c s) context by body) (header_response rules (standing c t) context by body)
alike_header rules c s t context (header.ConfirmedRequest request) body =
    alike_if context.broadcast _ _ _ _ refl (alike_if (is_some request.segment) _ _ _ _ refl (alike_service rules c s t context request body))
alike_header rules c s t context (header.UnconfirmedRequest service) body = refl
alike_header rules c s t context (header.SimpleAck invoke service) body = refl
alike_header rules c s t context (header.ComplexAck segment invoke service) body = refl
alike_header rules c s t context (header.SegmentAck invoke sequence window) body = refl
alike_header rules c s t context (header.Error invoke service) body = refl
alike_header rules c s t context (header.Reject invoke reason) body = refl
alike_header rules c s t context (header.Abort invoke reason) body = refl

alike_apdu : (rules : List Rule) (c : Configured) (s t : List Slots) (context : Context) (x : Result Apdu ApduFault)
    → AlikeChange (apdu_response rules (standing c s) context x) (apdu_response rules (standing c t) context x)
alike_apdu rules c s t context (Ok x) = alike_header rules c s t context x.header x.rest
alike_apdu rules c s t context (Err fault) = refl

-- ---- when

-- where no change is allowed there is none
abbrev Still : List Rule → Response → Type 0
Still rules due = NoneAllowed (IsFor operations.Write) rules due.asks → due.change ≡ None

still_if : (rules : List Rule) (b : Bool) (x y : Response) → Still rules x → Still rules y → Still rules (if b then x else y)
still_if rules true x y f g = f
still_if rules false x y f g = g

still_reject : {B : Type 0} (rules : List Rule) (invoke : ℕ) (respond : B → Response) (body : Result B BodyFault)
    → ((b : B) → Still rules (respond b)) → Still rules (or_reject invoke respond body)
still_reject rules invoke respond (Ok b) each = each b
still_reject rules invoke respond (Err fault) each = (λ h. refl)

still_silenced : {B : Type 0} (rules : List Rule) (respond : B → Response) (body : Result B BodyFault)
    → ((b : B) → Still rules (respond b)) → Still rules (or_silence respond body)
still_silenced rules respond (Ok b) each = each b
still_silenced rules respond (Err fault) each = (λ h. refl)

still_write : (rules : List Rule) (d : Database) (context : Context) (invoke : ℕ) (write : Request)
    → Still rules (write_response rules d context invoke write)
still_write rules d context invoke write h =
    let denied : allows rules (write_ask d context write) ≡ false = h.0 refl in
    rw denied refl

still_object : (rules : List Rule) (d : Database) (context : Context) (sought : Option Object)
    → Still rules (object_response rules d context sought)
still_object rules d context None = (λ h. refl)
still_object rules d context (Some object) = (λ h. refl)

still_service : (rules : List Rule) (d : Database) (context : Context) (request : ConfirmedRequest) (body : List ℕ)
    → Still rules (service_response rules d context request body)
still_service rules d context request body =
    still_if rules (request.service == read_property) _ _
    (still_reject rules request.invoke (read_response rules d context request) (read_at body) (λ read. (λ h. refl)))
    (still_if rules (request.service == read_property_multiple) _ _
    (still_reject rules request.invoke (multi_response rules d context request) (multi_at body) (λ rs. (λ h. refl)))
    (still_if rules (request.service == write_property) _ _
    (still_reject rules request.invoke (write_response rules d context request.invoke) (write_at body)
    (still_write rules d context request.invoke))
    ((λ h. refl))))

still_header : (rules : List Rule) (d : Database) (context : Context) (by : Header) (body : List ℕ)
    → Still rules (header_response rules d context by body)
still_header rules d context (header.ConfirmedRequest request) body =
    still_if rules context.broadcast _ _ ((λ h. refl))
    (still_if rules (is_some request.segment) _ _ ((λ h. refl)) (still_service rules d context request body))
still_header rules d context (header.UnconfirmedRequest service) body =
    still_if rules (service == who_has) _ _ (still_silenced rules (who_has_response rules d context) (who_has_at body)
    (λ request. still_if rules (is_within request.limits d.configured.device.instance) _ _
    (still_object rules d context (sought_object d.configured request.sought)) ((λ h. refl))))
    (still_if rules (service == who_is) _ _ (still_silenced rules (who_is_response rules d context) (who_is_at body)
    (λ request. still_if rules (is_within request.limits d.configured.device.instance) _ _ ((λ h. refl))
    ((λ h. refl))))
    ((λ h. refl)))
still_header rules d context (header.SimpleAck invoke service) body = (λ h. refl)
still_header rules d context (header.ComplexAck segment invoke service) body = (λ h. refl)
still_header rules d context (header.SegmentAck invoke sequence window) body = (λ h. refl)
still_header rules d context (header.Error invoke service) body = (λ h. refl)
still_header rules d context (header.Reject invoke reason) body = (λ h. refl)
still_header rules d context (header.Abort invoke reason) body = (λ h. refl)

still_apdu : (rules : List Rule) (d : Database) (context : Context) (apdu : Result Apdu ApduFault)
    → Still rules (apdu_response rules d context apdu)
still_apdu rules d context (Ok apdu) = still_header rules d context apdu.header apdu.rest
still_apdu rules d context (Err fault) = (λ h. refl)

still_device : (rules : List Rule) (d : Database) (context : Context) (octets : List ℕ)
    → Still rules (device_response rules d context octets)
still_device rules d context octets = still_apdu rules d context (apdu_at octets)

-- ---- whose asks

-- an ask that says what the context says
record Tells (context : Context) (ask : Ask) : Type 0 where
  source : IsFrom context.source_network context.source_key ask
  sender : IsSentBy context.sender ask

-- each ask does
abbrev FromIt : Context → List Ask → Type 0
FromIt context asks = AllByRecursion (Tells context) asks

said : (context : Context) (ask : Ask) → ask.source_network ≡ Some context.source_network → ask.source_key ≡ context.source_key
    → ask.sender ≡ context.sender → ask.station ≡ None → Tells context ask
said context ask net key sender station =
    record { source = record { source_network = net; source_key = key }; sender = record { sender = sender; station = station } }

from_if : (context : Context) (b : Bool) (x y : Response) → FromIt context x.asks → FromIt context y.asks → FromIt context (if b then x else y).asks
from_if context true x y f g = f
from_if context false x y f g = g

from_reject : {B : Type 0} (context : Context) (invoke : ℕ) (respond : B → Response) (body : Result B BodyFault) → ((b : B) → FromIt context (respond b).asks)
    → FromIt context (or_reject invoke respond body).asks
from_reject context invoke respond (Ok b) each = each b
from_reject context invoke respond (Err fault) each = tt

from_silenced : {B : Type 0} (context : Context) (respond : B → Response) (body : Result B BodyFault) → ((b : B) → FromIt context (respond b).asks)
    → FromIt context (or_silence respond body).asks
from_silenced context respond (Ok b) each = each b
from_silenced context respond (Err fault) each = tt

from_properties : (rules : List Rule) (d : Database) (context : Context) (object : Object) (ps : List Property) → FromIt context (properties_part rules d context object ps).asks
from_properties rules d context object [] = tt
from_properties rules d context object (p ∷ ps) = (said context _ refl refl refl refl, from_properties rules d context object ps)

from_members : (rules : List Rule) (d : Database) (context : Context) (object : Object) (p : ℕ) (set : PropertySet) (kind : Option ObjectType)
    → FromIt context (members_part rules d context object p set kind).asks
from_members rules d context object p set None = tt
from_members rules d context object p set (Some kind) = from_properties rules d context object (properties kind set)

from_part_if : (context : Context) (b : Bool) (x y : Part) → FromIt context x.asks → FromIt context y.asks → FromIt context (if b then x else y).asks
from_part_if context true x y f g = f
from_part_if context false x y f g = g

from_named : (rules : List Rule) (d : Database) (context : Context) (object : Object) (p : ℕ) (index : Option ℕ) (set : Option PropertySet)
    → FromIt context (named_part rules d context object p index set).asks
from_named rules d context object p index None = (said context _ refl refl refl refl, tt)
from_named rules d context object p index (Some set) =
    from_part_if context (allows rules (multi_ask d context object p)) _ _
    (said context _ refl refl refl refl, from_members rules d context object p set (type_at d.configured object)) (said context _ refl refl refl refl, tt)

from_multi : (rules : List Rule) (d : Database) (context : Context) (rs : List Reference) → FromIt context (multi_part rules d context rs).asks
from_multi rules d context [] = tt
from_multi rules d context (r ∷ rs) =
    each_both (Tells context) (reference_part rules d context r (list_ends rs)).asks (multi_part rules d context rs).asks
    (from_named rules d context (named_object d.configured r.object) r.property r.index (set_of r.property))
    (from_multi rules d context rs)

from_service : (rules : List Rule) (d : Database) (context : Context) (request : ConfirmedRequest) (body : List ℕ)
    → FromIt context (service_response rules d context request body).asks
from_service rules d context request body =
    from_if context (request.service == read_property) _ _
    (from_reject context request.invoke (read_response rules d context request) (read_at body) (λ read. (said context _ refl refl refl refl, tt)))
    (from_if context (request.service == read_property_multiple) _ _
    (from_reject context request.invoke (multi_response rules d context request) (multi_at body) (from_multi rules d context))
    (from_if context (request.service == write_property) _ _
    (from_reject context request.invoke (write_response rules d context request.invoke) (write_at body) (λ write. (said context _ refl refl refl refl, tt))) tt))

from_object : (rules : List Rule) (d : Database) (context : Context) (sought : Option Object) → FromIt context (object_response rules d context sought).asks
from_object rules d context None = tt
from_object rules d context (Some object) = (said context _ refl refl refl refl, tt)

from_header : (rules : List Rule) (d : Database) (context : Context) (by : Header) (body : List ℕ) → FromIt context (header_response rules d context by body).asks
from_header rules d context (header.ConfirmedRequest request) body =
    from_if context context.broadcast _ _ tt (from_if context (is_some request.segment) _ _ tt (from_service rules d context request body))
from_header rules d context (header.UnconfirmedRequest service) body =
    from_if context (service == who_has) _ _ (from_silenced context (who_has_response rules d context) (who_has_at body)
    (λ request. from_if context (is_within request.limits d.configured.device.instance) _ _
    (from_object rules d context (sought_object d.configured request.sought)) tt))
    (from_if context (service == who_is) _ _ (from_silenced context (who_is_response rules d context) (who_is_at body)
    (λ request. from_if context (is_within request.limits d.configured.device.instance) _ _ (said context _ refl refl refl refl, tt) tt)) tt)
from_header rules d context (header.SimpleAck invoke service) body = tt
from_header rules d context (header.ComplexAck segment invoke service) body = tt
from_header rules d context (header.SegmentAck invoke sequence window) body = tt
from_header rules d context (header.Error invoke service) body = tt
from_header rules d context (header.Reject invoke reason) body = tt
from_header rules d context (header.Abort invoke reason) body = tt

from_apdu : (rules : List Rule) (d : Database) (context : Context) (x : Result Apdu ApduFault) → FromIt context (apdu_response rules d context x).asks
from_apdu rules d context (Ok x) = from_header rules d context x.header x.rest
from_apdu rules d context (Err fault) = tt

sources : (context : Context) (asks : List Ask) → FromIt context asks → AllByRecursion (IsFrom context.source_network context.source_key) asks
sources context [] _ = tt
sources context (ask ∷ asks) announcement_of = (announcement_of.0.source, sources context asks announcement_of.1)

senders : (context : Context) (asks : List Ask) → FromIt context asks → AllByRecursion (IsSentBy context.sender) asks
senders context [] _ = tt
senders context (ask ∷ asks) announcement_of = (announcement_of.0.sender, senders context asks announcement_of.1)

-- ---- the laws

pub changes_rest_on_requests : ChangesRestOnRequests
changes_rest_on_requests rules c s t context octets = alike_apdu rules c s t context (apdu_at octets)

pub changes_are_in_place : ChangesAreInPlace
changes_are_in_place rules d context octets o names = puts_device o rules d context octets names

pub changes_are_allowed : ChangesAreAllowed
changes_are_allowed rules d context octets h = still_device rules d context octets h

pub asks_have_their_source : AsksHaveTheirSource
asks_have_their_source rules d context octets = sources context _ (from_apdu rules d context (apdu_at octets))

pub asks_have_their_sender : AsksHaveTheirSender
asks_have_their_sender rules d context octets = senders context _ (from_apdu rules d context (apdu_at octets))
