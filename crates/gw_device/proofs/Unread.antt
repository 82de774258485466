-- What the device does doesn't rest on an object that nobody may read.
use Rattle.std.proofs.Common.{◌≡◌, ◌≢◌, ℕ, Bool, true, false, List, [], ◌∷◌, Option, Some, None, Result, Ok, Err, refl, ap, ◌∙◌}
use Rattle.std.specs.Prelude.{◌==◌, if◌then◌else◌, is_some}
use Rattle.gw_addr.specs.Reading.{◌>>=◌}
use Rattle.gw_codecs.specs.declared.apdu.fault.ApduFault.{ApduFault}
use Rattle.gw_codecs.specs.declared.apdu.header.ConfirmedRequest.{ConfirmedRequest}
use Rattle.gw_codecs.specs.declared.apdu.header.Header.{Header}
use Rattle.gw_codecs.specs.declared.apdu.header.Header.TheVariants as header
use Rattle.gw_codecs.specs.declared.apdu.writing.ServiceError.{ServiceError}
use Rattle.gw_codecs.specs.apdu.Apdu.{Fields}
use Rattle.gw_codecs.specs.apdu.Reading.{apdu_at}
use Rattle.gw_objects.specs.declared.configured.Configured.{Configured}
use Rattle.gw_objects.specs.declared.configured.ConfiguredObject.{ConfiguredObject}
use Rattle.gw_objects.specs.declared.fault.ReadFault.{ReadFault}
use Rattle.gw_objects.specs.declared.property.ObjectType.{ObjectType}
use Rattle.gw_objects.specs.declared.property.ObjectType.TheVariants as types
use Rattle.gw_objects.specs.declared.property.Property.{Property}
use Rattle.gw_objects.specs.declared.property.PropertySet.{PropertySet}
use Rattle.gw_objects.specs.Contents.{octets_of}
use Rattle.gw_objects.specs.Laws.{standing}
use Rattle.gw_objects.specs.Objects.{Slots, device_id, same, type_at, type_of}
use Rattle.gw_objects.specs.Property.{properties, property_number}
use Rattle.gw_objects.specs.Table.{device_line, known_line, object_line, read_of}
use Rattle.gw_rules.specs.declared.operation.Operation.TheVariants as operation
use Rattle.gw_rules.specs.declared.rule.Rule.{Rule}
use Rattle.gw_rules.specs.declared.service.Service.{Service}
use Rattle.gw_rules.specs.declared.service.Service.TheVariants.{Confirmed}
use Rattle.gw_rules.specs.Ask.{Ask}
use Rattle.gw_rules.specs.RuleList.{allows}
use Rattle.gw_rules.proofs.EachAsk.{none_front, none_rest}
use Rattle.gw_codecs.specs.declared.services.fault.BodyFault.{BodyFault}
use Rattle.gw_codecs.specs.services.Multi.{Reference, list_ends}
use Rattle.gw_codecs.specs.services.MultiReading.{multi_at}
use Rattle.gw_codecs.specs.services.Read.{Read, read_at}
use Rattle.gw_codecs.specs.tags.Object.{Object}
use Rattle.gw_device.specs.declared.context.Context.{Context}
use Rattle.gw_device.specs.Asks.{named_object, property_ask}
use Rattle.gw_device.specs.Device.{apdu_response, confirmed_response, device_asks, device_response, header_response, or_reject, service_response}
use Rattle.gw_device.specs.Errors.{read_denied}
use Rattle.gw_device.specs.Laws.{AsksToRead, DifferIn, NoReadAllowed}
use Rattle.gw_device.specs.Multi.{Part, asked, enclosed, item, joined, members_part, multi_ack, multi_ask, multi_part, multi_response, named_part, properties_part, property_part, reference_part, set_part}
use Rattle.gw_device.specs.Read.{named_read, or_error, read_answer, read_ask, read_response, read_value}
use Rattle.gw_device.specs.Response.{Response, fitted, to_client, unchanged}
use Rattle.gw_codecs.specs.services.Choices.{read_property, read_property_multiple}
use Rattle.gw_device.specs.Services.{set_of}

-- what another object reads as
read_other : (o : Object) (c : Configured) (s t : List Slots) (other : Object) (p : ℕ) (index : Option ℕ) → DifferIn o c s t → other ≢ o → read_of (standing c s) other p index ≡ read_of (standing c t) other p index
unfolding read_of
read_other o c s t other p index differ apart =
    ap (λ (found : Result (ConfiguredObject × Slots) ReadFault). (if same other (device_id c.device) then known_line types.Device (device_line c) p else (found >>= λ x. known_line (type_of x.0.details) (object_line x.0 x.1) p)) >>= λ contents. octets_of contents index) (differ other apart)

-- an ask for a property of the object is an ask to read it
asks_it : (o : Object) (service : Service) (c : Configured) (context : Context) (object : Object) (p : ℕ) → object ≡ o → AsksToRead o (property_ask operation.Read service c context object p)
asks_it o service c context object p e = record {
  operation = refl;
  kind = ap (λ (x : Object). Some x.kind) e;
  instance = ap (λ (x : Object). Some x.instance) e;
}

value_by : (b : Bool) (v w : Result (List ℕ) ReadFault) → (b ≡ true → v ≡ w) → (if b then or_error v else Err read_denied) ≡ (if b then or_error w else Err read_denied)
value_by true v w h = ap or_error (h refl)
value_by false v w h = refl

apart_where_allowed : (b : Bool) (o object : Object) → b ≡ true → (object ≡ o → b ≡ false) → object ≢ o
apart_where_allowed b o object allowed denied e = let is = denied e in cc

-- what a read gives
value_same : (rules : List Rule) (o : Object) (c : Configured) (s t : List Slots) (service : Service) (context : Context) (object : Object) (p : ℕ) (index : Option ℕ) → DifferIn o c s t
    → (AsksToRead o (property_ask operation.Read service c context object p) → allows rules (property_ask operation.Read service c context object p) ≡ false)
    → read_value rules (standing c s) (property_ask operation.Read service c context object p) object p index ≡ read_value rules (standing c t) (property_ask operation.Read service c context object p) object p index
value_same rules o c s t service context object p index differ denied =
    let ask = property_ask operation.Read service c context object p in
    value_by (allows rules ask) (read_of (standing c s) object p index) (read_of (standing c t) object p index)
    (λ allowed. read_other o c s t object p index differ (apart_where_allowed (allows rules ask) o object allowed (λ e. denied (asks_it o service c context object p e))))

-- ---- ReadPropertyMultiple

abbrev with_value : Ask → ℕ → Option ℕ → Result (List ℕ) ServiceError → Part
with_value ask p index value = record { asks = ask ∷ []; octets = item p index value }

both : (a b x y : Part) → a ≡ b → x ≡ y → joined a x ≡ joined b y
both a b x y e f = ap (λ part. joined part x) e ∙ ap (λ part. joined b part) f

property_same : (rules : List Rule) (o : Object) (c : Configured) (s t : List Slots) (context : Context) (object : Object) (p : ℕ) (index : Option ℕ) → DifferIn o c s t
    → NoReadAllowed rules o (property_part rules (standing c s) context object p index).asks
    → property_part rules (standing c s) context object p index ≡ property_part rules (standing c t) context object p index
property_same rules o c s t context object p index differ h =
    ap (with_value (multi_ask (standing c s) context object p) p index) (value_same rules o c s t (Confirmed read_property_multiple) context object p index differ h.0)

properties_same : (rules : List Rule) (o : Object) (c : Configured) (s t : List Slots) (context : Context) (object : Object) (ps : List Property) → DifferIn o c s t
    → NoReadAllowed rules o (properties_part rules (standing c s) context object ps).asks
    → properties_part rules (standing c s) context object ps ≡ properties_part rules (standing c t) context object ps
properties_same rules o c s t context object [] differ h = refl
properties_same rules o c s t context object (p ∷ ps) differ h =
    both _ _ _ _ (property_same rules o c s t context object (property_number p) None differ (h.0, tt)) (properties_same rules o c s t context object ps differ h.1)

members_same : (rules : List Rule) (o : Object) (c : Configured) (s t : List Slots) (context : Context) (object : Object) (p : ℕ) (set : PropertySet) (found : Option ObjectType) → DifferIn o c s t
    → NoReadAllowed rules o (members_part rules (standing c s) context object p set found).asks
    → members_part rules (standing c s) context object p set found ≡ members_part rules (standing c t) context object p set found
members_same rules o c s t context object p set None differ h = refl
members_same rules o c s t context object p set (Some kind) differ h = properties_same rules o c s t context object (properties kind set) differ h

part_if : (rules : List Rule) (o : Object) (b : Bool) (x y z : Part) → (NoReadAllowed rules o x.asks → x ≡ y) → NoReadAllowed rules o (if b then x else z).asks → (if b then x else z) ≡ (if b then y else z)
part_if rules o true x y z f h = f h
part_if rules o false x y z f h = refl

set_same : (rules : List Rule) (o : Object) (c : Configured) (s t : List Slots) (context : Context) (object : Object) (p : ℕ) (set : PropertySet) → DifferIn o c s t
    → NoReadAllowed rules o (set_part rules (standing c s) context object p set).asks
    → set_part rules (standing c s) context object p set ≡ set_part rules (standing c t) context object p set
set_same rules o c s t context object p set differ =
    part_if rules o (allows rules (multi_ask (standing c s) context object p)) _ _ _
    (λ h. ap (joined (asked (multi_ask (standing c s) context object p))) (members_same rules o c s t context object p set (type_at c object) differ h.1))

named_same : (rules : List Rule) (o : Object) (c : Configured) (s t : List Slots) (context : Context) (object : Object) (p : ℕ) (index : Option ℕ) (set : Option PropertySet) → DifferIn o c s t
    → NoReadAllowed rules o (named_part rules (standing c s) context object p index set).asks
    → named_part rules (standing c s) context object p index set ≡ named_part rules (standing c t) context object p index set
named_same rules o c s t context object p index None differ h = property_same rules o c s t context object p index differ h
named_same rules o c s t context object p index (Some set) differ h = set_same rules o c s t context object p set differ h

reference_same : (rules : List Rule) (o : Object) (c : Configured) (s t : List Slots) (context : Context) (r : Reference) (ends : Bool) → DifferIn o c s t
    → NoReadAllowed rules o (reference_part rules (standing c s) context r ends).asks
    → reference_part rules (standing c s) context r ends ≡ reference_part rules (standing c t) context r ends
reference_same rules o c s t context r ends differ h =
    ap (enclosed r.begins (named_object c r.object) ends) (named_same rules o c s t context (named_object c r.object) r.property r.index (set_of r.property) differ h)

multi_same : (rules : List Rule) (o : Object) (c : Configured) (s t : List Slots) (context : Context) (rs : List Reference) → DifferIn o c s t
    → NoReadAllowed rules o (multi_part rules (standing c s) context rs).asks
    → multi_part rules (standing c s) context rs ≡ multi_part rules (standing c t) context rs
multi_same rules o c s t context [] differ h = refl
multi_same rules o c s t context (r ∷ rs) differ h =
    let first = (reference_part rules (standing c s) context r (list_ends rs)).asks in
    let others = (multi_part rules (standing c s) context rs).asks in
    both _ _ _ _ (reference_same rules o c s t context r (list_ends rs) differ (none_front (AsksToRead o) rules first others h)) (multi_same rules o c s t context rs differ (none_rest (AsksToRead o) rules first others h))

-- ---- whole responses

abbrev multi_of : ConfirmedRequest → Context → Part → Response
multi_of request context part = unchanged part.asks (to_client (fitted request context (multi_ack request.invoke part.octets)))

multi_response_same : (rules : List Rule) (o : Object) (c : Configured) (s t : List Slots) (context : Context) (request : ConfirmedRequest) (rs : List Reference) → DifferIn o c s t
    → NoReadAllowed rules o (multi_response rules (standing c s) context request rs).asks
    → multi_response rules (standing c s) context request rs ≡ multi_response rules (standing c t) context request rs
multi_response_same rules o c s t context request rs differ h = ap (multi_of request context) (multi_same rules o c s t context rs differ h)

abbrev read_with : ConfirmedRequest → Context → Read → Ask → Result (List ℕ) ServiceError → Response
read_with request context read ask value = unchanged (ask ∷ []) (to_client (read_answer request context read value))

read_response_same : (rules : List Rule) (o : Object) (c : Configured) (s t : List Slots) (context : Context) (request : ConfirmedRequest) (read : Read) → DifferIn o c s t
    → NoReadAllowed rules o (read_response rules (standing c s) context request read).asks
    → read_response rules (standing c s) context request read ≡ read_response rules (standing c t) context request read
read_response_same rules o c s t context request read differ h =
    let named = named_read (standing c s) read in
    ap (read_with request context named (read_ask (standing c s) context named)) (value_same rules o c s t (Confirmed read_property) context named.object named.property named.index differ h.0)

or_reject_same : {B : Type 0} (rules : List Rule) (o : Object) (invoke : ℕ) (f g : B → Response) (body : Result B BodyFault) → ((b : B) → NoReadAllowed rules o (f b).asks → f b ≡ g b)
    → NoReadAllowed rules o (or_reject invoke f body).asks → or_reject invoke f body ≡ or_reject invoke g body
or_reject_same rules o invoke f g (Ok b) each h = each b h
or_reject_same rules o invoke f g (Err fault) each h = refl

response_if : (rules : List Rule) (o : Object) (b : Bool) (x y v w : Response) → (NoReadAllowed rules o x.asks → x ≡ v) → (NoReadAllowed rules o y.asks → y ≡ w)
    → NoReadAllowed rules o (if b then x else y).asks → (if b then x else y) ≡ (if b then v else w)
response_if rules o true x y v w f g h = f h
response_if rules o false x y v w f g h = g h

service_same : (rules : List Rule) (o : Object) (c : Configured) (s t : List Slots) (context : Context) (request : ConfirmedRequest) (body : List ℕ) → DifferIn o c s t
    → NoReadAllowed rules o (service_response rules (standing c s) context request body).asks
    → service_response rules (standing c s) context request body ≡ service_response rules (standing c t) context request body
service_same rules o c s t context request body differ =
    response_if rules o (request.service == read_property) _ _ _ _
    (or_reject_same rules o request.invoke _ _ (read_at body) (λ read. read_response_same rules o c s t context request read differ))
    (response_if rules o (request.service == read_property_multiple) _ _ _ _
    (or_reject_same rules o request.invoke _ _ (multi_at body) (λ rs. multi_response_same rules o c s t context request rs differ))
    (λ h. refl))

confirmed_same : (rules : List Rule) (o : Object) (c : Configured) (s t : List Slots) (context : Context) (request : ConfirmedRequest) (body : List ℕ) → DifferIn o c s t
    → NoReadAllowed rules o (confirmed_response rules (standing c s) context request body).asks
    → confirmed_response rules (standing c s) context request body ≡ confirmed_response rules (standing c t) context request body
confirmed_same rules o c s t context request body differ =
    response_if rules o context.broadcast _ _ _ _ (λ h. refl)
    (response_if rules o (is_some request.segment) _ _ _ _ (λ h. refl) (service_same rules o c s t context request body differ))

header_same : (rules : List Rule) (o : Object) (c : Configured) (s t : List Slots) (context : Context) (by : Header) (body : List ℕ) → DifferIn o c s t
    → NoReadAllowed rules o (header_response rules (standing c s) context by body).asks
    → header_response rules (standing c s) context by body ≡ header_response rules (standing c t) context by body
header_same rules o c s t context (header.ConfirmedRequest request) body differ h = confirmed_same rules o c s t context request body differ h
header_same rules o c s t context (header.UnconfirmedRequest service) body differ h = refl
header_same rules o c s t context (header.SimpleAck invoke service) body differ h = refl
header_same rules o c s t context (header.ComplexAck segment invoke service) body differ h = refl
header_same rules o c s t context (header.SegmentAck invoke sequence window) body differ h = refl
header_same rules o c s t context (header.Error invoke service) body differ h = refl
header_same rules o c s t context (header.Reject invoke reason) body differ h = refl
header_same rules o c s t context (header.Abort invoke reason) body differ h = refl

apdu_same : (rules : List Rule) (o : Object) (c : Configured) (s t : List Slots) (context : Context) (apdu : Result Fields ApduFault) → DifferIn o c s t
    → NoReadAllowed rules o (apdu_response rules (standing c s) context apdu).asks
    → apdu_response rules (standing c s) context apdu ≡ apdu_response rules (standing c t) context apdu
apdu_same rules o c s t context (Ok apdu) differ h = header_same rules o c s t context apdu.header apdu.rest differ h
apdu_same rules o c s t context (Err fault) differ h = refl

pub unread : (rules : List Rule) (c : Configured) (s t : List Slots) (o : Object) (context : Context) (octets : List ℕ) → DifferIn o c s t
    → NoReadAllowed rules o (device_asks rules (standing c s) context octets)
    → device_response rules (standing c s) context octets ≡ device_response rules (standing c t) context octets
unread rules c s t o context octets differ h = apdu_same rules o c s t context (apdu_at octets) differ h
