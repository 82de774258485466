-- What holds of each ask of the device, by its operation.
use Rattle.std.proofs.Common.{◌≡◌, refl, ℕ, Bool, true, false, List, [], ◌∷◌, Option, Some, None, Result, Ok, Err}
use Rattle.std.specs.Prelude.{◌==◌, if◌then◌else◌, is_some}
use Rattle.std.specs.List.{AllByRecursion}
use Rattle.gw_codecs.specs.declared.apdu.fault.ApduFault.{ApduFault}
use Rattle.gw_codecs.specs.declared.apdu.header.ConfirmedRequest.{ConfirmedRequest}
use Rattle.gw_codecs.specs.declared.apdu.header.Header.{Header}
use Rattle.gw_codecs.specs.declared.apdu.header.Header.TheVariants as header
use Rattle.gw_codecs.specs.apdu.Apdu.{Fields as Apdu}
use Rattle.gw_codecs.specs.apdu.Reading.{apdu_at}
use Rattle.gw_device.specs.declared.context.Context.{Context}
use Rattle.gw_device.specs.Asks.{named_object, property_ask}
use Rattle.gw_device.specs.Device.{apdu_response, device_asks, header_response, or_reject, or_silence, service_response}
use Rattle.gw_device.specs.Multi.{Part, members_part, multi_ask, multi_part, multi_response, named_part, properties_part, reference_part}
use Rattle.gw_device.specs.Read.{read_response}
use Rattle.gw_device.specs.Response.{Response}
use Rattle.gw_device.specs.Services.{set_of}
use Rattle.gw_device.specs.WhoHas.{object_response, sought_object, who_has_response}
use Rattle.gw_device.specs.WhoIs.{is_within, who_is_response}
use Rattle.gw_device.specs.Write.{write_ask, write_response}
use Rattle.gw_objects.specs.declared.property.ObjectType.{ObjectType}
use Rattle.gw_objects.specs.declared.property.Property.{Property}
use Rattle.gw_objects.specs.declared.property.PropertySet.{PropertySet}
use Rattle.gw_objects.specs.declared.property.Property.TheVariants.{ObjectIdentifier, ObjectName}
use Rattle.gw_objects.specs.Objects.{Database, device_id, type_at}
use Rattle.gw_objects.specs.Property.{properties, property_number}
use Rattle.gw_rules.specs.declared.operation.Operation.TheVariants as operations
use Rattle.gw_rules.specs.declared.rule.Rule.{Rule}
use Rattle.gw_rules.specs.declared.service.Service.{Service}
use Rattle.gw_rules.specs.declared.service.Service.TheVariants.{Confirmed, Unconfirmed}
use Rattle.gw_rules.specs.Ask.{Ask}
use Rattle.gw_rules.specs.RuleList.{allows}
use Rattle.gw_rules.proofs.EachAsk.{each_both}
use Rattle.gw_codecs.specs.services.Choices.{read_property, read_property_multiple, write_property, who_has, who_is}
use Rattle.gw_codecs.specs.declared.services.fault.BodyFault.{BodyFault}
use Rattle.gw_codecs.specs.services.Multi.{Reference, list_ends}
use Rattle.gw_codecs.specs.services.MultiReading.{multi_at}
use Rattle.gw_codecs.specs.services.Read.{read_at}
use Rattle.gw_codecs.specs.services.WhoHas.{who_has_at}
use Rattle.gw_codecs.specs.services.WhoIs.{who_is_at}
use Rattle.gw_codecs.specs.services.Write.{Write, write_at}
use Rattle.gw_codecs.specs.tags.Object.{Object}

-- such are the asks to read a property, and those to write one
pub record ReadsAndWrites (P : Ask → Type 0) (d : Database) (context : Context) : Type 0 where
  pub reads : (service : Service) (object : Object) (p : ℕ) → P (property_ask operations.Read service d.configured context object p)
  pub writes : (write : Write) → P (write_ask d context write)

-- and those to list an object
abbrev pub Lists : (Ask → Type 0) → Database → Context → Type 0
Lists P d context = (service : Service) (object : Object) (p : ℕ) → P (property_ask operations.List service d.configured context object p)

each_if : (P : Ask → Type 0) (b : Bool) (x y : Response) → AllByRecursion P x.asks → AllByRecursion P y.asks
    → AllByRecursion P (if b then x else y).asks
each_if P true x y f g = f
each_if P false x y f g = g

each_reject : {B : Type 0} (P : Ask → Type 0) (invoke : ℕ) (respond : B → Response) (body : Result B BodyFault)
    → ((b : B) → AllByRecursion P (respond b).asks) → AllByRecursion P (or_reject invoke respond body).asks
each_reject P invoke respond (Ok b) each = each b
each_reject P invoke respond (Err fault) each = tt

each_silenced : {B : Type 0} (P : Ask → Type 0) (respond : B → Response) (body : Result B BodyFault)
    → ((b : B) → AllByRecursion P (respond b).asks) → AllByRecursion P (or_silence respond body).asks
each_silenced P respond (Ok b) each = each b
each_silenced P respond (Err fault) each = tt

each_property : (P : Ask → Type 0) (rules : List Rule) (d : Database) (context : Context) → ReadsAndWrites P d context → (object : Object)
    (ps : List Property) → AllByRecursion P (properties_part rules d context object ps).asks
each_property P rules d context such object [] = tt
each_property P rules d context such object (p ∷ ps) = (such.reads (Confirmed read_property_multiple) object (property_number p), each_property P rules d context such object ps)

each_member : (P : Ask → Type 0) (rules : List Rule) (d : Database) (context : Context) → ReadsAndWrites P d context → (object : Object) (p : ℕ)
    (set : PropertySet) (kind : Option ObjectType) → AllByRecursion P (members_part rules d context object p set kind).asks
each_member P rules d context such object p set None = tt
each_member P rules d context such object p set (Some kind) = each_property P rules d context such object (properties kind set)

each_part_if : (P : Ask → Type 0) (b : Bool) (x y : Part) → AllByRecursion P x.asks → AllByRecursion P y.asks
    → AllByRecursion P (if b then x else y).asks
each_part_if P true x y f g = f
each_part_if P false x y f g = g

each_named : (P : Ask → Type 0) (rules : List Rule) (d : Database) (context : Context) → ReadsAndWrites P d context → (object : Object) (p : ℕ)
    (index : Option ℕ) (set : Option PropertySet) → AllByRecursion P (named_part rules d context object p index set).asks
each_named P rules d context such object p index None = (such.reads (Confirmed read_property_multiple) object p, tt)
each_named P rules d context such object p index (Some set) =
    each_part_if P (allows rules (multi_ask d context object p)) _ _
    (such.reads (Confirmed read_property_multiple) object p, each_member P rules d context such object p set (type_at d.configured object)) (such.reads (Confirmed read_property_multiple) object p, tt)

each_multi : (P : Ask → Type 0) (rules : List Rule) (d : Database) (context : Context) → ReadsAndWrites P d context → (rs : List Reference)
    → AllByRecursion P (multi_part rules d context rs).asks
each_multi P rules d context such [] = tt
each_multi P rules d context such (r ∷ rs) =
    each_both P (reference_part rules d context r (list_ends rs)).asks (multi_part rules d context rs).asks
    (each_named P rules d context such (named_object d.configured r.object) r.property r.index (set_of r.property))
    (each_multi P rules d context such rs)

-- each ask of a confirmed request
pub each_service : (P : Ask → Type 0) (rules : List Rule) (d : Database) (context : Context) → ReadsAndWrites P d context
    → (request : ConfirmedRequest) (body : List ℕ) → AllByRecursion P (service_response rules d context request body).asks
each_service P rules d context such request body =
    each_if P (request.service == read_property) _ _
    (each_reject P request.invoke (read_response rules d context request) (read_at body) (λ read. (such.reads (Confirmed read_property) (named_object d.configured read.object) read.property, tt)))
    (each_if P (request.service == read_property_multiple) _ _
    (each_reject P request.invoke (multi_response rules d context request) (multi_at body) (each_multi P rules d context such))
    (each_if P (request.service == write_property) _ _
    (each_reject P request.invoke (write_response rules d context request.invoke) (write_at body) (λ write. (such.writes write, tt))) tt))

each_object : (P : Ask → Type 0) (rules : List Rule) (d : Database) (context : Context) → Lists P d context → (sought : Option Object)
    → AllByRecursion P (object_response rules d context sought).asks
each_object P rules d context lists None = tt
each_object P rules d context lists (Some object) = (lists (Unconfirmed who_has) object (property_number ObjectName), tt)

each_header : (P : Ask → Type 0) (rules : List Rule) (d : Database) (context : Context) → ReadsAndWrites P d context → Lists P d context
    → (by : Header) (body : List ℕ) → AllByRecursion P (header_response rules d context by body).asks
each_header P rules d context such lists (header.ConfirmedRequest request) body =
    each_if P context.broadcast _ _ tt (each_if P (is_some request.segment) _ _ tt (each_service P rules d context such request body))
each_header P rules d context such lists (header.UnconfirmedRequest service) body =
    each_if P (service == who_has) _ _ (each_silenced P (who_has_response rules d context) (who_has_at body)
    (λ request. each_if P (is_within request.limits d.configured.device.instance) _ _
    (each_object P rules d context lists (sought_object d.configured request.sought)) tt))
    (each_if P (service == who_is) _ _ (each_silenced P (who_is_response rules d context) (who_is_at body)
    (λ request. each_if P (is_within request.limits d.configured.device.instance) _ _ (lists (Unconfirmed who_is) (device_id d.configured.device) (property_number ObjectIdentifier), tt) tt)) tt)
each_header P rules d context such lists (header.SimpleAck invoke service) body = tt
each_header P rules d context such lists (header.ComplexAck segment invoke service) body = tt
each_header P rules d context such lists (header.SegmentAck invoke sequence window) body = tt
each_header P rules d context such lists (header.Error invoke service) body = tt
each_header P rules d context such lists (header.Reject invoke reason) body = tt
each_header P rules d context such lists (header.Abort invoke reason) body = tt

each_apdu : (P : Ask → Type 0) (rules : List Rule) (d : Database) (context : Context) → ReadsAndWrites P d context → Lists P d context
    → (x : Result Apdu ApduFault) → AllByRecursion P (apdu_response rules d context x).asks
each_apdu P rules d context such lists (Ok x) = each_header P rules d context such lists x.header x.rest
each_apdu P rules d context such lists (Err fault) = tt

-- each ask of an APDU
pub each_device : (P : Ask → Type 0) (rules : List Rule) (d : Database) (context : Context) → ReadsAndWrites P d context → Lists P d context
    → (octets : List ℕ) → AllByRecursion P (device_asks rules d context octets)
each_device P rules d context such lists octets = each_apdu P rules d context such lists (apdu_at octets)

-- ---- where they are bound

-- every ask of the device is bound for its own network
pub own_network : (rules : List Rule) (d : Database) (context : Context) (octets : List ℕ)
    → AllByRecursion (λ ask. ask.destination_network ≡ Some d.configured.device.network) (device_asks rules d context octets)
own_network rules d context octets =
    each_device (λ ask. ask.destination_network ≡ Some d.configured.device.network) rules d context
    (record { reads = λ service object p. refl; writes = λ write. refl }) (λ service object p. refl) octets
