-- What holds of each ask that the device can raise holds of all that it raises for an APDU.
use Rattle.std.proofs.Common.{◌≡◌, refl, ℕ, Bool, true, false, List, [], ◌∷◌, Option, Some, None, Result, Ok, Err}
use Rattle.std.specs.Prelude.{IfSome, find, if◌then◌else◌, is_some, ◌==◌}
use Rattle.std.specs.Option.{option_map}
use Rattle.std.specs.List.{AllByRecursion}
use Rattle.gw_codecs.specs.declared.apdu.fault.ApduFault.{ApduFault}
use Rattle.gw_codecs.specs.declared.apdu.header.ConfirmedRequest.{ConfirmedRequest}
use Rattle.gw_codecs.specs.declared.apdu.header.Header.{Header}
use Rattle.gw_codecs.specs.declared.apdu.header.Header.TheVariants as header
use Rattle.gw_codecs.specs.apdu.Apdu.{Fields as Apdu}
use Rattle.gw_codecs.specs.apdu.Reading.{apdu_at}
use Rattle.gw_objects.specs.declared.property.ObjectType.{ObjectType}
use Rattle.gw_objects.specs.declared.property.Property.{Property}
use Rattle.gw_objects.specs.declared.property.Property.TheVariants.{ObjectIdentifier, ObjectName}
use Rattle.gw_objects.specs.declared.property.PropertySet.{PropertySet}
use Rattle.gw_objects.specs.declared.configured.Configured.{Configured}
use Rattle.gw_objects.specs.declared.configured.ConfiguredObject.{ConfiguredObject}
use Rattle.gw_objects.specs.Objects.{Database, device_id, is_name, named, object_id_of, type_at}
use Rattle.gw_objects.specs.Property.{properties, property_number}
use Rattle.gw_rules.specs.Ask.{Ask}
use Rattle.gw_rules.specs.RuleList.{allows}
use Rattle.gw_rules.specs.declared.operation.Operation.TheVariants as operations
use Rattle.gw_rules.specs.declared.rule.Rule.{Rule}
use Rattle.gw_rules.specs.declared.service.Service.TheVariants.{Confirmed, Unconfirmed}
use Rattle.gw_rules.proofs.EachAsk.{each_both}
use Rattle.gw_codecs.specs.declared.services.fault.BodyFault.{BodyFault}
use Rattle.gw_codecs.specs.services.Choices.{read_property, read_property_multiple, write_property, who_has, who_is}
use Rattle.gw_codecs.specs.services.Limits.{priority_of}
use Rattle.gw_codecs.specs.services.Multi.{Reference, list_ends}
use Rattle.gw_codecs.specs.services.MultiReading.{multi_at}
use Rattle.gw_codecs.specs.services.Read.{read_at}
use Rattle.gw_codecs.specs.services.WhoHas.{Sought, the_name, the_object, who_has_at}
use Rattle.gw_codecs.specs.services.WhoIs.{who_is_at}
use Rattle.gw_codecs.specs.services.Write.{write_at}
use Rattle.gw_codecs.specs.tags.Object.{Object}
use Rattle.gw_device.specs.declared.context.Context.{Context}
use Rattle.gw_device.specs.Asks.{named_object, property_ask}
use Rattle.gw_device.specs.Device.{apdu_response, device_asks, header_response, or_reject, or_silence, service_response}
use Rattle.gw_device.specs.Multi.{Part, members_part, multi_ask, multi_part, multi_response, named_part, properties_part, reference_part}
use Rattle.gw_device.specs.Read.{named_read, read_response}
use Rattle.gw_device.specs.Response.{Response}
use Rattle.gw_device.specs.Services.{set_of}
use Rattle.gw_device.specs.WhoHas.{object_response, sought_object, utf8, who_has_response}
use Rattle.gw_device.specs.WhoIs.{is_within, who_is_response}
use Rattle.gw_device.specs.Write.{write_response}
use Rattle.gw_verdicts.proofs.Knowing.{Known}
use Rattle.gw_verdicts.proofs.Octets.{IsSoughtBy}

-- it holds of each ask that the device can raise
pub record DeviceCases (P : Ask → Type 0) (K : Known) (d : Database) (context : Context) : Type 0 where
  pub read : (object : Object) (p : ℕ) → K.IsNamed object p
      → P (property_ask operations.Read (Confirmed read_property) d.configured context object p)
  pub multi : (object : Object) (p : ℕ) → K.IsNamed object p → P (multi_ask d context object p)
  pub write : (object : Object) (p priority : ℕ) → K.IsNamed object p → K.IsRank priority
      → P (record (property_ask operations.Write (Confirmed write_property) d.configured context object p) { priority = Some priority })
  pub who_is : P (property_ask operations.List (Unconfirmed who_is) d.configured context (device_id d.configured.device) (property_number ObjectIdentifier))
  pub who_has : (object : Object) → K.IsThing object
      → P (property_ask operations.List (Unconfirmed who_has) d.configured context object (property_number ObjectName))

-- what is known of the device's own objects and properties
pub record DeviceKnown (K : Known) (c : Configured) : Type 0 where
  pub device : K.IsThing (device_id c.device)
  pub objects : AllByRecursion (λ o. K.IsThing (object_id_of o)) c.objects
  pub named : (object : Object) (p : ℕ) → K.IsNamed object p → K.IsNamed (named_object c object) p
  pub listed : (object : Object) (p : ℕ) (kind : ObjectType) (set : PropertySet) → K.IsNamed object p
      → AllByRecursion (λ q. K.IsNamed object (property_number q)) (properties kind set)

each_if : (P : Ask → Type 0) (b : Bool) (x y : Response) → AllByRecursion P x.asks → AllByRecursion P y.asks
    → AllByRecursion P (if b then x else y).asks
each_if P true x y f g = f
each_if P false x y f g = g

each_reject : {B : Type 0} (P : Ask → Type 0) (invoke : ℕ) (respond : B → Response) (body : Result B BodyFault)
    → ((b : B) → body ≡ Ok b → AllByRecursion P (respond b).asks) → AllByRecursion P (or_reject invoke respond body).asks
each_reject P invoke respond (Ok b) each = each b refl
each_reject P invoke respond (Err fault) each = tt

each_silenced : {B : Type 0} (P : Ask → Type 0) (respond : B → Response) (body : Result B BodyFault)
    → ((b : B) → body ≡ Ok b → AllByRecursion P (respond b).asks) → AllByRecursion P (or_silence respond body).asks
each_silenced P respond (Ok b) each = each b refl
each_silenced P respond (Err fault) each = tt

each_property : (P : Ask → Type 0) (K : Known) (rules : List Rule) (d : Database) (context : Context) (object : Object) (ps : List Property)
    → DeviceCases P K d context → AllByRecursion (λ q. K.IsNamed object (property_number q)) ps
    → AllByRecursion P (properties_part rules d context object ps).asks
each_property P K rules d context object [] cases known = tt
each_property P K rules d context object (p ∷ ps) cases known =
    (cases.multi object (property_number p) known.0, each_property P K rules d context object ps cases known.1)

each_member : (P : Ask → Type 0) (K : Known) (rules : List Rule) (d : Database) (context : Context) (object : Object) (p : ℕ) (set : PropertySet)
    (kind : Option ObjectType) → DeviceCases P K d context
    → ((kind : ObjectType) → AllByRecursion (λ q. K.IsNamed object (property_number q)) (properties kind set))
    → AllByRecursion P (members_part rules d context object p set kind).asks
each_member P K rules d context object p set None cases known = tt
each_member P K rules d context object p set (Some kind) cases known =
    each_property P K rules d context object (properties kind set) cases (known kind)

each_part_if : (P : Ask → Type 0) (b : Bool) (x y : Part) → AllByRecursion P x.asks → AllByRecursion P y.asks
    → AllByRecursion P (if b then x else y).asks
each_part_if P true x y f g = f
each_part_if P false x y f g = g

each_named : (P : Ask → Type 0) (K : Known) (rules : List Rule) (d : Database) (context : Context) (object : Object) (p : ℕ) (index : Option ℕ)
    (set : Option PropertySet) → DeviceCases P K d context → DeviceKnown K d.configured → K.IsNamed object p
    → AllByRecursion P (named_part rules d context object p index set).asks
each_named P K rules d context object p index None cases own known = (cases.multi object p known, tt)
each_named P K rules d context object p index (Some set) cases own known =
    each_part_if P (allows rules (multi_ask d context object p)) _ _
    (cases.multi object p known, each_member P K rules d context object p set (type_at d.configured object) cases (λ kind. own.listed object p kind set known))
    (cases.multi object p known, tt)

each_multi : (P : Ask → Type 0) (K : Known) (rules : List Rule) (d : Database) (context : Context) (rs : List Reference) → DeviceCases P K d context
    → DeviceKnown K d.configured → AllByRecursion (λ r. K.IsNamed r.object r.property) rs
    → AllByRecursion P (multi_part rules d context rs).asks
each_multi P K rules d context [] cases own known = tt
each_multi P K rules d context (r ∷ rs) cases own known =
    each_both P (reference_part rules d context r (list_ends rs)).asks (multi_part rules d context rs).asks
    (each_named P K rules d context (named_object d.configured r.object) r.property r.index (set_of r.property) cases own
    (own.named r.object r.property known.0))
    (each_multi P K rules d context rs cases own known.1)

each_service : (P : Ask → Type 0) (K : Known) (rules : List Rule) (d : Database) (context : Context) (request : ConfirmedRequest) (body : List ℕ)
    → DeviceCases P K d context → DeviceKnown K d.configured → K.IsText body
    → AllByRecursion P (service_response rules d context request body).asks
each_service P K rules d context request body cases own fits =
    each_if P (request.service == read_property) _ _
    (each_reject P request.invoke (read_response rules d context request) (read_at body)
    (λ read at. (cases.read (named_read d read).object read.property (own.named read.object read.property (K.read body read fits at)), tt)))
    (each_if P (request.service == read_property_multiple) _ _
    (each_reject P request.invoke (multi_response rules d context request) (multi_at body)
    (λ rs at. each_multi P K rules d context rs cases own (K.multi body rs fits at)))
    (each_if P (request.service == write_property) _ _
    (each_reject P request.invoke (write_response rules d context request.invoke) (write_at body)
    (λ write at. let both = K.write body write fits at in
    (cases.write write.object write.property (priority_of write.priority) both.0 both.1, tt))) tt))

-- an object that is sought by its name is one of the device's
found_object : (Is : Object → Type 0) (test : ConfiguredObject → Bool) (objects : List ConfiguredObject)
    → AllByRecursion (λ o. Is (object_id_of o)) objects → IfSome (option_map object_id_of (find test objects)) Is
found_object Is test [] each = tt
found_object Is test (o ∷ os) each = by (test o) (found_object Is test os each.1)
  where
    by : (b : Bool) → IfSome (option_map object_id_of (find test os)) Is → IfSome (option_map object_id_of (if b then Some o else find test os)) Is
    by true later = each.0
    by false later = later

named_thing : (K : Known) (c : Configured) (name : List ℕ) → DeviceKnown K c → IfSome (named c name) K.IsThing
named_thing K c name own = by (is_name name c.device.name)
  where
    by : (b : Bool) → IfSome (if b then Some (device_id c.device)
        else option_map object_id_of (find (λ object. is_name name object.name) c.objects)) K.IsThing
    by true = own.device
    by false = found_object K.IsThing (λ object. is_name name object.name) c.objects own.objects

sought_thing : (K : Known) (c : Configured) (s : Sought) → DeviceKnown K c → IsSoughtBy K.IsThing s → IfSome (sought_object c s) K.IsThing
sought_thing K c (the_object o) own known = known
sought_thing K c (the_name charset name) own known = by (charset == utf8)
  where
    by : (b : Bool) → IfSome (if b then named c name else None) K.IsThing
    by true = named_thing K c name own
    by false = tt

each_object : (P : Ask → Type 0) (K : Known) (rules : List Rule) (d : Database) (context : Context) (sought : Option Object) → DeviceCases P K d context
    → IfSome sought K.IsThing → AllByRecursion P (object_response rules d context sought).asks
each_object P K rules d context None cases known = tt
each_object P K rules d context (Some object) cases known = (cases.who_has object known, tt)

each_header : (P : Ask → Type 0) (K : Known) (rules : List Rule) (d : Database) (context : Context) (by : Header) (body : List ℕ)
    → DeviceCases P K d context → DeviceKnown K d.configured → K.IsText body → AllByRecursion P (header_response rules d context by body).asks
each_header P K rules d context (header.ConfirmedRequest request) body cases own fits =
    each_if P context.broadcast _ _ tt
    (each_if P (is_some request.segment) _ _ tt (each_service P K rules d context request body cases own fits))
each_header P K rules d context (header.UnconfirmedRequest service) body cases own fits =
    each_if P (service == who_has) _ _ (each_silenced P (who_has_response rules d context) (who_has_at body)
    (λ request at. each_if P (is_within request.limits d.configured.device.instance) _ _
    (each_object P K rules d context (sought_object d.configured request.sought) cases
    (sought_thing K d.configured request.sought own (K.who_has body request fits at))) tt))
    (each_if P (service == who_is) _ _ (each_silenced P (who_is_response rules d context) (who_is_at body)
    (λ request at. each_if P (is_within request.limits d.configured.device.instance) _ _ (cases.who_is, tt) tt)) tt)
each_header P K rules d context (header.SimpleAck invoke service) body cases own fits = tt
each_header P K rules d context (header.ComplexAck segment invoke service) body cases own fits = tt
each_header P K rules d context (header.SegmentAck invoke sequence window) body cases own fits = tt
each_header P K rules d context (header.Error invoke service) body cases own fits = tt
each_header P K rules d context (header.Reject invoke reason) body cases own fits = tt
each_header P K rules d context (header.Abort invoke reason) body cases own fits = tt

each_apdu : (P : Ask → Type 0) (K : Known) (rules : List Rule) (d : Database) (context : Context) (x : Result Apdu ApduFault)
    → DeviceCases P K d context → DeviceKnown K d.configured → ((a : Apdu) → x ≡ Ok a → K.IsText a.rest)
    → AllByRecursion P (apdu_response rules d context x).asks
each_apdu P K rules d context (Ok x) cases own fits = each_header P K rules d context x.header x.rest cases own (fits x refl)
each_apdu P K rules d context (Err fault) cases own fits = tt

pub each_device : (P : Ask → Type 0) (K : Known) (rules : List Rule) (d : Database) (context : Context) (octets : List ℕ) → DeviceCases P K d context
    → DeviceKnown K d.configured → K.IsText octets → AllByRecursion P (device_asks rules d context octets)
each_device P K rules d context octets cases own fits =
    each_apdu P K rules d context (apdu_at octets) cases own (λ a at. K.rest octets a fits at)
