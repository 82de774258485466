-- The device does the same under two lists of rules that decide alike what it asks.
use Rattle.std.proofs.Common.{◌≡◌, refl, sym, ap, ◌∙◌, true≢false, ℕ, Bool, true, false, List, [], ◌∷◌, ◌++◌, Option, Some, None, Result, Ok, Err}
use Rattle.std.specs.Prelude.{◌==◌, if◌then◌else◌, is_some}
use Rattle.gw_codecs.specs.declared.apdu.fault.ApduFault.{ApduFault}
use Rattle.gw_codecs.specs.declared.apdu.header.ConfirmedRequest.{ConfirmedRequest}
use Rattle.gw_codecs.specs.declared.apdu.header.Header.{Header}
use Rattle.gw_codecs.specs.declared.apdu.header.Header.TheVariants as header
use Rattle.gw_codecs.specs.declared.apdu.writing.ServiceError.{ServiceError}
use Rattle.gw_codecs.specs.apdu.Apdu.{Fields as Apdu}
use Rattle.gw_codecs.specs.apdu.Reading.{apdu_at}
use Rattle.gw_device.specs.declared.context.Context.{Context}
use Rattle.gw_device.specs.Asks.{named_object}
use Rattle.gw_device.specs.Device.{apdu_response, device_asks, device_response, header_response, or_reject, or_silence, service_response}
use Rattle.gw_device.specs.Errors.{read_denied, write_denied}
use Rattle.gw_device.specs.Multi.{Part, asked, enclosed, item, joined, members_part, multi_ack, multi_ask, multi_part, multi_response, named_part, properties_part, property_part, reference_part, set_part}
use Rattle.gw_device.specs.Read.{named_read, or_error, plain_read_response, read_answer, read_ask, read_response, read_value}
use Rattle.gw_device.specs.Response.{Answer, Response, announcement_of, fitted, silence, to_client, unchanged}
use Rattle.gw_device.specs.Services.{set_of}
use Rattle.gw_device.specs.WhoHas.{i_have_apdu, object_response, sought_object, who_has_ask, who_has_response}
use Rattle.gw_device.specs.WhoIs.{i_am_apdu, if_allowed, is_within, who_is_ask, who_is_response}
use Rattle.gw_device.specs.Write.{change_of, write_answer, write_ask, write_decision, write_response}
use Rattle.gw_device.specs.Write.{or_error as or_write_error}
use Rattle.gw_objects.specs.Write.{Write as Change, write_of}
use Rattle.gw_objects.specs.declared.property.ObjectType.{ObjectType}
use Rattle.gw_objects.specs.declared.property.Property.{Property}
use Rattle.gw_objects.specs.declared.property.PropertySet.{PropertySet}
use Rattle.gw_objects.specs.Objects.{Database, name_at, type_at}
use Rattle.gw_objects.specs.Property.{properties, property_number}
use Rattle.gw_objects.specs.Table.{read_of}
use Rattle.gw_rules.specs.declared.rule.Rule.{Rule}
use Rattle.gw_rules.specs.Ask.{Ask}
use Rattle.gw_rules.specs.RuleList.{allows}
use Rattle.gw_rules.proofs.EachAsk.{each_front, each_rest}
use Rattle.gw_codecs.specs.services.Choices.{read_property, read_property_multiple, write_property, who_has, who_is}
use Rattle.gw_codecs.specs.declared.services.fault.BodyFault.{BodyFault}
use Rattle.gw_codecs.specs.services.Limits.{priority_of}
use Rattle.gw_codecs.specs.services.Multi.{Reference, list_ends}
use Rattle.gw_codecs.specs.services.Reply.{error_item}
use Rattle.std.specs.Option.{option_map}
use Rattle.gw_codecs.specs.services.MultiReading.{multi_at}
use Rattle.gw_codecs.specs.services.Read.{Read, read_at}
use Rattle.gw_codecs.specs.services.WhoHas.{WhoHas, who_has_at}
use Rattle.gw_codecs.specs.services.WhoIs.{WhoIs, who_is_at}
use Rattle.gw_codecs.specs.services.Write.{Write, write_at}
use Rattle.gw_codecs.specs.tags.Object.{Object}
use Rattle.gw_core_laws.specs.Decisions.{DecideAlike}

-- ---- parts of a response

-- a response of these parts
abbrev made : List Ask → Option Answer → Option Change → Response
made asks answer change = record { asks = asks; answer = answer; change = change }

abbrev part_of : List Ask → List ℕ → Part
part_of asks octets = record { asks = asks; octets = octets }

same_choice : (r s : List Rule) (b : Bool) (x y z t : Response) → (DecideAlike r s x.asks → x ≡ y) → (DecideAlike r s z.asks → z ≡ t)
    → DecideAlike r s (if b then x else z).asks → (if b then x else z) ≡ (if b then y else t)
same_choice r s true x y z t first second alike = first alike
same_choice r s false x y z t first second alike = second alike

same_reject : {B : Type 0} (r s : List Rule) (invoke : ℕ) (f g : B → Response) (body : Result B BodyFault)
    → ((b : B) → DecideAlike r s (f b).asks → f b ≡ g b) → DecideAlike r s (or_reject invoke f body).asks
    → or_reject invoke f body ≡ or_reject invoke g body
same_reject r s invoke f g (Ok b) same alike = same b alike
same_reject r s invoke f g (Err fault) same alike = refl

same_silence : {B : Type 0} (r s : List Rule) (f g : B → Response) (body : Result B BodyFault)
    → ((b : B) → DecideAlike r s (f b).asks → f b ≡ g b) → DecideAlike r s (or_silence f body).asks
    → or_silence f body ≡ or_silence g body
same_silence r s f g (Ok b) same alike = same b alike
same_silence r s f g (Err fault) same alike = refl

-- ---- one property

same_value : (r s : List Rule) (d : Database) (ask : Ask) (object : Object) (p : ℕ) (index : Option ℕ)
    → allows r ask ≡ allows s ask → read_value r d ask object p index ≡ read_value s d ask object p index
same_value r s d ask object p index alike =
    ap (λ (allowed : Bool). if allowed then or_error (read_of d object p index) else Err read_denied) alike

same_read : (r s : List Rule) (d : Database) (context : Context) (request : ConfirmedRequest) (read : Read)
    → DecideAlike r s (read_response r d context request read).asks
    → read_response r d context request read ≡ read_response s d context request read
same_read r s d context request read alike =
    let named = named_read d read in
    let ask = read_ask d context named in
    ap (λ (value : Result (List ℕ) ServiceError). unchanged (ask ∷ []) (to_client (read_answer request context named value)))
    (same_value r s d ask named.object named.property named.index alike.0)

same_decision : (r s : List Rule) (d : Database) (context : Context) (write : Write)
    → allows r (write_ask d context write) ≡ allows s (write_ask d context write)
    → write_decision r d context write ≡ write_decision s d context write
same_decision r s d context write alike =
    ap (λ (allowed : Bool). if allowed then or_write_error (write_of d.configured write.object write.property write.index (priority_of write.priority) write.value) else Err write_denied) alike

same_write : (r s : List Rule) (d : Database) (context : Context) (invoke : ℕ) (write : Write)
    → DecideAlike r s (write_response r d context invoke write).asks
    → write_response r d context invoke write ≡ write_response s d context invoke write
same_write r s d context invoke write alike =
    ap (λ (decision : Result Change ServiceError). made (write_ask d context write ∷ []) (to_client (write_answer invoke decision)) (change_of decision))
    (same_decision r s d context write alike.0)

-- ---- many properties

same_joined : (r s : List Rule) (a b x y : Part) → (DecideAlike r s a.asks → a ≡ b) → (DecideAlike r s x.asks → x ≡ y)
    → DecideAlike r s (joined a x).asks → joined a x ≡ joined b y
same_joined r s a b x y first second alike =
    ap (λ (part : Part). joined part x) (first (each_front (λ ask. allows r ask ≡ allows s ask) a.asks x.asks alike))
    ∙ ap (λ (part : Part). joined b part) (second (each_rest (λ ask. allows r ask ≡ allows s ask) a.asks x.asks alike))

same_property : (r s : List Rule) (d : Database) (context : Context) (object : Object) (p : ℕ) (index : Option ℕ)
    → DecideAlike r s (property_part r d context object p index).asks
    → property_part r d context object p index ≡ property_part s d context object p index
same_property r s d context object p index alike =
    let ask = multi_ask d context object p in
    ap (λ (value : Result (List ℕ) ServiceError). part_of (ask ∷ []) (item p index value)) (same_value r s d ask object p index alike.0)

same_properties : (r s : List Rule) (d : Database) (context : Context) (object : Object) (ps : List Property)
    → DecideAlike r s (properties_part r d context object ps).asks
    → properties_part r d context object ps ≡ properties_part s d context object ps
same_properties r s d context object [] alike = refl
same_properties r s d context object (p ∷ ps) alike =
    same_joined r s (property_part r d context object (property_number p) None) (property_part s d context object (property_number p) None)
    (properties_part r d context object ps) (properties_part s d context object ps)
    (same_property r s d context object (property_number p) None) (same_properties r s d context object ps) alike

same_members : (r s : List Rule) (d : Database) (context : Context) (object : Object) (p : ℕ) (set : PropertySet) (kind : Option ObjectType)
    → DecideAlike r s (members_part r d context object p set kind).asks
    → members_part r d context object p set kind ≡ members_part s d context object p set kind
same_members r s d context object p set None alike = refl
same_members r s d context object p set (Some kind) alike = same_properties r s d context object (properties kind set) alike

-- a set's own ask is first, and its properties follow where that is allowed
same_chosen : (r s : List Rule) (b c : Bool) (x y z : Part) → b ≡ c → (DecideAlike r s x.asks → x ≡ y)
    → DecideAlike r s (if b then x else z).asks → (if b then x else z) ≡ (if c then y else z)
same_chosen r s true true x y z e same alike = same alike
same_chosen r s true false x y z e same alike = absurd (true≢false e)
same_chosen r s false true x y z e same alike = absurd (true≢false (sym e))
same_chosen r s false false x y z e same alike = refl

first_is_alike : (r s : List Rule) (b : Bool) (ask : Ask) (x : Part) (octets : List ℕ)
    → DecideAlike r s (if b then joined (asked ask) x else part_of (ask ∷ []) octets).asks → allows r ask ≡ allows s ask
first_is_alike r s true ask x octets alike = alike.0
first_is_alike r s false ask x octets alike = alike.0

same_set : (r s : List Rule) (d : Database) (context : Context) (object : Object) (p : ℕ) (set : PropertySet)
    → DecideAlike r s (set_part r d context object p set).asks
    → set_part r d context object p set ≡ set_part s d context object p set
same_set r s d context object p set alike =
    let ask = multi_ask d context object p in
    let kind = type_at d.configured object in
    let inner = members_part r d context object p set kind in
    same_chosen r s (allows r ask) (allows s ask) (joined (asked ask) inner) (joined (asked ask) (members_part s d context object p set kind))
    (part_of (ask ∷ []) (error_item p None read_denied))
    (first_is_alike r s (allows r ask) ask inner (error_item p None read_denied) alike)
    (same_joined r s (asked ask) (asked ask) inner (members_part s d context object p set kind) (λ h. refl) (same_members r s d context object p set kind))
    alike

same_named : (r s : List Rule) (d : Database) (context : Context) (object : Object) (p : ℕ) (index : Option ℕ) (set : Option PropertySet)
    → DecideAlike r s (named_part r d context object p index set).asks
    → named_part r d context object p index set ≡ named_part s d context object p index set
same_named r s d context object p index None alike = same_property r s d context object p index alike
same_named r s d context object p index (Some set) alike = same_set r s d context object p set alike

same_reference : (r s : List Rule) (d : Database) (context : Context) (reference : Reference) (ends : Bool)
    → DecideAlike r s (reference_part r d context reference ends).asks
    → reference_part r d context reference ends ≡ reference_part s d context reference ends
same_reference r s d context reference ends alike =
    let object = named_object d.configured reference.object in
    ap (λ (part : Part). enclosed reference.begins object ends part)
    (same_named r s d context object reference.property reference.index (set_of reference.property) alike)

same_references : (r s : List Rule) (d : Database) (context : Context) (references : List Reference)
    → DecideAlike r s (multi_part r d context references).asks
    → multi_part r d context references ≡ multi_part s d context references
same_references r s d context [] alike = refl
same_references r s d context (reference ∷ others) alike =
    same_joined r s (reference_part r d context reference (list_ends others)) (reference_part s d context reference (list_ends others))
    (multi_part r d context others) (multi_part s d context others)
    (same_reference r s d context reference (list_ends others)) (same_references r s d context others) alike

same_multi : (r s : List Rule) (d : Database) (context : Context) (request : ConfirmedRequest) (references : List Reference)
    → DecideAlike r s (multi_response r d context request references).asks
    → multi_response r d context request references ≡ multi_response s d context request references
same_multi r s d context request references alike =
    ap (λ (part : Part). unchanged part.asks (to_client (fitted request context (multi_ack request.invoke part.octets))))
    (same_references r s d context references alike)

-- ---- by service

same_allowed : (r s : List Rule) (ask : Ask) (apdu : Option (List ℕ)) → DecideAlike r s (if_allowed r ask apdu).asks
    → if_allowed r ask apdu ≡ if_allowed s ask apdu
same_allowed r s ask apdu alike =
    ap (λ (allowed : Bool). unchanged (ask ∷ []) (if allowed then announcement_of apdu else None)) alike.0

same_object : (r s : List Rule) (d : Database) (context : Context) (object : Option Object)
    → DecideAlike r s (object_response r d context object).asks → object_response r d context object ≡ object_response s d context object
same_object r s d context None alike = refl
same_object r s d context (Some object) alike =
    same_allowed r s (who_has_ask d.configured context object) (option_map (i_have_apdu d.configured object) (name_at d.configured object)) alike

same_service : (r s : List Rule) (d : Database) (context : Context) (request : ConfirmedRequest) (body : List ℕ)
    → DecideAlike r s (service_response r d context request body).asks
    → service_response r d context request body ≡ service_response s d context request body
same_service r s d context request body alike =
    same_choice r s (request.service == read_property) _ _ _ _
    (same_reject r s request.invoke (read_response r d context request) (read_response s d context request) (read_at body) (same_read r s d context request))
    (same_choice r s (request.service == read_property_multiple) _ _ _ _
    (same_reject r s request.invoke (multi_response r d context request) (multi_response s d context request) (multi_at body) (same_multi r s d context request))
    (same_choice r s (request.service == write_property) _ _ _ _
    (same_reject r s request.invoke (write_response r d context request.invoke) (write_response s d context request.invoke) (write_at body) (same_write r s d context request.invoke))
    (λ h. refl)))
    alike

same_header : (r s : List Rule) (d : Database) (context : Context) (by : Header) (body : List ℕ)
    → DecideAlike r s (header_response r d context by body).asks
    → header_response r d context by body ≡ header_response s d context by body
same_header r s d context (header.ConfirmedRequest request) body alike =
    same_choice r s context.broadcast _ _ _ _ (λ h. refl)
    (same_choice r s (is_some request.segment) _ _ _ _ (λ h. refl) (same_service r s d context request body))
    alike
same_header r s d context (header.UnconfirmedRequest service) body alike =
    same_choice r s (service == who_has) _ _ _ _
    (same_silence r s (who_has_response r d context) (who_has_response s d context) (who_has_at body)
    (λ request. same_choice r s (is_within request.limits d.configured.device.instance) _ _ _ _
    (same_object r s d context (sought_object d.configured request.sought)) (λ h. refl)))
    (same_choice r s (service == who_is) _ _ _ _
    (same_silence r s (who_is_response r d context) (who_is_response s d context) (who_is_at body)
    (λ request. same_choice r s (is_within request.limits d.configured.device.instance) _ _ _ _
    (same_allowed r s (who_is_ask d.configured context) (Some (i_am_apdu d.configured))) (λ h. refl)))
    (λ h. refl))
    alike
same_header r s d context (header.SimpleAck invoke service) body alike = refl
same_header r s d context (header.ComplexAck segment invoke service) body alike = refl
same_header r s d context (header.SegmentAck invoke sequence window) body alike = refl
same_header r s d context (header.Error invoke service) body alike = refl
same_header r s d context (header.Reject invoke reason) body alike = refl
same_header r s d context (header.Abort invoke reason) body alike = refl

same_apdu : (r s : List Rule) (d : Database) (context : Context) (x : Result Apdu ApduFault)
    → DecideAlike r s (apdu_response r d context x).asks → apdu_response r d context x ≡ apdu_response s d context x
same_apdu r s d context (Ok x) alike = same_header r s d context x.header x.rest alike
same_apdu r s d context (Err fault) alike = refl

-- what the device does about an APDU
pub same_device : (r s : List Rule) (d : Database) (context : Context) (octets : List ℕ) → DecideAlike r s (device_asks r d context octets)
    → device_response r d context octets ≡ device_response s d context octets
same_device r s d context octets alike = same_apdu r s d context (apdu_at octets) alike
