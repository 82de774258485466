-- A write that the device makes is one that can be made: a request names a priority of 1 to 16, or none.
use Rattle.std.proofs.Common.{◌≡◌, refl, subst, ℕ, Bool, true, false, List, [], ◌∷◌, Option, Some, None, Result, Ok, Err}
use Rattle.std.specs.Prelude.{◌==◌, if◌then◌else◌, is_some, nat_le}
use Rattle.std.specs.Option.{ok_or}
use Rattle.std.proofs.lemmas.Bool.{and_parts, leb-true}
use Rattle.gw_addr.proofs.Reading.{bind_ok}
use Rattle.gw_codecs.specs.declared.apdu.fault.ApduFault.{ApduFault}
use Rattle.gw_codecs.specs.declared.apdu.header.ConfirmedRequest.{ConfirmedRequest}
use Rattle.gw_codecs.specs.declared.apdu.header.Header.{Header}
use Rattle.gw_codecs.specs.declared.apdu.header.Header.TheVariants as header
use Rattle.gw_codecs.specs.apdu.Apdu.{Fields as Apdu}
use Rattle.gw_codecs.specs.apdu.Reading.{apdu_at}
use Rattle.gw_objects.specs.Objects.{Database}
use Rattle.gw_objects.specs.Write.{Write, write_of}
use Rattle.gw_objects.proofs.Others.{ok_is}
use Rattle.gw_objects.proofs.Priorities.{writes_can_be_made}
use Rattle.gw_tables.specs.priority.Commandable.{IsPriority}
use Rattle.gw_rules.specs.declared.rule.Rule.{Rule}
use Rattle.gw_rules.specs.RuleList.{allows}
use Rattle.gw_codecs.specs.declared.services.fault.BodyFault.{BodyFault}
use Rattle.gw_codecs.specs.declared.services.fault.BodyFault.TheVariants.{InvalidTag, OutOfRange}
use Rattle.gw_codecs.specs.services.Choices.{read_property, read_property_multiple, write_property, who_has, who_is}
use Rattle.gw_codecs.specs.services.Limits.{last_number, last_priority, last_property, priority_of}
use Rattle.gw_codecs.specs.services.MultiReading.{multi_at}
use Rattle.gw_codecs.specs.services.Parameter.{in_range}
use Rattle.gw_codecs.specs.services.Read.{read_at}
use Rattle.gw_codecs.specs.services.Reading.{ended, given_at, number_at, number_given, number_in, number_maybe_at, object_at, ranged, values_at}
use Rattle.gw_codecs.specs.services.WhoHas.{who_has_at}
use Rattle.gw_codecs.specs.services.WhoIs.{who_is_at}
use Rattle.gw_codecs.specs.services.Write.{Write as Request, write_at}
use Rattle.gw_codecs.specs.tags.Number.{unsigned_of}
use Rattle.gw_codecs.specs.tags.Object.{Object}
use Rattle.gw_device.specs.declared.context.Context.{Context}
use Rattle.gw_device.specs.Device.{apdu_response, device_change, header_response, or_reject, or_silence, service_response}
use Rattle.gw_device.specs.Laws.{ChangesCanBeMade}
use Rattle.gw_device.specs.Multi.{multi_response}
use Rattle.gw_device.specs.Read.{read_response}
use Rattle.gw_device.specs.Response.{Response}
use Rattle.gw_device.specs.WhoHas.{object_response, sought_object, who_has_response}
use Rattle.gw_device.specs.WhoIs.{is_within, who_is_response}
use Rattle.gw_device.specs.Write.{write_ask, write_response}
use Rattle.gw_device.proofs.Changes.{changed_by, no_some}

-- ---- the priority that a request names

abbrev Fits : Option ℕ → Type 0
Fits priority = IsPriority (priority_of priority)

none_fits : Fits None
none_fits = (leb-true 1 last_priority refl, leb-true last_priority last_priority refl)

within : (n : ℕ) → in_range 1 last_priority n ≡ true → IsPriority n
within n is =
    let parts = and_parts (nat_le 1 n) (nat_le n last_priority) is in
    (leb-true 1 n parts.0, leb-true n last_priority parts.1)

ranged_within : (n m : ℕ) → ranged 1 last_priority n ≡ Ok m → IsPriority m
ranged_within n m e = by (in_range 1 last_priority n) refl e
  where
    by : (b : Bool) → in_range 1 last_priority n ≡ b → ◌≡◌ {A = Result ℕ BodyFault} (if b then Ok n else Err OutOfRange) (Ok m) → IsPriority m
    by true is e = subst IsPriority (ok_is n m e) (within n is)
    by false is e = absurd cc

given_fits : (octets : List ℕ) (content : Option (List ℕ × List ℕ)) (x : Option ℕ × List ℕ) → number_given 1 last_priority octets content ≡ Ok x → Fits x.0
given_fits octets None x e = subst (λ (y : Option ℕ × List ℕ). Fits y.0) (ok_is _ x e) none_fits
given_fits octets (Some content) x e =
    let made = bind_ok (number_in 1 last_priority content.0) _ x e in
    let number = bind_ok (ok_or (unsigned_of content.0) InvalidTag) _ made.0 made.1 in
    subst (λ (y : Option ℕ × List ℕ). Fits y.0) (ok_is _ x made.2) (ranged_within number.0 made.0 number.2)

ended_is : (request : Request) (rest : List ℕ) (w : Request) → ended request rest ≡ Ok w → request ≡ w
ended_is request [] w e = ok_is request w e
ended_is request (octet ∷ rest) w e = absurd cc

request_fits : (octets : List ℕ) (w : Request) → write_at octets ≡ Ok w → Fits w.priority
request_fits octets w e =
    let object = bind_ok (object_at 0 octets) _ w e in
    let property = bind_ok (number_at 1 0 last_property object.0.1) _ w object.2 in
    let index = bind_ok (number_maybe_at 2 0 last_number property.0.1) _ w property.2 in
    let value = bind_ok (values_at 3 index.0.1) _ w index.2 in
    let priority = bind_ok (number_maybe_at 4 1 last_priority value.0.1) _ w value.2 in
    let content = bind_ok (given_at 4 value.0.1) _ priority.0 priority.1 in
    subst (λ (x : Request). Fits x.priority) (ended_is _ priority.0.1 w priority.2) (given_fits value.0.1 content.0 priority.0 content.2)

-- ---- the change

-- a write is what a request asks for, which names a priority of 1 to 16, or none
pub record IsAsked (d : Database) (write : Write) : Type 0 where
  pub request : Request
  pub fits : Fits request.priority
  pub is : write_of d.configured request.object request.property request.index (priority_of request.priority) request.value ≡ Ok write

abbrev Makes : Database → Response → Type 0
Makes d due = (write : Write) → due.change ≡ Some write → IsAsked d write

makes_if : (d : Database) (b : Bool) (x y : Response) → Makes d x → Makes d y → Makes d (if b then x else y)
makes_if d true x y f g = f
makes_if d false x y f g = g

makes_reject : {B : Type 0} (d : Database) (invoke : ℕ) (respond : B → Response) (body : Result B BodyFault)
    → ((b : B) → body ≡ Ok b → Makes d (respond b)) → Makes d (or_reject invoke respond body)
makes_reject d invoke respond (Ok b) each = each b refl
makes_reject d invoke respond (Err fault) each = λ write e. absurd (no_some write e)

makes_write : (rules : List Rule) (d : Database) (context : Context) (invoke : ℕ) (request : Request) → Fits request.priority
    → Makes d (write_response rules d context invoke request)
makes_write rules d context invoke request fits write e =
    record { request = request; fits = fits; is = changed_by (allows rules (write_ask d context request)) _ write e }

makes_service : (rules : List Rule) (d : Database) (context : Context) (request : ConfirmedRequest) (body : List ℕ)
    → Makes d (service_response rules d context request body)
makes_service rules d context request body =
    makes_if d (request.service == read_property) _ _
    (makes_reject d request.invoke (read_response rules d context request) (read_at body) (λ read is write e. absurd (no_some write e)))
    (makes_if d (request.service == read_property_multiple) _ _
    (makes_reject d request.invoke (multi_response rules d context request) (multi_at body) (λ rs is write e. absurd (no_some write e)))
    (makes_if d (request.service == write_property) _ _
    (makes_reject d request.invoke (write_response rules d context request.invoke) (write_at body)
    (λ asked is. makes_write rules d context request.invoke asked (request_fits body asked is)))
    (λ write e. absurd (no_some write e))))

makes_silenced : {B : Type 0} (d : Database) (respond : B → Response) (body : Result B BodyFault) → ((b : B) → Makes d (respond b))
    → Makes d (or_silence respond body)
makes_silenced d respond (Ok b) each = each b
makes_silenced d respond (Err fault) each = λ write e. absurd (no_some write e)

makes_object : (rules : List Rule) (d : Database) (context : Context) (sought : Option Object) → Makes d (object_response rules d context sought)
makes_object rules d context None = λ write e. absurd (no_some write e)
makes_object rules d context (Some object) = λ write e. absurd (no_some write e)

makes_header : (rules : List Rule) (d : Database) (context : Context) (by : Header) (body : List ℕ) → Makes d (header_response rules d context by body)
makes_header rules d context (header.ConfirmedRequest request) body =
    makes_if d context.broadcast _ _ (λ write e. absurd (no_some write e))
    (makes_if d (is_some request.segment) _ _ (λ write e. absurd (no_some write e)) (makes_service rules d context request body))
makes_header rules d context (header.UnconfirmedRequest service) body =
    makes_if d (service == who_has) _ _ (makes_silenced d (who_has_response rules d context) (who_has_at body)
    (λ request. makes_if d (is_within request.limits d.configured.device.instance) _ _
    (makes_object rules d context (sought_object d.configured request.sought)) (λ write e. absurd (no_some write e))))
    (makes_if d (service == who_is) _ _ (makes_silenced d (who_is_response rules d context) (who_is_at body)
    (λ request. makes_if d (is_within request.limits d.configured.device.instance) _ _ (λ write e. absurd (no_some write e)) (λ write e. absurd (no_some write e))))
    (λ write e. absurd (no_some write e)))
makes_header rules d context (header.SimpleAck invoke service) body = λ write e. absurd (no_some write e)
makes_header rules d context (header.ComplexAck segment invoke service) body = λ write e. absurd (no_some write e)
makes_header rules d context (header.SegmentAck invoke sequence window) body = λ write e. absurd (no_some write e)
makes_header rules d context (header.Error invoke service) body = λ write e. absurd (no_some write e)
makes_header rules d context (header.Reject invoke reason) body = λ write e. absurd (no_some write e)
makes_header rules d context (header.Abort invoke reason) body = λ write e. absurd (no_some write e)

makes_apdu : (rules : List Rule) (d : Database) (context : Context) (apdu : Result Apdu ApduFault) → Makes d (apdu_response rules d context apdu)
makes_apdu rules d context (Ok apdu) = makes_header rules d context apdu.header apdu.rest
makes_apdu rules d context (Err fault) = λ write e. absurd (no_some write e)

-- every write that the device makes is asked for
pub changes_are_asked : (rules : List Rule) (d : Database) (context : Context) (octets : List ℕ) (write : Write)
    → device_change rules d context octets ≡ Some write → IsAsked d write
changes_are_asked rules d context octets = makes_apdu rules d context (apdu_at octets)

pub changes_can_be_made : ChangesCanBeMade
changes_can_be_made rules d context octets write e =
    let asked = changes_are_asked rules d context octets write e in
    let request = asked.request in
    writes_can_be_made d.configured request.object request.property request.index (priority_of request.priority) request.value write asked.fits asked.is
