-- The device does the same about an APDU whether or not its context names a sender, where no rule says anything of one.
use Rattle.std.proofs.Common.{◌≡◌, ◌∙◌, ap, ap₂, refl, ℕ, Bool, true, false, List, [], ◌∷◌, ◌++◌, map, Option, Some, None, Result, Ok, Err}
use Rattle.std.specs.Prelude.{◌==◌, if◌then◌else◌, is_some}
use Rattle.std.specs.Option.{option_map}
use Rattle.std.proofs.lemmas.List.{map-append}
use Rattle.gw_codecs.specs.declared.apdu.fault.ApduFault.{ApduFault}
use Rattle.gw_codecs.specs.declared.apdu.writing.ServiceError.{ServiceError}
use Rattle.gw_codecs.specs.declared.apdu.header.ConfirmedRequest.{ConfirmedRequest}
use Rattle.gw_codecs.specs.declared.apdu.header.Header.{Header}
use Rattle.gw_codecs.specs.declared.apdu.header.Header.TheVariants as header
use Rattle.gw_codecs.specs.declared.services.fault.BodyFault.{BodyFault}
use Rattle.gw_codecs.specs.apdu.Apdu.{Fields as Apdu}
use Rattle.gw_codecs.specs.apdu.Reading.{apdu_at}
use Rattle.gw_codecs.specs.services.Choices.{read_property, read_property_multiple, write_property, who_has, who_is}
use Rattle.gw_codecs.specs.services.Multi.{Reference, list_ends}
use Rattle.gw_codecs.specs.services.MultiReading.{multi_at}
use Rattle.gw_codecs.specs.services.Read.{Read, read_at}
use Rattle.gw_codecs.specs.services.WhoHas.{WhoHas, who_has_at}
use Rattle.gw_codecs.specs.services.WhoIs.{WhoIs, who_is_at}
use Rattle.gw_codecs.specs.services.Write.{Write, write_at}
use Rattle.gw_codecs.specs.tags.Object.{Object}
use Rattle.gw_device.specs.declared.context.Context.{Context}
use Rattle.gw_device.specs.Asks.{named_object}
use Rattle.gw_device.specs.Device.{apdu_response, device_response, header_response, or_reject, or_silence, service_response, unconfirmed_response}
use Rattle.gw_device.specs.Errors.{read_denied, write_denied}
use Rattle.gw_device.specs.Multi.{Part, asked, enclosed, item, joined, members_part, multi_ack, multi_ask, multi_part, multi_response, named_part, properties_part, property_part, reference_part, set_part}
use Rattle.gw_codecs.specs.services.Reply.{error_item}
use Rattle.gw_device.specs.Read.{named_read, or_error, read_answer, read_ask, read_response}
use Rattle.gw_device.specs.Response.{Response, announcement_of, fitted, silence, to_client, unchanged}
use Rattle.gw_device.specs.Services.{set_of}
use Rattle.gw_device.specs.WhoHas.{i_have_apdu, object_response, sought_object, who_has_ask, who_has_response}
use Rattle.gw_device.specs.WhoIs.{i_am_apdu, if_allowed, is_within, who_is_ask, who_is_response}
use Rattle.gw_device.specs.Write.{change_of, write_answer, write_ask, write_response}
use Rattle.gw_device.specs.Write.{or_error as or_write_error}
use Rattle.gw_codecs.specs.services.Limits.{priority_of}
use Rattle.gw_objects.specs.Objects.{Database, name_at, type_at}
use Rattle.gw_objects.specs.Property.{properties, property_number}
use Rattle.gw_objects.specs.Table.{read_of}
use Rattle.gw_objects.specs.Write.{Write as Change, write_of}
use Rattle.gw_objects.specs.declared.property.ObjectType.{ObjectType}
use Rattle.gw_objects.specs.declared.property.Property.{Property}
use Rattle.gw_objects.specs.declared.property.PropertySet.{PropertySet}
use Rattle.gw_rules.specs.Ask.{Ask}
use Rattle.gw_rules.specs.RuleList.{allows}
use Rattle.gw_rules.specs.declared.rule.Rule.{Rule}
use Rattle.gw_core_laws.specs.FormatThree.{NameNoStation, unstationed}
use Rattle.gw_core_laws.proofs.UnstationedLemmas.{allowed_alike}

-- a context that names no sender
abbrev pub senderless : Context → Context
senderless context = record context { sender = None }

-- a response whose asks are without the two fields
abbrev pub unstationed_response : Response → Response
unstationed_response r = record r { asks = map unstationed r.asks }

abbrev unstationed_part : Part → Part
unstationed_part p = record p { asks = map unstationed p.asks }

-- a part of these asks and these octets
abbrev part_so : List Ask → List ℕ → Part
part_so asks octets = record { asks = asks; octets = octets }

-- what a write is answered that asks this and comes to this
abbrev written_so : ℕ → Ask → Result Change ServiceError → Response
written_so invoke ask decision = record {
  asks = ask ∷ [];
  answer = to_client (write_answer invoke decision);
  change = change_of decision;
}

-- ---- choices

if_alike : (b : Bool) (x y v w : Response) → unstationed_response x ≡ v → unstationed_response y ≡ w
    → unstationed_response (if b then x else y) ≡ (if b then v else w)
if_alike true x y v w e f = e
if_alike false x y v w e f = f

part_if : (b : Bool) (x y v w : Part) → unstationed_part x ≡ v → unstationed_part y ≡ w
    → unstationed_part (if b then x else y) ≡ (if b then v else w)
part_if true x y v w e f = e
part_if false x y v w e f = f

reject_alike : {B : Type 0} (invoke : ℕ) (f g : B → Response) (body : Result B BodyFault)
    → ((b : B) → unstationed_response (f b) ≡ g b) → unstationed_response (or_reject invoke f body) ≡ or_reject invoke g body
reject_alike invoke f g (Ok b) same = same b
reject_alike invoke f g (Err fault) same = refl

silence_alike : {B : Type 0} (f g : B → Response) (body : Result B BodyFault)
    → ((b : B) → unstationed_response (f b) ≡ g b) → unstationed_response (or_silence f body) ≡ or_silence g body
silence_alike f g (Ok b) same = same b
silence_alike f g (Err fault) same = refl

module _ (rules : List Rule) (none : NameNoStation rules) (d : Database) (context : Context) where
  -- ---- ReadProperty and WriteProperty

  read_alike : (request : ConfirmedRequest) (read : Read)
      → unstationed_response (read_response rules d context request read) ≡ read_response rules d (senderless context) request read
  read_alike request read =
      let named = named_read d read in
      let ask = read_ask d context named in
      ap (λ (b : Bool). unchanged (unstationed ask ∷ []) (to_client (read_answer request context named
      (if b then or_error (read_of d named.object named.property named.index) else Err read_denied)))) (allowed_alike rules none ask)

  write_alike : (invoke : ℕ) (write : Write)
      → unstationed_response (write_response rules d context invoke write) ≡ write_response rules d (senderless context) invoke write
  write_alike invoke write =
      let ask = write_ask d context write in
      ap (λ (b : Bool). written_so invoke (unstationed ask) (if b
      then or_write_error (write_of d.configured write.object write.property write.index (priority_of write.priority) write.value)
      else Err write_denied)) (allowed_alike rules none ask)

  -- ---- ReadPropertyMultiple

  joined_alike : (a b v w : Part) → unstationed_part a ≡ v → unstationed_part b ≡ w → unstationed_part (joined a b) ≡ joined v w
  joined_alike a b v w e f =
      ap (λ (asks : List Ask). part_so asks (a.octets ++ b.octets)) (map-append unstationed a.asks b.asks)
      ∙ ap₂ (λ (x y : Part). joined x y) e f

  property_alike : (object : Object) (p : ℕ) (index : Option ℕ)
      → unstationed_part (property_part rules d context object p index) ≡ property_part rules d (senderless context) object p index
  property_alike object p index =
      let ask = multi_ask d context object p in
      ap (λ (b : Bool). part_so (unstationed ask ∷ []) (item p index (if b then or_error (read_of d object p index) else Err read_denied)))
      (allowed_alike rules none ask)

  properties_alike : (object : Object) (ps : List Property)
      → unstationed_part (properties_part rules d context object ps) ≡ properties_part rules d (senderless context) object ps
  properties_alike object [] = refl
  properties_alike object (p ∷ ps) =
      joined_alike (property_part rules d context object (property_number p) None) (properties_part rules d context object ps) _ _
      (property_alike object (property_number p) None) (properties_alike object ps)

  members_alike : (object : Object) (p : ℕ) (set : PropertySet) (kind : Option ObjectType)
      → unstationed_part (members_part rules d context object p set kind) ≡ members_part rules d (senderless context) object p set kind
  members_alike object p set None = refl
  members_alike object p set (Some kind) = properties_alike object (properties kind set)

  set_alike : (object : Object) (p : ℕ) (set : PropertySet)
      → unstationed_part (set_part rules d context object p set) ≡ set_part rules d (senderless context) object p set
  set_alike object p set =
      let ask = multi_ask d context object p in
      let kind = type_at d.configured object in
      let all = joined (asked (unstationed ask)) (members_part rules d (senderless context) object p set kind) in
      let denied = part_so (unstationed ask ∷ []) (error_item p None read_denied) in
      part_if (allows rules ask) (joined (asked ask) (members_part rules d context object p set kind))
      (part_so (ask ∷ []) (error_item p None read_denied)) all denied
      (joined_alike (asked ask) (members_part rules d context object p set kind) _ _ refl (members_alike object p set kind)) refl
      ∙ ap (λ (b : Bool). if b then all else denied) (allowed_alike rules none ask)

  named_alike : (object : Object) (p : ℕ) (index : Option ℕ) (set : Option PropertySet)
      → unstationed_part (named_part rules d context object p index set) ≡ named_part rules d (senderless context) object p index set
  named_alike object p index None = property_alike object p index
  named_alike object p index (Some set) = set_alike object p set

  reference_alike : (r : Reference) (ends : Bool)
      → unstationed_part (reference_part rules d context r ends) ≡ reference_part rules d (senderless context) r ends
  reference_alike r ends =
      let object = named_object d.configured r.object in
      ap (λ (p : Part). enclosed r.begins object ends p) (named_alike object r.property r.index (set_of r.property))

  references_alike : (rs : List Reference) → unstationed_part (multi_part rules d context rs) ≡ multi_part rules d (senderless context) rs
  references_alike [] = refl
  references_alike (r ∷ rs) =
      joined_alike (reference_part rules d context r (list_ends rs)) (multi_part rules d context rs) _ _
      (reference_alike r (list_ends rs)) (references_alike rs)

  multi_alike : (request : ConfirmedRequest) (rs : List Reference)
      → unstationed_response (multi_response rules d context request rs) ≡ multi_response rules d (senderless context) request rs
  multi_alike request rs =
      ap (λ (p : Part). unchanged p.asks (to_client (fitted request context (multi_ack request.invoke p.octets)))) (references_alike rs)

  -- ---- Who-Is and Who-Has

  announced : (ask : Ask) (apdu : Option (List ℕ))
      → unstationed_response (if_allowed rules ask apdu) ≡ if_allowed rules (unstationed ask) apdu
  announced ask apdu =
      ap (λ (b : Bool). unchanged (unstationed ask ∷ []) (if b then announcement_of apdu else None)) (allowed_alike rules none ask)

  who_is_alike : (request : WhoIs)
      → unstationed_response (who_is_response rules d context request) ≡ who_is_response rules d (senderless context) request
  who_is_alike request = if_alike (is_within request.limits d.configured.device.instance) _ silence _ silence
      (announced (who_is_ask d.configured context) (Some (i_am_apdu d.configured))) refl

  object_alike : (object : Option Object)
      → unstationed_response (object_response rules d context object) ≡ object_response rules d (senderless context) object
  object_alike None = refl
  object_alike (Some object) =
      announced (who_has_ask d.configured context object) (option_map (i_have_apdu d.configured object) (name_at d.configured object))

  who_has_alike : (request : WhoHas)
      → unstationed_response (who_has_response rules d context request) ≡ who_has_response rules d (senderless context) request
  who_has_alike request =
      if_alike (is_within request.limits d.configured.device.instance) (object_response rules d context (sought_object d.configured request.sought)) silence _ silence
      (object_alike (sought_object d.configured request.sought)) refl

  -- ---- an APDU

  service_alike : (request : ConfirmedRequest) (body : List ℕ)
      → unstationed_response (service_response rules d context request body) ≡ service_response rules d (senderless context) request body
  service_alike request body =
      if_alike (request.service == read_property) _ _ _ _
      (reject_alike request.invoke (read_response rules d context request) (read_response rules d (senderless context) request) (read_at body) (read_alike request))
      (if_alike (request.service == read_property_multiple) _ _ _ _
      (reject_alike request.invoke (multi_response rules d context request) (multi_response rules d (senderless context) request) (multi_at body) (multi_alike request))
      (if_alike (request.service == write_property) _ _ _ _
      (reject_alike request.invoke (write_response rules d context request.invoke) (write_response rules d (senderless context) request.invoke) (write_at body) (write_alike request.invoke))
      refl))

  unconfirmed_alike : (service : ℕ) (body : List ℕ)
      → unstationed_response (unconfirmed_response rules d context service body) ≡ unconfirmed_response rules d (senderless context) service body
  unconfirmed_alike service body =
      if_alike (service == who_has) _ _ _ _
      (silence_alike (who_has_response rules d context) (who_has_response rules d (senderless context)) (who_has_at body) who_has_alike)
      (if_alike (service == who_is) _ silence _ silence
      (silence_alike (who_is_response rules d context) (who_is_response rules d (senderless context)) (who_is_at body) who_is_alike) refl)

  header_alike : (by : Header) (body : List ℕ)
      → unstationed_response (header_response rules d context by body) ≡ header_response rules d (senderless context) by body
  header_alike (header.ConfirmedRequest request) body =
      if_alike context.broadcast silence _ silence _ refl
      (if_alike (is_some request.segment) _ _ _ _ refl (service_alike request body))
  header_alike (header.UnconfirmedRequest service) body = unconfirmed_alike service body
  header_alike (header.SimpleAck invoke service) body = refl
  header_alike (header.ComplexAck segment invoke service) body = refl
  header_alike (header.SegmentAck invoke sequence window) body = refl
  header_alike (header.Error invoke service) body = refl
  header_alike (header.Reject invoke reason) body = refl
  header_alike (header.Abort invoke reason) body = refl

  apdu_alike : (x : Result Apdu ApduFault)
      → unstationed_response (apdu_response rules d context x) ≡ apdu_response rules d (senderless context) x
  apdu_alike (Ok x) = header_alike x.header x.rest
  apdu_alike (Err fault) = refl

  pub device_alike : (octets : List ℕ)
      → unstationed_response (device_response rules d context octets) ≡ device_response rules d (senderless context) octets
  device_alike octets = apdu_alike (apdu_at octets)
