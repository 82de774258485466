-- What is answered where the policy denies.
use Rattle.std.proofs.Common.{◌≡◌, ◌∙◌, true≢false, sym, ap, ap₂, refl, subst, append_assoc, add-one, ℕ, zero, suc, ◌<◌, arith, Bool, true, false, List, [], ◌∷◌, ◌++◌, length, take, drop, Option, Some, None, Result, Ok, Err}
use Rattle.std.specs.Prelude.{◌==◌, ◌&&◌, if◌then◌else◌, is_some, slice_get}
use Rattle.std.specs.List.{AllByRecursion, Contains, flat_map, list_all, slice_index_or}
use Rattle.std.specs.Option.{option_map}
use Rattle.std.proofs.lemmas.List.Concat.{flat_map-cons}
use Rattle.gw_addr.specs.declared.bip.BipAddr.{BipAddr}
use Rattle.gw_codecs.specs.declared.apdu.fault.ApduFault.{ApduFault}
use Rattle.gw_codecs.specs.declared.apdu.header.ConfirmedRequest.{ConfirmedRequest}
use Rattle.gw_codecs.specs.declared.apdu.header.Header.{Header}
use Rattle.gw_codecs.specs.declared.apdu.header.Header.TheVariants as header
use Rattle.gw_codecs.specs.apdu.Apdu.{Fields as Apdu}
use Rattle.gw_codecs.specs.apdu.Reading.{apdu_at}
use Rattle.gw_frames.specs.bvll.Bvll as bvll
use Rattle.gw_frames.specs.bvll.Bvll.{Message as Frame}
use Rattle.gw_device.specs.declared.context.Context.{Context}
use Rattle.gw_device.specs.Device.{apdu_response, header_response, or_silence, service_response}
use Rattle.gw_device.specs.Read.{read_value}
use Rattle.gw_device.specs.Multi.{Part, item, multi_ack, multi_ask, multi_part, properties_part, property_part, reference_part, set_part}
use Rattle.gw_device.specs.Response.{Answer, Response, fitted, to_client, announcement_of, unchanged}
use Rattle.gw_device.specs.Services.{set_of}
use Rattle.gw_device.specs.WhoHas.{i_have_apdu, object_response, sought_object, who_has_ask, who_has_response}
use Rattle.gw_device.specs.WhoIs.{i_am_apdu, if_allowed, is_within, who_is_ask, who_is_response}
use Rattle.gw_objects.specs.declared.property.ObjectType.{ObjectType}
use Rattle.gw_objects.specs.declared.property.Property.{Property}
use Rattle.gw_objects.specs.declared.property.PropertySet.{PropertySet}
use Rattle.gw_objects.specs.Objects.{Database, name_at, type_at}
use Rattle.gw_objects.specs.Property.{properties, property_number}
use Rattle.gw_relay.specs.Entry.{entry_asks}
use Rattle.gw_relay.specs.Link.{link_answer, link_change}
use Rattle.gw_relay.specs.Message.{Message}
use Rattle.gw_relay.specs.Sends.{Sending, sending}
use Rattle.gw_relay.specs.State.{Commit, Relay, is_manager, moved}
use Rattle.gw_relay.specs.declared.change.Change.{Change}
use Rattle.gw_relay.specs.declared.port.PortState.{PortState}
use Rattle.gw_rules.specs.Ask.{Ask, IsFor}
use Rattle.gw_rules.specs.declared.operation.Operation.TheVariants as operations
use Rattle.gw_rules.specs.declared.rule.Rule.{Rule}
use Rattle.gw_rules.specs.RuleList.{allows}
use Rattle.gw_rules.proofs.EachAsk.{each_both, each_weaker}
use Rattle.gw_script.specs.Event.{Datagram, Tick}
use Rattle.gw_codecs.specs.services.Choices.{who_has, who_is}
use Rattle.gw_codecs.specs.services.Multi.{Reference, list_ends}
use Rattle.gw_codecs.specs.services.Reply.{error_item}
use Rattle.gw_codecs.specs.services.WhoHas.{who_has_at}
use Rattle.gw_codecs.specs.services.WhoIs.{who_is_at}
use Rattle.gw_codecs.specs.declared.services.fault.BodyFault.{BodyFault}
use Rattle.gw_codecs.specs.tags.Object.{Object}
use Rattle.gw_core.specs.Asks.{apdu_asks, asks, asks_for, cast_asks_for, manage_asks_for, message_asks, route_asks_for}
use Rattle.gw_core.specs.Effects.{answer_sends, apdu_answer, change_at, change_for, changed, effects_at, message_sends, move_at, relay_change_for, sends_for, serve_sends_for}
use Rattle.gw_core.specs.History.{next}
use Rattle.gw_core.specs.Receive.{Received, barred, dropped, managed, message, receive, unregistered}
use Rattle.gw_core_laws.specs.Refused.{DeniedListingsAreSilent, DeniedManagementIsRefused, DeniedMembersAreRefused, DeniedPropertiesAreRefused, OthersAreAnswered, RepliesAreTheirParts, access_error, ask_for, negative, parts, refused_part}
use Rattle.gw_core.specs.Reply.{apdu_for, context_of}
use Rattle.gw_relay.proofs.NeighbourLemmas.{no_tables_beside}
use Rattle.gw_core.specs.State.{device_network}
use Rattle.gw_core_laws.proofs.DeviceAskLemmas.{each_service}
use Rattle.gw_core_laws.proofs.RelayAskLemmas.{Else, IsElse, cast_is_else, entry_is_else, messages_are_else, routing_is_else}

-- ---- ReadPropertyMultiple

abbrev part_of : List Ask → List ℕ → Part
part_of asks octets = record { asks = asks; octets = octets }

-- all parts, one after the other
joined_parts : (rules : List Rule) (d : Database) (context : Context) (rs : List Reference)
    → multi_part rules d context rs
    ≡ part_of (flat_map (λ (part : Part). part.asks) (parts rules d context rs)) (flat_map (λ (part : Part). part.octets) (parts rules d context rs))
joined_parts rules d context [] = refl
joined_parts rules d context (r ∷ rs) =
    let first = reference_part rules d context r (list_ends rs) in
    let others = parts rules d context rs in
    ap (λ (part : Part). part_of (first.asks ++ part.asks) (first.octets ++ part.octets)) (joined_parts rules d context rs)
    ∙ ap₂ part_of (sym (flat_map-cons (λ (part : Part). part.asks) first others)) (sym (flat_map-cons (λ (part : Part). part.octets) first others))

pub replies_are_their_parts : RepliesAreTheirParts
replies_are_their_parts rules d context request rs = ap (reply request context) (joined_parts rules d context rs)
  where
    reply : ConfirmedRequest → Context → Part → Response
    reply request context part = unchanged part.asks (to_client (fitted request context (multi_ack request.invoke part.octets)))

-- what is in the place of a denied one
refused_named : (rules : List Rule) (d : Database) (context : Context) (r : Reference) (ends : Bool) → allows rules (ask_for d context r) ≡ false
    → reference_part rules d context r ends ≡ refused_part d context r ends
refused_named rules d context r ends denied = by (set_of r.property) refl
  where
    by : (set : Option PropertySet) → set_of r.property ≡ set → reference_part rules d context r ends ≡ refused_part d context r ends
    by None is = rw (is, denied) refl
    by (Some set) is = rw (is, denied) refl

at_place : (rules : List Rule) (d : Database) (context : Context) (front rest : List Reference) (r : Reference)
    → slice_get (parts rules d context (front ++ r ∷ rest)) (length front) ≡ Some (reference_part rules d context r (list_ends rest))
at_place rules d context [] rest r = refl
at_place rules d context (f ∷ front) rest r = at_place rules d context front rest r

pub denied_properties_are_refused : DeniedPropertiesAreRefused
denied_properties_are_refused rules d context front rest r denied =
    at_place rules d context front rest r ∙ ap (λ (part : Part). Some part) (refused_named rules d context r (list_ends rest) denied)

ends_alike : (front rest : List Reference) (r s : Reference) → r.begins ≡ s.begins → list_ends (front ++ r ∷ rest) ≡ list_ends (front ++ s ∷ rest)
ends_alike [] rest r s is = is
ends_alike (f ∷ front) rest r s is = refl

front_alike : (rules : List Rule) (d : Database) (context : Context) (front rest : List Reference) (r s : Reference) → r.begins ≡ s.begins
    → take (length front) (parts rules d context (front ++ r ∷ rest)) ≡ take (length front) (parts rules d context (front ++ s ∷ rest))
front_alike rules d context [] rest r s is = refl
front_alike rules d context (f ∷ front) rest r s is =
    ap₂ (λ (part : Part) (more : List Part). part ∷ more)
    (ap (reference_part rules d context f) (ends_alike front rest r s is)) (front_alike rules d context front rest r s is)

rest_alike : (rules : List Rule) (d : Database) (context : Context) (front rest : List Reference) (r : Reference)
    → drop (suc (length front)) (parts rules d context (front ++ r ∷ rest)) ≡ parts rules d context rest
rest_alike rules d context [] rest r = refl
rest_alike rules d context (f ∷ front) rest r = rest_alike rules d context front rest r

pub others_are_answered : OthersAreAnswered
others_are_answered rules d context front rest r s is = (
  front_alike rules d context front rest r s is,
  ap (λ (n : ℕ). drop n (parts rules d context (front ++ r ∷ rest))) (add-one (length front)) ∙ rest_alike rules d context front rest r,
)

-- the properties of a set, those before one and those from it on
members_along : (rules : List Rule) (d : Database) (context : Context) (object : Object) (front rest : List Property) (p : Property)
    → (properties_part rules d context object (front ++ p ∷ rest)).octets
    ≡ (properties_part rules d context object front).octets ++ (properties_part rules d context object (p ∷ rest)).octets
members_along rules d context object [] rest p = refl
members_along rules d context object (f ∷ front) rest p =
    let first = (property_part rules d context object (property_number f) None).octets in
    ap (λ (octets : List ℕ). first ++ octets) (members_along rules d context object front rest p)
    ∙ sym (append_assoc first (properties_part rules d context object front).octets (properties_part rules d context object (p ∷ rest)).octets)

-- the item of a denied property
refused_item : (rules : List Rule) (d : Database) (context : Context) (object : Object) (p : ℕ) (index : Option ℕ)
    → allows rules (multi_ask d context object p) ≡ false
    → item p index (read_value rules d (multi_ask d context object p) object p index) ≡ error_item p index access_error
refused_item rules d context object p index denied = rw denied refl

-- an allowed set is its properties
allowed_set : (rules : List Rule) (d : Database) (context : Context) (object : Object) (number : ℕ) (set : PropertySet) (kind : ObjectType)
    → allows rules (multi_ask d context object number) ≡ true → type_at d.configured object ≡ Some kind
    → (set_part rules d context object number set).octets ≡ (properties_part rules d context object (properties kind set)).octets
allowed_set rules d context object number set kind allowed found = rw (allowed, found) refl

pub denied_members_are_refused : DeniedMembersAreRefused
denied_members_are_refused rules d context object number set kind front rest p allowed found are denied =
    let before = (properties_part rules d context object front).octets in
    let behind = (properties_part rules d context object rest).octets in
    let last : (properties_part rules d context object (p ∷ rest)).octets ≡ error_item (property_number p) None access_error ++ behind =
    ap (λ (octets : List ℕ). octets ++ behind) (refused_item rules d context object (property_number p) None denied) in
    allowed_set rules d context object number set kind allowed found
    ∙ ap (λ (ps : List Property). (properties_part rules d context object ps).octets) are
    ∙ members_along rules d context object front rest p
    ∙ ap (λ (octets : List ℕ). before ++ octets) last
    ∙ sym (append_assoc before (error_item (property_number p) None access_error) behind)

-- ---- listings

-- what holds of each holds of one of them
of_place : (P : Ask → Type 0) (xs : List Ask) (k : ℕ) (x : Ask) → k < length xs → AllByRecursion P xs → P (slice_index_or xs k x)
of_place P [] k x below each = absurd (omega arith)
of_place P (a ∷ xs) zero x below each = each.0
of_place P (a ∷ xs) (suc k) x below each = of_place P xs k x (omega (arith, below)) each.1

of_held : (P : Ask → Type 0) (xs : List Ask) (x : Ask) → Contains xs x → AllByRecursion P xs → P x
of_held P xs x held each = subst P held.2 (of_place P xs held.0 x held.1 each)

-- where an ask to list is denied there is no answer
abbrev Silent : List Rule → Response → Type 0
Silent rules due = AllByRecursion (λ ask. IsFor operations.List ask → allows rules ask ≡ false → due.answer ≡ None) due.asks

-- where none is to list there is none to be denied
unlisted : (rules : List Rule) (due : Response) → Else due.asks → Silent rules due
unlisted rules due each =
    each_weaker IsElse (λ ask. IsFor operations.List ask → allows rules ask ≡ false → due.answer ≡ None)
    (λ ask other lists denied. absurd (other lists)) due.asks each

silent_if : (rules : List Rule) (b : Bool) (x y : Response) → Silent rules x → Silent rules y → Silent rules (if b then x else y)
silent_if rules true x y f g = f
silent_if rules false x y f g = g

silent_body : {B : Type 0} (rules : List Rule) (respond : B → Response) (body : Result B BodyFault) → ((b : B) → Silent rules (respond b))
    → Silent rules (or_silence respond body)
silent_body rules respond (Ok b) each = each b
silent_body rules respond (Err fault) each = tt

no_answer : (b : Bool) (x : Option Answer) → b ≡ false → ◌≡◌ {A = Option Answer} (if b then x else None) None
no_answer true x is = absurd cc
no_answer false x is = refl

silent_one : (rules : List Rule) (ask : Ask) (apdu : Option (List ℕ)) → Silent rules (if_allowed rules ask apdu)
silent_one rules ask apdu = (λ lists denied. no_answer (allows rules ask) (announcement_of apdu) denied, tt)

silent_object : (rules : List Rule) (d : Database) (context : Context) (sought : Option Object) → Silent rules (object_response rules d context sought)
silent_object rules d context None = tt
silent_object rules d context (Some object) =
    silent_one rules (who_has_ask d.configured context object) (option_map (i_have_apdu d.configured object) (name_at d.configured object))

silent_header : (rules : List Rule) (d : Database) (context : Context) (by : Header) (body : List ℕ) → Silent rules (header_response rules d context by body)
silent_header rules d context (header.ConfirmedRequest request) body =
    silent_if rules context.broadcast _ _ tt
    (silent_if rules (is_some request.segment) _ _ tt
    (unlisted rules (service_response rules d context request body)
    (each_service IsElse rules d context (record { reads = λ service object p e. absurd cc; writes = λ write e. absurd cc }) request body)))
silent_header rules d context (header.UnconfirmedRequest service) body =
    silent_if rules (service == who_has) _ _ (silent_body rules (who_has_response rules d context) (who_has_at body)
    (λ request. silent_if rules (is_within request.limits d.configured.device.instance) _ _
    (silent_object rules d context (sought_object d.configured request.sought)) tt))
    (silent_if rules (service == who_is) _ _ (silent_body rules (who_is_response rules d context) (who_is_at body)
    (λ request. silent_if rules (is_within request.limits d.configured.device.instance) _ _
    (silent_one rules (who_is_ask d.configured context) (Some (i_am_apdu d.configured))) tt))
    tt)
silent_header rules d context (header.SimpleAck invoke service) body = tt
silent_header rules d context (header.ComplexAck segment invoke service) body = tt
silent_header rules d context (header.SegmentAck invoke sequence window) body = tt
silent_header rules d context (header.Error invoke service) body = tt
silent_header rules d context (header.Reject invoke reason) body = tt
silent_header rules d context (header.Abort invoke reason) body = tt

silent_apdu : (rules : List Rule) (d : Database) (context : Context) (x : Result Apdu ApduFault) → Silent rules (apdu_response rules d context x)
silent_apdu rules d context (Ok x) = silent_header rules d context x.header x.rest
silent_apdu rules d context (Err fault) = tt

-- where an ask to list is denied these aren't sent
abbrev AreKept : List Rule → List Sending → Ask → Type 0
AreKept rules sends ask = IsFor operations.List ask → allows rules ask ≡ false → sends ≡ []

silent_octets : (rules : List Rule) (d : Database) (m : Message) (context : Context) (octets : Option (List ℕ))
    → AllByRecursion (AreKept rules (answer_sends (device_network d) m (apdu_answer rules d context octets))) (apdu_asks rules d context octets)
silent_octets rules d m context None = tt
silent_octets rules d m context (Some octets) =
    let due = apdu_response rules d context (apdu_at octets) in
    each_weaker (λ ask. IsFor operations.List ask → allows rules ask ≡ false → due.answer ≡ None)
    (AreKept rules (answer_sends (device_network d) m due.answer))
    (λ ask none lists denied. ap (answer_sends (device_network d) m) (none lists denied)) due.asks (silent_apdu rules d context (apdu_at octets))

kept_else : (rules : List Rule) (sends : List Sending) (xs : List Ask) → Else xs → AllByRecursion (AreKept rules sends) xs
kept_else rules sends xs each = each_weaker IsElse (AreKept rules sends) (λ ask other lists denied. absurd (other lists)) xs each

none_sent : (rules : List Rule) (xs : List Ask) → AllByRecursion (AreKept rules []) xs
none_sent rules [] = tt
none_sent rules (x ∷ xs) = (λ lists denied. refl, none_sent rules xs)

silent_received : (rules : List Rule) (relay : Relay) (d : Database) (received : Received)
    → AllByRecursion (AreKept rules (serve_sends_for rules relay.format d received)) (asks_for rules relay d received)
silent_received rules relay d dropped = tt
silent_received rules relay d (barred m) = none_sent rules (asks_for rules relay d (barred m))
silent_received rules relay d (managed on from frame) = none_sent rules (asks_for rules relay d (managed on from frame))
silent_received rules relay d (unregistered m) = tt
silent_received rules relay d (message m) =
    let network = device_network d in
    let sends = message_sends rules relay.format d m in
    let entered = entry_asks rules relay m in
    let cast = cast_asks_for relay (message m) in
    let routed = route_asks_for relay (message m) in
    let managed = manage_asks_for relay (message m) in
    each_both (AreKept rules sends) (entered ++ cast ++ routed ++ managed) (message_asks rules relay.format d m)
    (kept_else rules sends _
    (each_both IsElse (entered ++ cast ++ routed) managed
    (each_both IsElse (entered ++ cast) routed
    (each_both IsElse entered cast (entry_is_else rules relay m) (cast_is_else relay.format m)) (routing_is_else relay m))
    (messages_are_else relay m)))
    (silent_octets rules d m (context_of relay.format network m) (apdu_for network m.npdu))

pub denied_listings_are_silent : DeniedListingsAreSilent
unfolding asks
denied_listings_are_silent w e ask held lists denied =
    of_held (AreKept w.rules (serve_sends_for w.rules w.relay.format w.device (receive w e))) (asks w e) ask held
    (silent_received w.rules w.relay w.device (receive w e)) lists denied

-- ---- tables

one_denied : (rules : List Rule) (a : Ask) → list_all (allows rules) (a ∷ []) ≡ false → allows rules a ≡ false
one_denied rules a denied = by (allows rules a) denied
  where
    by : (b : Bool) → (b && true) ≡ false → b ≡ false
    by true is = absurd cc
    by false is = refl

-- a port that has this broadcast manager beside it, if there is one
beside : Option BipAddr → PortState → PortState
beside bbmd on = record on { port = record on.port { bbmd = bbmd } }

managed_by : (rules : List Rule) (relay : Relay) (d : Database) (on : PortState) (from : BipAddr) (frame : Frame)
    → list_all (allows rules) (asks_for rules relay d (managed (beside None on) from frame)) ≡ false
    → (sends_for rules relay d (managed (beside None on) from frame) ≡ sending on.port.number (negative frame) from ∷ [])
    × (relay_change_for rules relay (managed (beside None on) from frame) ≡ None)
unfolding link_answer link_change beside
managed_by rules relay d on from (bvll.write_bdt entries) denied = rw denied (refl, refl)
managed_by rules relay d on from bvll.read_bdt denied = rw denied (refl, refl)
managed_by rules relay d on from (bvll.register time_to_live) denied = rw denied (refl, refl)
managed_by rules relay d on from bvll.read_fdt denied = rw denied (refl, refl)
managed_by rules relay d on from (bvll.delete address) denied = rw denied (refl, refl)
managed_by rules relay d on from (bvll.result_code code) denied = absurd cc
managed_by rules relay d on from (bvll.read_bdt_ack entries) denied = absurd cc
managed_by rules relay d on from (bvll.forwarded originator npdu) denied = absurd cc
managed_by rules relay d on from (bvll.read_fdt_ack entries) denied = absurd cc
managed_by rules relay d on from (bvll.distribute npdu) denied = absurd cc
managed_by rules relay d on from (bvll.original_unicast npdu) denied = absurd cc
managed_by rules relay d on from (bvll.original_broadcast npdu) denied = absurd cc

unmanaged : (manager : BipAddr) (on : PortState) → is_manager (beside (Some manager) on).port ≡ false
unfolding beside
unmanaged manager on = refl

-- a frame that is denied was asked for, so the port has tables
managed_beside : (bbmd : Option BipAddr) (rules : List Rule) (relay : Relay) (d : Database) (on : PortState) (from : BipAddr) (frame : Frame)
    → list_all (allows rules) (asks_for rules relay d (managed (beside bbmd on) from frame)) ≡ false
    → (sends_for rules relay d (managed (beside bbmd on) from frame) ≡ sending on.port.number (negative frame) from ∷ [])
    × (relay_change_for rules relay (managed (beside bbmd on) from frame) ≡ None)
managed_beside None rules relay d on from frame denied = managed_by rules relay d on from frame denied
managed_beside (Some manager) rules relay d on from frame denied =
    let none = (no_tables_beside rules relay.format (beside (Some manager) on) from frame (unmanaged manager on)).asks in
    absurd (true≢false (sym (ap (λ (asks : List Ask). list_all (allows rules) (asks ++ [] ++ [] ++ [] ++ [])) none) ∙ denied))

managed_refused : (rules : List Rule) (relay : Relay) (d : Database) (on : PortState) (from : BipAddr) (frame : Frame)
    → list_all (allows rules) (asks_for rules relay d (managed on from frame)) ≡ false
    → (sends_for rules relay d (managed on from frame) ≡ sending on.port.number (negative frame) from ∷ [])
    × (relay_change_for rules relay (managed on from frame) ≡ None)
unfolding beside
managed_refused rules relay d on from frame denied = managed_beside on.port.bbmd rules relay d on from frame denied

pub denied_management_is_refused : DeniedManagementIsRefused
unfolding effects_at next move_at change_at asks receive
denied_management_is_refused w Tick on from frame is denied = absurd cc
denied_management_is_refused w (Datagram port by octets) on from frame is denied =
    let e = Datagram port by octets in
    let refused = managed_refused w.rules w.relay w.device on from frame
    (ap (λ (received : Received). list_all (allows w.rules) (asks_for w.rules w.relay w.device received)) (sym is) ∙ denied) in (
      ap (sends_for w.rules w.relay w.device) is ∙ refused.0,
      ap (λ (received : Received). moved (option_map Commit (relay_change_for w.rules w.relay received)) w.relay) is
          ∙ ap (λ (change : Option Change). moved (option_map Commit change) w.relay) refused.1,
      ap (λ (received : Received). changed (change_for w.rules w.relay.format w.device received) w.device) is,
    )
