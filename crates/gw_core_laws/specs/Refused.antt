-- What is answered where the policy denies: a property of a ReadPropertyMultiple by the error in its place, a listing by
-- silence, and a frame that manages a table by the negative code of its function.
use Rattle.std.specs.Prelude.{◌≡◌, ℕ, ◌+◌, Bool, true, false, List, [], ◌∷◌, ◌++◌, length, take, drop, Option, Some}
use Rattle.std.specs.Prelude.{None, slice_get}
use Rattle.std.specs.Prelude.{is_some, if◌then◌else◌}
use Rattle.std.specs.List.{Contains, flat_map, list_all}
use Rattle.gw_addr.specs.declared.bip.BipAddr.{BipAddr}
use Rattle.gw_codecs.specs.declared.apdu.header.ConfirmedRequest.{ConfirmedRequest}
use Rattle.gw_codecs.specs.declared.apdu.writing.ServiceError.{ServiceError}
use Rattle.gw_frames.specs.bvll.Bvll.{write_bdt, read_bdt, register, read_fdt, delete}
use Rattle.gw_frames.specs.bvll.Bvll.{Message as Frame}
use Rattle.gw_device.specs.declared.context.Context.{Context}
use Rattle.gw_device.specs.Asks.{named_object}
use Rattle.gw_device.specs.Errors.{error_of}
use Rattle.gw_device.specs.Multi.{Part, multi_ack, multi_ask, multi_response, properties_part, reference_part, set_part}
use Rattle.gw_device.specs.Response.{fitted, to_client, unchanged}
use Rattle.gw_device.specs.Services.{set_of}
use Rattle.gw_objects.specs.declared.property.ObjectType.{ObjectType}
use Rattle.gw_objects.specs.declared.property.Property.{Property}
use Rattle.gw_objects.specs.declared.property.PropertySet.{PropertySet}
use Rattle.gw_objects.specs.Objects.{Database, type_at}
use Rattle.gw_objects.specs.Property.{properties, property_number}
use Rattle.gw_relay.specs.Sends.{sending}
use Rattle.gw_relay.specs.declared.port.PortState.{PortState}
use Rattle.gw_rules.specs.Ask.{Ask, IsFor}
use Rattle.gw_rules.specs.declared.operation.Operation.TheVariants as operations
use Rattle.gw_rules.specs.declared.rule.Rule.{Rule}
use Rattle.gw_rules.specs.RuleList.{allows}
use Rattle.gw_script.specs.Event.{Event}
use Rattle.gw_codecs.specs.services.Multi.{Reference, head_part, list_ends, tail_part}
use Rattle.gw_codecs.specs.services.Reply.{error_item}
use Rattle.gw_codecs.specs.tags.Object.{Object}
use Rattle.gw_core.specs.Asks.{asks}
use Rattle.gw_core.specs.Effects.{effects_at, serve_sends_for}
use Rattle.gw_core.specs.History.{next}
use Rattle.gw_core.specs.Receive.{managed, receive}
use Rattle.gw_core.specs.State.{State}

-- ---- ReadPropertyMultiple (clause 15.7)

-- the parts of a reply, one a reference, in order
abbrev pub parts : List Rule → Database → Context → List Reference → List Part
parts rules d context [] = []
parts rules d context (r ∷ rs) = reference_part rules d context r (list_ends rs) ∷ parts rules d context rs

-- A reply is its parts, one after the other.
abbrev pub RepliesAreTheirParts : Type 0
RepliesAreTheirParts =
    (rules : List Rule) (d : Database) (context : Context) (request : ConfirmedRequest) (rs : List Reference) →
    let all = parts rules d context rs in
    multi_response rules d context request rs
    ≡ unchanged (flat_map (λ part. part.asks) all)
    (to_client (fitted request context (multi_ack request.invoke (flat_map (λ part. part.octets) all))))

-- the ask for the property or the set that a reference names
abbrev pub ask_for : Database → Context → Reference → Ask
ask_for d context r = multi_ask d context (named_object d.configured r.object) r.property

-- the access error of a read
abbrev pub access_error : ServiceError
access_error = error_of 2 27

-- the index that a reply names: a set of properties has none
abbrev pub index_of : Reference → Option ℕ
index_of r = if is_some (set_of r.property) then None else r.index

-- one ask, and the access error: nothing of what the object holds
abbrev pub refused_part : Database → Context → Reference → Bool → Part
refused_part d context r ends = record {
  asks = ask_for d context r ∷ [];
  octets = head_part r.begins (named_object d.configured r.object)
      ++ error_item r.property (index_of r) access_error ++ tail_part ends;
}

-- A denied property or set of properties has exactly the access error in its place, whatever the object holds.
abbrev pub DeniedPropertiesAreRefused : Type 0
DeniedPropertiesAreRefused =
    (rules : List Rule) (d : Database) (context : Context) (front rest : List Reference) (r : Reference) →
    allows rules (ask_for d context r) ≡ false →
    slice_get (parts rules d context (front ++ r ∷ rest)) (length front)
    ≡ Some (refused_part d context r (list_ends rest))

-- The parts before it are those that they are with any other reference in its place, as long as the object's list
-- begins there or goes on alike; and those after it are those of the references after it.
abbrev pub OthersAreAnswered : Type 0
OthersAreAnswered =
    (rules : List Rule) (d : Database) (context : Context) (front rest : List Reference) (r s : Reference) →
    r.begins ≡ s.begins →
    (take (length front) (parts rules d context (front ++ r ∷ rest))
    ≡ take (length front) (parts rules d context (front ++ s ∷ rest)))
    × (drop (length front + 1) (parts rules d context (front ++ r ∷ rest)) ≡ parts rules d context rest)

-- And so it is within a set that is allowed: a denied property of it has the access error in its place, between the
-- other properties of the set.
abbrev pub DeniedMembersAreRefused : Type 0
DeniedMembersAreRefused =
    (rules : List Rule) (d : Database) (context : Context) (object : Object) (number : ℕ) (set : PropertySet)
    (kind : ObjectType) (front rest : List Property) (p : Property) →
    allows rules (multi_ask d context object number) ≡ true → type_at d.configured object ≡ Some kind →
    properties kind set ≡ front ++ p ∷ rest →
    allows rules (multi_ask d context object (property_number p)) ≡ false →
    (set_part rules d context object number set).octets
    ≡ (properties_part rules d context object front).octets
    ++ error_item (property_number p) None access_error
    ++ (properties_part rules d context object rest).octets

-- ---- Who-Is and Who-Has (clauses 16.9 and 16.10)

-- Where an event's ask to list the device or an object of it is denied, the device sends nothing.
abbrev pub DeniedListingsAreSilent : Type 0
DeniedListingsAreSilent =
    (w : State) (e : Event) (ask : Ask) → Contains (asks w e) ask → IsFor operations.List ask →
    allows w.rules ask ≡ false → serve_sends_for w.rules w.relay.format w.device (receive w e) ≡ []

-- ---- the tables of a port (Annex J.2)

-- the negative code of a function that reads or changes a table (Annex J.2.1)
abbrev pub negative_code : Frame → ℕ
negative_code (write_bdt entries) = 0x10
negative_code read_bdt = 0x20
negative_code (register time_to_live) = 0x30
negative_code read_fdt = 0x40
negative_code (delete address) = 0x50
negative_code other = 0

-- a Result of six octets with that code
abbrev pub negative : Frame → List ℕ
negative frame = 0x81 ∷ 0x00 ∷ 0 ∷ 6 ∷ 0 ∷ negative_code frame ∷ []

-- A frame that manages a table and is denied gets the negative code of its function, and nothing else is sent; the
-- tables, the routes and the device stay.
abbrev pub DeniedManagementIsRefused : Type 0
DeniedManagementIsRefused =
    (w : State) (e : Event) (on : PortState) (from : BipAddr) (frame : Frame) →
    receive w e ≡ managed on from frame → list_all (allows w.rules) (asks w e) ≡ false →
    ((effects_at w e).sends ≡ sending on.port.number (negative frame) from ∷ [])
    × ((next w e).relay ≡ w.relay) × ((next w e).device ≡ w.device)
