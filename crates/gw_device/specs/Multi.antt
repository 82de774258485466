-- ReadPropertyMultiple (ISO 16484-5, clause 15.7). What is asked and what is answered come of one
-- walk over the references: each property that is asked for has its item, with its value or the
-- error in its place.
use Rattle.std.specs.Prelude.{ℕ, Bool, if◌then◌else◌, List, [], ◌∷◌, ◌++◌, Option, Some, None, Result, Ok, Err}
use Rattle.gw_codecs.specs.declared.apdu.header.ConfirmedRequest.{ConfirmedRequest}
use Rattle.gw_codecs.specs.declared.apdu.writing.ServiceError.{ServiceError}
use Rattle.gw_codecs.specs.apdu.Answers.{complex_ack}
use Rattle.gw_objects.specs.declared.property.ObjectType.{ObjectType}
use Rattle.gw_objects.specs.declared.property.Property.{Property}
use Rattle.gw_objects.specs.declared.property.PropertySet.{PropertySet}
use Rattle.gw_objects.specs.Objects.{Database, type_at}
use Rattle.gw_objects.specs.Property.{properties, property_number}
use Rattle.gw_rules.specs.declared.operation.Operation.TheVariants as operation
use Rattle.gw_rules.specs.declared.rule.Rule.{Rule}
use Rattle.gw_rules.specs.declared.service.Service.TheVariants.{Confirmed}
use Rattle.gw_rules.specs.Ask.{Ask}
use Rattle.gw_rules.specs.RuleList.{allows}
use Rattle.gw_codecs.specs.services.Multi.{Reference, head_part, tail_part, list_ends}
use Rattle.gw_codecs.specs.services.Reply.{value_item_head, value_item_tail, error_item}
use Rattle.gw_codecs.specs.tags.Object.{Object}
use Rattle.gw_device.specs.declared.context.Context.{Context}
use Rattle.gw_device.specs.Asks.{property_ask, named_object}
use Rattle.gw_device.specs.Errors.{read_denied, unknown_object}
use Rattle.gw_device.specs.Read.{read_value}
use Rattle.gw_device.specs.Response.{Response, unchanged, to_client, fitted}
use Rattle.gw_codecs.specs.services.Choices.{read_property_multiple}
use Rattle.gw_device.specs.Services.{set_of}

-- a part of the answer: what is asked for it, in order, and its octets
pub record Part : Type 0 where
  pub asks : List Ask
  pub octets : List ℕ

abbrev pub no_part : Part
no_part = record { asks = []; octets = [] }

-- an ask that has no octets of its own
abbrev pub asked : Ask → Part
asked ask = record { asks = ask ∷ []; octets = [] }

-- one part after the other
abbrev pub joined : Part → Part → Part
joined a b = record { asks = a.asks ++ b.asks; octets = a.octets ++ b.octets }

-- the ask for a property
abbrev pub multi_ask : Database → Context → Object → ℕ → Ask
multi_ask d context object p =
    property_ask operation.Read (Confirmed read_property_multiple) d.configured context object p

-- the item of a property: its value, or the error in its place
abbrev pub item : ℕ → Option ℕ → Result (List ℕ) ServiceError → List ℕ
item p index (Ok value) = value_item_head p index ++ value ++ value_item_tail
item p index (Err why) = error_item p index why

-- one property: its ask, and its item
abbrev pub property_part : List Rule → Database → Context → Object → ℕ → Option ℕ → Part
property_part rules d context object p index =
    let ask = multi_ask d context object p in
    record { asks = ask ∷ []; octets = item p index (read_value rules d ask object p index) }

-- properties one after the other
abbrev pub properties_part : List Rule → Database → Context → Object → List Property → Part
properties_part rules d context object [] = no_part
properties_part rules d context object (p ∷ ps) =
    joined (property_part rules d context object (property_number p) None)
    (properties_part rules d context object ps)

-- the properties of a set that an object of the type has; without an object one item
abbrev pub members_part : List Rule → Database → Context → Object → ℕ → PropertySet
    → Option ObjectType → Part
members_part rules d context object p set None =
    record { asks = []; octets = error_item p None unknown_object }
members_part rules d context object p set (Some kind) =
    properties_part rules d context object (properties kind set)

-- A set raises its own ask first. Its properties are asked for only where that is allowed.
abbrev pub set_part : List Rule → Database → Context → Object → ℕ → PropertySet → Part
set_part rules d context object p set =
    let ask = multi_ask d context object p in
    if allows rules ask
    then joined (asked ask)
    (members_part rules d context object p set (type_at d.configured object))
    else record { asks = ask ∷ []; octets = error_item p None read_denied }

-- a property or a set of them, as a reference names it
abbrev pub named_part : List Rule → Database → Context → Object → ℕ → Option ℕ
    → Option PropertySet → Part
named_part rules d context object p index None = property_part rules d context object p index
named_part rules d context object p index (Some set) = set_part rules d context object p set

-- between the head and the tail of an object's list, where it begins and ends
abbrev pub enclosed : Bool → Object → Bool → Part → Part
enclosed begins object ends part =
    record part { octets = head_part begins object ++ part.octets ++ tail_part ends }

abbrev pub reference_part : List Rule → Database → Context → Reference → Bool → Part
reference_part rules d context r ends =
    let object = named_object d.configured r.object in
    enclosed r.begins object ends
    (named_part rules d context object r.property r.index (set_of r.property))

abbrev pub multi_part : List Rule → Database → Context → List Reference → Part
multi_part rules d context [] = no_part
multi_part rules d context (r ∷ rs) =
    joined (reference_part rules d context r (list_ends rs)) (multi_part rules d context rs)

-- A ComplexACK always, with errors in their places.
abbrev pub multi_ack : ℕ → List ℕ → List ℕ
multi_ack invoke items = complex_ack invoke read_property_multiple ++ items

abbrev pub multi_response : List Rule → Database → Context → ConfirmedRequest → List Reference
    → Response
multi_response rules d context request references =
    let part = multi_part rules d context references in
    unchanged part.asks (to_client (fitted request context (multi_ack request.invoke part.octets)))
