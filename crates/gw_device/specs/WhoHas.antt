-- Who-Has and I-Have (ISO 16484-5, clause 16.9).
use Rattle.std.specs.Prelude.{ℕ, ◌==◌, if◌then◌else◌, List, ◌++◌, Option, Some, None}
use Rattle.std.specs.Option.{option_map}
use Rattle.gw_objects.specs.declared.configured.Configured.{Configured}
use Rattle.gw_objects.specs.declared.property.Property.TheVariants.{ObjectName}
use Rattle.gw_objects.specs.Objects.{Database, device_id, name_at, named}
use Rattle.gw_objects.specs.Property.{property_number}
use Rattle.gw_rules.specs.declared.operation.Operation.TheVariants as operation
use Rattle.gw_rules.specs.declared.rule.Rule.{Rule}
use Rattle.gw_rules.specs.declared.service.Service.TheVariants.{Unconfirmed}
use Rattle.gw_rules.specs.Ask.{Ask}
use Rattle.gw_codecs.specs.services.IHave.{i_have_encoding}
use Rattle.gw_codecs.specs.services.WhoHas.{WhoHas, Sought, the_object, the_name}
use Rattle.gw_codecs.specs.tags.Object.{Object}
use Rattle.gw_device.specs.declared.context.Context.{Context}
use Rattle.gw_device.specs.Asks.{property_ask}
use Rattle.gw_device.specs.Response.{Response, silence}
use Rattle.gw_codecs.specs.services.Choices.{who_has, i_have}
use Rattle.gw_device.specs.WhoIs.{unconfirmed, is_within, if_allowed}

-- names are in character set 0
abbrev pub utf8 : ℕ
utf8 = 0

-- the object that is sought, whether or not it is there; by a name, the one that has it
abbrev pub sought_object : Configured → Sought → Option Object
sought_object c (the_object id) = Some id
sought_object c (the_name charset name) = if charset == utf8 then named c name else None

-- to announce that the object is here, which is to list its Object_Name
abbrev pub who_has_ask : Configured → Context → Object → Ask
who_has_ask c context object =
    property_ask operation.List (Unconfirmed who_has) c context object (property_number ObjectName)

-- I-Have: the device, the object, and its name
abbrev pub i_have_apdu : Configured → Object → List ℕ → List ℕ
i_have_apdu c object name = unconfirmed i_have ++ i_have_encoding (record {
  device = device_id c.device;
  object = object;
  charset = utf8;
  name = name;
})

-- an object that is sought is asked for, and announced if it is there
abbrev pub object_response : List Rule → Database → Context → Option Object → Response
object_response rules d context None = silence
object_response rules d context (Some object) =
    if_allowed rules (who_has_ask d.configured context object)
    (option_map (i_have_apdu d.configured object) (name_at d.configured object))

abbrev pub who_has_response : List Rule → Database → Context → WhoHas → Response
who_has_response rules d context request =
    if is_within request.limits d.configured.device.instance
    then object_response rules d context (sought_object d.configured request.sought)
    else silence
