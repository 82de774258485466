-- What the device asks of the policy, and the object that a read names.
use Rattle.std.specs.Prelude.{ℕ, ◌==◌, ◌&&◌, if◌then◌else◌, Some}
use Rattle.gw_objects.specs.declared.configured.Configured.{Configured}
use Rattle.gw_objects.specs.declared.property.ObjectType.TheVariants as types
use Rattle.gw_objects.specs.Objects.{device_id}
use Rattle.gw_objects.specs.Property.{type_number}
use Rattle.gw_rules.specs.declared.operation.Operation.{Operation}
use Rattle.gw_rules.specs.declared.service.Service.{Service}
use Rattle.gw_rules.specs.Ask.{Ask, ask_of}
use Rattle.gw_rules.specs.Service.{service_number}
use Rattle.gw_codecs.specs.tags.Object.{Object}
use Rattle.gw_device.specs.declared.context.Context.{Context}

-- what a request asks for: whence it came, the device's network, its service, the property of an object, and the
-- sender if the context names one
abbrev pub property_ask : Operation → Service → Configured → Context → Object → ℕ → Ask
property_ask operation service c context object property = record (ask_of operation) {
  port = Some context.port;
  source_network = Some context.source_network;
  source_key = context.source_key;
  destination_network = Some c.device.network;
  service = Some (service_number service);
  object_type = Some object.kind;
  instance = Some object.instance;
  property = Some property;
  sender = context.sender;
}

-- the instance by which a read names the device itself, whatever its instance (clause 12.11)
abbrev pub any_instance : ℕ
any_instance = 4194303

-- the object that a read names
abbrev pub named_object : Configured → Object → Object
named_object c object =
    if object.kind == type_number types.Device && object.instance == any_instance
    then device_id c.device else object
