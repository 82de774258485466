-- A value for each of the twelve fields: the value at a name, and another value there.
use Rattle.gw_rules.specs.declared.field.FieldName.{FieldName}
use Rattle.gw_rules.specs.declared.field.FieldName.TheVariants.{Operation, Port, SourceNetwork, SourceKey}
use Rattle.gw_rules.specs.declared.field.FieldName.TheVariants.{DestinationNetwork, Service, ObjectType, Instance}
use Rattle.gw_rules.specs.declared.field.FieldName.TheVariants.{Property, Priority, Sender, Station}
use Rattle.gw_rules.specs.declared.fields.Fields.{Fields}

-- the value for a field
abbrev pub value_of : {A : Type 0} → FieldName → Fields A → A
value_of Operation fields = fields.operation
value_of Port fields = fields.port
value_of SourceNetwork fields = fields.source_network
value_of SourceKey fields = fields.source_key
value_of DestinationNetwork fields = fields.destination_network
value_of Service fields = fields.service
value_of ObjectType fields = fields.object_type
value_of Instance fields = fields.instance
value_of Property fields = fields.property
value_of Priority fields = fields.priority
value_of Sender fields = fields.sender
value_of Station fields = fields.station

-- the fields with another value for one of them
abbrev pub with_value : {A : Type 0} → FieldName → A → Fields A → Fields A
with_value Operation value fields = record fields { operation = value }
with_value Port value fields = record fields { port = value }
with_value SourceNetwork value fields = record fields { source_network = value }
with_value SourceKey value fields = record fields { source_key = value }
with_value DestinationNetwork value fields = record fields { destination_network = value }
with_value Service value fields = record fields { service = value }
with_value ObjectType value fields = record fields { object_type = value }
with_value Instance value fields = record fields { instance = value }
with_value Property value fields = record fields { property = value }
with_value Priority value fields = record fields { priority = value }
with_value Sender value fields = record fields { sender = value }
with_value Station value fields = record fields { station = value }

-- one value for every field
abbrev pub in_each : {A : Type 0} → A → Fields A
in_each value = record {
  operation = value;
  port = value;
  source_network = value;
  source_key = value;
  destination_network = value;
  service = value;
  object_type = value;
  instance = value;
  property = value;
  priority = value;
  sender = value;
  station = value;
}
