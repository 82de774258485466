-- The numbers of the twelve fields and their keys in the table of a rule, which are this project's own.
use Rattle.std.specs.Prelude.{ℕ, List, codes}
use Rattle.gw_rules.specs.declared.field.FieldName.{FieldName}
use Rattle.gw_rules.specs.declared.field.FieldName.TheVariants.{Operation, Port, SourceNetwork, SourceKey}
use Rattle.gw_rules.specs.declared.field.FieldName.TheVariants.{DestinationNetwork, Service, ObjectType, Instance}
use Rattle.gw_rules.specs.declared.field.FieldName.TheVariants.{Property, Priority, Sender, Station}

-- the number of a field
abbrev pub field_number : FieldName → ℕ
field_number Operation = 1
field_number Port = 2
field_number SourceNetwork = 3
field_number SourceKey = 4
field_number DestinationNetwork = 5
field_number Service = 6
field_number ObjectType = 7
field_number Instance = 8
field_number Property = 9
field_number Priority = 10
field_number Sender = 11
field_number Station = 12

-- the key of a field in the table of a rule
abbrev pub field_key : FieldName → List ℕ
field_key Operation = codes "operation"
field_key Port = codes "port"
field_key SourceNetwork = codes "source_network"
field_key SourceKey = codes "source"
field_key DestinationNetwork = codes "destination"
field_key Service = codes "service"
field_key ObjectType = codes "object_type"
field_key Instance = codes "instance"
field_key Property = codes "property"
field_key Priority = codes "priority"
field_key Sender = codes "sender"
field_key Station = codes "station"
