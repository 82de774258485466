-- The numbers that a field can have, and the rules that name no others.
use Rattle.std.specs.Prelude.{ℕ, ◌≤◌, Bool, ◌&&◌, nat_le, List, All}
use Rattle.std.specs.List.{list_all}
use Rattle.gw_addr.specs.declared.TheConstants.{MAX_PORTS}
use Rattle.gw_rules.specs.declared.field.FieldName.{FieldName}
use Rattle.gw_rules.specs.declared.field.FieldName.TheVariants.{Operation, Port, SourceNetwork, SourceKey}
use Rattle.gw_rules.specs.declared.field.FieldName.TheVariants.{DestinationNetwork, Service, ObjectType, Instance}
use Rattle.gw_rules.specs.declared.field.FieldName.TheVariants.{Property, Priority, Sender, Station}
use Rattle.gw_rules.specs.declared.fields.Fields.{Fields}
use Rattle.gw_rules.specs.declared.format.Format.{Format}
use Rattle.gw_rules.specs.declared.format.Format.TheVariants.{Three}
use Rattle.gw_rules.specs.declared.range.Range.{Range}
use Rattle.gw_rules.specs.declared.rule.Rule.{Rule}
use Rattle.gw_rules.specs.Fields.{value_of}
use Rattle.gw_rules.specs.Rule.{each_field, ranges_of}

-- the number of the last operation, and the greatest destination: all networks, 65535, in format 3
abbrev pub last_operation : Format → ℕ
last_operation Three = 13
last_operation _ = 11

abbrev pub last_destination : Format → ℕ
last_destination Three = 65535
last_destination _ = 65534

-- the greatest key of a station: of six octets, and in format 3 of one to seven
abbrev pub last_key : Format → ℕ
last_key Three = 576460752303423487
last_key _ = 281474976710655

-- the least and the greatest number that a field can have: a network of clause 6, the key of a station, of a sender that
-- of six octets (Annex J.1.2), a type of 10 bits and an instance of 22 (clause 20.2.14), a property of 22 bits (clause 21), a priority (clause 19.2)
abbrev pub bounds : Format → FieldName → Range
bounds format Operation = record { low = 1; high = last_operation format }
bounds format Port = record { low = 1; high = MAX_PORTS }
bounds format SourceNetwork = record { low = 1; high = 65534 }
bounds format SourceKey = record { low = 0; high = last_key format }
bounds format DestinationNetwork = record { low = 1; high = last_destination format }
bounds format Service = record { low = 0; high = 1031 }
bounds format ObjectType = record { low = 0; high = 1023 }
bounds format Instance = record { low = 0; high = 4194303 }
bounds format Property = record { low = 0; high = 4194303 }
bounds format Priority = record { low = 1; high = 16 }
bounds format Sender = record { low = 0; high = 281474976710655 }
bounds format Station = record { low = 0; high = last_key format }

-- a range within another begins at its low end or above, and ends at its high end or below
abbrev pub is_within : Range → Range → Bool
is_within outer range = nat_le outer.low range.low && nat_le range.high outer.high

-- each range lies within the bounds of its field
abbrev pub are_bounded : Format → Fields (List Range) → Bool
are_bounded format ranges = each_field (λ field. list_all (is_within (bounds format field)) (value_of field ranges))

-- the same of a rule, in words
abbrev pub HasBoundedRanges : Format → Rule → Type 0
HasBoundedRanges format rule =
    (field : FieldName)
    → All (λ range. ((bounds format field).low ≤ range.low) × (range.high ≤ (bounds format field).high)) (ranges_of field rule)
