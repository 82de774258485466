-- The tables of a configuration, key by key, with what each key's value may be.
use Rattle.std.specs.Prelude.{ℕ, ◌++◌, Bool, List, [], ◌∷◌, map, take, true, false, codes, if◌then◌else◌, Option, option_and_then, Ok, Err}
use Rattle.std.specs.Option.{ok_or, option_map_or}
use Rattle.toml.specs.Data.{Members, as_bool, get_member}
use Rattle.gw_addr.specs.Reading.{◌>>=◌}
use Rattle.gw_addr.specs.declared.TheConstants.{MAX_PORTS}
use Rattle.gw_rules.specs.declared.field.FieldName.{FieldName}
use Rattle.gw_rules.specs.declared.field.FieldName.TheVariants as fields
use Rattle.gw_rules.specs.declared.format.Format.{Format}
use Rattle.gw_rules.specs.declared.format.Format.TheVariants as formats
use Rattle.gw_rules.specs.declared.field.TheConstants.FieldName as names
use Rattle.gw_rules.specs.declared.range.Range.{Range as Limits}
use Rattle.gw_rules.specs.Bounds.{bounds}
use Rattle.gw_rules.specs.Field.{field_key}
use Rattle.gw_configuration.specs.declared.object.ObjectKind.{ObjectKind}
use Rattle.gw_configuration.specs.declared.object.ObjectKind.TheVariants.{BinaryValue, MultiStateValue}
use Rattle.gw_configuration.specs.declared.object.ObjectKind.TheVariants.{CharacterStringValue, IntegerValue}
use Rattle.gw_configuration.specs.declared.object.ObjectKind.TheVariants.{PositiveIntegerValue}
use Rattle.gw_configuration.specs.declared.fault.ConfigFault.TheVariants.{Kind}
use Rattle.gw_configuration.specs.declared.shape.Names.TheVariants.{Services, ObjectTypes, Properties}
use Rattle.gw_configuration.specs.declared.shape.Scalar.{Scalar}
use Rattle.gw_configuration.specs.declared.shape.Scalar.TheVariants.{Number, Signed, ObjectType, Text, RuleName}
use Rattle.gw_configuration.specs.declared.shape.Scalar.TheVariants.{ShortName, True, False, Verdict, AnyStations}
use Rattle.gw_configuration.specs.declared.shape.Naming.{Naming}
use Rattle.gw_configuration.specs.declared.shape.Naming.TheVariants as namings
use Rattle.gw_configuration.specs.declared.shape.Scalar.TheVariants.{Operation, Boolean, Address, Manager, Mask, Table}
use Rattle.gw_configuration.specs.declared.shape.Scalar.TheVariants.{Named, Stations, Subnet, Item}
use Rattle.gw_configuration.specs.declared.shape.Shape.{Shape}
use Rattle.gw_configuration.specs.declared.shape.Shape.TheVariants.{One, List as Listing, Ranges, Items}
use Rattle.gw_configuration.specs.Configuration.{format_of}
use Rattle.gw_configuration.specs.Located.{Read}
use Rattle.gw_policy_text.specs.keys.Field.{Field}
use Rattle.gw_policy_text.specs.keys.Value.{number_in}

-- a field that must be there
abbrev pub needs : List ℕ → Shape → Field
needs key shape = record { key = key; required = true; shape = shape }

-- a field that may be missing
abbrev pub may : List ℕ → Shape → Field
may key shape = record { key = key; required = false; shape = shape }

abbrev pub number : ℕ → ℕ → Shape
number low high = One (Number low high)

-- a network, an instance, a text, a name
abbrev pub network : Shape
network = number 1 65534

abbrev pub instance : Shape
instance = number 0 4194302

abbrev pub text : Shape
text = One (Text 0)

abbrev pub name : Shape
name = One (Text 1)

-- tables in double brackets
abbrev pub tables : ℕ → ℕ → Shape
tables least most = Listing Table least most

-- what formats 1, 2 and 3 have
abbrev pub common_top_fields : List Field
common_top_fields =
    needs (codes "format") (number 1 3)
    ∷ needs (codes "device") (One Table)
    ∷ needs (codes "port") (tables 1 MAX_PORTS)
    ∷ may (codes "route") (tables 0 512)
    ∷ may (codes "object") (tables 0 256)
    ∷ may (codes "rule") (tables 0 512)
    ∷ []

-- and format 3 alone: sets, of which there may be as many as a text has octets, whether networks are announced, and
-- assertions
abbrev pub top_fields : Format → List Field
top_fields formats.Three =
    common_top_fields ++ may (codes "set") (tables 0 1048576) ∷ may (codes "announce") (One Boolean)
    ∷ may (codes "assert") (tables 0 512) ∷ []
top_fields _ = common_top_fields

-- the format by which a text's keys are judged: 3 exactly if its `format` is the whole number 3
abbrev pub format_read : Read ℕ → Format
format_read (Ok number) = format_of number
format_read (Err _) = formats.One

abbrev pub format_in : Members → Format
format_in table = format_read (ok_or (get_member (codes "format") table) Kind >>= number_in 1 3)

abbrev pub device_fields : List Field
device_fields =
    needs (codes "network") network
    ∷ needs (codes "instance") instance
    ∷ needs (codes "name") name
    ∷ needs (codes "vendor") (number 0 65535)
    ∷ needs (codes "vendor_name") text
    ∷ needs (codes "model") text
    ∷ needs (codes "firmware") text
    ∷ needs (codes "software") text
    ∷ needs (codes "revision") (number 0 255)
    ∷ needs (codes "database") (number 0 4294967295)
    ∷ may (codes "description") text
    ∷ []

abbrev pub common_port_fields : List Field
common_port_fields =
    needs (codes "network") network
    ∷ needs (codes "address") (One Address)
    ∷ needs (codes "broadcast") (One Address)
    ∷ may (codes "peer") (tables 0 64)
    ∷ []

-- the broadcast manager beside a port
abbrev pub manager_field : Field
manager_field = may (codes "bbmd") (One Manager)

-- format 3 alone: the subnets of the port's stations, and the broadcast manager beside it
abbrev pub port_fields : Format → List Field
port_fields formats.Three = common_port_fields ++ may (codes "stations") (Listing Subnet 1 16) ∷ manager_field ∷ []
port_fields _ = common_port_fields

abbrev pub peer_fields : List Field
peer_fields =
    needs (codes "address") (One Address)
    ∷ needs (codes "mask") (One Mask)
    ∷ []

-- the port of a route is one of so many
abbrev pub route_fields : ℕ → List Field
route_fields ports =
    needs (codes "network") network
    ∷ needs (codes "port") (number 1 ports)
    ∷ needs (codes "next") (One Address)
    ∷ []

-- the type of an object
abbrev pub type_field : Field
type_field = needs (codes "type") (One ObjectType)

-- every object, with the shape of its default
abbrev pub common_fields : Shape → List Field
common_fields default =
    type_field
    ∷ needs (codes "instance") instance
    ∷ needs (codes "name") name
    ∷ needs (codes "default") default
    ∷ may (codes "description") text
    ∷ []

-- an object of each type; the default of a Multi-state Value is one of so many states
abbrev pub object_fields : ObjectKind → ℕ → List Field
object_fields BinaryValue states =
    common_fields (number 0 1) ++ may (codes "active") text ∷ may (codes "inactive") text ∷ []
object_fields MultiStateValue states =
    common_fields (number 1 states) ++ needs (codes "states") (Listing (Text 0) 1 64) ∷ []
object_fields CharacterStringValue states = common_fields text
object_fields IntegerValue states =
    common_fields (One Signed) ++ needs (codes "units") (number 0 65535) ∷ []
object_fields PositiveIntegerValue states =
    common_fields (number 0 4294967295) ++ needs (codes "units") (number 0 65535) ∷ []

-- a set, whose items are judged in full in each rule or assertion that names it
abbrev pub set_fields : List Field
set_fields =
    needs (codes "name") (One RuleName)
    ∷ needs (codes "items") (Listing Item 1 64)
    ∷ []

-- what a rule may name for a field: an operation by its name, a source, sender or station by its address, in format 3 a
-- source or station of every length, and of all else a number within the bounds of the field, of some in format 3 by its
-- name too
abbrev pub scalar_of : Format → FieldName → Scalar
scalar_of format fields.Operation = Operation (namings.Rule format)
scalar_of formats.Three fields.SourceKey = AnyStations
scalar_of format fields.SourceKey = Address
scalar_of formats.Three fields.Service = Named Services
scalar_of formats.Three fields.ObjectType = Named ObjectTypes
scalar_of formats.Three fields.Property = Named Properties
scalar_of format fields.Sender = Stations
scalar_of formats.Three fields.Station = AnyStations
scalar_of format fields.Station = Stations
scalar_of format field = Number (bounds format field).low (bounds format field).high

-- the format of whose names they are
abbrev pub format_by : Naming → Format
format_by (namings.Rule format) = format
format_by namings.BothWays = formats.Three
format_by namings.Assertion = formats.Three

-- what may be named for a field: a rule that goes both ways has operations and a destination of its own, and an assertion
-- operations
abbrev pub scalar_for : Naming → FieldName → Scalar
scalar_for naming fields.Operation = Operation naming
scalar_for namings.BothWays fields.DestinationNetwork = Number 1 65534
scalar_for naming field = scalar_of (format_by naming) field

-- within which it has its numbers
abbrev pub limits_for : Naming → FieldName → Limits
limits_for (namings.Rule format) field = bounds format field
limits_for namings.BothWays fields.DestinationNetwork = record { low = 1; high = 65534 }
limits_for namings.BothWays field = bounds formats.Three field
limits_for namings.Assertion fields.Operation = record { low = 1; high = 15 }
limits_for namings.Assertion field = bounds formats.Three field

-- items for a field
abbrev pub items_of : Format → Scalar → Shape
items_of formats.Three of = Items of
items_of format of = Ranges of

abbrev pub items_for : Naming → FieldName → Shape
items_for naming field = items_of (format_by naming) (scalar_for naming field)

-- a rule that goes both ways must name its operations and its two networks
abbrev pub is_due : Naming → FieldName → Bool
is_due namings.BothWays fields.Operation = true
is_due namings.BothWays fields.SourceNetwork = true
is_due namings.BothWays fields.DestinationNetwork = true
is_due naming field = false

abbrev pub ranges : Naming → FieldName → Field
ranges naming field =
    record { key = field_key field; required = is_due naming field; shape = items_for naming field }

-- true is at a key
abbrev pub is_true_at : List ℕ → Members → Bool
is_true_at key table = option_map_or (λ b. b) (option_and_then as_bool (get_member key table)) false

-- a rule of format 3 that goes both ways
abbrev pub is_both_ways : Format → Members → Bool
is_both_ways formats.Three table = is_true_at (codes "both_ways") table
is_both_ways format table = false

abbrev pub naming_by : Format → Bool → Naming
naming_by format both = if both then namings.BothWays else namings.Rule format

abbrev pub naming_of : Format → Members → Naming
naming_of format table = naming_by format (is_both_ways format table)

-- a rule that goes both ways has a short name, and allows
abbrev pub name_for : Naming → Scalar
name_for namings.BothWays = ShortName
name_for naming = RuleName

abbrev pub allow_for : Naming → Scalar
allow_for namings.BothWays = True
allow_for naming = Boolean

-- one that allows isn't quiet
abbrev pub quiet_for : Bool → Scalar
quiet_for allows = if allows then False else Boolean

-- all that such a rule may have, that allows or doesn't, of which the last seven are format 3's alone: the station that sent,
-- the station that a message names, a note, whether what it allows is written, whether it goes both ways, whether it is
-- there, and whether what it denies is left out of the log
abbrev pub every_rule_field : Naming → Bool → List Field
every_rule_field naming allows =
    needs (codes "name") (One (name_for naming))
    ∷ needs (codes "allow") (One (allow_for naming))
    ∷ map (ranges naming) names.ALL
    ++ may (codes "note") text
    ∷ may (codes "audit") (One Boolean)
    ∷ may (codes "both_ways") (One Boolean)
    ∷ may (codes "enabled") (One Boolean)
    ∷ may (codes "quiet") (One (quiet_for allows))
    ∷ []

abbrev pub common_rule_fields : Format → List Field
common_rule_fields format = take 12 (every_rule_field (namings.Rule format) false)

-- the fields of a rule, by what it says of itself
abbrev pub rule_fields : Format → Members → List Field
rule_fields formats.Three table =
    every_rule_field (naming_of formats.Three table) (is_true_at (codes "allow") table)
rule_fields format table = common_rule_fields format

-- an assertion
abbrev pub assertion_fields : List Field
assertion_fields =
    needs (codes "name") (One RuleName)
    ∷ needs (codes "verdict") (One Verdict)
    ∷ map (ranges namings.Assertion) names.ALL
    ++ may (codes "unnamed") (One Boolean)
    ∷ may (codes "note") text
    ∷ []
