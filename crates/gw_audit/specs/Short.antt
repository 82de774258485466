-- The line of a denial as the formats 1 and 2 have it, written once more: eleven operations, and no stations.
use Rattle.std.specs.Prelude.{ℕ, ◌==◌, List, [], ◌∷◌, ◌++◌, Option, codes}
use Rattle.std.specs.Fmt.{decimal}
use Rattle.std.specs.List.{find, flat_map}
use Rattle.std.specs.Option.{option_map_or}
use Rattle.gw_addr.specs.Station.{two_digits}
use Rattle.gw_rules.specs.declared.operation.Operation.{Operation}
use Rattle.gw_rules.specs.declared.operation.Operation.TheVariants.{Cast, Route, Register, Delete, ReadTable}
use Rattle.gw_rules.specs.declared.operation.Operation.TheVariants.{WriteTable, Learn, Network, Read, Write}
use Rattle.gw_rules.specs.declared.operation.Operation.TheVariants.{List as Listing}
use Rattle.gw_rules.specs.Operation.{operation_name, operation_number}
use Rattle.gw_audit.specs.declared.denial.Denial.{Denial}
use Rattle.gw_audit.specs.Line.{absent, field_text}

-- the eleven operations
abbrev pub eleven : List Operation
eleven =
    Cast ∷ Route ∷ Register ∷ Delete ∷ ReadTable ∷ WriteTable ∷ Learn ∷ Network ∷ Read ∷ Write ∷ Listing ∷ []

-- one of them by its name, or a number that none has
abbrev pub short_operation : Option ℕ → List ℕ
short_operation value =
    option_map_or
    (λ number. option_map_or operation_name (find (λ o. operation_number o == number) eleven) (decimal number))
    value absent

-- `<number> <tick> <port> <net>:<MAC> <operation> dst=<n> svc=<n> obj=<type>,<instance> prop=<n> prio=<n> rule=<name>`
-- and a line feed
unfoldable pub short_line : Denial → List ℕ
short_line d =
    decimal d.number ++ codes " " ++ decimal d.tick ++ codes " " ++ decimal d.port
    ++ codes " " ++ decimal d.source.net ++ codes ":" ++ flat_map two_digits d.source.mac
    ++ codes " " ++ short_operation d.ask.operation
    ++ codes " dst=" ++ field_text d.ask.destination_network
    ++ codes " svc=" ++ field_text d.ask.service
    ++ codes " obj=" ++ field_text d.ask.object_type ++ codes "," ++ field_text d.ask.instance
    ++ codes " prop=" ++ field_text d.ask.property
    ++ codes " prio=" ++ field_text d.ask.priority
    ++ codes " rule=" ++ d.rule ++ 10 ∷ []
