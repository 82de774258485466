-- The line that shows a denial in the log. Its form is this project's own.
use Rattle.std.specs.Prelude.{ℕ, ◌==◌, Bool, nat_lt, ◌||◌, is_some, if◌then◌else◌, List, [], ◌∷◌, ◌++◌, Option}
use Rattle.std.specs.Prelude.{None, codes}
use Rattle.std.specs.Fmt.{decimal}
use Rattle.std.specs.Int.{w64, to_be_bytes}
use Rattle.std.specs.List.{find, flat_map}
use Rattle.std.specs.Option.{option_map, option_map_or}
use Rattle.gw_addr.specs.Station.{station_at, two_digits}
use Rattle.gw_addr.specs.declared.station.Source.{Source}
use Rattle.gw_rules.specs.Ask.{Ask}
use Rattle.gw_rules.specs.declared.operation.Operation.{Operation}
use Rattle.gw_rules.specs.declared.operation.TheConstants.Operation.{ALL}
use Rattle.gw_rules.specs.Operation.{operation_name, operation_number}
use Rattle.gw_audit.specs.declared.denial.Denial.{Denial}
use Rattle.gw_audit.specs.declared.entry.Stations.{Stations}

-- what a line has for a field that the ask lacks
abbrev pub absent : List ℕ
absent = codes "-"

-- a field: its number in decimal
abbrev pub field_text : Option ℕ → List ℕ
field_text value = option_map_or decimal value absent

-- the operation of a number, where there is one
abbrev pub operation_of : ℕ → Option Operation
operation_of number = find (λ operation. operation_number operation == number) ALL

-- an operation: its name, or its number where no operation has it
abbrev pub operation_text : Option ℕ → List ℕ
operation_text value =
    option_map_or (λ number. option_map_or operation_name (operation_of number) (decimal number)) value absent

-- the operation that a line names: `enter` and `claim`, 12 and 13, of an ask that has a sender only
abbrev pub operation_named : Bool → ℕ → Option Operation
operation_named has_sender number = if has_sender || nat_lt number 12 then operation_of number else None

-- what a line has for an operation: its name, or its number if it isn't named
abbrev pub operation_word : Bool → Option ℕ → List ℕ
operation_word has_sender value =
    option_map_or
    (λ number. option_map_or operation_name (operation_named has_sender number) (decimal number)) value absent

-- ---- stations

-- the octets of the station that has this key, one to seven, or the eight of a number that no station has
abbrev pub key_octets : ℕ → List ℕ
key_octets key = option_map_or (λ octets. octets) (station_at key) (to_be_bytes w64 key)

-- a station by its key: each octet as two upper-case hexadecimal digits
abbrev pub key_text : ℕ → List ℕ
key_text key = flat_map two_digits (key_octets key)

-- the stations that a line names: none, unless the ask has a sender
abbrev pub stations_of : Ask → Option Stations
stations_of ask = option_map (λ sender. record { sender = sender; station = ask.station }) ask.sender

-- ` sender=<MAC> station=<MAC>`, or nothing
abbrev pub stations_text : Option Stations → List ℕ
stations_text stations =
    option_map_or
    (λ s. codes " sender=" ++ key_text s.sender ++ codes " station=" ++ option_map_or key_text s.station absent)
    stations []

-- ---- the line

-- `<number> <tick> <port> <net>:<MAC> <operation> dst=<n> svc=<n> obj=<type>,<instance> prop=<n> prio=<n> rule=<name>`
-- then ` sender=<MAC> station=<MAC>` if the ask has a sender, and a line feed: numbers in decimal, each octet of a MAC
-- as two upper-case hexadecimal digits
unfoldable pub line_text : Denial → List ℕ
line_text d =
    decimal d.number ++ codes " " ++ decimal d.tick ++ codes " " ++ decimal d.port
    ++ codes " " ++ decimal d.source.net ++ codes ":" ++ flat_map two_digits d.source.mac
    ++ codes " " ++ operation_word (is_some d.ask.sender) d.ask.operation
    ++ codes " dst=" ++ field_text d.ask.destination_network
    ++ codes " svc=" ++ field_text d.ask.service
    ++ codes " obj=" ++ field_text d.ask.object_type ++ codes "," ++ field_text d.ask.instance
    ++ codes " prop=" ++ field_text d.ask.property
    ++ codes " prio=" ++ field_text d.ask.priority
    ++ codes " rule=" ++ d.rule ++ stations_text (stations_of d.ask) ++ 10 ∷ []

-- What was asked and by whom, as a line shows it, allowed or denied:
-- `<net>:<MAC> <operation> dst=<n> svc=<n> obj=<type>,<instance> prop=<n> prio=<n>`, and the stations
unfoldable pub ask_text : Source → Ask → List ℕ
ask_text source ask =
    decimal source.net ++ codes ":" ++ flat_map two_digits source.mac
    ++ codes " " ++ operation_word (is_some ask.sender) ask.operation
    ++ codes " dst=" ++ field_text ask.destination_network
    ++ codes " svc=" ++ field_text ask.service
    ++ codes " obj=" ++ field_text ask.object_type ++ codes "," ++ field_text ask.instance
    ++ codes " prop=" ++ field_text ask.property
    ++ codes " prio=" ++ field_text ask.priority
    ++ stations_text (stations_of ask)
