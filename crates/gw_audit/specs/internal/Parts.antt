-- The pieces in which a line is written.
use Rattle.std.specs.Prelude.{ℕ, is_some, List, [], ◌∷◌, ◌++◌, Option, codes}
use Rattle.std.specs.Fmt.{decimal}
use Rattle.std.specs.List.{flat_map}
use Rattle.std.specs.Option.{option_map_or}
use Rattle.gw_addr.specs.Station.{two_digits}
use Rattle.gw_addr.specs.declared.station.Source.{Source}
use Rattle.gw_rules.specs.Ask.{Ask}
use Rattle.gw_audit.specs.declared.denial.Denial.{Denial}
use Rattle.gw_audit.specs.Line.{absent, field_text, key_text, operation_word, stations_of, stations_text}

-- `<number> <tick> <port> `
abbrev pub counts_text : Denial → List ℕ
counts_text d = decimal d.number ++ codes " " ++ decimal d.tick ++ codes " " ++ decimal d.port ++ codes " "

-- `<net>:<MAC>`
abbrev pub source_text : Source → List ℕ
source_text source = decimal source.net ++ codes ":" ++ flat_map two_digits source.mac

-- ` <operation> dst=<n> svc=<n>`
abbrev pub request_text : Ask → List ℕ
request_text ask =
    codes " " ++ operation_word (is_some ask.sender) ask.operation
    ++ codes " dst=" ++ field_text ask.destination_network
    ++ codes " svc=" ++ field_text ask.service

-- ` obj=<type>,<instance> prop=<n> prio=<n>`
abbrev pub object_text : Ask → List ℕ
object_text ask =
    codes " obj=" ++ field_text ask.object_type ++ codes "," ++ field_text ask.instance
    ++ codes " prop=" ++ field_text ask.property
    ++ codes " prio=" ++ field_text ask.priority

-- `<net>:<MAC> <operation> dst=<n> svc=<n> obj=<type>,<instance> prop=<n> prio=<n>`
abbrev pub asked_text : Source → Ask → List ℕ
asked_text source ask = source_text source ++ request_text ask ++ object_text ask

-- and the stations
abbrev pub ask_pieces_text : Source → Ask → List ℕ
ask_pieces_text source ask = asked_text source ask ++ stations_text (stations_of ask)

-- ` rule=<name>`
abbrev pub rule_text : List ℕ → List ℕ
rule_text name = codes " rule=" ++ name

-- a station that may be there
abbrev pub station_text : Option ℕ → List ℕ
station_text station = option_map_or key_text station absent

-- the name of the rule, the stations and a line feed
abbrev pub end_text : Denial → List ℕ
end_text d = rule_text d.rule ++ stations_text (stations_of d.ask) ++ 10 ∷ []

-- the pieces of a line, one after the other
abbrev pub pieces_text : Denial → List ℕ
pieces_text d = counts_text d ++ asked_text d.source d.ask ++ end_text d
