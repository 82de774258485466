-- What a line shows of a denial, and the ask that it shows.
use Rattle.std.specs.Prelude.{◌≡◌, ◌⊎◌, ℕ, ◌^◌, ◌<◌, true, is_some, if◌then◌else◌, List, [], ◌∷◌, ◌++◌, Option, Some, IfSome, codes}
use Rattle.std.specs.Fmt.{decimal}
use Rattle.std.specs.List.{flat_map}
use Rattle.std.specs.Option.{option_and_then, option_map}
use Rattle.std.specs.Str.{IsUtf8}
use Rattle.gw_addr.specs.Reading.{AreOctets}
use Rattle.gw_addr.specs.Station.{is_network, is_station, two_digits}
use Rattle.gw_rules.specs.Ask.{Ask}
use Rattle.gw_rules.specs.Format.{key_in}
use Rattle.gw_rules.specs.declared.format.Format.{Format}
use Rattle.gw_rules.specs.declared.format.Format.TheVariants.{One, Three}
use Rattle.gw_audit.specs.declared.denial.Denial.{Denial}
use Rattle.gw_audit.specs.declared.entry.Shown.{Shown}
use Rattle.gw_audit.specs.declared.entry.ShownAsk.{ShownAsk}
use Rattle.gw_audit.specs.declared.entry.Stations.{Stations}
use Rattle.gw_audit.specs.Laws.{IsDenial}
use Rattle.gw_audit.specs.Line.{field_text, line_text, operation_word, stations_of, stations_text}

-- a denial as each value of the type is one: its numbers fit, and its network, its station and its rule's name are such
pub record IsShowable (d : Denial) : Type 0 where
  pub numbers : IsDenial d
  pub network : is_network d.source.net ≡ true
  pub station : is_station d.source.mac ≡ true
  pub name : IsUtf8 d.rule

-- the line of a denial, without its line feed
abbrev pub IsLineOf : List ℕ → Denial → Type 0
IsLineOf line d = line ++ 10 ∷ [] ≡ line_text d

-- what a line shows of the ask of a denial
abbrev pub shown_ask : Denial → ShownAsk
shown_ask d = record {
  port = d.port;
  source = d.source;
  operation = d.ask.operation;
  destination_network = d.ask.destination_network;
  service = d.ask.service;
  object_type = d.ask.object_type;
  instance = d.ask.instance;
  property = d.ask.property;
  priority = d.ask.priority;
  stations = stations_of d.ask;
}

-- the format of the policy whose log the line is of: a line names stations in format 3 alone
abbrev pub format_shown : Option Stations → Format
format_shown stations = if is_some stations then Three else One

-- the ask that is shown so: its port and its source are those of the line, and its source's key is that of the line's format
abbrev pub ask_shown : ShownAsk → Ask
ask_shown s = record {
  operation = s.operation;
  port = Some s.port;
  source_network = Some s.source.net;
  source_key = key_in (format_shown s.stations) s.source.mac;
  destination_network = s.destination_network;
  service = s.service;
  object_type = s.object_type;
  instance = s.instance;
  property = s.property;
  priority = s.priority;
  sender = option_map (λ stations. stations.sender) s.stations;
  station = option_and_then (λ stations. stations.station) s.stations;
}

-- the denial that a line shows, of that ask
abbrev pub denial_of : Shown → Denial
denial_of s = record {
  number = s.number;
  tick = s.tick;
  port = s.ask.port;
  source = s.ask.source;
  ask = ask_shown s.ask;
  rule = s.rule.now;
}

-- ---- an ask by itself

-- stations whose keys fit 64 bits
pub record AreShownStations (s : Stations) : Type 0 where
  pub sender : s.sender < 2 ^ 64
  pub station : IfSome s.station (λ n. n < 2 ^ 64)

-- an ask whose numbers fit their types, and whose network and station are such
pub record IsShownAsk (s : ShownAsk) : Type 0 where
  pub port : s.port < 2 ^ 8
  pub network : is_network s.source.net ≡ true
  pub station : is_station s.source.mac ≡ true
  pub mac : AreOctets s.source.mac
  pub operation : IfSome s.operation (λ n. n < 2 ^ 64)
  pub destination_network : IfSome s.destination_network (λ n. n < 2 ^ 64)
  pub service : IfSome s.service (λ n. n < 2 ^ 64)
  pub object_type : IfSome s.object_type (λ n. n < 2 ^ 64)
  pub instance : IfSome s.instance (λ n. n < 2 ^ 64)
  pub property : IfSome s.property (λ n. n < 2 ^ 64)
  pub priority : IfSome s.priority (λ n. n < 2 ^ 64)
  pub stations : IfSome s.stations AreShownStations

-- the words in the middle of a line, and the stations at its end:
-- `<port> <net>:<MAC> <operation> dst=<n> svc=<n> obj=<type>,<instance> prop=<n> prio=<n> sender=<MAC> station=<MAC>`
unfoldable pub ask_text : ShownAsk → List ℕ
ask_text s =
    decimal s.port ++ codes " " ++ decimal s.source.net ++ codes ":" ++ flat_map two_digits s.source.mac
    ++ codes " " ++ operation_word (is_some s.stations) s.operation
    ++ codes " dst=" ++ field_text s.destination_network
    ++ codes " svc=" ++ field_text s.service
    ++ codes " obj=" ++ field_text s.object_type ++ codes "," ++ field_text s.instance
    ++ codes " prop=" ++ field_text s.property
    ++ codes " prio=" ++ field_text s.priority
    ++ stations_text s.stations

-- the line of a denial of this ask
pub record IsLineOfAsk (line : List ℕ) (s : ShownAsk) : Type 0 where
  pub denial : Denial
  pub showable : IsShowable denial
  pub spelled : IsLineOf line denial
  pub ask : shown_ask denial ≡ s

-- these words
pub record IsAskInWords (line : List ℕ) (s : ShownAsk) : Type 0 where
  pub numbers : IsShownAsk s
  pub spelled : line ≡ ask_text s

-- a line that shows an ask: that of a denial, or its words alone
abbrev pub ShowsAsk : List ℕ → ShownAsk → Type 0
ShowsAsk line s = IsLineOfAsk line s ⊎ IsAskInWords line s
