-- What is read of a line, piece by piece from its front.
use Rattle.std.specs.Prelude.{◌≡◌, ℕ, ◌+◌, ◌^◌, ◌==◌, ◌&&◌, Bool, nat_eq, nat_le, nat_lt, is_some, if◌then◌else◌, List}
use Rattle.std.specs.Prelude.{length, take, drop, find, position, codes, Option, Some, None, Result, Ok, Err}
use Rattle.std.specs.Cmp.Lexicographic.{pointwise}
use Rattle.std.specs.Fmt.{decimal}
use Rattle.std.specs.Int.{w64, from_be_bytes}
use Rattle.std.specs.List.{list_any}
use Rattle.std.specs.Option.{option_and_then, option_map, option_map_or}
use Rattle.std.specs.Str.{is_utf8}
use Rattle.std.specs.Str.Parse.{digits_value}
use Rattle.hex.specs.Hex.{decode_of}
use Rattle.hex.specs.declared.error.FromHexError.{FromHexError}
use Rattle.gw_addr.specs.declared.station.Source.{Source}
use Rattle.gw_addr.specs.Station.{key_of, network_of, station_at, station_of}
use Rattle.gw_rules.specs.declared.operation.Operation.{Operation}
use Rattle.gw_rules.specs.declared.operation.TheConstants.Operation.{ALL}
use Rattle.gw_rules.specs.Operation.{operation_name, operation_number}
use Rattle.gw_audit.specs.declared.entry.ShownAsk.{ShownAsk}
use Rattle.gw_audit.specs.declared.entry.Stations.{Stations}
use Rattle.gw_audit.specs.declared.reading.Request.{Request}
use Rattle.gw_audit.specs.declared.reading.Target.{Target}
use Rattle.gw_audit.specs.declared.denial.Denial.{Denial}
use Rattle.gw_audit.specs.Entry.{ask_shown, shown_ask}
use Rattle.gw_audit.specs.Line.{absent, operation_named}

-- what is read next, where something was read
infixl 10 ◌>>=◌
abbrev pub ◌>>=◌ : {A B : Type 0} → Option A → (A → Option B) → Option B
(Some x) >>= f = f x
None >>= f = None

-- the first of two that is there
abbrev pub or_else : {A : Type 0} → Option A → Option A → Option A
or_else (Some x) other = Some x
or_else None other = other

-- What a function returned, seen by view, is what the reading gives.
abbrev pub Gives : {X Y : Type 0} → (X → Y) → Option X → Option Y → Type 0
Gives view (Some x) reading = reading ≡ Some (view x)
Gives view None reading = reading ≡ None

-- ---- a word

-- what is before the first such character, and what is after it
abbrev pub parted_at : ℕ → List ℕ → Option (List ℕ × List ℕ)
parted_at c text = option_map (λ place. (take place text, drop (place + 1) text)) (position (λ x. x == c) text)

-- what follows a label
abbrev pub behind : List ℕ → List ℕ → Option (List ℕ)
behind label text =
    if pointwise nat_eq (take (length label) text) label then Some (drop (length label) text) else None

-- the number of 64 bits that a text is in decimal
abbrev pub number_in : List ℕ → Option ℕ
number_in text =
    let number = digits_value 10 text in
    if nat_lt number (2 ^ 64) && pointwise nat_eq (decimal number) text then Some number else None

-- a field
abbrev pub field_in : List ℕ → Option (Option ℕ)
field_in text =
    if pointwise nat_eq text absent then Some None else option_map (λ number. Some number) (number_in text)

-- a number that a line has no name for
abbrev pub other_number : Bool → ℕ → Option (Option ℕ)
other_number has_sender number = if is_some (operation_named has_sender number) then None else Some (Some number)

-- a number that a line has a name for
abbrev pub named_number : Bool → ℕ → Option (Option ℕ)
named_number has_sender number = if is_some (operation_named has_sender number) then Some (Some number) else None

-- an operation of this name, or else its number
abbrev pub operation_or : Bool → Option Operation → List ℕ → Option (Option ℕ)
operation_or has_sender (Some operation) text = named_number has_sender (operation_number operation)
operation_or has_sender None text = option_and_then (other_number has_sender) (number_in text)

abbrev pub operation_in : Bool → List ℕ → Option (Option ℕ)
operation_in has_sender text =
    if pointwise nat_eq text absent then Some None
    else operation_or has_sender (find (λ operation. pointwise nat_eq (operation_name operation) text) ALL) text

-- `a` to `z`
abbrev pub is_lower : ℕ → Bool
is_lower c = nat_le 97 c && nat_le c 122

-- the station of these octets, where they could be read
abbrev pub station_in : Result (List ℕ) FromHexError → Option (List ℕ)
station_in (Ok octets) = station_of octets
station_in (Err fault) = None

-- the octets of a station in upper-case digits
abbrev pub mac_in : List ℕ → Option (List ℕ)
mac_in text = if list_any is_lower text then None else station_in (decode_of text)

-- the key of one to seven octets, or the number of eight if no station has it
abbrev pub long_key : ℕ → Option ℕ
long_key key = if is_some (station_at key) then None else Some key

abbrev pub long_key_in : List ℕ → Option ℕ
long_key_in octets = if length octets == 8 then long_key (from_be_bytes w64 octets) else None

abbrev pub key_of_mac : List ℕ → Option ℕ
key_of_mac mac = or_else (key_of mac) (long_key_in mac)

abbrev pub key_in : List ℕ → Option ℕ
key_in text = mac_in text >>= key_of_mac

-- the key of a station, or none
abbrev pub station_key : List ℕ → Option (Option ℕ)
station_key text =
    if pointwise nat_eq text absent then Some None else option_map (λ key. Some key) (key_in text)

-- a port and a network
abbrev pub port_of : ℕ → Option ℕ
port_of number = if nat_lt number (2 ^ 8) then Some number else None

abbrev pub net_of : ℕ → Option ℕ
net_of number = if nat_lt number (2 ^ 16) then network_of number else None

-- ---- one after the other

-- what is read up to a character, and what follows it
abbrev pub up_to : {A : Type 0} → (List ℕ → Option A) → ℕ → List ℕ → Option (A × List ℕ)
up_to read c text = do
  word ← parted_at c text
  value ← read word.0
  Some (value, word.1)

abbrev pub number_to : ℕ → List ℕ → Option (ℕ × List ℕ)
number_to c text = up_to number_in c text

abbrev pub field_to : ℕ → List ℕ → Option (Option ℕ × List ℕ)
field_to c text = up_to field_in c text

abbrev pub key_to : ℕ → List ℕ → Option (ℕ × List ℕ)
key_to c text = up_to key_in c text

abbrev pub mac_to : ℕ → List ℕ → Option (List ℕ × List ℕ)
mac_to c text = up_to mac_in c text

-- a field after its label, up to a character
abbrev pub labelled_to : List ℕ → ℕ → List ℕ → Option (Option ℕ × List ℕ)
labelled_to label c text = behind label text >>= (λ rest. field_to c rest)

-- `<port> `
abbrev pub port_at : List ℕ → Option (ℕ × List ℕ)
port_at text = do
  number ← number_to 32 text
  port ← port_of number.0
  Some (port, number.1)

-- `<net>:<MAC> `
abbrev pub source_at : List ℕ → Option (Source × List ℕ)
source_at text = do
  number ← number_to 58 text
  net ← net_of number.0
  mac ← mac_to 32 number.1
  Some (record { net = net; mac = mac.0 }, mac.1)

-- `dst=<n> svc=<n> `
abbrev pub request_at : List ℕ → Option (Request × List ℕ)
request_at text = do
  destination ← labelled_to (codes "dst=") 32 text
  service ← labelled_to (codes "svc=") 32 destination.1
  Some (record { destination_network = destination.0; service = service.0 }, service.1)

-- `obj=<type>,<instance> prop=<n> `
abbrev pub target_at : List ℕ → Option (Target × List ℕ)
target_at text = do
  kind ← labelled_to (codes "obj=") 44 text
  instance ← field_to 32 kind.1
  property ← labelled_to (codes "prop=") 32 instance.1
  Some (record { object_type = kind.0; instance = instance.0; property = property.0 }, property.1)

-- a text up to its first space, or whole if it has none, and the rest from there on
abbrev pub word_len : List ℕ → ℕ
word_len text = option_map_or (λ place. place) (position (λ x. x == 32) text) (length text)

abbrev pub word_at : List ℕ → List ℕ × List ℕ
word_at text = (take (word_len text) text, drop (word_len text) text)

-- `prio=<n>`
abbrev pub priority_of : List ℕ × List ℕ → Option (Option ℕ × List ℕ)
priority_of word = field_in word.0 >>= (λ value. Some (value, word.1))

abbrev pub priority_at : List ℕ → Option (Option ℕ × List ℕ)
priority_at text = behind (codes "prio=") text >>= (λ rest. priority_of (word_at rest))

-- an ask of these parts, without its operation and its stations
abbrev pub ask_of_parts : ℕ → Source → Request → Target → Option ℕ → ShownAsk
ask_of_parts port source request target priority = record {
  port = port;
  source = source;
  operation = None;
  destination_network = request.destination_network;
  service = request.service;
  object_type = target.object_type;
  instance = target.instance;
  property = target.property;
  priority = priority;
  stations = None;
}

-- the eight words of an ask: what they say but for the operation, the word of that, and what comes after them
abbrev pub ask_at : List ℕ → Option (ShownAsk × List ℕ × List ℕ)
ask_at text = do
  port ← port_at text
  source ← source_at port.1
  operation ← parted_at 32 source.1
  request ← request_at operation.1
  target ← target_at request.1
  priority ← priority_at target.1
  Some (ask_of_parts port.0 source.0 request.0 target.0 priority.0, operation.0, priority.1)

-- ` sender=<MAC> station=<MAC>` to the end
abbrev pub named_stations : List ℕ → Option Stations
named_stations text = do
  rest ← behind (codes " sender=") text
  sender ← key_to 32 rest
  word ← behind (codes "station=") sender.1
  station ← station_key word
  Some (record { sender = sender.0; station = station })

-- the stations at the end of a line, which may name none
abbrev pub stations_in : List ℕ → Option (Option Stations)
stations_in text =
    if length text == 0 then Some None else option_map (λ stations. Some stations) (named_stations text)

-- the ask with its operation and its stations
abbrev pub with_both : ShownAsk → Option ℕ → Option Stations → ShownAsk
with_both ask operation stations = record {
  port = ask.port;
  source = ask.source;
  operation = operation;
  destination_network = ask.destination_network;
  service = ask.service;
  object_type = ask.object_type;
  instance = ask.instance;
  property = ask.property;
  priority = ask.priority;
  stations = stations;
}

-- which operations have names hangs on whether there are stations
abbrev pub whole_ask : ShownAsk → List ℕ → List ℕ → Option ShownAsk
whole_ask ask operation end = do
  stations ← stations_in end
  operation ← operation_in (is_some stations) operation
  Some (with_both ask operation stations)

-- ---- a whole line

-- an ask alone
abbrev pub ask_in : List ℕ → Option ShownAsk
ask_in text = ask_at text >>= (λ asked. whole_ask asked.0 asked.1 asked.2)

-- a name of UTF-8
abbrev pub name_of : List ℕ → Option (List ℕ)
name_of text = if is_utf8 text then Some text else None

-- ` rule=<name>`, up to the next space
abbrev pub rule_of : List ℕ × List ℕ → Option (List ℕ × List ℕ)
rule_of word = name_of word.0 >>= (λ name. Some (name, word.1))

abbrev pub rule_at : List ℕ → Option (List ℕ × List ℕ)
rule_at text = behind (codes " rule=") text >>= (λ rest. rule_of (word_at rest))

abbrev pub denial_of_parts : ℕ → ℕ → ShownAsk → List ℕ → Denial
denial_of_parts number tick ask rule = record {
  number = number;
  tick = tick;
  port = ask.port;
  source = ask.source;
  ask = ask_shown ask;
  rule = rule;
}

-- the denial of a line
abbrev pub line_in : List ℕ → Option Denial
line_in text = do
  number ← number_to 32 text
  tick ← number_to 32 number.1
  asked ← ask_at tick.1
  rule ← rule_at asked.2
  ask ← whole_ask asked.0 asked.1 rule.1
  Some (denial_of_parts number.0 tick.0 ask rule.0)

-- the ask of a line, or of its words alone
abbrev pub shown_by : Option Denial → List ℕ → Option ShownAsk
shown_by (Some d) text = Some (shown_ask d)
shown_by None text = ask_in text
