-- The words that say what a line of the log shows. They are this project's own, the names in them the standard's.
use Rattle.std.specs.Prelude.{ℕ, ◌==◌, Bool, false, is_some, if◌then◌else◌, List, [], ◌∷◌, ◌++◌, length, codes}
use Rattle.std.specs.Prelude.{Option, None}
use Rattle.std.specs.Fmt.{decimal}
use Rattle.std.specs.List.{flat_map}
use Rattle.std.specs.Option.{option_and_then, option_map_or}
use Rattle.gw_addr.specs.Address.{address_in, text_of}
use Rattle.gw_addr.specs.Station.{key48, station_at, two_digits}
use Rattle.gw_addr.specs.declared.station.Source.{Source}
use Rattle.gw_rules.specs.declared.operation.Operation.{Operation}
use Rattle.gw_rules.specs.declared.operation.Operation.TheVariants.{Cast, Route, Register, Delete, ReadTable}
use Rattle.gw_rules.specs.declared.operation.Operation.TheVariants.{WriteTable, Learn, Network, Read, Write}
use Rattle.gw_rules.specs.declared.operation.Operation.TheVariants.{List as Listing, Enter, Claim}
use Rattle.gw_audit.specs.declared.denial.Denial.{Denial}
use Rattle.gw_audit.specs.declared.entry.ShownAsk.{ShownAsk}
use Rattle.gw_audit.specs.Entry.{shown_ask}
use Rattle.gw_audit.specs.Line.{field_text, key_text, operation_named}
use Rattle.gw_codecs.specs.names.Names.{object_type_name, property_name, service_name}

-- ---- who asks

-- one octet in decimal, as users of MS/TP write it, and in hexadecimal, as the log does; others in hexadecimal
abbrev pub digits_text : List ℕ → List ℕ
digits_text (octet ∷ []) = decimal octet ++ codes " (0x" ++ two_digits octet ++ codes ")"
digits_text mac = flat_map two_digits mac

-- a station: six octets as an address of BACnet/IP, others as digits
abbrev pub station_text : List ℕ → List ℕ
station_text mac =
    if length mac == 6 then text_of (address_in mac) else codes "station " ++ digits_text mac

-- `<station> on network <net>`
abbrev pub source_text : Source → List ℕ
source_text source = station_text source.mac ++ codes " on network " ++ decimal source.net

-- a station by its key, as a station that asks; a number that no station has as digits
unfoldable pub key_name : ℕ → List ℕ
key_name key = option_map_or station_text (station_at key) (codes "station " ++ key_text key)

abbrev pub is_one : ℕ → Option ℕ → Bool
is_one number value = option_map_or (λ n. n == number) value false

-- `<station>, for <station> on network <net>,` if the sender isn't the station that it claims to be
abbrev pub claim_text : ℕ → Source → List ℕ
claim_text sender source =
    if is_one sender (key48 source.mac) then source_text source
    else key_name sender ++ codes ", for " ++ source_text source ++ codes ","

-- the sender of a `claim`, 13, alone, since what it is asked for is the claim
abbrev pub sender_text : ℕ → ShownAsk → List ℕ
sender_text sender ask =
    if is_one 13 ask.operation then key_name sender else claim_text sender ask.source

-- who asks: if the line has no sender, the station that it claims to be
abbrev pub asker_text : ShownAsk → List ℕ
asker_text ask = option_map_or (λ s. sender_text s.sender ask) ask.stations (source_text ask.source)

-- ---- what is asked for

-- a space and the name, where there is one
abbrev pub name_text : Option (List ℕ) → List ℕ
name_text name = option_map_or (λ n. codes " " ++ n) name []

-- `<number> <name>` of a service
abbrev pub service_text : Option ℕ → List ℕ
service_text service = option_map_or (λ n. decimal n ++ name_text (service_name n)) service (codes "something")

-- ` by ` and the service,
abbrev pub by_text : Option ℕ → List ℕ
by_text service = codes " by " ++ service_text service

-- and nothing where it is the one that is meant
abbrev pub by_other_text : ℕ → Option ℕ → List ℕ
by_other_text own service = if is_one own service then [] else by_text service

-- a network after a word, if there is one: 65535 is each
abbrev pub network_name : ℕ → List ℕ
network_name n = if n == 65535 then codes "every network" else codes "network " ++ decimal n

abbrev pub network_text : List ℕ → Option ℕ → List ℕ
network_text word network = option_map_or (λ n. word ++ network_name n) network []

-- `<type>,<instance> <name of the type>`
abbrev pub kind_text : Option ℕ → List ℕ
kind_text kind = option_map_or (λ k. name_text (object_type_name k)) kind []

abbrev pub object_text : Option ℕ → Option ℕ → List ℕ
object_text None None = codes "something"
object_text kind instance = field_text kind ++ codes "," ++ field_text instance ++ kind_text kind

-- `<property> <name> of ` before the object
abbrev pub property_text : Option ℕ → List ℕ
property_text property =
    option_map_or (λ p. decimal p ++ name_text (property_name p) ++ codes " of ") property []

abbrev pub target_text : ShownAsk → List ℕ
target_text ask = property_text ask.property ++ object_text ask.object_type ask.instance

-- ` at priority <n>`
abbrev pub priority_text : Option ℕ → List ℕ
priority_text priority = option_map_or (λ p. codes " at priority " ++ decimal p) priority []

-- ---- where it goes to

-- the one station that the message is for
abbrev pub station_of : ShownAsk → Option ℕ
station_of ask = option_and_then (λ s. s.station) ask.stations

-- a station after a word, if there is one, and its network; else the network after that word
abbrev pub goal_text : List ℕ → ShownAsk → List ℕ
goal_text word ask =
    option_map_or
    (λ key. word ++ key_name key ++ network_text (codes " on ") ask.destination_network)
    (station_of ask) (network_text word ask.destination_network)

-- the device that is asked: by its address if the line has that, and its network
abbrev pub device_name : ShownAsk → List ℕ
device_name ask = option_map_or key_name (station_of ask) (codes "the device")

abbrev pub device_text : ShownAsk → List ℕ
device_text ask =
    codes " of " ++ device_name ask
    ++ network_text (codes " on ") ask.destination_network

-- `a foreign device`, or which
abbrev pub foreign_text : ShownAsk → List ℕ
foreign_text ask =
    option_map_or (λ key. codes "the foreign device " ++ key_name key) (station_of ask) (codes "a foreign device")

-- ---- what is done

abbrev pub deed_of : Operation → ShownAsk → List ℕ
deed_of Cast ask = codes "casts " ++ service_text ask.service ++ goal_text (codes " to ") ask
deed_of Route ask = codes "sends " ++ service_text ask.service ++ goal_text (codes " on to ") ask
deed_of Register ask = codes "registers as a foreign device" ++ by_other_text 773 ask.service
deed_of Delete ask = codes "deletes " ++ foreign_text ask ++ by_other_text 776 ask.service
deed_of ReadTable ask = codes "reads a table" ++ by_text ask.service
deed_of WriteTable ask = codes "writes a table" ++ by_text ask.service
deed_of Learn ask = codes "tells the way" ++ network_text (codes " to ") ask.destination_network ++ by_text ask.service
deed_of Network ask =
    codes "asks the gateway" ++ network_text (codes " about ") ask.destination_network ++ by_text ask.service
deed_of Read ask = codes "reads " ++ target_text ask ++ device_text ask ++ by_other_text 12 ask.service
deed_of Write ask =
    codes "writes " ++ target_text ask ++ device_text ask ++ priority_text ask.priority ++ by_other_text 15 ask.service
deed_of Listing ask =
    codes "looks for " ++ object_text ask.object_type ask.instance
    ++ network_text (codes " on ") ask.destination_network ++ by_text ask.service
deed_of Enter ask = codes "enters by port " ++ decimal ask.port
deed_of Claim ask = codes "speaks for " ++ source_text ask.source

-- an operation that the line has no name for
abbrev pub deed_text : ShownAsk → List ℕ
deed_text ask =
    option_map_or
    (λ number. option_map_or (λ operation. deed_of operation ask) (operation_named (is_some ask.stations) number)
    (codes "does operation " ++ decimal number))
    ask.operation (codes "does something")

-- ---- the whole

-- what the rule did
abbrev pub verdict_text : Bool → List ℕ
verdict_text is_allowed = if is_allowed then codes ": allowed by " else codes ": denied by "

-- `<station> on network <net> <deed>: denied by <rule>`, or `allowed by`
abbrev pub words_of : Bool → ShownAsk → List ℕ → List ℕ
words_of is_allowed ask rule = asker_text ask ++ codes " " ++ deed_text ask ++ verdict_text is_allowed ++ rule

-- the words of a denial, or of a record of an ask that was allowed
abbrev pub words : Bool → Denial → List ℕ
words is_allowed d = words_of is_allowed (shown_ask d) d.rule
