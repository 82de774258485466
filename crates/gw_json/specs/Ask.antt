-- The fields of an ask as members of a JSON object (RFC 8259), under the keys that a rule has for them.
use Rattle.std.specs.Prelude.{ℕ, ◌==◌, Bool, is_some, if◌then◌else◌, List, [], ◌∷◌, length, codes, decimal, Option}
use Rattle.std.specs.List.{flat_map}
use Rattle.std.specs.Option.{option_and_then, option_map, option_map_or}
use Rattle.json.specs.Json.{Json, null, number, string}
use Rattle.gw_addr.specs.Address.{address_in, text_of}
use Rattle.gw_addr.specs.Station.{two_digits}
use Rattle.gw_audit.specs.Line.{key_octets, operation_named}
use Rattle.gw_audit.specs.declared.entry.ShownAsk.{ShownAsk}
use Rattle.gw_rules.specs.Operation.{operation_name}

-- a number, or null if there is none
abbrev pub number_value : Option ℕ → Json
number_value value = option_map_or (λ n. number (decimal n)) value null

-- an operation by its name, or by its number if a line of the log has no name for it
abbrev pub named_value : Bool → ℕ → Json
named_value has_sender n =
    option_map_or (λ operation. string (operation_name operation)) (operation_named has_sender n) (number (decimal n))

abbrev pub operation_value : Bool → Option ℕ → Json
operation_value has_sender value = option_map_or (named_value has_sender) value null

-- a station: six octets as an address of BACnet/IP, others as hexadecimal digits
abbrev pub station_word : List ℕ → List ℕ
station_word mac = if length mac == 6 then text_of (address_in mac) else flat_map two_digits mac

abbrev pub station_value : List ℕ → Json
station_value mac = string (station_word mac)

-- a station by its key, and null if there is none
abbrev pub key_value : ℕ → Json
key_value key = station_value (key_octets key)

abbrev pub key_or_null : Option ℕ → Json
key_or_null key = option_map_or key_value key null

-- the sender, and the one station that the message is for
abbrev pub sender_of : ShownAsk → Option ℕ
sender_of ask = option_map (λ s. s.sender) ask.stations

abbrev pub station_of : ShownAsk → Option ℕ
station_of ask = option_and_then (λ s. s.station) ask.stations

-- the twelve fields: where it comes in and who asks, for what, where it goes, what it is about, and the stations of format 3
abbrev pub ask_members : ShownAsk → List (List ℕ × Json)
ask_members ask =
    (codes "port", number (decimal ask.port))
    ∷ (codes "source_network", number (decimal ask.source.net))
    ∷ (codes "source", station_value ask.source.mac)
    ∷ (codes "operation", operation_value (is_some ask.stations) ask.operation)
    ∷ (codes "destination", number_value ask.destination_network)
    ∷ (codes "service", number_value ask.service)
    ∷ (codes "object_type", number_value ask.object_type)
    ∷ (codes "instance", number_value ask.instance)
    ∷ (codes "property", number_value ask.property)
    ∷ (codes "priority", number_value ask.priority)
    ∷ (codes "sender", key_or_null (sender_of ask))
    ∷ (codes "station", key_or_null (station_of ask))
    ∷ []
