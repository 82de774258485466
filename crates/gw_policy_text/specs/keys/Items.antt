-- Items for a field of a rule, as format 3 has them besides: names, stations, and sets.
use Rattle.std.specs.Prelude.{ℕ, ◌/◌, ◌++◌, ◌==◌, Bool, true, false, nat_eq, if◌then◌else◌, List, [], ◌∷◌, length, codes, find}
use Rattle.std.specs.Prelude.{Option, Some, None, is_some, Ok, Err}
use Rattle.std.specs.Cmp.Lexicographic.{pointwise}
use Rattle.std.specs.List.{list_any, sum_by}
use Rattle.std.specs.Option.{ok_or, option_and_then, option_map, option_map_or}
use Rattle.std.specs.Result.{result_err}
use Rattle.toml.specs.Data.{Data, as_array, as_integer, as_str, as_table, get_member}
use Rattle.gw_addr.specs.declared.mask.Mask.{Mask}
use Rattle.gw_addr.specs.Reading.{◌>>=◌}
use Rattle.gw_codecs.specs.names.Names.{object_type_number, property_number, service_number}
use Rattle.gw_rules.specs.declared.range.Range.{Range as RuleRange}
use Rattle.gw_configuration.specs.declared.fault.ConfigFault.{ConfigFault}
use Rattle.gw_configuration.specs.declared.fault.ConfigFault.TheVariants.{Kind, Range}
use Rattle.gw_configuration.specs.declared.shape.Names.{Names}
use Rattle.gw_configuration.specs.declared.shape.Names.TheVariants.{Services, ObjectTypes, Properties}
use Rattle.gw_configuration.specs.declared.shape.Scalar.{Scalar}
use Rattle.gw_configuration.specs.declared.shape.Scalar.TheVariants.{Number, Named, Stations, AnyStations}
use Rattle.gw_configuration.specs.Duplicates.{key, or_else}
use Rattle.gw_configuration.specs.Located.{Read}
use Rattle.gw_configuration.specs.Subnet.{keys_of}
use Rattle.gw_policy_text.specs.keys.Range.{bounds_of, is_kind, ordered, range_in}
use Rattle.gw_policy_text.specs.keys.Value.{list_in, reading, values_of}
use Rattle.gw_policy_text.specs.keys.Written.{address_written, mac_written, mask_written, subnet_written}

-- names of services, types of objects and properties

abbrev pub only : ℕ → RuleRange
only number = record { low = number; high = number }

-- the number of a name
abbrev pub number_of : Names → List ℕ → Option ℕ
number_of Services name = service_number name
number_of ObjectTypes name = object_type_number name
number_of Properties name = property_number name

-- a number of the field that has these names
abbrev pub number_named : Names → Scalar
number_named names = Number (bounds_of (Named names)).low (bounds_of (Named names)).high

-- a text is a name; all else is read as in format 1
abbrev pub named_or : Names → Data → Option (List ℕ) → Read RuleRange
named_or names value None = range_in (number_named names) value
named_or names value (Some text) = ok_or (option_map only (number_of names text)) Range

abbrev pub named_in : Names → Data → Read RuleRange
named_in names value = named_or names value (as_str value)

-- stations

-- the key of an IPv4 address, which is written as a mask is, with this UDP port
abbrev pub key_with : ℕ → Mask → ℕ
key_with udp ip = key (record { ip = ip.octets; udp = udp })

-- by its octets, where stations of every length may be named
abbrev pub mac_if : Bool → List ℕ → Option ℕ
mac_if every text = if every then mac_written text else None

-- the end of a range: an address, an IPv4 address without a port, which then has this one, or a station by its octets
abbrev pub address_end : ℕ → List ℕ → Option ℕ
address_end udp text = or_else (option_map key (address_written text)) (option_map (key_with udp) (mask_written text))

abbrev pub end_written : Bool → ℕ → List ℕ → Option ℕ
end_written every udp text = or_else (address_end udp text) (mac_if every text)

abbrev pub end_in : Bool → ℕ → Data → Read ℕ
end_in every udp value = reading (end_written every udp) (as_str value)

-- the stations at every UDP port of an IPv4 address
abbrev pub keys_of_host : Mask → RuleRange
keys_of_host ip = record { low = key_with 0 ip; high = key_with 65535 ip }

-- a station, the stations of an IPv4 address, those of a subnet, or a station by its octets
abbrev pub addresses_written : List ℕ → Option RuleRange
addresses_written text =
    or_else (option_map (λ address. only (key address)) (address_written text))
    (or_else (option_map keys_of_host (mask_written text)) (option_map keys_of (subnet_written text)))

abbrev pub stations_written : Bool → List ℕ → Option RuleRange
stations_written every text = or_else (addresses_written text) (option_map only (mac_if every text))

-- keys of stations of one length have the same highest octet
abbrev pub length_of : ℕ → ℕ
length_of key = key / 72057594037927936

-- a low end and a high end of one length, which isn't below it
abbrev pub of_one_length : ℕ → ℕ → Read RuleRange
of_one_length low high = if length_of low == length_of high then ordered low high else Err Range

-- a list of two, low and high; a value of a wrong kind in it comes before all else
abbrev pub stations_from : Bool → Data → Data → Read RuleRange
stations_from every low high = end_in every 0 low >>= λ l. end_in every 65535 high >>= λ h. of_one_length l h

abbrev pub station_ends : Bool → List Data → Read RuleRange
station_ends every (low ∷ high ∷ []) = stations_from every low high
station_ends every _ = Err Range

abbrev pub stations_between : Bool → List Data → Read RuleRange
stations_between every ends =
    if list_any (λ value. is_kind (result_err (end_in every 0 value))) ends then Err Kind else station_ends every ends

abbrev pub stations_or : Bool → Data → Read (List Data) → Read RuleRange
stations_or every value (Ok ends) = stations_between every ends
stations_or every value (Err _) = reading (stations_written every) (as_str value)

-- the stations that a text or a list of two names, of six octets or of every length
abbrev pub stations_in : Bool → Data → Read RuleRange
stations_in every value = stations_or every value (list_in value)

-- the numbers of their keys
abbrev pub station_bounds : Bool → RuleRange
station_bounds true = bounds_of AnyStations
station_bounds false = bounds_of Stations

-- an item that names no set

abbrev pub span_in : Scalar → Data → Read RuleRange
span_in (Named names) value = named_in names value
span_in Stations value = stations_in false value
span_in AnyStations value = stations_in true value
span_in scalar value = range_in scalar value

-- each value of a list, in order, up to the first fault
abbrev pub each : {A : Type 0} → (Data → Read A) → List Data → Read (List A)
each read [] = Ok []
each read (value ∷ later) = read value >>= λ first. each read later >>= λ others. Ok (first ∷ others)

-- a value of a wrong kind comes before all else
abbrev pub spans_in : Scalar → List Data → Read (List RuleRange)
spans_in scalar items =
    if list_any (λ item. is_kind (result_err (span_in scalar item))) items then Err Kind else each (span_in scalar) items

-- sets, by the tables that a text has of them, in order

-- `@` and a name: the name
abbrev pub name_after_at : List ℕ → Option (List ℕ)
name_after_at [] = None
name_after_at (character ∷ name) = if character == 64 then Some name else None

-- the name of the set that an item names
abbrev pub set_name_in : Data → Option (List ℕ)
set_name_in item = option_and_then name_after_at (as_str item)

-- the name of a set, and its items
abbrev pub name_of_set : Data → Option (List ℕ)
name_of_set set = option_and_then (λ table. option_and_then as_str (get_member (codes "name") table)) (as_table set)

abbrev pub list_of : Data → Option (List Data)
list_of value = option_map values_of (as_array value)

abbrev pub items_of_set : Data → Option (List Data)
items_of_set set = option_and_then (λ table. option_and_then list_of (get_member (codes "items") table)) (as_table set)

abbrev pub is_set_named : List ℕ → Data → Bool
is_set_named name set = option_map_or (λ own. pointwise nat_eq own name) (name_of_set set) false

-- the items of the first set of that name
abbrev pub items_named : List ℕ → List Data → Option (List Data)
items_named name sets = option_and_then items_of_set (find (is_set_named name) sets)

-- items

-- what an item names: one range, or those of the items of a set, each judged as if it stood there in its place
abbrev pub set_ranges : Scalar → Option (List Data) → Read (List RuleRange)
set_ranges scalar None = Err Range
set_ranges scalar (Some items) = spans_in scalar items

abbrev pub items_or : List Data → Scalar → Data → Option (List ℕ) → Read (List RuleRange)
items_or sets scalar item None = span_in scalar item >>= λ range. Ok (range ∷ [])
items_or sets scalar item (Some name) = set_ranges scalar (items_named name sets)

abbrev pub items_in : List Data → Scalar → Data → Read (List RuleRange)
items_in sets scalar item = items_or sets scalar item (set_name_in item)

-- ranges, and others after them
abbrev pub added_to : List RuleRange → Read (List RuleRange) → Read (List RuleRange)
added_to front reading = reading >>= λ ranges. Ok (front ++ ranges)

-- what a list of items names, in order
abbrev pub ranges_in : List Data → Scalar → List Data → Read (List RuleRange)
ranges_in sets scalar [] = Ok []
ranges_in sets scalar (item ∷ later) =
    items_in sets scalar item >>= λ first. added_to first (ranges_in sets scalar later)

-- how many ranges an item names
abbrev pub count_of : List Data → Data → ℕ
count_of sets item =
    option_map_or (λ name. option_map_or length (items_named name sets) 0) (set_name_in item) 1

abbrev pub count_in : List Data → List Data → ℕ
count_in sets items = sum_by (count_of sets) items

-- an item of a set: a list of two, a text that names no set, or a whole number
abbrev pub single_fault : Data → Option (List ℕ) → Option ConfigFault
single_fault item (Some text) = if is_some (name_after_at text) then Some Range else None
single_fault item None = if is_some (as_integer item) then None else Some Kind

abbrev pub ends_fault : Data → Option (List Data) → Option ConfigFault
ends_fault item (Some ends) = if length ends == 2 then None else Some Range
ends_fault item None = single_fault item (as_str item)

abbrev pub set_item_fault : Data → Option ConfigFault
set_item_fault item = ends_fault item (list_of item)
