-- The words for the asks of a region. They are this project's own, the names in them the standard's.
use Rattle.std.specs.Prelude.{ℕ, ◌-◌, ◌==◌, ◌&&◌, Bool, true, false, not, nat_le, if◌then◌else◌, List, [], ◌∷◌, ◌++◌, drop, find, length}
use Rattle.std.specs.Prelude.{map, take, codes, decimal, Option}
use Rattle.std.specs.Int.{to_be_bytes, w64}
use Rattle.std.specs.List.{flat_map, list_all, range_with_len}
use Rattle.std.specs.Option.{is_some, option_map_or}
use Rattle.gw_addr.specs.Text.{four_text}
use Rattle.gw_ask_sets.specs.AskText.{station_text}
use Rattle.gw_log_words.specs.Words.{name_text}
use Rattle.gw_codecs.specs.names.Names.{object_type_name, property_name, service_name}
use Rattle.gw_ask_sets.specs.regions.Ranges.{shared, without}
use Rattle.gw_ask_sets.specs.regions.Regions.{Region}
use Rattle.gw_ask_sets.specs.regions.Values.{has_operation, is_any}
use Rattle.gw_ask_sets.specs.declared.regions.values.Values.{Values}
use Rattle.gw_ask_sets.specs.shapes.Shape.{key_ranges}
use Rattle.gw_configuration.specs.Subnet.{Subnet, keys_of, subnet_of, subnet_text}
use Rattle.gw_rules.specs.Bounds.{bounds}
use Rattle.gw_rules.specs.Field.{field_key}
use Rattle.gw_rules.specs.Fields.{value_of}
use Rattle.gw_rules.specs.Operation.{operation_name}
use Rattle.gw_rules.specs.declared.field.FieldName.{FieldName}
use Rattle.gw_rules.specs.declared.field.FieldName.TheVariants.{Port, SourceNetwork, SourceKey, DestinationNetwork, Service, ObjectType}
use Rattle.gw_rules.specs.declared.field.FieldName.TheVariants.{Instance, Property, Priority, Sender, Station}
use Rattle.gw_rules.specs.declared.format.Format.TheVariants.{Three}
use Rattle.gw_rules.specs.declared.operation.Operation.{Operation as SpecOperation}
use Rattle.gw_rules.specs.declared.operation.TheConstants.Operation.{ALL}
use Rattle.gw_rules.specs.declared.range.Range.{Range}

-- texts of items with ` or ` between them
abbrev pub any_of : {A : Type 0} → (A → List ℕ) → List A → List ℕ
any_of text [] = []
any_of text (item ∷ items) = text item ++ flat_map (λ other. codes " or " ++ text other) items

-- ---- operations

-- the operations of a set of values, in the order of their numbers
abbrev pub operations_of : Values → List SpecOperation
operations_of values =
    flat_map (λ operation. if has_operation values operation then operation ∷ [] else []) ALL

-- the operation, unless it may be each of the thirteen
abbrev pub operations_text : Values → List ℕ
operations_text values =
    if list_all (has_operation values) ALL then codes "any operation"
    else any_of operation_name (operations_of values)

-- ---- other fields

-- what is missing if a field is absent: its key, if that is a word
abbrev pub noun_of : FieldName → List ℕ
noun_of SourceNetwork = codes "source network"
noun_of ObjectType = codes "type"
noun_of field = field_key field

-- the words before the values of a field
abbrev pub word_of : FieldName → List ℕ
word_of SourceNetwork = codes "from network "
word_of SourceKey = codes "from "
word_of DestinationNetwork = codes "to network "
word_of Station = codes "to "
word_of field = noun_of field ++ codes " "

-- an end of a range of a field
abbrev pub end_text : FieldName → ℕ → List ℕ
end_text SourceKey number = station_text number
end_text Sender number = station_text number
end_text Station number = station_text number
end_text _ number = decimal number

-- the field is the key of a station of any length
abbrev pub is_keyed : FieldName → Bool
is_keyed SourceKey = true
is_keyed Station = true
is_keyed _ = false

-- the standard's name of a number, after a space, if it has one
abbrev pub standard_text : FieldName → ℕ → List ℕ
standard_text Service number = name_text (service_name number)
standard_text ObjectType number = name_text (object_type_name number)
standard_text Property number = name_text (property_name number)
standard_text _ number = []

-- ` (20)` after the key of a station of one octet: that in decimal, as users of MS/TP write it
abbrev pub octet_text : ℕ → List ℕ
octet_text key =
    if nat_le 72057594037927936 key && nat_le key 72057594037928191
    then codes " (" ++ (decimal (key - 72057594037927936) ++ codes ")") else []

-- what follows a single number
abbrev pub named_text : FieldName → ℕ → List ℕ
named_text field number = if is_keyed field then octet_text number else standard_text field number

-- the numbers that a field can have: those of its bounds, or the keys of stations
abbrev pub numbers_of : FieldName → List Range
numbers_of field = if is_keyed field then key_ranges else bounds Three field ∷ []

-- the greatest one: of keys that of six octets
abbrev pub last_of : FieldName → ℕ
last_of field = if is_keyed field then 281474976710655 else (bounds Three field).high

-- the values without numbers that the field can't have
abbrev pub possible : FieldName → Values → Values
possible field values = record { absent = values.absent; ranges = shared values.ranges (numbers_of field) }

-- `7`, `7..9`, or `7 or more` if it ends with the greatest number of the field, and a single number also by its name
abbrev pub span_text : FieldName → Range → List ℕ
span_text field range =
    if range.low == range.high then end_text field range.low ++ named_text field range.low
    else if range.high == last_of field then end_text field range.low ++ codes " or more"
    else end_text field range.low ++ (codes ".." ++ end_text field range.high)

-- ---- stations

-- a field names stations
abbrev pub names_stations : FieldName → Bool
names_stations SourceKey = true
names_stations Sender = true
names_stations Station = true
names_stations _ = false

-- the four octets of the IPv4 address of a key (Annex J.1.2)
abbrev pub host_of : ℕ → List ℕ
host_of key = take 4 (drop 2 (to_be_bytes w64 key))

-- two ranges have the same ends
abbrev pub is_same_range : Range → Range → Bool
is_same_range a b = a.low == b.low && a.high == b.high

-- the subnet of the IPv4 address at a range's low end and all that share so many of its first bits
abbrev pub subnet_from : Range → ℕ → Option Subnet
subnet_from range prefix = subnet_of (host_of range.low) prefix

-- that subnet, at every UDP port, is the range
abbrev pub is_subnet : Range → ℕ → Bool
is_subnet range prefix = option_map_or (λ s. is_same_range (keys_of s) range) (subnet_from range prefix) false

-- how many first bits the addresses of a subnet may share, the most first
unfoldable pub prefixes : List ℕ
prefixes = map (λ bits. 32 - bits) (range_with_len 0 33)

-- how many they share, if the range is a subnet
abbrev pub prefix_of : Range → Option ℕ
prefix_of range = find (is_subnet range) prefixes

-- `10.1.0.10` for one IPv4 address at every UDP port, `10.2.0.0/16` for a subnet
abbrev pub subnet_words : Range → ℕ → List ℕ
subnet_words range prefix =
    if prefix == 32 then four_text (host_of range.low) else option_map_or subnet_text (subnet_from range prefix) []

-- a range: of stations as a subnet, if it is one
abbrev pub range_text : FieldName → Range → List ℕ
range_text field range =
    if names_stations field then option_map_or (subnet_words range) (prefix_of range) (span_text field range)
    else span_text field range

-- the numbers that a field can have, but for some
abbrev pub rest_of : FieldName → List Range → List Range
rest_of field ranges = without (numbers_of field) ranges

-- one or more subnets, and nothing else
abbrev pub are_subnets : List Range → Bool
are_subnets ranges = not (length ranges == 0) && list_all (λ range. is_some (prefix_of range)) ranges

-- ranges of stations that aren't some subnets, but all but some
abbrev pub is_rest : FieldName → List Range → Bool
is_rest field ranges = names_stations field && (not (are_subnets ranges) && are_subnets (rest_of field ranges))

-- `not 10.2.0.0/24 and not 10.3.0.0/24` where the field may also be absent, and else `any but 10.2.0.0/24 and 10.3.0.0/24`
abbrev pub other_text : FieldName → Bool → Range → List ℕ
other_text field absent range = (if absent then codes " and not " else codes " and ") ++ range_text field range

abbrev pub others_text : FieldName → Bool → List Range → List ℕ
others_text field absent [] = []
others_text field absent (range ∷ ranges) =
    (if absent then codes "not " else codes "any but ")
    ++ (range_text field range ++ flat_map (other_text field absent) ranges)

-- ---- values

-- these numbers, and absent if the field may be so
abbrev pub these_text : FieldName → Values → List ℕ
these_text field values = any_of (range_text field) values.ranges ++ (if values.absent then codes " or none" else [])

-- some numbers, or all but some
abbrev pub numbers_text : FieldName → Values → List ℕ
numbers_text field values =
    word_of field
    ++ (if is_rest field values.ranges then others_text field values.absent (rest_of field values.ranges)
    else these_text field values)

abbrev pub values_text : FieldName → Values → List ℕ
values_text field values =
    if length values.ranges == 0 then codes "without " ++ noun_of field else numbers_text field values

-- `, ` and the values of a field, unless it may have any
abbrev pub item_text : Region → FieldName → List ℕ
item_text region field =
    if is_any (value_of field region) then [] else codes ", " ++ values_text field (possible field (value_of field region))

-- the order in which fields are named
abbrev pub items : List FieldName
items =
    ObjectType ∷ Instance ∷ Property ∷ Priority ∷ Service ∷ Station ∷ DestinationNetwork ∷ SourceKey ∷ SourceNetwork
    ∷ Sender ∷ Port ∷ []

-- `write, type 5 binary-value, instance 1, from network 2`
abbrev pub region_text : Region → List ℕ
region_text region = operations_text region.operation ++ flat_map (item_text region) items
