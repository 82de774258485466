-- How format 3 writes the items for a rule's field.
use Rattle.std.specs.Prelude.{ℕ, ◌+◌, ◌-◌, ◌/◌, ◌%◌, ◌^◌, ◌==◌, Bool, ◌&&◌, ◌||◌, nat_le, nat_lt, if◌then◌else◌, List, [], ◌∷◌, ◌++◌}
use Rattle.std.specs.Prelude.{length, drop, codes, decimal, find, Option, None}
use Rattle.std.specs.Int.{w64, to_be_bytes}
use Rattle.std.specs.List.{flat_map}
use Rattle.std.specs.Option.{option_map_or}
use Rattle.gw_addr.specs.Text.{four_text}
use Rattle.gw_ask_sets.specs.AskText.{station_text}
use Rattle.gw_codecs.specs.names.Names.{object_type_name, property_name, service_name}
use Rattle.gw_rules.specs.Field.{field_key}
use Rattle.gw_rules.specs.Operation.{operation_name, operation_number}
use Rattle.gw_rules.specs.declared.field.FieldName.{FieldName}
use Rattle.gw_rules.specs.declared.field.FieldName.TheVariants.{Operation, SourceKey, Service, ObjectType, Property, Sender, Station}
use Rattle.gw_rules.specs.declared.operation.TheConstants.Operation.{ALL}
use Rattle.gw_rules.specs.declared.range.Range.{Range}

-- ---- texts

-- a hexadecimal digit
abbrev pub digit_text : ℕ → List ℕ
digit_text digit = if nat_lt digit 10 then (48 + digit) ∷ [] else (97 + (digit - 10)) ∷ []

-- an octet of a text in quotes, with an escape in the place of a quote, a backslash or a control character
abbrev pub quoted_octet : ℕ → List ℕ
quoted_octet octet =
    if nat_lt octet 32 || octet == 127 then (codes "\\u00" ++ digit_text (octet / 16)) ++ digit_text (octet % 16)
    else if octet == 34 || octet == 92 then 92 ∷ octet ∷ []
    else octet ∷ []

unfoldable pub quoted : List ℕ → List ℕ
quoted text = 34 ∷ (flat_map quoted_octet text ++ 34 ∷ [])

-- ---- subnets

-- the lengths of the prefixes of subnets of several addresses, the smallest subnet first
abbrev pub prefixes : List ℕ
prefixes =
    31 ∷ 30 ∷ 29 ∷ 28 ∷ 27 ∷ 26 ∷ 25 ∷ 24 ∷ 23 ∷ 22 ∷ 21 ∷ 20 ∷ 19 ∷ 18 ∷ 17 ∷ 16 ∷ 15 ∷ 14 ∷ 13 ∷ 12 ∷ 11 ∷ 10
    ∷ 9 ∷ 8 ∷ 7 ∷ 6 ∷ 5 ∷ 4 ∷ 3 ∷ 2 ∷ 1 ∷ 0 ∷ []

-- how many addresses have the same first bits, so many
abbrev pub size_of : ℕ → ℕ
size_of prefix = 2 ^ (32 - prefix)

-- the addresses from one to another are a subnet of so many first bits
abbrev pub is_whole : ℕ → ℕ → ℕ → Bool
is_whole first last prefix = (first % size_of prefix == 0) && (nat_le first last && (last - first == size_of prefix - 1))

-- the subnet of so many first bits that has an address ends with another one: that to which broadcasts go (Annex J.1.2)
abbrev pub is_ended : ℕ → ℕ → ℕ → Bool
is_ended address broadcast prefix =
    (address / size_of prefix == broadcast / size_of prefix) && (broadcast % size_of prefix == size_of prefix - 1)

-- an IPv4 address by its number, `a.b.c.d`
abbrev pub host_text : ℕ → List ℕ
host_text host = four_text (drop 4 (to_be_bytes w64 host))

-- the subnet of an address, `a.b.c.d/n`
abbrev pub subnet_text : ℕ → ℕ → List ℕ
subnet_text host prefix = host_text (host - host % size_of prefix) ++ (47 ∷ decimal prefix)

-- ---- the items

-- the operation of a number by its name, or the number if it is none's
abbrev pub operation_text : ℕ → List ℕ
operation_text number =
    option_map_or (λ operation. quoted (operation_name operation)) (find (λ operation. operation_number operation == number) ALL)
    (decimal number)

-- the standard's name of a value, if the table of its field has one
abbrev pub name_of : FieldName → ℕ → Option (List ℕ)
name_of Service number = service_name number
name_of ObjectType number = object_type_name number
name_of Property number = property_name number
name_of _ number = None

abbrev pub value_text : FieldName → ℕ → List ℕ
value_text field number = option_map_or quoted (name_of field number) (decimal number)

abbrev pub numbers_text : ℕ → ℕ → List ℕ
numbers_text low high = 91 ∷ (decimal low ++ (44 ∷ 32 ∷ (decimal high ++ 93 ∷ [])))

-- the station of a key: one of six octets with its UDP port, another by its octets, `mac:07`
unfoldable pub quoted_station : ℕ → List ℕ
quoted_station key = 34 ∷ (station_text key ++ 34 ∷ [])

abbrev pub quoted_host : ℕ → List ℕ
quoted_host host = 34 ∷ (host_text host ++ 34 ∷ [])

abbrev pub two_hosts : ℕ → ℕ → List ℕ
two_hosts first last = 91 ∷ (quoted_host first ++ (44 ∷ 32 ∷ (quoted_host last ++ 93 ∷ [])))

abbrev pub quoted_subnet : ℕ → ℕ → List ℕ
quoted_subnet first prefix = 34 ∷ (subnet_text first prefix ++ 34 ∷ [])

-- the IPv4 addresses from one to another: one, a subnet, or both ends
abbrev pub hosts_text : ℕ → ℕ → List ℕ
hosts_text first last =
    if first == last then quoted_host first
    else option_map_or (quoted_subnet first) (find (is_whole first last) prefixes) (two_hosts first last)

abbrev pub two_stations : ℕ → ℕ → List ℕ
two_stations low high = 91 ∷ (quoted_station low ++ (44 ∷ 32 ∷ (quoted_station high ++ 93 ∷ [])))

-- stations of six octets, of every UDP port
abbrev pub are_hosts : ℕ → ℕ → Bool
are_hosts low high = nat_lt high 281474976710656 && ((low % 65536 == 0) && (high % 65536 == 65535))

-- stations by their keys, those of six octets and every UDP port as IPv4 addresses
abbrev pub addresses_text : ℕ → ℕ → List ℕ
addresses_text low high =
    if low == high then quoted_station low
    else if are_hosts low high then hosts_text (low / 65536) (high / 65536)
    else two_stations low high

abbrev pub plain_text : FieldName → ℕ → ℕ → List ℕ
plain_text field low high = if low == high then value_text field low else numbers_text low high

-- the item of a range
unfoldable pub item_text : FieldName → Range → List ℕ
item_text Operation range = operation_text range.low
item_text SourceKey range = addresses_text range.low range.high
item_text Sender range = addresses_text range.low range.high
item_text Station range = addresses_text range.low range.high
item_text field range = plain_text field range.low range.high

abbrev pub next_item : FieldName → Range → List ℕ
next_item field range = 44 ∷ 32 ∷ item_text field range

unfoldable pub items_text : FieldName → List Range → List ℕ
items_text field [] = []
items_text field (range ∷ ranges) = item_text field range ++ flat_map (next_item field) ranges

-- what a rule says of a field: `station = ["192.168.1.5:47808", "10.8.0.0/24"]`
unfoldable pub field_text : FieldName → List Range → List ℕ
field_text field ranges = field_key field ++ (codes " = [" ++ (items_text field ranges ++ 93 ∷ []))

-- the line of a field, if the rule names it
abbrev pub field_line : FieldName → List Range → List ℕ
field_line field ranges = if length ranges == 0 then [] else field_text field ranges ++ 10 ∷ []
