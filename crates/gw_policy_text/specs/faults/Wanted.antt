-- What is wanted at the place of a fault, in words: the last ones of the line.
use Rattle.std.specs.Prelude.{◌≡◌, ℕ, ◌+◌, ◌-◌, ◌*◌, ◌/◌, ◌^◌, ◌==◌, ◌&&◌, Bool, false, nat_le, nat_lt, nat_eq, bit_or}
use Rattle.std.specs.Prelude.{if◌then◌else◌, List, [], ◌∷◌, ◌++◌, length, slice_index, take, codes, decimal, Option, Some, None}
use Rattle.std.specs.Prelude.{is_some, option_and_then, option_map, Ok, Err}
use Rattle.std.specs.Cmp.Lexicographic.{pointwise}
use Rattle.std.specs.List.{after_first, before_first, flat_map, position_or_len}
use Rattle.std.specs.Option.{option_map_or}
use Rattle.std.specs.Result.{is_ok}
use Rattle.toml.specs.Data.{Data, Members, as_str, get_member}
use Rattle.gw_addr.specs.Address.{text_of}
use Rattle.gw_addr.specs.declared.bip.BipAddr.{BipAddr}
use Rattle.gw_addr.specs.declared.mask.Mask.{Mask as Four}
use Rattle.gw_rules.specs.Bounds.{last_operation}
use Rattle.gw_rules.specs.Operation.{operation_name}
use Rattle.gw_rules.specs.declared.format.Format.{Format}
use Rattle.gw_configuration.specs.declared.shape.Naming.{Naming}
use Rattle.gw_configuration.specs.declared.shape.Naming.TheVariants as namings
use Rattle.gw_rules.specs.declared.format.Format.TheVariants.{Three}
use Rattle.gw_rules.specs.declared.operation.TheConstants.Operation.{ALL}
use Rattle.gw_configuration.specs.declared.fault.ConfigFault.{ConfigFault}
use Rattle.gw_configuration.specs.declared.fault.ConfigFault.TheVariants.{UnknownKey, Kind, TooMany, Duplicate}
use Rattle.gw_configuration.specs.declared.shape.Scalar.{Scalar}
use Rattle.gw_configuration.specs.declared.shape.Scalar.TheVariants.{Number, Signed, ObjectType, Text, RuleName}
use Rattle.gw_configuration.specs.declared.shape.Scalar.TheVariants.{ShortName, True, False, Verdict, AnyStations}
use Rattle.gw_configuration.specs.declared.shape.Scalar.TheVariants.{Operation, Boolean, Address, Manager, Mask, Table}
use Rattle.gw_configuration.specs.declared.shape.Scalar.TheVariants.{Named, Stations, Subnet, Item}
use Rattle.gw_configuration.specs.declared.shape.Names.{Names}
use Rattle.gw_configuration.specs.declared.shape.Shape.{Shape}
use Rattle.gw_configuration.specs.declared.shape.Shape.TheVariants.{One, List as Listing, Ranges, Items}
use Rattle.gw_configuration.specs.Located.{Located, Read}
use Rattle.gw_policy_text.specs.keys.Items.{items_named, number_named, set_name_in}
use Rattle.gw_policy_text.specs.keys.Range.{between, bounds_of}
use Rattle.gw_policy_text.specs.keys.Value.{list_in}
use Rattle.gw_policy_text.specs.keys.Written.{mask_written}
use Rattle.gw_policy_text.specs.faults.Keys.{fields_at, keys_words}
use Rattle.gw_policy_text.specs.faults.Near.{near_words, noun_of}
use Rattle.gw_policy_text.specs.faults.First.{first_of, first_words}
use Rattle.gw_policy_text.specs.faults.Place.{table_at, value_at}
use Rattle.gw_policy_text.specs.faults.FaultWords.{value_words}

-- what a single value must be

-- from low to high, or the one number
abbrev pub bounds_words : ℕ → ℕ → List ℕ
bounds_words low high = decimal low ++ (if nat_lt low high then codes " to " ++ decimal high else [])

-- its kind
abbrev pub kind_words : Scalar → List ℕ
kind_words (Number low high) = codes "a whole number"
kind_words Signed = codes "a whole number"
kind_words ObjectType = codes "a whole number"
kind_words (Text least) = codes "a text in quotes"
kind_words RuleName = codes "a text in quotes"
kind_words ShortName = codes "a text in quotes"
kind_words (Operation naming) = codes "a text in quotes"
kind_words Verdict = codes "a text in quotes"
kind_words Address = codes "an address in quotes"
kind_words Manager = codes "an address in quotes"
kind_words Mask = codes "a mask in quotes"
kind_words Boolean = codes "true or false"
kind_words True = codes "true or false"
kind_words False = codes "true or false"
kind_words Table = codes "a table"
kind_words (Named names) = codes "a whole number or a name in quotes"
kind_words Stations = codes "an address or a subnet in quotes"
kind_words AnyStations = codes "an address, a subnet or a station's octets in quotes"
kind_words Subnet = codes "a subnet in quotes"
kind_words Item = codes "a text in quotes, a whole number or a list of two"

-- the operations of a format, each by its name
abbrev pub operations_words : Format → List ℕ
operations_words Three =
    codes "cast, route, register, delete, read-table, write-table, learn, network, read, write, list, enter, claim"
operations_words _ =
    codes "cast, route, register, delete, read-table, write-table, learn, network, read, write, list"

-- what can be named in the place of an operation
abbrev pub deeds_words : Naming → List ℕ
deeds_words (namings.Rule format) = operations_words format
deeds_words namings.BothWays = codes "read, write, route, since the rule goes both ways"
deeds_words namings.Assertion =
    codes
    "cast, route, register, delete, read-table, write-table, learn, network, read, write, list, enter, claim, any-read, any-write"

-- the range of a number; where there are no states, a default is none of them
abbrev pub number_words : ℕ → ℕ → List ℕ
number_words low high = if nat_lt high low then codes "one of the states" else bounds_words low high

-- the length of a text
abbrev pub length_range_words : ℕ → List ℕ
length_range_words least = codes "a text of " ++ bounds_words least 255 ++ codes " octets"

-- the broadcast manager beside a port
abbrev pub manager_words : List ℕ
manager_words =
    codes
    "an address and its UDP port, as 10.0.1.3:47808, other than the port's own and its broadcast address, at a port without peers"

-- what has no bounds of its own
abbrev pub fixed_words : Scalar → List ℕ
fixed_words (Number low high) = []
fixed_words Signed = codes "-2147483648 to 2147483647"
fixed_words ObjectType =
    codes "5 Binary Value, 19 Multi-state Value, 40 CharacterString Value, 45 Integer Value, 48 Positive Integer Value"
fixed_words (Text least) = []
fixed_words RuleName = codes "1 to 32 of a to z, 0 to 9 and -, and not default"
fixed_words ShortName = codes "1 to 27 of a to z, 0 to 9 and -, and not default, since the rule goes both ways"
fixed_words (Operation naming) = deeds_words naming
fixed_words Address = codes "an address and its UDP port, as 10.0.1.255:47808"
fixed_words Manager = manager_words
fixed_words Mask = codes "a mask as 255.255.255.0"
fixed_words Boolean = codes "true or false"
fixed_words True = codes "true, since the rule goes both ways"
fixed_words False = codes "false, since the rule allows"
fixed_words Verdict = codes "allowed or denied"
fixed_words Table = codes "a table"
fixed_words (Named names) = []
fixed_words Stations = codes "an address as 10.0.1.5:47808 or 10.0.1.5, or a subnet as 10.0.1.0/24"
fixed_words AnyStations =
    codes
    "an address as 10.0.1.5:47808 or 10.0.1.5, a subnet as 10.0.1.0/24, or 1, 2, 3, 4, 5 or 7 octets as mac:07, two of one length in a list"
fixed_words Subnet = codes "a subnet as 10.0.1.0/24"
fixed_words Item = codes "a whole number, a list of two, or a text that doesn't begin with @"

-- the range of a number that has a name
abbrev pub named_words : Names → List ℕ
named_words names =
    bounds_words (bounds_of (Named names)).low (bounds_of (Named names)).high ++ codes " or a name"

-- its range, or its shape
abbrev pub range_words : Scalar → List ℕ
range_words (Number low high) = number_words low high
range_words (Text least) = length_range_words least
range_words (Named names) = named_words names
range_words of = fixed_words of

-- of a type or an operation all that there are, of others what is wanted
abbrev pub other_front : Scalar → List ℕ
other_front ObjectType = codes " is none of "
other_front (Operation naming) = codes " is none of "
other_front of = codes " must be "

abbrev pub other_words : Scalar → List ℕ
other_words of = other_front of ++ range_words of

-- what a value at fault must be
abbrev pub scalar_words : ConfigFault → Scalar → List ℕ
scalar_words Kind of = codes " must be " ++ kind_words of
scalar_words fault of = other_words of

-- law: those are the names of the operations, in their order: of format 3 all, of the others the first eleven
abbrev pub OperationsAreListed : Type 0
OperationsAreListed = (format : Format)
    → operations_words format ++ codes ", "
    ≡ flat_map (λ operation. operation_name operation ++ codes ", ") (take (last_operation format) ALL)

-- what a list must have

-- how many of what, where it is missing
abbrev pub list_noun : Scalar → List ℕ
list_noun Table = codes " tables in double brackets"
list_noun Item = codes " items in a list"
list_noun of = codes " texts in a list"

abbrev pub list_words : Scalar → ℕ → ℕ → List ℕ
list_words of least most = bounds_words least most ++ list_noun of

-- that it is one
abbrev pub list_kind_words : Scalar → List ℕ
list_kind_words Table = codes " must be tables in double brackets"
list_kind_words of = codes " must be a list"

-- how many items, or that it is one
abbrev pub length_words : ConfigFault → Scalar → ℕ → ℕ → List ℕ
length_words Kind of least most = list_kind_words of
length_words fault of least most = codes " must have " ++ bounds_words least most

-- the addresses with every UDP port that a text without a port means

abbrev pub is_slash : ℕ → Bool
is_slash c = c == 47

abbrev pub is_digit : ℕ → Bool
is_digit c = nat_le 48 c && nat_le c 57

abbrev pub within_32 : ℕ → Option ℕ
within_32 bits = if nat_le bits 32 then Some bits else None

-- a number of one or two digits, at most 32
abbrev pub bits_in : List ℕ → Option ℕ
bits_in (digit ∷ []) = if is_digit digit then Some (digit - 48) else None
bits_in (tens ∷ ones ∷ []) =
    if is_digit tens && is_digit ones then within_32 (10 * (tens - 48) + (ones - 48)) else None
bits_in text = None

-- `a.b.c.d/bits`, or `a.b.c.d` with all 32
abbrev pub subnet_in : List ℕ → Option (Four × ℕ)
subnet_in text =
    if position_or_len is_slash text == length text then option_map (λ four. (four, 32)) (mask_written text)
    else option_and_then (λ four. option_map (λ bits. (four, bits)) (bits_in (after_first is_slash text)))
    (mask_written (before_first is_slash text))

-- the bits of an octet after its first so many, each of them 1
abbrev pub host_bits : ℕ → ℕ
host_bits bits = if nat_lt bits 8 then 255 / 2 ^ bits else 0

-- the last and the first octet of those with the same first so many bits
abbrev pub last_octet : ℕ → ℕ → ℕ
last_octet octet bits = bit_or octet (host_bits bits)

abbrev pub first_octet : ℕ → ℕ → ℕ
first_octet octet bits = last_octet octet bits - host_bits bits

-- the first and the last address
abbrev pub first_address : Four → ℕ → BipAddr
first_address four bits = record {
  ip =
      first_octet (slice_index four.octets 0) bits
      ∷ first_octet (slice_index four.octets 1) (bits - 8)
      ∷ first_octet (slice_index four.octets 2) (bits - 16)
      ∷ first_octet (slice_index four.octets 3) (bits - 24)
      ∷ [];
  udp = 0;
}

abbrev pub last_address : Four → ℕ → BipAddr
last_address four bits = record {
  ip =
      last_octet (slice_index four.octets 0) bits
      ∷ last_octet (slice_index four.octets 1) (bits - 8)
      ∷ last_octet (slice_index four.octets 2) (bits - 16)
      ∷ last_octet (slice_index four.octets 3) (bits - 24)
      ∷ [];
  udp = 65535;
}

abbrev pub every_port_words : Four → ℕ → List ℕ
every_port_words four bits =
    codes "; with every UDP port it is [\"" ++ text_of (first_address four bits) ++ codes "\", \""
    ++ text_of (last_address four bits) ++ codes "\"]"

abbrev pub subnet_words : Option (Four × ℕ) → List ℕ
subnet_words None = []
subnet_words (Some subnet) = every_port_words subnet.0 subnet.1

-- what an item for a field of a rule must be

-- the ends of a list of two where a number or a name is due are numbers
abbrev pub end_of : Scalar → Scalar
end_of (Named names) = number_named names
end_of of = of

abbrev pub reversed_ends : Scalar → List Data → Bool
reversed_ends of (low ∷ high ∷ []) = is_ok (between (end_of of) high low)
reversed_ends of ends = false

abbrev pub reversed_list : Scalar → Read (List Data) → Bool
reversed_list of (Ok ends) = reversed_ends of ends
reversed_list of (Err fault) = false

-- a list of two that would be a range the other way round
abbrev pub is_reversed : Scalar → Data → Bool
is_reversed of item = reversed_list of (list_in item)

-- of an address without its UDP port, the range with every port
abbrev pub addresses_words : Option (List ℕ) → List ℕ
addresses_words None = []
addresses_words (Some text) = subnet_words (subnet_in text)

-- that it may be two values; not so of operations
abbrev pub two_front : Scalar → List ℕ
two_front (Operation naming) = []
two_front of = codes ", or a list of two such, low and high"

abbrev pub address_text : Scalar → Data → Option (List ℕ)
address_text Address item = as_str item
address_text of item = None

abbrev pub two_words : Scalar → Data → List ℕ
two_words of item = two_front of ++ addresses_words (address_text of item)

-- of a text where a number or a name is due, the name that it is none of
abbrev pub name_words : Names → List ℕ → List ℕ
name_words names text = codes " is no " ++ noun_of names ++ near_words names text

abbrev pub named_text : Scalar → Data → Option (Names × List ℕ)
named_text (Named names) item = option_map (λ text. (names, text)) (as_str item)
named_text of item = None

-- of an item that isn't the other way round
abbrev pub straight_words : ConfigFault → Scalar → Data → Option (Names × List ℕ) → List ℕ
straight_words fault of item None = scalar_words fault of ++ two_words of item
straight_words fault of item (Some text) = name_words text.0 text.1

abbrev pub item_words : ConfigFault → Scalar → Data → List ℕ
item_words fault of item =
    if is_reversed of item then codes " is reversed: the low end comes before the high one"
    else straight_words fault of item (named_text of item)

-- of an item that names a set: there is none of that name, or it has an item that the field can't have
abbrev pub single_words : ConfigFault → Scalar → List ℕ
single_words fault of = scalar_words fault of ++ two_front of

abbrev pub mention_words : Bool → ConfigFault → Scalar → List ℕ
mention_words known fault of =
    if known then codes " has an item that" ++ single_words fault of else codes " is no set"

-- whether there is a set of this name
abbrev pub is_known_in : List ℕ → Read (List Data) → Bool
is_known_in name (Ok tables) = is_some (items_named name tables)
is_known_in name (Err fault) = false

abbrev pub is_known : Members → List ℕ → Bool
is_known top name = option_map_or (λ sets. is_known_in name (list_in sets)) (get_member (codes "set") top) false

-- of an item for a field of a rule of format 3
abbrev pub long_item_words : Members → ConfigFault → Scalar → Data → Option (List ℕ) → List ℕ
long_item_words top fault of item None = item_words fault of item
long_item_words top fault of item (Some name) = mention_words (is_known top name) fault of

-- how many items there may be, and how many they may become
abbrev pub long_length_words : ConfigFault → Scalar → List ℕ
long_length_words TooMany of =
    codes " must have 1 to 64, at most 256 with the items of its sets, and 2048 with those of all rules"
long_length_words fault of = length_words fault of 1 64

-- what is wanted

-- of a value that isn't there
abbrev pub due_words : Shape → List ℕ
due_words (One of) = range_words of
due_words (Listing of least most) = list_words of least most
due_words (Ranges of) = range_words of
due_words (Items of) = range_words of

abbrev pub missing_words : Shape → List ℕ
missing_words shape = codes "; it must be " ++ due_words shape

-- of one that is: of a list, at one of its items or as a whole
abbrev pub must_words : Members → ConfigFault → Shape → Option ℕ → Data → List ℕ
must_words top fault (One of) item value = scalar_words fault of
must_words top fault (Listing of least most) (Some item) value = scalar_words fault of
must_words top fault (Listing of least most) None value = length_words fault of least most
must_words top fault (Ranges of) (Some item) value = item_words fault of value
must_words top fault (Ranges of) None value = length_words fault of 1 4
must_words top fault (Items of) (Some item) value = long_item_words top fault of value (set_name_in value)
must_words top fault (Items of) None value = long_length_words fault of

-- what occurs twice, of an instance with its type
abbrev pub type_words : Option Data → List ℕ
type_words None = []
type_words (Some kind) = codes " for type " ++ value_words kind

abbrev pub twice_words : Option Data → List ℕ
twice_words kind = codes " is named twice" ++ type_words kind

abbrev pub kind_at : Located → Members → Option Data
kind_at located top =
    if pointwise nat_eq located.key (codes "instance")
    then option_and_then (get_member (codes "type")) (table_at located.place top) else None

-- of a rule with which the list gets too long
abbrev pub unshaped_words : ConfigFault → List ℕ
unshaped_words TooMany = codes "is past the 512 rules that there may be, those for the way and for the answers counted"
unshaped_words fault = codes "is at fault"

-- of a value that isn't there, or is; without a field it is that, or nothing is known
abbrev pub shape_words : Members → ConfigFault → Option Shape → Option ℕ → Option Data → List ℕ
shape_words top fault (Some shape) item None = missing_words shape
shape_words top fault (Some shape) item (Some value) = must_words top fault shape item value
shape_words top fault None item value = unshaped_words fault

-- by the fault, the shape of its field, and the value there; of an unknown key the known ones
abbrev pub last_words : Members → Located → Option Data → Option Data → ConfigFault → List ℕ
last_words top located kind value UnknownKey = keys_words (fields_at located.place top)
last_words top located kind value Duplicate = twice_words kind ++ first_words (first_of located kind top)
last_words top located kind value fault = shape_words top fault located.wanted located.item value

-- the words that end the line of a fault of these tables
abbrev pub wanted_words : Located → Members → List ℕ
wanted_words located top =
    last_words top located (kind_at located top) (value_at located top) located.fault
