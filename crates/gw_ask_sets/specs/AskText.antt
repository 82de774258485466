-- One ask as a text, as an example is shown: what it has for each of its fields.
use Rattle.std.specs.Prelude.{ℕ, Bool, true, nat_lt, if◌then◌else◌, List, [], ◌++◌, drop, Option, codes}
use Rattle.std.specs.Int.{w64, to_be_bytes}
use Rattle.std.specs.List.{flat_map}
use Rattle.std.specs.Option.{is_some, option_map_or}
use Rattle.gw_addr.specs.Address.{address_in, text_of}
use Rattle.gw_addr.specs.declared.bip.BipAddr.{BipAddr}
use Rattle.gw_audit.specs.Line.{absent, field_text, key_text, operation_text}
use Rattle.gw_rules.specs.Ask.{Ask}
use Rattle.gw_rules.specs.Field.{field_key}
use Rattle.gw_rules.specs.Fields.{value_of}
use Rattle.gw_rules.specs.declared.field.FieldName.{FieldName}
use Rattle.gw_rules.specs.declared.field.FieldName.TheVariants.{Operation, SourceKey}
use Rattle.gw_rules.specs.declared.field.FieldName.TheVariants.{Sender, Station}
use Rattle.gw_rules.specs.declared.field.TheConstants.FieldName.{ALL}

-- the address of a station of six octets by its key
abbrev pub address_of : ℕ → BipAddr
address_of key = address_in (drop 2 (to_be_bytes w64 key))

-- a station by its key: one of six octets as an address, another one by its octets
abbrev pub station_text : ℕ → List ℕ
station_text key =
    if nat_lt key 281474976710656 then text_of (address_of key) else codes "mac:" ++ key_text key

-- what an ask has for a field: an operation by its name, the key of a station as an address, else a number
abbrev pub value_text : FieldName → Option ℕ → List ℕ
value_text Operation value = operation_text value
value_text SourceKey value = option_map_or station_text value absent
value_text Sender value = option_map_or station_text value absent
value_text Station value = option_map_or station_text value absent
value_text _ value = field_text value

-- an ask without a sender is one of formats 1 and 2, which have neither sender nor station
abbrev pub is_shown : Ask → FieldName → Bool
is_shown ask Sender = is_some ask.sender
is_shown ask Station = is_some ask.sender
is_shown ask _ = true

-- ` <key>=<value>`
abbrev pub item_text : Ask → FieldName → List ℕ
item_text ask field =
    if is_shown ask field then codes " " ++ field_key field ++ codes "=" ++ value_text field (value_of field ask) else []

-- the fields of an ask: twelve, or ten where it has no sender
abbrev pub ask_fields_text : Ask → List ℕ
ask_fields_text ask = flat_map (item_text ask) ALL
