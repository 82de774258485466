-- Rules that allow by what anyone may say of a message.
use Rattle.std.specs.Prelude.{ℕ, Bool, not, ◌&&◌, ◌==◌, if◌then◌else◌, List, ◌++◌, length, codes, decimal}
use Rattle.std.specs.List.{list_any}
use Rattle.gw_configuration.specs.declared.port.Port.{Port}
use Rattle.gw_rules.specs.Format.{names_stations}
use Rattle.gw_rules.specs.Range.{holds}
use Rattle.gw_rules.specs.Rule.{each_field, ranges_of}
use Rattle.gw_rules.specs.declared.field.FieldName.{FieldName}
use Rattle.gw_rules.specs.declared.field.FieldName.TheVariants.{SourceNetwork, SourceKey, Sender}
use Rattle.gw_rules.specs.declared.format.Format.{Format}
use Rattle.gw_rules.specs.declared.range.Range.{Range}
use Rattle.gw_rules.specs.declared.rule.Rule.{Rule}

-- the rule has a range for the field
abbrev pub names : FieldName → Rule → Bool
names field rule = not (length (ranges_of field rule) == 0)

-- ---- a source without its network or a sender

abbrev pub is_source_alone : Rule → Bool
is_source_alone rule =
    rule.allow && (names SourceKey rule && (not (names SourceNetwork rule) && not (names Sender rule)))

abbrev pub source_words : Format → List ℕ
source_words format =
    if names_stations format
    then codes "source: without source_network or sender, whoever speaks for a network may name that source"
    else codes "source: without source_network, whoever writes that source into a frame is taken for it"

-- ---- a source network without a source or a sender

abbrev pub is_source_network_alone : Rule → Bool
is_source_network_alone rule =
    rule.allow && (names SourceNetwork rule && (not (names SourceKey rule) && not (names Sender rule)))

-- a port that names no stations, and whose network is in one of the ranges
abbrev pub is_open_for : List Range → Port → Bool
is_open_for ranges port = (length port.stations == 0) && list_any (holds port.network) ranges

abbrev pub port_words : ℕ → List ℕ
port_words number =
    codes "source_network: port " ++ decimal number
    ++ codes " has no stations, so whoever reaches it is taken for a station of its network"

abbrev pub reach_words : List ℕ
reach_words = codes "source_network: without source, whoever reaches a port may be of that network"

-- ---- the last rule without fields

-- the rule of this number is the last one, allows, and names no field
abbrev pub is_open_end : List Rule → ℕ → Rule → Bool
is_open_end rules number rule =
    (number == length rules) && (rule.allow && each_field (λ field. not (names field rule)))

abbrev pub ending_words : Format → List ℕ
ending_words format =
    if names_stations format
    then codes "its fields: without any, it allows tables, registrations, routes, enter and claim too"
    else codes "its fields: without any, it allows tables, registrations and routes too"
