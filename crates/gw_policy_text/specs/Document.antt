-- A configuration as it is read from its text.
use Rattle.std.specs.Prelude.{ℕ, List, length, codes, nat_lt, if◌then◌else◌, Ok, Err}
use Rattle.gw_rules.specs.declared.format.Format.{Format}
use Rattle.std.specs.Option.{ok_or}
use Rattle.std.specs.Str.{is_utf8}
use Rattle.toml.specs.Data.{Members}
use Rattle.toml.specs.Parse.{parse_document}
use Rattle.gw_addr.specs.Reading.{◌>>=◌}
use Rattle.gw_configuration.specs.declared.fault.ConfigFault.TheVariants.{NotToml, TooMany}
use Rattle.gw_configuration.specs.declared.located.Place.TheVariants.{Top}
use Rattle.gw_configuration.specs.Configuration.{Configuration}
use Rattle.gw_configuration.specs.Duplicates.{unique}
use Rattle.gw_configuration.specs.Located.{Find, Read, of_text, unless, whole, without_place}
use Rattle.gw_policy_text.specs.keys.Field.{located_in}
use Rattle.gw_policy_text.specs.keys.Tables.{format_in, top_fields}
use Rattle.gw_policy_text.specs.Parts.{announce_at, device_at, format_at, objects_at, ports_at, routes_at}
use Rattle.gw_policy_text.specs.Policy.{policy_at}

-- the tables in their order, after the format
abbrev pub parts_of_format : Format → Members → Find Configuration
parts_of_format format top = do
  announce ← whole (announce_at format (codes "announce") top)
  device ← device_at (codes "device") top
  ports ← ports_at format (codes "port") top
  routes ← routes_at (length ports) (codes "route") top
  objects ← objects_at (codes "object") top
  policy ← policy_at format top
  Ok (record {
    format = format;
    announce = announce;
    device = device;
    ports = ports;
    routes = routes;
    objects = objects;
    rules = policy.rules;
    tables = policy.tables;
    notes = policy.notes;
    audits = policy.audits;
    written = policy.written;
    sets = policy.sets;
    assertions = policy.assertions;
  })

-- the format, and then the tables
abbrev pub parts_of : Members → Find Configuration
parts_of top = whole (format_at (codes "format") top) >>= λ format. parts_of_format format top

-- the configuration of a document: its tables in their order, and last of all what may not appear twice
unfoldable pub configuration_of : Members → Find Configuration
configuration_of top =
    unless (located_in Top (top_fields (format_in top)) top) (parts_of top >>= unique)

-- the TOML document that a text is
abbrev pub document : List ℕ → Read Members
document text = if is_utf8 text then ok_or (parse_document text) NotToml else Err NotToml

-- the configuration that a text of at most 1,048,576 octets says, or its first fault and where that is
abbrev pub located_configuration : List ℕ → Find Configuration
located_configuration text =
    if nat_lt 1048576 (length text) then Err (of_text TooMany) else (whole (document text) >>= configuration_of)

-- the configuration that a text says, or its first fault
abbrev pub configuration : List ℕ → Read Configuration
configuration text = without_place (located_configuration text)
