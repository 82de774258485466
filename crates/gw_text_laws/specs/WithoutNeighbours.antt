-- Texts as they are read where there are neither `bbmd` of a port nor `announce`: no port has another broadcast manager beside it, and
-- nothing is announced.
use Rattle.std.specs.Prelude.{◌≡◌, ℕ, Bool, false, ◌||◌, ◌++◌, nat_lt, if◌then◌else◌, is_some, List, [], ◌∷◌, length, codes, Option, Some}
use Rattle.std.specs.Prelude.{None, Ok, Err}
use Rattle.std.specs.List.{list_any}
use Rattle.toml.specs.Data.{Data, Members, as_table, get_member}
use Rattle.gw_addr.specs.Reading.{◌>>=◌}
use Rattle.gw_addr.specs.declared.TheConstants.{MAX_PORTS}
use Rattle.gw_rules.specs.declared.format.Format.{Format}
use Rattle.gw_rules.specs.declared.format.Format.TheVariants as formats
use Rattle.gw_configuration.specs.declared.fault.ConfigFault.TheVariants.{TooMany}
use Rattle.gw_configuration.specs.declared.located.Place.TheVariants as places
use Rattle.gw_configuration.specs.declared.port.Port.{Port}
use Rattle.gw_configuration.specs.declared.shape.Scalar.TheVariants.{Subnet}
use Rattle.gw_configuration.specs.declared.shape.Shape.TheVariants.{List as Listing}
use Rattle.gw_configuration.specs.Configuration.{Configuration}
use Rattle.gw_configuration.specs.Duplicates.{unique}
use Rattle.gw_configuration.specs.Located.{Find, Read, of_text, unless, whole}
use Rattle.gw_policy_text.specs.keys.Field.{Field, located_in}
use Rattle.gw_policy_text.specs.keys.Tables.{common_port_fields, common_top_fields, format_in, may, tables}
use Rattle.gw_policy_text.specs.keys.Value.{table_in}
use Rattle.gw_policy_text.specs.Document.{document, located_configuration}
use Rattle.gw_policy_text.specs.Parts.{address_at, device_at, each_at, format_at, list_at, list_or, number_at, objects_at, peers_at}
use Rattle.gw_policy_text.specs.Parts.{routes_at, stations_at}
use Rattle.gw_policy_text.specs.Policy.{policy_at}

-- the fields that there are then

abbrev pub top_fields : Format → List Field
top_fields formats.Three =
    common_top_fields ++ may (codes "set") (tables 0 1048576) ∷ may (codes "assert") (tables 0 512) ∷ []
top_fields _ = common_top_fields

abbrev pub port_fields : Format → List Field
port_fields formats.Three = common_port_fields ++ may (codes "stations") (Listing Subnet 1 16) ∷ []
port_fields _ = common_port_fields

-- what is read then

abbrev pub port_parts : Format → ℕ → Members → Find Port
port_parts format port table = do
  network ← whole (number_at 1 65534 (codes "network") table)
  address ← whole (address_at (codes "address") table)
  broadcast ← whole (address_at (codes "broadcast") table)
  stations ← whole (stations_at format (codes "stations") table)
  peers ← peers_at port (codes "peer") table
  Ok (record {
    network = network;
    address = address;
    broadcast = broadcast;
    stations = stations;
    bbmd = None;
    peers = peers;
  })

abbrev pub port_of : Format → ℕ → Members → Find Port
port_of format port table =
    unless (located_in (places.Port port) (port_fields format) table) (port_parts format port table)

abbrev pub port_in : Format → ℕ → Data → Find Port
port_in format port value = whole (table_in value) >>= port_of format port

abbrev pub ports_at : Format → Members → Find (List Port)
ports_at format top = whole (list_at 1 MAX_PORTS (codes "port") top) >>= each_at (port_in format) 0

abbrev pub parts_of_format : Format → Members → Find Configuration
parts_of_format format top = do
  device ← device_at (codes "device") top
  ports ← ports_at format top
  routes ← routes_at (length ports) (codes "route") top
  objects ← objects_at (codes "object") top
  policy ← policy_at format top
  Ok (record {
    format = format;
    announce = false;
    device = device;
    ports = ports;
    routes = routes;
    objects = objects;
    rules = policy.rules;
    tables = policy.tables;
    notes = policy.notes;
    audits = policy.audits;
    written = policy.written;
    sets = policy.sets;
    assertions = policy.assertions;
  })

abbrev pub parts_of : Members → Find Configuration
parts_of top = whole (format_at (codes "format") top) >>= λ format. parts_of_format format top

unfoldable pub configuration_of : Members → Find Configuration
configuration_of top = unless (located_in places.Top (top_fields (format_in top)) top) (parts_of top >>= unique)

abbrev pub configuration_in : List ℕ → Find Configuration
configuration_in text =
    if nat_lt 1048576 (length text) then Err (of_text TooMany) else (whole (document text) >>= configuration_of)

-- which texts

-- the table has this key
abbrev pub has_key : List ℕ → Members → Bool
has_key key table = is_some (get_member key table)

-- the value is a table of a port that names a manager
abbrev pub has_manager : Option Members → Bool
has_manager None = false
has_manager (Some table) = has_key (codes "bbmd") table

abbrev pub names_manager : Data → Bool
names_manager value = has_manager (as_table value)

abbrev pub some_names_manager : Read (List Data) → Bool
some_names_manager (Ok ports) = list_any names_manager ports
some_names_manager (Err fault) = false

-- a table of a text has one of the two keys where it counts
abbrev pub has_keys : Members → Bool
has_keys top = has_key (codes "announce") top || some_names_manager (list_or (get_member (codes "port") top))

abbrev pub has_keys_in : Read Members → Bool
has_keys_in (Ok top) = has_keys top
has_keys_in (Err fault) = false

-- law: each other text is read as where there are no such keys
abbrev pub TextsAreAsBefore : Type 0
TextsAreAsBefore = (text : List ℕ) → has_keys_in (document text) ≡ false → located_configuration text ≡ configuration_in text
