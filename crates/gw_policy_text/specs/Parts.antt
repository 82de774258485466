-- How what a gateway is configured with is read from the tables of its text.
use Rattle.std.specs.Prelude.{ℕ, ◌+◌, ℤ, List, [], ◌∷◌, length, Bool, false, codes, ◌==◌, ◌||◌, nat_lt}
use Rattle.std.specs.Prelude.{if◌then◌else◌, Option, Some, None, Ok, Err}
use Rattle.std.specs.Option.{ok_or, option_map}
use Rattle.toml.specs.Data.{Data, Members, get_member}
use Rattle.gw_addr.specs.Reading.{◌>>=◌}
use Rattle.gw_addr.specs.declared.TheConstants.{MAX_PORTS}
use Rattle.gw_addr.specs.declared.bip.BipAddr.{BipAddr}
use Rattle.gw_addr.specs.declared.mask.Mask.{Mask}
use Rattle.gw_addr.specs.declared.entry.BdtEntry.{BdtEntry}
use Rattle.gw_rules.specs.declared.field.FieldName.{FieldName}
use Rattle.gw_rules.specs.declared.field.FieldName.TheVariants as fields
use Rattle.gw_rules.specs.declared.format.Format.{Format}
use Rattle.gw_rules.specs.Format.{names_stations}
use Rattle.gw_configuration.specs.declared.device.Device.{Device}
use Rattle.gw_configuration.specs.declared.fault.ConfigFault.TheVariants.{Missing, Range, TooMany}
use Rattle.gw_configuration.specs.declared.located.Place.TheVariants as places
use Rattle.gw_configuration.specs.declared.object.Object.{Object}
use Rattle.gw_configuration.specs.declared.object.ObjectKind.{ObjectKind}
use Rattle.gw_configuration.specs.declared.object.ObjectKind.TheVariants as kinds
use Rattle.gw_configuration.specs.declared.object.ObjectValue.{ObjectValue}
use Rattle.gw_configuration.specs.declared.object.ObjectValue.TheVariants as values
use Rattle.gw_configuration.specs.declared.port.Port.{Port}
use Rattle.gw_configuration.specs.declared.route.Route.{Route}
use Rattle.gw_configuration.specs.declared.shape.Scalar.TheVariants.{Manager}
use Rattle.gw_configuration.specs.declared.shape.Shape.TheVariants.{One}
use Rattle.gw_configuration.specs.Configuration.{format_of, is_managed, is_plain_port}
use Rattle.gw_configuration.specs.Located.{Find, Located, Read, unless, whole}
use Rattle.gw_configuration.specs.States.{States}
use Rattle.gw_configuration.specs.Subnet.{Subnet}
use Rattle.gw_configuration.specs.Text.{text_within}
use Rattle.gw_policy_text.specs.keys.Field.{at_field, field_fault, located_in}
use Rattle.gw_policy_text.specs.keys.Items.{each}
use Rattle.gw_policy_text.specs.keys.Tables.{device_fields, object_fields, peer_fields, port_fields, route_fields}
use Rattle.gw_policy_text.specs.keys.Tables.{type_field}
use Rattle.gw_policy_text.specs.keys.Value.{address_in, boolean_in, kind_in, list_in, mask_in, number_in}
use Rattle.gw_policy_text.specs.keys.Value.{signed_in, subnet_in, table_in, text_in}

-- the value at a key
abbrev pub at : List ℕ → Members → Read Data
at key table = ok_or (get_member key table) Missing

abbrev pub number_at : ℕ → ℕ → List ℕ → Members → Read ℕ
number_at low high key table = at key table >>= number_in low high

abbrev pub text_at : ℕ → List ℕ → Members → Read (List ℕ)
text_at least key table = at key table >>= text_in least

abbrev pub address_at : List ℕ → Members → Read BipAddr
address_at key table = at key table >>= address_in

abbrev pub mask_at : List ℕ → Members → Read Mask
mask_at key table = at key table >>= mask_in

-- a text that may be missing
abbrev pub text_or : List ℕ → Option Data → Read (List ℕ)
text_or default None = text_within 0 default
text_or default (Some value) = text_in 0 value

abbrev pub optional_text : List ℕ → List ℕ → Members → Read (List ℕ)
optional_text default key table = text_or default (get_member key table)

-- a list of least to most values
abbrev pub within : {A : Type 0} → ℕ → ℕ → List A → Read (List A)
within least most values =
    if nat_lt (length values) least then Err Range
    else if nat_lt most (length values) then Err TooMany
    else Ok values

-- a list that may be missing, which is then an empty one
abbrev pub list_or : Option Data → Read (List Data)
list_or None = Ok []
list_or (Some value) = list_in value

abbrev pub list_at : ℕ → ℕ → List ℕ → Members → Read (List Data)
list_at least most key table = list_or (get_member key table) >>= within least most

-- each table of a list with its position, in order, up to the first fault
abbrev pub each_at : {A : Type 0} → (ℕ → Data → Find A) → ℕ → List Data → Find (List A)
each_at read place [] = Ok []
each_at read place (value ∷ later) =
    read place value >>= λ first. each_at read (place + 1) later >>= λ others. Ok (first ∷ others)

-- the device

abbrev pub device_parts : Members → Read Device
device_parts table = do
  network ← number_at 1 65534 (codes "network") table
  instance ← number_at 0 4194302 (codes "instance") table
  name ← text_at 1 (codes "name") table
  vendor ← number_at 0 65535 (codes "vendor") table
  vendor_name ← text_at 0 (codes "vendor_name") table
  model ← text_at 0 (codes "model") table
  firmware ← text_at 0 (codes "firmware") table
  software ← text_at 0 (codes "software") table
  revision ← number_at 0 255 (codes "revision") table
  database ← number_at 0 4294967295 (codes "database") table
  description ← optional_text [] (codes "description") table
  Ok (record {
    network = network;
    instance = instance;
    name = name;
    vendor = vendor;
    vendor_name = vendor_name;
    model = model;
    firmware = firmware;
    software = software;
    revision = revision;
    database = database;
    description = description;
  })

unfoldable pub device_of : Members → Find Device
device_of table = unless (located_in places.Device device_fields table) (whole (device_parts table))

-- a port, followed by its peers

abbrev pub peer_parts : Members → Read BdtEntry
peer_parts table = do
  address ← address_at (codes "address") table
  mask ← mask_at (codes "mask") table
  Ok (record { address = address; mask = mask.octets })

-- of the port at a position
abbrev pub peer_of : ℕ → ℕ → Members → Find BdtEntry
peer_of port peer table = unless (located_in (places.Peer port peer) peer_fields table) (whole (peer_parts table))

abbrev pub peer_in : ℕ → ℕ → Data → Find BdtEntry
peer_in port peer value = whole (table_in value) >>= peer_of port peer

abbrev pub peers_at : ℕ → List ℕ → Members → Find (List BdtEntry)
peers_at port key table = whole (list_at 0 64 key table) >>= each_at (peer_in port) 0

-- the subnets of its stations, in format 3
abbrev pub stations_at : Format → List ℕ → Members → Read (List Subnet)
stations_at format key table =
    if names_stations format then (list_at 0 16 key table >>= each subnet_in) else Ok []

-- the address of the broadcast manager beside it, if it has one, in format 3
abbrev pub manager_or : Option Data → Read (Option BipAddr)
manager_or None = Ok None
manager_or (Some value) = address_in value >>= λ address. Ok (Some address)

abbrev pub manager_at : Format → List ℕ → Members → Read (Option BipAddr)
manager_at format key table = if names_stations format then manager_or (get_member key table) else Ok None

-- no port of format 1 or 2 has stations, or a manager beside it
abbrev pub is_plain_in : Format → Port → Bool
is_plain_in format port = names_stations format || is_plain_port port

-- what is read of a port whose manager is beside it; else that key is out of range
abbrev pub misplaced : ℕ → Located
misplaced port = record {
  fault = Range;
  place = places.Port port;
  key = codes "bbmd";
  item = None;
  wanted = Some (One Manager);
}

abbrev pub managed : ℕ → Port → Find Port
managed port read = if is_managed read then Ok read else Err (misplaced port)

abbrev pub port_parts : Format → ℕ → Members → Find Port
port_parts format port table = do
  network ← whole (number_at 1 65534 (codes "network") table)
  address ← whole (address_at (codes "address") table)
  broadcast ← whole (address_at (codes "broadcast") table)
  stations ← whole (stations_at format (codes "stations") table)
  bbmd ← whole (manager_at format (codes "bbmd") table)
  peers ← peers_at port (codes "peer") table
  managed port (record {
    network = network;
    address = address;
    broadcast = broadcast;
    stations = stations;
    bbmd = bbmd;
    peers = peers;
  })

abbrev pub port_of : Format → ℕ → Members → Find Port
port_of format port table =
    unless (located_in (places.Port port) (port_fields format) table) (port_parts format port table)

abbrev pub port_in : Format → ℕ → Data → Find Port
port_in format port value = whole (table_in value) >>= port_of format port

-- a route by one of so many ports

abbrev pub route_parts : ℕ → Members → Read Route
route_parts ports table = do
  network ← number_at 1 65534 (codes "network") table
  port ← number_at 1 ports (codes "port") table
  next ← address_at (codes "next") table
  Ok (record { network = network; port = port; next = next })

abbrev pub route_of : ℕ → ℕ → Members → Find Route
route_of ports route table =
    unless (located_in (places.Route route) (route_fields ports) table) (whole (route_parts ports table))

abbrev pub route_in : ℕ → ℕ → Data → Find Route
route_in ports route value = whole (table_in value) >>= route_of ports route

-- an object, by its type

abbrev pub kind_at : List ℕ → Members → Read ObjectKind
kind_at key table = at key table >>= kind_in

abbrev pub signed_at : List ℕ → Members → Read ℤ
signed_at key table = at key table >>= signed_in

-- how many values are in the list at a key
abbrev pub count_or : Read (List Data) → ℕ
count_or (Ok values) = length values
count_or (Err _) = 0

abbrev pub count_at : List ℕ → Members → ℕ
count_at key table = count_or (list_or (get_member key table))

-- a default of 1 is active
abbrev pub binary_value : Members → Read ObjectValue
binary_value table = do
  default ← number_at 0 1 (codes "default") table
  active ← optional_text (codes "active") (codes "active") table
  inactive ← optional_text (codes "inactive") (codes "inactive") table
  Ok (values.BinaryValue (default == 1) active inactive)

-- the default is one of the states
abbrev pub states_with : List (List ℕ) → Members → Read States
states_with states table =
    number_at 1 (length states) (codes "default") table >>= λ default.
    Ok (record { default = default; states = states })

abbrev pub multi_state_value : Members → Read ObjectValue
multi_state_value table = do
  texts ← list_at 1 64 (codes "states") table
  states ← each (text_in 0) texts
  value ← states_with states table
  Ok (values.MultiStateValue value)

abbrev pub character_string_value : Members → Read ObjectValue
character_string_value table = do
  default ← text_at 0 (codes "default") table
  Ok (values.CharacterStringValue default)

abbrev pub integer_value : Members → Read ObjectValue
integer_value table = do
  default ← signed_at (codes "default") table
  units ← number_at 0 65535 (codes "units") table
  Ok (values.IntegerValue default units)

abbrev pub positive_integer_value : Members → Read ObjectValue
positive_integer_value table = do
  default ← number_at 0 4294967295 (codes "default") table
  units ← number_at 0 65535 (codes "units") table
  Ok (values.PositiveIntegerValue default units)

abbrev pub value_of : ObjectKind → Members → Read ObjectValue
value_of kinds.BinaryValue table = binary_value table
value_of kinds.MultiStateValue table = multi_state_value table
value_of kinds.CharacterStringValue table = character_string_value table
value_of kinds.IntegerValue table = integer_value table
value_of kinds.PositiveIntegerValue table = positive_integer_value table

abbrev pub object_parts : ObjectKind → Members → Read Object
object_parts kind table = do
  instance ← number_at 0 4194302 (codes "instance") table
  name ← text_at 1 (codes "name") table
  description ← optional_text [] (codes "description") table
  value ← value_of kind table
  Ok (record { instance = instance; name = name; description = description; value = value })

unfoldable pub object_of_kind : ℕ → ObjectKind → Members → Find Object
object_of_kind object kind table =
    unless (located_in (places.Object object) (object_fields kind (count_at (codes "states") table)) table)
    (whole (object_parts kind table))

-- the fault of its type, which is judged first
abbrev pub type_located : ℕ → Members → Option Located
type_located object table =
    option_map (λ fault. at_field [] (places.Object object) fault table (Some type_field)) (field_fault [] table type_field)

abbrev pub object_of : ℕ → Members → Find Object
object_of object table =
    unless (type_located object table)
    (whole (kind_at (codes "type") table) >>= λ kind. object_of_kind object kind table)

abbrev pub object_in : ℕ → Data → Find Object
object_in object value = whole (table_in value) >>= object_of object

-- the whole

abbrev pub format_at : List ℕ → Members → Read Format
format_at key table = number_at 1 3 key table >>= λ number. Ok (format_of number)

-- true or false, which may be missing
abbrev pub boolean_or : Bool → Option Data → Read Bool
boolean_or default None = Ok default
boolean_or default (Some value) = boolean_in value

abbrev pub optional_boolean : Bool → List ℕ → Members → Read Bool
optional_boolean default key table = boolean_or default (get_member key table)

-- whether networks are announced, which formats 1 and 2 don't
abbrev pub announce_at : Format → List ℕ → Members → Read Bool
announce_at format key table = if names_stations format then optional_boolean false key table else Ok false

abbrev pub device_at : List ℕ → Members → Find Device
device_at key table = whole (at key table >>= table_in) >>= device_of

abbrev pub ports_at : Format → List ℕ → Members → Find (List Port)
ports_at format key table = whole (list_at 1 MAX_PORTS key table) >>= each_at (port_in format) 0

abbrev pub routes_at : ℕ → List ℕ → Members → Find (List Route)
routes_at ports key table = whole (list_at 0 512 key table) >>= each_at (route_in ports) 0

abbrev pub objects_at : List ℕ → Members → Find (List Object)
objects_at key table = whole (list_at 0 256 key table) >>= each_at object_in 0
