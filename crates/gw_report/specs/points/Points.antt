-- The list of a device's objects in the layout 2.3 of Engineering Data Exchange (EDE, of the BACnet Interest Group Europe).
use Rattle.std.specs.Prelude.{ℕ, Bool, true, false, List, [], ◌∷◌, ◌++◌, map, codes, decimal, unwrap_or, if◌then◌else◌}
use Rattle.std.specs.Fmt.{signed_decimal}
use Rattle.std.specs.List.{flat_map}
use Rattle.gw_configuration.specs.Configuration.{Configuration}
use Rattle.gw_configuration.specs.Kinds.{type_number}
use Rattle.gw_configuration.specs.declared.device.Device.{Device}
use Rattle.gw_configuration.specs.declared.object.Object.{Object}
use Rattle.gw_configuration.specs.declared.object.ObjectValue.{ObjectValue}
use Rattle.gw_configuration.specs.declared.object.ObjectValue.TheVariants.{BinaryValue, MultiStateValue}
use Rattle.gw_configuration.specs.declared.object.ObjectValue.TheVariants.{CharacterStringValue, IntegerValue}
use Rattle.gw_configuration.specs.declared.object.ObjectValue.TheVariants.{PositiveIntegerValue}
use Rattle.gw_codecs.specs.names.Names.{object_type_name}
use Rattle.gw_report.specs.points.Cells.{Row, guarded, row_text}

-- the names of the sixteen columns
unfoldable pub column_row : Row
column_row =
    codes "# keyname" ∷ codes "device obj.-instance" ∷ codes "object-name" ∷ codes "object-type"
    ∷ codes "object-instance" ∷ codes "description" ∷ codes "present-value-default" ∷ codes "min-present-value"
    ∷ codes "max-present-value" ∷ codes "settable" ∷ codes "supports COV" ∷ codes "hi-limit" ∷ codes "low-limit"
    ∷ codes "state-text-reference" ∷ codes "unit-code" ∷ codes "vendor-specific-address" ∷ []

-- the lines before the objects: whose list this is, what is the same of every list, and the names of the columns
abbrev pub setting_rows : List Row
setting_rows =
    (codes "VERSION_OF_REFERENCEFILE" ∷ codes "1" ∷ []) ∷ (codes "TIMESTAMP_OF_LAST_CHANGE" ∷ [] ∷ [])
    ∷ (codes "AUTHOR_OF_LAST_CHANGE" ∷ codes "bacgw" ∷ []) ∷ (codes "VERSION_OF_LAYOUT" ∷ codes "2.3" ∷ []) ∷ []

abbrev pub header_rows : Device → List Row
header_rows device = (codes "PROJECT_NAME" ∷ guarded device.name ∷ []) ∷ (setting_rows ++ column_row ∷ [])

-- `1000-binary-value-1`: the device's instance, the type's name (clause 21) and the instance, which no other object has
abbrev pub key_of : ℕ → ℕ → ℕ → List ℕ
key_of device kind instance =
    decimal device ++ (45 ∷ (unwrap_or (object_type_name kind) [] ++ (45 ∷ decimal instance)))

-- what differs in a line from one object to another
pub record PointLine : Type 0 where
  pub device : ℕ
  pub kind : ℕ
  pub instance : ℕ
  pub name : List ℕ
  pub description : List ℕ
  pub default : List ℕ
  pub settable : Bool
  pub units : List ℕ

-- The sixteen cells of a line, as `column_row` names them. No object has limits, a text of its states elsewhere, or an
-- address of a vendor, and none reports changes (COV).
abbrev pub settable_cell : Bool → List ℕ
settable_cell settable = if settable then codes "Y" else codes "N"

abbrev pub identity_cells : PointLine → (name description : List ℕ) → Row
identity_cells p name description = decimal p.device ∷ name ∷ decimal p.kind ∷ decimal p.instance ∷ description ∷ []

abbrev pub value_cells : PointLine → Row
value_cells p = p.default ∷ [] ∷ [] ∷ settable_cell p.settable ∷ codes "N" ∷ []

abbrev pub limits_cells : PointLine → Row
limits_cells p = [] ∷ [] ∷ [] ∷ p.units ∷ [] ∷ []

abbrev pub cells : PointLine → (key name description : List ℕ) → Row
cells p key name description = key ∷ (identity_cells p name description ++ (value_cells p ++ limits_cells p))

abbrev pub point_row : PointLine → Row
point_row p = cells p (key_of p.device p.kind p.instance) (guarded p.name) (guarded p.description)

-- the number of the type of a Device object (clause 21)
abbrev pub device_type : ℕ
device_type = 8

-- the line of the device
abbrev pub device_point : Device → PointLine
device_point device = record {
  device = device.instance;
  kind = device_type;
  instance = device.instance;
  name = device.name;
  description = device.description;
  default = [];
  settable = false;
  units = [];
}

-- Relinquish_Default: of a Binary Value 1 if it is active and else 0, of a Multi-state Value the number of the state
abbrev pub default_cell : ObjectValue → List ℕ
default_cell (BinaryValue default active inactive) = if default then codes "1" else codes "0"
default_cell (MultiStateValue states) = decimal states.default
default_cell (CharacterStringValue default) = guarded default
default_cell (IntegerValue default units) = signed_decimal default
default_cell (PositiveIntegerValue default units) = decimal default

-- the number of the units (clause 21)
abbrev pub units_cell : ObjectValue → List ℕ
units_cell (IntegerValue default units) = decimal units
units_cell (PositiveIntegerValue default units) = decimal units
units_cell _ = []

-- the line of an object of the device of this instance, whose Present_Value can be written
abbrev pub object_point : ℕ → Object → PointLine
object_point device object = record {
  device = device;
  kind = type_number object.value;
  instance = object.instance;
  name = object.name;
  description = object.description;
  default = default_cell object.value;
  settable = true;
  units = units_cell object.value;
}

-- the device and its objects, in order
abbrev pub points : Configuration → List PointLine
points c = device_point c.device ∷ map (object_point c.device.instance) c.objects

abbrev pub points_rows : Configuration → List Row
points_rows c = header_rows c.device ++ map point_row (points c)

abbrev pub points_text : Configuration → List ℕ
points_text c = flat_map row_text (points_rows c)
