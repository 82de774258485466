-- The built-in configuration, with which the worked examples are run.
use Rattle.std.specs.Prelude.{ℕ, negsuc, true, false, List, [], ◌∷◌, None, codes}
use Rattle.gw_addr.specs.declared.bip.BipAddr.{BipAddr}
use Rattle.gw_rules.specs.declared.field.FieldName.TheVariants.{Operation, ObjectType, Instance, Property}
use Rattle.gw_rules.specs.declared.range.Range.{Range}
use Rattle.gw_rules.specs.declared.rule.Rule.{Rule}
use Rattle.gw_rules.specs.Rule.{rule_without_fields, with_range}
use Rattle.gw_configuration.specs.declared.device.Device.{Device}
use Rattle.gw_rules.specs.declared.format.Format.TheVariants.{One}
use Rattle.gw_configuration.specs.declared.object.Object.{Object}
use Rattle.gw_configuration.specs.declared.object.ObjectValue.{ObjectValue}
use Rattle.gw_configuration.specs.declared.object.ObjectValue.TheVariants.{BinaryValue, MultiStateValue}
use Rattle.gw_configuration.specs.declared.object.ObjectValue.TheVariants.{CharacterStringValue, IntegerValue}
use Rattle.gw_configuration.specs.declared.object.ObjectValue.TheVariants.{PositiveIntegerValue}
use Rattle.gw_configuration.specs.declared.port.Port.{Port}
use Rattle.gw_configuration.specs.Configuration.{Configuration}

-- 192.168.net.host, at the UDP port of BACnet/IP
abbrev pub node : ℕ → ℕ → BipAddr
node net host = record { ip = 192 ∷ 168 ∷ net ∷ host ∷ []; udp = 47808 }

-- a port on 192.168.net, whose network has that number too: it is the broadcast manager of its subnet, without
-- stations and peers
abbrev pub port_on : ℕ → Port
port_on net = record {
  network = net;
  address = node net 10;
  broadcast = node net 255;
  stations = [];
  bbmd = None;
  peers = [];
}

-- the device: 1234, on network 100
abbrev pub device : Device
device = record {
  network = 100;
  instance = 1234;
  name = codes "gw";
  vendor = 999;
  vendor_name = codes "Example";
  model = codes "gw-1";
  firmware = codes "1";
  software = codes "1";
  revision = 12;
  database = 1;
  description = [];
}

-- an object without description
abbrev pub object : ℕ → List ℕ → ObjectValue → Object
object instance name value = record { instance = instance; name = name; description = []; value = value }

-- a Binary Value that is inactive
abbrev pub inactive : ObjectValue
inactive = BinaryValue false (codes "active") (codes "inactive")

-- the unit of what is without unit (clause 21)
abbrev pub no_units : ℕ
no_units = 95

abbrev pub objects : List Object
objects =
    object 1 (codes "fan") inactive
    ∷ object 2 (codes "door") inactive
    ∷ object 1 (codes "mode")
    (MultiStateValue (record { default = 1; states = codes "off" ∷ codes "auto" ∷ codes "on" ∷ [] }))
    ∷ object 1 (codes "note") (CharacterStringValue (codes "hi"))
    ∷ object 1 (codes "offset") (IntegerValue (negsuc 4) no_units)
    ∷ object 1 (codes "count") (PositiveIntegerValue 0 no_units)
    ∷ []

abbrev pub only : ℕ → Range
only n = record { low = n; high = n }

-- reads, writes and listings of Binary Values 2 to 9 are denied
abbrev pub hide : Rule
hide = with_range Instance (record { low = 2; high = 9 }) (with_range ObjectType (only 5)
    (with_range Operation (only 11) (with_range Operation (only 10) (with_range Operation (only 9)
    (rule_without_fields (codes "hide") false)))))

-- reads of the description of Binary Value 1 are denied
abbrev pub no_description : Rule
no_description = with_range Property (only 28) (with_range Instance (only 1) (with_range ObjectType (only 5)
    (with_range Operation (only 9) (rule_without_fields (codes "no-desc") false))))

-- all else is allowed
abbrev pub all_else : Rule
all_else = rule_without_fields (codes "all") true

-- two ports, a route to network 300, the device with an object of each type and one more, and three rules
abbrev pub setting : Configuration
setting = record {
  format = One;
  announce = false;
  device = device;
  ports = port_on 1 ∷ port_on 2 ∷ [];
  routes = record { network = 300; port = 2; next = node 2 20 } ∷ [];
  objects = objects;
  rules = hide ∷ no_description ∷ all_else ∷ [];
  tables = 0 ∷ 1 ∷ 2 ∷ [];
  notes = [] ∷ [] ∷ [] ∷ [];
  audits = false ∷ false ∷ false ∷ [];
  written = 3;
  sets = [];
  assertions = [];
}
