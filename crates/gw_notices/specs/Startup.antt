-- What `run --verbose` reports at the start: one line on what is served.
use Rattle.std.specs.Prelude.{◌≡◌, ℕ, Bool, true, false, List, [], ◌∷◌, ◌++◌, length, Option, Some, None}
use Rattle.std.specs.Prelude.{codes, decimal}
use Rattle.gw_addr.specs.Address.{text_of}
use Rattle.gw_configuration.specs.Configuration.{Configuration}
use Rattle.gw_configuration.specs.declared.device.Device.{Device}
use Rattle.gw_configuration.specs.declared.port.Port.{Port}
use Rattle.gw_configuration.specs.Shown.{shown}
use Rattle.gw_script.specs.Order.{in_order}

-- a port by its number, and its two addresses
abbrev pub port_text : ℕ → Port → List ℕ
port_text number port =
    codes "port " ++ decimal number ++ codes " at " ++ text_of port.address ++ codes ", broadcast "
    ++ text_of port.broadcast ++ codes "; "

-- how many rules there are
abbrev pub rules_text : Configuration → List ℕ
rules_text c = decimal (length c.rules) ++ codes " rules; log to "

-- how many objects there are
abbrev pub objects_text : Configuration → List ℕ
objects_text c = codes " with " ++ decimal (length c.objects) ++ codes " objects; "

-- the device
abbrev pub device_text : Device → List ℕ
device_text device = codes "device " ++ decimal device.instance ++ codes " on network " ++ decimal device.network

-- where the log goes: to the file of this name, or to standard output
abbrev pub log_text : Option (List ℕ) → List ℕ
log_text (Some name) = shown name
log_text None = codes "standard output"

-- the line
abbrev pub serving_line : Configuration → Option (List ℕ) → List ℕ
serving_line c log =
    codes "bacgw: serving " ++ in_order port_text 1 c.ports ++ device_text c.device ++ objects_text c ++ rules_text c
    ++ log_text log ++ 10 ∷ []

-- what is reported at the start: the line where that is asked for, and else nothing
abbrev pub startup_line : Bool → Configuration → Option (List ℕ) → List ℕ
startup_line true c log = serving_line c log
startup_line false c log = []

-- what is written at the start of a machine that routes IP itself
abbrev pub routing_note : Bool → List ℕ
routing_note true = codes "bacgw: net.ipv4.ip_forward isn't 0: hosts reach the other subnets past the gateway\n"
routing_note false = []

-- What may be written of a machine at the start: that it routes IP itself, if more is asked for.
abbrev pub IsWarning : (RoutesIp : Bool → Type 0) → (is_verbose : Bool) → List ℕ → Type 0
IsWarning RoutesIp true text = (routes : Bool) × RoutesIp routes × (text ≡ routing_note routes)
IsWarning RoutesIp false text = text ≡ []
