-- What `check` says of a configuration, as a JSON object.
use Rattle.std.specs.Prelude.{ℕ, ◌==◌, true, false, if◌then◌else◌, List, [], ◌∷◌, ◌++◌, length, map, codes, decimal, Option}
use Rattle.std.specs.Option.{option_map_or}
use Rattle.json.specs.Json.{Json, null, boolean, number, string, array}
use Rattle.gw_addr.specs.Address.{text_of}
use Rattle.gw_configuration.specs.Configuration.{Configuration}
use Rattle.gw_configuration.specs.declared.device.Device.{Device}
use Rattle.gw_configuration.specs.declared.fault.ConfigFault.{ConfigFault}
use Rattle.gw_configuration.specs.declared.fault.ConfigFault.TheVariants as faults
use Rattle.gw_configuration.specs.declared.port.Port.{Port}
use Rattle.gw_json.specs.Document.{items_of, object_of}
use Rattle.gw_rules.specs.declared.format.Format.{Format}
use Rattle.gw_rules.specs.declared.format.Format.TheVariants as formats

-- ---- a configuration

abbrev pub format_number : Format → ℕ
format_number formats.One = 1
format_number formats.Two = 2
format_number formats.Three = 3

abbrev pub device_value : Device → Json
device_value device =
    object_of ((codes "network", number (decimal device.network)) ∷ (codes "instance", number (decimal device.instance))
    ∷ (codes "name", string device.name) ∷ [])

-- the networks of the ports, in order
abbrev pub networks_value : List Port → Json
networks_value ports = array (items_of (map (λ port. number (decimal port.network)) ports))

-- the broadcast manager beside each port, in order, or null where the port is one itself
abbrev pub manager_value : Port → Json
manager_value port = option_map_or (λ manager. string (text_of manager)) port.bbmd null

abbrev pub managers_value : List Port → Json
managers_value ports = array (items_of (map manager_value ports))

-- its format, its device, its networks, how many ports, objects, rules as they are written and routes there are, the managers
-- beside its ports, and whether it announces networks
abbrev pub way_members : Configuration → List (List ℕ × Json)
way_members c =
    (codes "valid", boolean true)
    ∷ (codes "format", number (decimal (format_number c.format)))
    ∷ (codes "device", device_value c.device)
    ∷ (codes "ports", number (decimal (length c.ports)))
    ∷ (codes "networks", networks_value c.ports)
    ∷ []

abbrev pub policy_members : Configuration → List (List ℕ × Json)
policy_members c =
    (codes "objects", number (decimal (length c.objects)))
    ∷ (codes "rules", number (decimal c.written))
    ∷ (codes "routes", number (decimal (length c.routes)))
    ∷ (codes "bbmd", managers_value c.ports)
    ∷ (codes "announce", boolean c.announce)
    ∷ []

-- and how many assertions, if there are any
abbrev pub asserts_members : ℕ → List (List ℕ × Json)
asserts_members count = if count == 0 then [] else (codes "asserts", number (decimal count)) ∷ []

abbrev pub checked_value : Configuration → Json
checked_value c = object_of (way_members c ++ policy_members c ++ asserts_members (length c.assertions))

-- ---- a fault

-- the number and the name of a fault, as docs/spec/configuration.md lists them
abbrev pub fault_row : ConfigFault → ℕ × List ℕ
fault_row faults.NotToml = (1, codes "NotToml")
fault_row faults.UnknownKey = (2, codes "UnknownKey")
fault_row faults.Missing = (3, codes "Missing")
fault_row faults.Kind = (4, codes "Kind")
fault_row faults.Range = (5, codes "Range")
fault_row faults.Duplicate = (6, codes "Duplicate")
fault_row faults.TooMany = (7, codes "TooMany")
fault_row faults.Memory = (8, codes "Memory")

-- the fault, and the line that says where it is and what is wrong there, or null
abbrev pub fault_value : ConfigFault → Option (List ℕ) → Json
fault_value fault explanation =
    object_of ((codes "valid", boolean false)
    ∷ (codes "number", number (decimal (fault_row fault).0))
    ∷ (codes "fault", string (fault_row fault).1)
    ∷ (codes "explanation", option_map_or (λ line. string line) explanation null)
    ∷ [])
