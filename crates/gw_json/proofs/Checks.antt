-- The objects of a check have numbers below 2^64, and aren't deep.
use Rattle.std.proofs.Common.{ℕ, ◌^◌, ◌<◌, Bool, true, false, List, [], ◌∷◌, length, map, Option, decimal, arith}
use Rattle.std.specs.Prelude.{codes, ◌==◌, if◌then◌else◌}
use Rattle.std.specs.List.{AllByRecursion}
use Rattle.json.specs.Json.{null, boolean, number, string, no_members}
use Rattle.gw_addr.specs.Address.{text_of}
use Rattle.gw_addr.specs.declared.bip.BipAddr.{BipAddr}
use Rattle.gw_configuration.specs.Configuration.{Configuration}
use Rattle.gw_configuration.specs.declared.fault.ConfigFault.{ConfigFault}
use Rattle.gw_configuration.specs.declared.fault.ConfigFault.TheVariants as faults
use Rattle.gw_configuration.specs.declared.port.Port.{Port}
use Rattle.gw_json.specs.Check.{asserts_members, checked_value, device_value, fault_row, fault_value, format_number, manager_value, managers_value, networks_value}
use Rattle.gw_json.specs.Document.{members_of}
use Rattle.gw_json.specs.Laws.{ChecksRead, FaultsRead, NumbersFit}
use Rattle.gw_json.proofs.Documents.{AreShallow, IsShallow, boolean_shallow, items_array, line_read, mapped_shallow, member_shallow, none_shallow, null_shallow, number_shallow, object_shallow, or_shallow, string_shallow, wider}
use Rattle.gw_json.proofs.Plain.{Each}
use Rattle.gw_rules.specs.declared.format.Format.{Format}
use Rattle.gw_rules.specs.declared.format.Format.TheVariants as formats

each_network : (ports : List Port) → AllByRecursion (λ port. port.network < 2 ^ 64) ports
    → Each (IsShallow 0) (map (λ port. number (decimal port.network)) ports)
each_network [] fit = tt
each_network (port ∷ ports) fit = (number_shallow 0 port.network fit.0, each_network ports fit.1)

manager_shallow : (port : Port) → IsShallow 0 (manager_value port)
manager_shallow port = or_shallow 0 (λ (manager : BipAddr). string (text_of manager)) port.bbmd null (λ manager. string_shallow 0 (text_of manager)) (null_shallow 0)

managers_shallow : (ports : List Port) → IsShallow 2 (managers_value ports)
managers_shallow ports = wider 1 2 (managers_value ports) (omega arith) (mapped_shallow 0 manager_value ports manager_shallow)

format_shallow : (format : Format) → IsShallow 2 (number (decimal (format_number format)))
format_shallow formats.One = number_shallow 2 1 (omega arith)
format_shallow formats.Two = number_shallow 2 2 (omega arith)
format_shallow formats.Three = number_shallow 2 3 (omega arith)

asserts_shallow : (count : ℕ) → count < 2 ^ 64 → AreShallow 2 (members_of (asserts_members count))
asserts_shallow count few = by (count == 0)
  where
    by : (b : Bool) → AreShallow 2 (members_of (if b then [] else (codes "asserts", number (decimal count)) ∷ []))
    by true = none_shallow 2
    by false = member_shallow 2 (codes "asserts") (number (decimal count)) no_members (number_shallow 2 count few) (none_shallow 2)

checked_shallow : (c : Configuration) → NumbersFit c → IsShallow 3 (checked_value c)
checked_shallow c fit =
    let device = object_shallow 0 _ (member_shallow 0 (codes "network") (number (decimal c.device.network)) _ (number_shallow 0 c.device.network fit.network)
    (member_shallow 0 (codes "instance") (number (decimal c.device.instance)) _ (number_shallow 0 c.device.instance fit.instance)
    (member_shallow 0 (codes "name") (string c.device.name) no_members (string_shallow 0 c.device.name) (none_shallow 0)))) in
    object_shallow 2 _ (member_shallow 2 (codes "valid") (boolean true) _ (boolean_shallow 2 true)
    (member_shallow 2 (codes "format") (number (decimal (format_number c.format))) _ (format_shallow c.format)
    (member_shallow 2 (codes "device") (device_value c.device) _ (wider 1 2 (device_value c.device) (omega arith) device)
    (member_shallow 2 (codes "ports") (number (decimal (length c.ports))) _ (number_shallow 2 (length c.ports) fit.ports)
    (member_shallow 2 (codes "networks") (networks_value c.ports) _
    (wider 1 2 (networks_value c.ports) (omega arith) (items_array 0 (map (λ port. number (decimal port.network)) c.ports) (each_network c.ports fit.networks)))
    (member_shallow 2 (codes "objects") (number (decimal (length c.objects))) _ (number_shallow 2 (length c.objects) fit.objects)
    (member_shallow 2 (codes "rules") (number (decimal c.written)) _ (number_shallow 2 c.written fit.rules)
    (member_shallow 2 (codes "routes") (number (decimal (length c.routes))) _ (number_shallow 2 (length c.routes) fit.routes)
    (member_shallow 2 (codes "bbmd") (managers_value c.ports) _ (managers_shallow c.ports)
    (member_shallow 2 (codes "announce") (boolean c.announce) _ (boolean_shallow 2 c.announce) (asserts_shallow (length c.assertions) fit.assertions)))))))))))

pub checks_read : ChecksRead
checks_read c fit = line_read 3 (checked_value c) (omega arith) (checked_shallow c fit)

row_small : (fault : ConfigFault) → (fault_row fault).0 < 2 ^ 64
row_small faults.NotToml = omega arith
row_small faults.UnknownKey = omega arith
row_small faults.Missing = omega arith
row_small faults.Kind = omega arith
row_small faults.Range = omega arith
row_small faults.Duplicate = omega arith
row_small faults.TooMany = omega arith
row_small faults.Memory = omega arith

fault_shallow : (fault : ConfigFault) (explanation : Option (List ℕ)) → IsShallow 1 (fault_value fault explanation)
fault_shallow fault explanation =
    object_shallow 0 _ (member_shallow 0 (codes "valid") (boolean false) _ (boolean_shallow 0 false)
    (member_shallow 0 (codes "number") (number (decimal (fault_row fault).0)) _ (number_shallow 0 (fault_row fault).0 (row_small fault))
    (member_shallow 0 (codes "fault") (string (fault_row fault).1) _ (string_shallow 0 (fault_row fault).1)
    (member_shallow 0 (codes "explanation") _ no_members (or_shallow 0 (λ line. string line) explanation null (λ line. string_shallow 0 line) (null_shallow 0)) (none_shallow 0)))))

pub faults_read : FaultsRead
faults_read fault explanation = line_read 1 (fault_value fault explanation) (omega arith) (fault_shallow fault explanation)
