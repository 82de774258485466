-- Rules that match what no event raises.
use Rattle.std.specs.Prelude.{◌≡◌, ℕ, Bool, false, not, ◌&&◌, List, [], ◌∷◌, map, codes, Option}
use Rattle.std.specs.Option.{option_map_or}
use Rattle.gw_addr.specs.Address.{big_endian, octets_of}
use Rattle.gw_configuration.specs.Configuration.{Configuration}
use Rattle.gw_configuration.specs.Subnet.{keys_of}
use Rattle.gw_configuration.specs.declared.port.Port.{Port}
use Rattle.gw_rules.specs.Ask.{Ask}
use Rattle.gw_rules.specs.Fields.{in_each}
use Rattle.gw_rules.specs.Operation.{operation_number}
use Rattle.gw_rules.specs.Rule.{matches}
use Rattle.gw_rules.specs.declared.operation.Operation.{Operation}
use Rattle.gw_rules.specs.declared.operation.Operation.TheVariants.{Enter, Route}
use Rattle.gw_rules.specs.declared.range.Range.{Range}
use Rattle.gw_rules.specs.declared.rule.Rule.{Rule}
use Rattle.gw_ask_sets.specs.assertions.Asserted.{host_keys, is_unraised}
use Rattle.gw_ask_sets.specs.regions.Ranges.{between, without}
use Rattle.gw_ask_sets.specs.regions.Regions.{Region, lies_in_one}
use Rattle.gw_ask_sets.specs.shapes.Regions.{region_of}
use Rattle.gw_ask_sets.specs.shapes.Shapes.{shapes}

abbrev pub exactly : ℕ → List Range
exactly number = between number number ∷ []

-- a rule that names an operation alone
abbrev pub rule_for : Operation → Rule
rule_for operation = record {
  name = codes "default";
  allow = false;
  quiet = false;
  ranges = record (in_each []) { operation = exactly (operation_number operation) };
}

-- what is routed to the device's network
abbrev pub homeward_rule : ℕ → Rule
homeward_rule device =
    record (rule_for Route) { ranges = record (rule_for Route).ranges { destination_network = exactly device } }

-- who enters by the port of a number, of these keys
abbrev pub enter_rule : ℕ → List Range → Rule
enter_rule number keys =
    record (rule_for Enter) { ranges = record (rule_for Enter).ranges { port = exactly number; source_key = keys } }

-- there is a rule, and it matches
abbrev pub matches_some : Option Rule → Ask → Bool
matches_some rule ask = option_map_or (λ rule. matches rule ask) rule false

-- the keys that no station of a port has, although a subnet may have them
abbrev pub reserved_keys : Port → List Range
reserved_keys port =
    between (big_endian (octets_of port.address)) (big_endian (octets_of port.address)) ∷ host_keys port.broadcast ∷ []

-- the keys of a port's stations
abbrev pub station_keys : Port → List Range
station_keys port = without (map keys_of port.stations) (reserved_keys port)

-- regions of the asks that a configuration's assertions are judged by
abbrev pub AreAsserted : Configuration → List Region → Type 0
AreAsserted c regions = (ask : Ask) →
    lies_in_one regions ask ≡ (lies_in_one (map region_of (shapes c)) ask && not (is_unraised c ask))
