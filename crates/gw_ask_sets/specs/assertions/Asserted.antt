-- The asks that assertions are judged by: those of the shapes, without some that no event raises, so that nothing that is
-- said of these alone holds for want of asks.
use Rattle.std.specs.Prelude.{◌≡◌, ℕ, ◌+◌, ◌*◌, Bool, false, not, ◌&&◌, ◌||◌, ◌==◌, List, [], ◌∷◌, length, Option}
use Rattle.std.specs.Int.{from_be_bytes, w32}
use Rattle.std.specs.List.{list_any}
use Rattle.std.specs.Option.{option_map_or}
use Rattle.gw_addr.specs.Address.{big_endian, octets_of}
use Rattle.gw_addr.specs.declared.bip.BipAddr.{BipAddr}
use Rattle.gw_configuration.specs.Configuration.{Configuration}
use Rattle.gw_configuration.specs.Subnet.{keys_of}
use Rattle.gw_configuration.specs.declared.port.Port.{Port}
use Rattle.gw_rules.specs.Ask.{Ask}
use Rattle.gw_rules.specs.Operation.{operation_number}
use Rattle.gw_rules.specs.Range.{holds}
use Rattle.gw_rules.specs.declared.operation.Operation.TheVariants.{Enter, Route}
use Rattle.gw_rules.specs.declared.range.Range.{Range}
use Rattle.gw_ask_sets.specs.regions.Ranges.{between}
use Rattle.gw_ask_sets.specs.shapes.Shape.{LiesInOne}
use Rattle.gw_ask_sets.specs.shapes.Shapes.{shapes}

-- a field is this number
abbrev pub is_number : ℕ → Option ℕ → Bool
is_number n value = option_map_or (λ number. number == n) value false

-- ---- nothing is routed to the device's network: what may be done there is said of `read`, `write` and `list`

abbrev pub is_homeward : ℕ → Ask → Bool
is_homeward device ask = is_number (operation_number Route) ask.operation && is_number device ask.destination_network

-- ---- nobody enters by a port to which everyone belongs, or by one of whose stations he is

-- the keys of an IPv4 address at every UDP port
abbrev pub host_keys : BipAddr → Range
host_keys address = between (from_be_bytes w32 address.ip * 65536) (from_be_bytes w32 address.ip * 65536 + 65535)

-- a key is the port's own, or one of the IPv4 address to which its broadcasts go
abbrev pub is_reserved : Port → ℕ → Bool
is_reserved port key = (key == big_endian (octets_of port.address)) || holds key (host_keys port.broadcast)

-- a key of a station of the port: of an address of its subnets that isn't reserved
abbrev pub belongs_by : Port → ℕ → Bool
belongs_by port key = list_any (λ s. holds key (keys_of s)) port.stations && not (is_reserved port key)

-- a source belongs to a port, if the port has no stations, or by them
abbrev pub is_home : Port → Option ℕ → Bool
is_home port key = (length port.stations == 0) || option_map_or (belongs_by port) key false

abbrev pub enters_at : ℕ → Port → Ask → Bool
enters_at number port ask =
    is_number (operation_number Enter) ask.operation && (is_number number ask.port && is_home port ask.source_key)

-- by one of these ports, which are counted on from a number
abbrev pub enters_home : ℕ → List Port → Ask → Bool
enters_home number [] ask = false
enters_home number (p ∷ ports) ask = enters_at number p ask || enters_home (number + 1) ports ask

-- ---- both

-- an ask of a shape that no event raises
abbrev pub is_unraised : Configuration → Ask → Bool
is_unraised c ask = is_homeward c.device.network ask || enters_home 1 c.ports ask

-- an ask that assertions are judged by
abbrev pub LiesInAsserted : Configuration → Ask → Type 0
LiesInAsserted c ask = LiesInOne (shapes c) ask × (is_unraised c ask ≡ false)
