-- Which stations belong to a port: those of its subnets, and the foreign devices that are registered there (ours).
use Rattle.std.specs.Prelude.{Bool, not, ◌&&◌, ◌||◌, ◌==◌, List, length, nat_eq}
use Rattle.std.specs.Cmp.Lexicographic.{pointwise}
use Rattle.std.specs.List.{list_any}
use Rattle.gw_addr.specs.declared.bip.BipAddr.{BipAddr}
use Rattle.gw_tables.specs.bdt_fdt.Registrations.{contains, same}
use Rattle.gw_configuration.specs.Subnet.{Subnet, subnet_holds}
use Rattle.gw_rules.specs.Format.{names_stations}
use Rattle.gw_rules.specs.declared.format.Format.{Format}
use Rattle.gw_relay.specs.declared.port.Port.{Port}
use Rattle.gw_relay.specs.declared.port.PortState.{PortState}

-- an address that is the port's own, or of the IPv4 address to which its broadcasts go, is no station's
abbrev pub is_reserved : Port → BipAddr → Bool
is_reserved port address = same address port.address || pointwise nat_eq address.ip port.broadcast.ip

-- a station of one of the subnets
abbrev pub is_station : Port → List Subnet → BipAddr → Bool
is_station port stations address =
    list_any (λ subnet. subnet_holds subnet address) stations && not (is_reserved port address)

-- An address belongs to a port if the format names no stations, or the port names none; if it is a station of one of
-- its subnets; or if it is registered there now.
abbrev pub belongs : Format → PortState → BipAddr → Bool
belongs format state address =
    not (names_stations format) || length state.stations == 0
    || is_station state.port state.stations address || contains state.fdt address
