-- Who asks and who is asked: stations, and the ways to them.
use Rattle.std.specs.Prelude.{ℕ, ◌+◌, ◌==◌, Bool, true, false, List, [], ◌∷◌, drop, position, Option, Some, None, Result, Ok, Err}
use Rattle.std.specs.Prelude.{slice_get}
use Rattle.std.specs.List.{find, list_any}
use Rattle.std.specs.Option.{option_map_or}
use Rattle.gw_addr.specs.Address.{octets_of}
use Rattle.gw_addr.specs.declared.bip.BipAddr.{BipAddr}
use Rattle.gw_addr.specs.declared.station.Source.{Source}
use Rattle.gw_configuration.specs.Configuration.{Configuration}
use Rattle.gw_configuration.specs.Subnet.{subnet_holds}
use Rattle.gw_configuration.specs.declared.port.Port.{Port}
use Rattle.gw_configuration.specs.declared.route.Route.{Route}
use Rattle.gw_core.specs.Reply.{device_station}
use Rattle.gw_verdicts.specs.declared.questions.fault.PlaceFault.{PlaceFault}
use Rattle.gw_verdicts.specs.declared.questions.fault.PlaceFault.TheVariants as fault
use Rattle.gw_verdicts.specs.declared.questions.place.Spelled.{Spelled}
use Rattle.gw_verdicts.specs.declared.questions.place.Spelled.TheVariants as spelled
use Rattle.gw_verdicts.specs.declared.questions.place.Station.{Station}
use Rattle.gw_verdicts.specs.declared.questions.place.Addressee.{Addressee}
use Rattle.gw_verdicts.specs.declared.questions.place.Addressee.TheVariants as target

-- the network of who is asked, and the address there: the gateway's own device is one station of its network
abbrev pub place_of : Addressee → Source
place_of (target.Station station) = station.place
place_of (target.Device network) = record { net = network; mac = device_station ∷ [] }

-- a station of the network of the port at a place, counted from 0: its datagrams come from itself
abbrev pub local : (place network : ℕ) → BipAddr → Station
local place network address = record {
  port = place + 1;
  link = address;
  place = record { net = network; mac = octets_of address };
  is_routed = false;
}

-- the address of a station on its network: that of BACnet/IP, or its octets
abbrev pub mac_of : Spelled → List ℕ
mac_of (spelled.Address address) = octets_of address
mac_of (spelled.Octets mac) = mac

-- a station by a route: its datagrams come from the router
abbrev pub routed : Route → Spelled → Station
routed route written = record {
  port = route.port;
  link = route.next;
  place = record { net = route.network; mac = mac_of written };
  is_routed = true;
}

-- ---- by an address alone

-- an address is one of the stations of a port
abbrev pub has_station : BipAddr → Port → Bool
has_station address port = list_any (λ subnet. subnet_holds subnet address) port.stations

-- the place of the first port that has it among its stations
abbrev pub first_with : List Port → BipAddr → Option ℕ
first_with ports address = position (has_station address) ports

-- of the only one
abbrev pub only_from : List Port → BipAddr → Option ℕ → Result ℕ PlaceFault
only_from ports address None = Err fault.NoPort
only_from ports address (Some place) =
    option_map_or (λ later. Err fault.SeveralPorts) (first_with (drop (place + 1) ports) address) (Ok place)

abbrev pub station_by : List Port → BipAddr → Result ℕ PlaceFault → Result Station PlaceFault
station_by ports address (Ok place) =
    option_map_or (λ port. Ok (local place port.network address)) (slice_get ports place) (Err fault.NoPort)
station_by ports address (Err f) = Err f

-- the station of an address that one port alone has among its stations
abbrev pub station_at : List Port → BipAddr → Result Station PlaceFault
station_at ports address = station_by ports address (only_from ports address (first_with ports address))

-- ---- of a network

-- on a port's network a station has an address of BACnet/IP
abbrev pub local_station : (place network : ℕ) → Spelled → Result Station PlaceFault
local_station place network (spelled.Address address) = Ok (local place network address)
local_station place network (spelled.Octets mac) = Err fault.NoAddress

abbrev pub routed_station : List Route → ℕ → Spelled → Result Station PlaceFault
routed_station routes network written =
    option_map_or (λ route. Ok (routed route written)) (find (λ route. route.network == network) routes) (Err fault.NoWay)

-- the station of a network that is a port's, or that a route leads to
abbrev pub station_on : Configuration → ℕ → Spelled → Result Station PlaceFault
station_on c network written =
    option_map_or
    (λ place. local_station place network written)
    (position (λ port. port.network == network) c.ports)
    (routed_station c.routes network written)
