-- The ports and the routes of a site.
use Rattle.std.specs.Prelude.{ℕ, ◌+◌, ◌==◌, List, [], ◌∷◌, map, drop, find, position}
use Rattle.std.specs.Int.{from_be_bytes, to_be_bytes, w32, w64}
use Rattle.std.specs.Option.{option_map, option_map_or}
use Rattle.gw_addr.specs.declared.bip.BipAddr.{BipAddr}
use Rattle.gw_addr.specs.declared.entry.BdtEntry.{BdtEntry}
use Rattle.gw_configuration.specs.Subnet.{Subnet}
use Rattle.gw_configuration.specs.declared.port.Port.{Port}
use Rattle.gw_configuration.specs.declared.route.Route.{Route}
use Rattle.gw_policy_drafts.specs.beginning.Part.{first_of, has_station, host_of, last_of}
use Rattle.gw_policy_drafts.specs.beginning.Site.{Site}
use Rattle.gw_policy_drafts.specs.beginning.Flaws.{of_number}
use Rattle.gw_policy_drafts.specs.declared.beginning.part.SitePart.{SitePart}

-- the four octets of an address by its number
abbrev pub octets_of : ℕ → List ℕ
octets_of host = drop 4 (to_be_bytes w64 host)

-- the UDP port, 47808 if none is named (Annex J.1.2)
abbrev pub udp_of : SitePart → ℕ
udp_of part = option_map_or (λ udp. udp) part.udp 47808

abbrev pub address_of : SitePart → BipAddr
address_of part = record { ip = part.ip; udp = udp_of part }

-- where its broadcasts go: to the last address of its subnet
abbrev pub broadcast_of : SitePart → BipAddr
broadcast_of part = record { ip = octets_of (last_of part); udp = udp_of part }

-- its subnet
abbrev pub subnet_at : SitePart → Subnet
subnet_at part = record { network = from_be_bytes w32 (octets_of (first_of part)); prefix = part.prefix }

-- a broadcast manager that sends broadcasts on in its subnet itself (Annex J.4.3.2)
abbrev pub entry_of : SitePart → BdtEntry
entry_of part = record { address = address_of part; mask = 255 ∷ 255 ∷ 255 ∷ 255 ∷ [] }

-- the port of this number: its stations are its own subnet and those of its peers
abbrev pub port_of : Site → ℕ → SitePart → Port
port_of s number part = record {
  network = number;
  address = address_of part;
  broadcast = broadcast_of part;
  stations = map subnet_at (part ∷ of_number number s.peers);
  bbmd = option_map address_of (find (λ manager. manager.number == number) s.managers);
  peers = map entry_of (of_number number s.peers);
}

-- the ports, which are numbered on from this number
unfoldable pub ports_from : Site → ℕ → List SitePart → List Port
ports_from s number [] = []
ports_from s number (part ∷ parts) = port_of s number part ∷ ports_from s (number + 1) parts

abbrev pub ports_of : Site → List Port
ports_of s = ports_from s 1 s.ports

-- a network behind a router, by the port whose subnet has the router
abbrev pub port_with : Site → SitePart → ℕ
port_with s part = option_map_or (λ place. place + 1) (position (has_station (host_of part)) s.ports) 0

abbrev pub route_of : Site → SitePart → Route
route_of s part = record { network = part.number; port = port_with s part; next = address_of part }

abbrev pub routes_of : Site → List Route
routes_of s = map (route_of s) s.routers
