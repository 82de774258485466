-- A relay as it is configured.
use Rattle.std.specs.Prelude.{ℕ, ◌+◌, if◌then◌else◌, List, [], ◌∷◌, ◌++◌, map, is_some}
use Rattle.gw_addr.specs.declared.entry.BdtEntry.{BdtEntry}
use Rattle.gw_tables.specs.bdt_fdt.Registrations.{emptied, no_registration}
use Rattle.gw_tables.specs.declared.bdt_fdt.tables.PortTables.{PortTables}
use Rattle.gw_configuration.specs.Configuration.{Configuration}
use Rattle.gw_configuration.specs.declared.port.Port.{Port as ConfiguredPort}
use Rattle.gw_configuration.specs.declared.route.Route.{Route as ConfiguredRoute}
use Rattle.gw_tables.specs.declared.routes.route.Route.{Route}
use Rattle.gw_tables.specs.routes.Table.{Routed, Table, learned_by, table_of, route_by}
use Rattle.gw_relay.specs.State.{Relay}
use Rattle.gw_relay.specs.declared.port.PortState.{PortState}
use Rattle.gw_relay.specs.declared.port.Port.{Port}

-- a port of this number
abbrev pub port_of : ℕ → ConfiguredPort → Port
port_of number p = record {
  number = number;
  network = p.network;
  address = p.address;
  broadcast = p.broadcast;
  bbmd = p.bbmd;
}

-- the peers that a port starts with; it has none where another broadcast manager is beside it
abbrev pub first_peers : ConfiguredPort → List BdtEntry
first_peers p = if is_some p.bbmd then [] else p.peers

-- a port with the peers that it starts with, where nobody is registered
abbrev pub port_state : ℕ → ConfiguredPort → PortState
port_state number p = record {
  port = port_of number p;
  stations = p.stations;
  bdt = first_peers p;
  fdt = no_registration;
}

-- the ports with their numbers, counted on from one
abbrev pub port_states_from : ℕ → List ConfiguredPort → List PortState
port_states_from number [] = []
port_states_from number (p ∷ ports) = port_state number p ∷ port_states_from (number + 1) ports

-- the networks that the gateway reaches itself: the ports' in order, then the device's
abbrev pub direct_of : Configuration → List ℕ
direct_of c = map (λ p. p.network) c.ports ++ c.device.network ∷ []

-- a network with its configured route
abbrev pub routed_of : ConfiguredRoute → ℕ × Route
routed_of r = (r.network, route_by r.port r.next)

-- a relay of this configuration, before any event
abbrev pub initial : Configuration → Relay
initial c = record {
  format = c.format;
  announce = c.announce;
  ports = port_states_from 1 c.ports;
  routes = table_of (direct_of c) (map routed_of c.routes) [];
  ticks = 0;
}

-- ---- a relay that goes on

-- a port of this number with tables that it had; where another broadcast manager is beside it they are empty
abbrev pub port_state_with : ℕ → ConfiguredPort → PortTables → PortState
port_state_with number p t = record {
  port = port_of number p;
  stations = p.stations;
  bdt = if is_some p.bbmd then [] else t.bdt;
  fdt = if is_some p.bbmd then emptied t.fdt else t.fdt;
}

-- the ports with their numbers, counted on from one, each with the tables at its place
abbrev pub port_states_with : ℕ → List ConfiguredPort → List PortTables → List PortState
port_states_with number [] tables = []
port_states_with number (p ∷ ports) [] = []
port_states_with number (p ∷ ports) (t ∷ tables) = port_state_with number p t ∷ port_states_with (number + 1) ports tables

-- a relay of this configuration that goes on with tables of its ports and with learned routes, after
-- so many ticks: a route is passed over if its network is direct or configured, or the table is full
abbrev pub resumed : Configuration → List PortTables → Routed → ℕ → Relay
resumed c tables learned ticks = record {
  format = c.format;
  announce = c.announce;
  ports = port_states_with 1 c.ports tables;
  routes = learned_by (table_of (direct_of c) (map routed_of c.routes) []) learned;
  ticks = ticks;
}

-- ---- the routes

-- the table with which both begin, before they learn
abbrev pub first_table : Configuration → Table
first_table c = table_of (direct_of c) (map routed_of c.routes) []
