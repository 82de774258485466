-- What is saved of a gateway, and the state in which a gateway goes on from what was saved.
use Rattle.std.specs.Prelude.{List, [], ◌∷◌}
use Rattle.gw_configuration.specs.Configuration.{Configuration}
use Rattle.gw_objects.specs.Objects.{database_of}
use Rattle.gw_relay.specs.Initial.{resumed}
use Rattle.gw_relay.specs.declared.port.PortState.{PortState}
use Rattle.gw_state.specs.Carried.{routes_carried, states_carried, tables_carried}
use Rattle.gw_state.specs.declared.origin.OriginPort.{OriginPort}
use Rattle.gw_state.specs.declared.port.SavedPort.{SavedPort}
use Rattle.gw_state.specs.Saved.{Origin, Saved, origin_of, saved_objects, saved_port}
use Rattle.gw_core.specs.State.{State}

-- each port with what was configured of it and the tables that it has now
abbrev pub saved_ports : List OriginPort → List PortState → List SavedPort
saved_ports [] states = []
saved_ports (port ∷ ports) [] = []
saved_ports (port ∷ ports) (state ∷ states) = saved_port port state.bdt state.fdt.rows ∷ saved_ports ports states

-- what is saved of a gateway in this state of which this was configured: the ports with their tables, the learned
-- routes, the objects with their slots and defaults, and the counts; neither the rules nor the format
abbrev pub saved_of : Origin → State → Saved
saved_of o w = record {
  ports = saved_ports o.ports w.relay.ports;
  routes = w.relay.routes.learned;
  objects = saved_objects o.objects w.device.states;
  counts = record { since = w.relay.ticks; ticks = w.ticks; denials = w.denials };
}

-- what is saved of a gateway of this configuration
abbrev pub saved : Configuration → State → Saved
saved c w = saved_of (origin_of c) w

-- The state in which a gateway of this configuration takes over what was saved, of which another configuration may have
-- been the origin: the tables of each port that is the same, the routes that are learned by such a port, the slots and the
-- default of each object that is the same, and the counts. The rules and the format are those of this configuration.
abbrev pub carried : Configuration → Saved → State
carried c s = record {
  relay = resumed c (tables_carried s.counts.since c.ports s.ports) (routes_carried c.ports s) s.counts.since;
  device = record {
    configured = (database_of c).configured;
    states = states_carried c.objects s.objects;
  };
  rules = c.rules;
  ticks = s.counts.ticks;
  denials = s.counts.denials;
}
