-- What the gateway announces without being asked (6.6.2): on each of its ports, which networks lie another way than by it.
use Rattle.std.specs.Prelude.{ℕ, List, [], if◌then◌else◌}
use Rattle.std.specs.List.{flat_map}
use Rattle.gw_tables.specs.routes.Table.{reachable_from}
use Rattle.gw_relay.specs.Manage.{i_am_router}
use Rattle.gw_relay.specs.Sends.{Sending}
use Rattle.gw_relay.specs.State.{Relay, at_port}
use Rattle.gw_relay.specs.Steps.{broadcast}
use Rattle.gw_relay.specs.declared.port.PortState.{PortState}

-- on a port: what a Who-Is-Router-To-Network without network would be answered there, where networks are announced
abbrev pub announcement : Relay → PortState → List Sending
announcement relay state =
    if relay.announce then broadcast (i_am_router (reachable_from relay.routes state.port.number)) state else []

-- on the port of a number, if there is one
abbrev pub announcement_at : Relay → ℕ → List Sending
announcement_at relay number = at_port [] (announcement relay) relay.ports number

-- on each port in order
abbrev pub announcements : Relay → List Sending
announcements relay = flat_map (announcement relay) relay.ports
