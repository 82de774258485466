-- What events ask and do under the first format of a policy, as it was before there was a second: a message that goes on
-- is judged by its way alone. Routing is here in full; it looks at no format, nor does anything else of FormatTwo.antt.
use Rattle.std.specs.Prelude.{List, [], ◌∷◌, map, Some, if◌then◌else◌}
use Rattle.std.specs.Option.{option_map_or}
use Rattle.gw_frames.specs.npdu.Npdu.{Destination}
use Rattle.gw_tables.specs.routes.Table.{way}
use Rattle.gw_tables.specs.declared.routes.route.Way.{Way}
use Rattle.gw_tables.specs.declared.routes.route.Way.TheVariants.{Everywhere}
use Rattle.gw_rules.specs.declared.operation.Operation.TheVariants.{Route}
use Rattle.gw_relay.specs.Asks.{bound_for}
use Rattle.gw_relay.specs.FormatTwo.{forward_before, message_ask_before}
use Rattle.gw_relay.specs.Message.{Message}
use Rattle.gw_relay.specs.Route.{has_hops, is_local, leaves, next_hop, others}
use Rattle.gw_relay.specs.State.{Relay}
use Rattle.gw_relay.specs.Steps.{Step, asks_of, broadcast, sends_of, step}
use Rattle.gw_relay.specs.declared.port.PortState.{PortState}
use Rattle.gw_core_laws.specs.FormatTwo.{Routing}

-- one ask for one way, and what hangs on it
abbrev pub way_step : Relay → Message → Destination → Way → Step
way_step relay m d by = step (message_ask_before Route m (bound_for m.npdu)) (forward_before relay m d by)

-- one ask for the copy of a global broadcast for another port
abbrev pub copy_step : Message → Destination → PortState → Step
copy_step m d state =
    step (message_ask_before Route m (Some state.port.network)) (if has_hops d then broadcast (next_hop m) state else [])

abbrev pub steps_of_one : Relay → Message → Destination → Way → List Step
steps_of_one relay m d Everywhere = map (copy_step m d) (others m.here.port.number relay.ports)
steps_of_one relay m d by = if leaves m.here.port.number by then way_step relay m d by ∷ [] else []

abbrev pub routing_of_one : Relay → Message → List Step
routing_of_one relay m =
    if is_local m.npdu.payload then []
    else option_map_or (λ d. steps_of_one relay m d (way relay.routes d.address.network)) m.npdu.destination []

-- routing before the second format
abbrev pub before_two : Routing
before_two = record {
  asks = λ relay m. asks_of (routing_of_one relay m);
  sends = λ rules relay m. sends_of rules (routing_of_one relay m);
}
