-- What an event asks of the policy: one list, in the order of the steps of a datagram.
use Rattle.std.specs.Prelude.{ℕ, List, [], ◌++◌, Option, Some, None}
use Rattle.gw_rules.specs.Ask.{Ask}
use Rattle.gw_rules.specs.declared.format.Format.{Format}
use Rattle.gw_rules.specs.declared.rule.Rule.{Rule}
use Rattle.gw_objects.specs.Objects.{Database}
use Rattle.gw_device.specs.declared.context.Context.{Context}
use Rattle.gw_device.specs.Device.{device_asks}
use Rattle.gw_relay.specs.Asks as table
use Rattle.gw_relay.specs.Cast as broadcast
use Rattle.gw_relay.specs.Entry.{entry_asks}
use Rattle.gw_relay.specs.Manage as network
use Rattle.gw_relay.specs.Route as routing
use Rattle.gw_relay.specs.State.{Relay}
use Rattle.gw_script.specs.Event.{Event}
use Rattle.gw_relay.specs.Message.{Message}
use Rattle.gw_core.specs.Receive.{Received, barred, dropped, managed, unregistered, message, receive}
use Rattle.gw_core.specs.Reply.{apdu_for, context_of}
use Rattle.gw_core.specs.State.{State, device_network}

-- ---- the list, part by part

-- first: tables of a port that are read or changed (Annex J.2, J.4, J.5), or who enters and speaks for a network
abbrev pub first_asks_for : List Rule → Relay → Received → List Ask
first_asks_for rules relay dropped = []
first_asks_for rules relay (managed on from frame) = table.link_asks relay.format on.port from frame
first_asks_for rules relay (unregistered m) = []
first_asks_for rules relay (barred m) = entry_asks rules relay m
first_asks_for rules relay (message m) = entry_asks rules relay m

-- distribution to peers and foreign devices (Annex J.4, J.5)
abbrev pub cast_asks_for : Relay → Received → List Ask
cast_asks_for relay dropped = []
cast_asks_for relay (managed on from frame) = []
cast_asks_for relay (unregistered m) = []
cast_asks_for relay (barred m) = []
cast_asks_for relay (message m) = broadcast.cast_asks relay.format m

-- routing by the destination network (clause 6.5)
abbrev pub route_asks_for : Relay → Received → List Ask
route_asks_for relay dropped = []
route_asks_for relay (managed on from frame) = []
route_asks_for relay (unregistered m) = []
route_asks_for relay (barred m) = []
route_asks_for relay (message m) = routing.route_asks relay m

-- network layer messages to the gateway (clause 6.4)
abbrev pub manage_asks_for : Relay → Received → List Ask
manage_asks_for relay dropped = []
manage_asks_for relay (managed on from frame) = []
manage_asks_for relay (unregistered m) = []
manage_asks_for relay (barred m) = []
manage_asks_for relay (message m) = network.manage_asks relay m

-- the device, for an APDU where there is one
abbrev pub apdu_asks : List Rule → Database → Context → Option (List ℕ) → List Ask
apdu_asks rules d context None = []
apdu_asks rules d context (Some octets) = device_asks rules d context octets

abbrev pub message_asks : List Rule → Format → Database → Message → List Ask
message_asks rules format d m =
    apdu_asks rules d (context_of format (device_network d) m) (apdu_for (device_network d) m.npdu)

-- requests to the device (clauses 15 and 16)
abbrev pub serve_asks_for : List Rule → Format → Database → Received → List Ask
serve_asks_for rules format d dropped = []
serve_asks_for rules format d (managed on from frame) = []
serve_asks_for rules format d (unregistered m) = []
serve_asks_for rules format d (barred m) = []
serve_asks_for rules format d (message m) = message_asks rules format d m

-- all of them, in the order of the steps
abbrev pub asks_for : List Rule → Relay → Database → Received → List Ask
asks_for rules relay d received =
    first_asks_for rules relay received ++ cast_asks_for relay received ++ route_asks_for relay received
    ++ manage_asks_for relay received ++ serve_asks_for rules relay.format d received

-- what an event asks in this state
unfoldable pub asks : State → Event → List Ask
asks w e = asks_for w.rules w.relay w.device (receive w e)
