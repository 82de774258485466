-- What an event does: its sends and its denials, and what changes.
use Rattle.std.specs.Prelude.{◌≡◌, ℕ, ◌+◌, ◌^◌, Bool, List, [], ◌++◌, length, Option, Some, None, nat_lt, ◌||◌}
use Rattle.std.specs.Option.{option_map}
use Rattle.gw_rules.specs.declared.format.Format.{Format}
use Rattle.gw_rules.specs.declared.rule.Rule.{Rule}
use Rattle.gw_objects.specs.History.{with_write}
use Rattle.gw_objects.specs.Objects.{Database}
use Rattle.gw_objects.specs.Write.{Write}
use Rattle.gw_device.specs.declared.context.Context.{Context}
use Rattle.gw_device.specs.Device.{device_answer, device_change}
use Rattle.gw_device.specs.Response.{Answer}
use Rattle.gw_relay.specs.Cast as broadcast
use Rattle.gw_relay.specs.Entry.{entry_sends}
use Rattle.gw_relay.specs.Link as table
use Rattle.gw_relay.specs.Manage as network
use Rattle.gw_relay.specs.Route as routing
use Rattle.gw_relay.specs.Sends.{Sending}
use Rattle.gw_relay.specs.State.{Move, Relay}
use Rattle.gw_relay.specs.State as move
use Rattle.gw_relay.specs.declared.change.Change.{Change}
use Rattle.gw_core.specs.declared.effects.Effects.{Effects}
use Rattle.gw_script.specs.Event.{Event}
use Rattle.gw_script.specs.Event.{Datagram, Tick}
use Rattle.gw_core.specs.Asks.{asks}
use Rattle.gw_core.specs.Denials.{denials_at, denials_for}
use Rattle.gw_relay.specs.Message.{Message}
use Rattle.gw_core.specs.Receive.{Received, barred, dropped, managed, unregistered, message, receive}
use Rattle.gw_core.specs.Reply.{apdu_for, context_of, reply_sends}
use Rattle.gw_core.specs.State.{State, device_network}

-- ---- the sends, part by part

-- first: answers to the management of a port's tables (Annex J.2), and the refusal of a message that is kept out
abbrev pub first_sends_for : List Rule → Relay → Received → List Sending
first_sends_for rules relay dropped = []
first_sends_for rules relay (managed on from frame) = table.link_answer rules relay.format on from frame
first_sends_for rules relay (unregistered m) = []
first_sends_for rules relay (barred m) = entry_sends rules relay m
first_sends_for rules relay (message m) = []

-- distribution to peers and foreign devices, and its refusal (Annex J.4, J.5)
abbrev pub cast_sends_for : List Rule → Relay → Received → List Sending
cast_sends_for rules relay dropped = []
cast_sends_for rules relay (managed on from frame) = []
cast_sends_for rules relay (unregistered m) = broadcast.cast_sends rules relay.format m
cast_sends_for rules relay (barred m) = []
cast_sends_for rules relay (message m) = broadcast.cast_sends rules relay.format m

-- what goes onward to another network (clause 6.5)
abbrev pub route_sends_for : List Rule → Relay → Received → List Sending
route_sends_for rules relay dropped = []
route_sends_for rules relay (managed on from frame) = []
route_sends_for rules relay (unregistered m) = []
route_sends_for rules relay (barred m) = []
route_sends_for rules relay (message m) = routing.route_sends rules relay m

-- answers to network layer messages (clause 6.4)
abbrev pub manage_sends_for : List Rule → Relay → Received → List Sending
manage_sends_for rules relay dropped = []
manage_sends_for rules relay (managed on from frame) = []
manage_sends_for rules relay (unregistered m) = []
manage_sends_for rules relay (barred m) = []
manage_sends_for rules relay (message m) = network.manage_sends rules relay m

-- the datagrams of an answer, where there is one
abbrev pub answer_sends : ℕ → Message → Option Answer → List Sending
answer_sends network m None = []
answer_sends network m (Some answer) = reply_sends network m answer

-- the answer to an APDU, where there is one
abbrev pub apdu_answer : List Rule → Database → Context → Option (List ℕ) → Option Answer
apdu_answer rules d context None = None
apdu_answer rules d context (Some octets) = device_answer rules d context octets

abbrev pub message_sends : List Rule → Format → Database → Message → List Sending
message_sends rules format d m =
    let network = device_network d in
    answer_sends network m (apdu_answer rules d (context_of format network m) (apdu_for network m.npdu))

-- answers of the device (clauses 15 and 16)
abbrev pub serve_sends_for : List Rule → Format → Database → Received → List Sending
serve_sends_for rules format d dropped = []
serve_sends_for rules format d (managed on from frame) = []
serve_sends_for rules format d (unregistered m) = []
serve_sends_for rules format d (barred m) = []
serve_sends_for rules format d (message m) = message_sends rules format d m

-- all of them, in the order of the steps
abbrev pub sends_for : List Rule → Relay → Database → Received → List Sending
sends_for rules relay d received =
    first_sends_for rules relay received ++ cast_sends_for rules relay received ++ route_sends_for rules relay received
    ++ manage_sends_for rules relay received ++ serve_sends_for rules relay.format d received

-- what an event sends in this state
unfoldable pub sends : State → Event → List Sending
sends w e = sends_for w.rules w.relay w.device (receive w e)

-- ---- the changes

-- the change of a port's tables or of the routes that is granted of what is received
abbrev pub relay_change_for : List Rule → Relay → Received → Option Change
relay_change_for rules relay dropped = None
relay_change_for rules relay (managed on from frame) = table.link_change rules relay.format on from frame
relay_change_for rules relay (unregistered m) = None
relay_change_for rules relay (barred m) = None
relay_change_for rules relay (message m) = network.manage_change rules relay m

-- what happens to the ports' tables and the routes at an event: the change that is granted, if there is
-- one; at a tick they are a tick later
abbrev pub move_for : List Rule → Relay → Event → Received → Option Move
move_for rules relay (Datagram port from octets) received =
    option_map move.Commit (relay_change_for rules relay received)
move_for rules relay Tick received = Some move.Tick

-- the same in this state
unfoldable pub move_at : State → Event → Option Move
move_at w e = move_for w.rules w.relay e (receive w e)

-- the write that an APDU makes, where there is one
abbrev pub apdu_change : List Rule → Database → Context → Option (List ℕ) → Option Write
apdu_change rules d context None = None
apdu_change rules d context (Some octets) = device_change rules d context octets

abbrev pub message_change : List Rule → Format → Database → Message → Option Write
message_change rules format d m =
    apdu_change rules d (context_of format (device_network d) m) (apdu_for (device_network d) m.npdu)

-- the write that is granted of what is received (clause 15.9)
abbrev pub change_for : List Rule → Format → Database → Received → Option Write
change_for rules format d dropped = None
change_for rules format d (managed on from frame) = None
change_for rules format d (unregistered m) = None
change_for rules format d (barred m) = None
change_for rules format d (message m) = message_change rules format d m

-- the write that an event makes in this state, where it is granted one
unfoldable pub change_at : State → Event → Option Write
change_at w e = change_for w.rules w.relay.format w.device (receive w e)

-- the device once a write is made, where there is one
abbrev pub changed : Option Write → Database → Database
changed None d = d
changed (Some write) d = with_write write d

-- ---- what it does

-- nothing at all
abbrev pub nothing : Effects
nothing = record { sends = []; denials = [] }

-- what is done about what is received in this state
abbrev pub effects_for : State → Received → Effects
effects_for w received = record {
  sends = sends_for w.rules w.relay w.device received;
  denials = denials_for w received;
}

-- what an event does to a gateway in this state
unfoldable pub effects_at : State → Event → Effects
effects_at w e = effects_for w (receive w e)

-- how many ticks an event is
abbrev pub ticks_of : Event → ℕ
ticks_of (Datagram port from octets) = 0
ticks_of Tick = 1

-- Each count ends at 2^63. An event that would pass it isn't taken.
abbrev pub last_count : ℕ
last_count = 2 ^ 63

unfoldable pub passes_end : State → Event → Bool
passes_end w e =
    nat_lt last_count (w.ticks + ticks_of e) || nat_lt last_count (w.denials + length (denials_at w e))

-- An event that asks nothing and sends nothing needs no memory.
abbrev pub NeedsNoMemory : State → Event → Type 0
NeedsNoMemory w e = (asks w e ≡ []) × (sends w e ≡ [])
