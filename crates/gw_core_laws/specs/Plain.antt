-- What events ask and do without the keys `bbmd` and `announce`, as it was before there were such, and the state that they
-- leave. Nothing here looks at either.
use Rattle.std.specs.Prelude.{ℕ, ◌+◌, not, if◌then◌else◌, List, [], ◌∷◌, ◌++◌, length, Option, Some, None, Ok, Err}
use Rattle.std.specs.Option.{option_map}
use Rattle.gw_addr.specs.declared.bip.BipAddr.{BipAddr}
use Rattle.gw_frames.specs.bvll.Bvll.{Message as Frame}
use Rattle.gw_frames.specs.bvll.Reading.{bvll_at}
use Rattle.gw_rules.specs.Ask.{Ask}
use Rattle.gw_rules.specs.Authorizer.{denied_of}
use Rattle.gw_objects.specs.Write.{Write}
use Rattle.gw_relay.specs.Entry.{entry_asks, entry_sends}
use Rattle.gw_relay.specs.Manage.{manage_asks, manage_change}
use Rattle.gw_relay.specs.Message.{message_of}
use Rattle.gw_relay.specs.Plain.{plain_accepts, plain_cast_response, plain_is_unregistered, plain_link_response, plain_manage_response}
use Rattle.gw_relay.specs.Route.{route_asks, route_sends}
use Rattle.gw_relay.specs.Sends.{Sending}
use Rattle.gw_relay.specs.State.{Move, moved, port_at}
use Rattle.gw_relay.specs.State as move
use Rattle.gw_relay.specs.declared.change.Change.{Change}
use Rattle.gw_relay.specs.declared.port.PortState.{PortState}
use Rattle.gw_core.specs.declared.effects.Effects.{Effects}
use Rattle.gw_core.specs.Asks.{message_asks}
use Rattle.gw_core.specs.Denials.{denials_of}
use Rattle.gw_core.specs.Effects.{change_for, changed, message_sends, ticks_of}
use Rattle.gw_core.specs.Receive.{Received, admit, barred, comes_in, dropped, managed, manages, message, npdu_of, origin, payload_of}
use Rattle.gw_core.specs.Receive.{unregistered}
use Rattle.gw_core.specs.State.{State, device_network}
use Rattle.gw_script.specs.Event.{Event, Datagram, Tick}

-- ---- what is received

abbrev pub plain_receive_npdu : List PortState → ℕ → PortState → BipAddr → Frame → List ℕ → Received
plain_receive_npdu ports device on from frame octets = elim (npdu_of ports device octets) [
  | Some npdu ↦
      if plain_is_unregistered on from frame then unregistered (message_of on from frame npdu)
      else message (message_of on from frame npdu)
  | None ↦ dropped
]

abbrev pub plain_receive_payload : List PortState → ℕ → PortState → BipAddr → Frame → Received
plain_receive_payload ports device on from frame =
    if not (plain_accepts on from frame) then dropped
    else (elim (payload_of frame) [
      | Some octets ↦ plain_receive_npdu ports device on from frame octets
      | None ↦ dropped
    ])

abbrev pub plain_receive_frame : List PortState → ℕ → PortState → BipAddr → Frame → Received
plain_receive_frame ports device on from frame =
    if manages frame then managed on from frame else plain_receive_payload ports device on from frame

abbrev pub plain_receive_datagram : List PortState → ℕ → PortState → BipAddr → List ℕ → Received
plain_receive_datagram ports device on from octets =
    if comes_in on.port.address from octets then (elim (bvll_at octets) [
      | Ok frame ↦ plain_receive_frame ports device on from frame
      | Err fault ↦ dropped
    ]) else dropped

abbrev pub plain_receive_on : List PortState → ℕ → ℕ → BipAddr → List ℕ → Received
plain_receive_on ports device number from octets = elim (port_at ports number) [
  | Some on ↦ plain_receive_datagram ports device on from octets
  | None ↦ dropped
]

abbrev pub plain_receive : State → Event → Received
plain_receive w (Datagram port from octets) =
    admit w.rules w.relay (plain_receive_on w.relay.ports (device_network w.device) port from octets)
plain_receive w Tick = dropped

-- ---- what is asked, sent and changed

abbrev pub plain_asks_for : State → Received → List Ask
plain_asks_for w dropped = []
plain_asks_for w (managed on from frame) = (plain_link_response w.rules w.relay.format on from frame).asks
plain_asks_for w (unregistered m) = []
plain_asks_for w (barred m) = entry_asks w.rules w.relay m
plain_asks_for w (message m) =
    entry_asks w.rules w.relay m ++ (plain_cast_response w.rules w.relay.format m).asks ++ route_asks w.relay m
    ++ manage_asks w.relay m ++ message_asks w.rules w.relay.format w.device m

abbrev pub plain_sends_for : State → Received → List Sending
plain_sends_for w dropped = []
plain_sends_for w (managed on from frame) = (plain_link_response w.rules w.relay.format on from frame).sends
plain_sends_for w (unregistered m) = (plain_cast_response w.rules w.relay.format m).sends
plain_sends_for w (barred m) = entry_sends w.rules w.relay m
plain_sends_for w (message m) =
    (plain_cast_response w.rules w.relay.format m).sends ++ route_sends w.rules w.relay m
    ++ (plain_manage_response w.rules w.relay m).sends ++ message_sends w.rules w.relay.format w.device m

abbrev pub plain_change_for : State → Received → Option Change
plain_change_for w (managed on from frame) = (plain_link_response w.rules w.relay.format on from frame).change
plain_change_for w (message m) = manage_change w.rules w.relay m
plain_change_for w other = None

-- ---- an event

abbrev pub plain_asks : State → Event → List Ask
plain_asks w e = plain_asks_for w (plain_receive w e)

abbrev pub plain_effects : State → Event → Effects
plain_effects w e = record {
  sends = plain_sends_for w (plain_receive w e);
  denials = denials_of w.rules (w.denials + 1) w.ticks (origin (plain_receive w e)) (denied_of w.rules (plain_asks w e));
}

abbrev pub plain_move : State → Event → Option Move
plain_move w (Datagram port from octets) =
    option_map move.Commit (plain_change_for w (plain_receive w (Datagram port from octets)))
plain_move w Tick = Some move.Tick

abbrev pub plain_write : State → Event → Option Write
plain_write w e = change_for w.rules w.relay.format w.device (plain_receive w e)

-- the state one event later
abbrev pub plain_next : State → Event → State
plain_next w e = record w {
  relay = moved (plain_move w e) w.relay;
  device = changed (plain_write w e) w.device;
  ticks = w.ticks + ticks_of e;
  denials = w.denials + length (plain_effects w e).denials;
}

-- ---- a list of events, one after the other

-- what each of them asks
unfoldable pub plain_asked : State → List Event → List (List Ask)
plain_asked w [] = []
plain_asked w (e ∷ l) = plain_asks w e ∷ plain_asked (plain_next w e) l

-- what each of them does
unfoldable pub plain_run : State → List Event → List Effects
plain_run w [] = []
plain_run w (e ∷ l) = plain_effects w e ∷ plain_run (plain_next w e) l

-- the state that they leave
unfoldable pub plain_left : State → List Event → State
plain_left w [] = w
plain_left w (e ∷ l) = plain_left (plain_next w e) l
