-- What events ask and do under the first two formats of a policy, as it was before there was a third, and the state that
-- they leave: nobody is asked to enter or to claim, no ask names a station, a broadcast is asked for once, and a message
-- is delivered to whatever address it names. Nothing here looks at the format but routing.
use Rattle.std.specs.Prelude.{ℕ, ◌+◌, List, [], ◌∷◌, ◌++◌, length, Option, Some, None}
use Rattle.std.specs.Option.{option_map}
use Rattle.gw_addr.specs.Station.{key48}
use Rattle.gw_device.specs.declared.context.Context.{Context}
use Rattle.gw_objects.specs.Write.{Write}
use Rattle.gw_rules.specs.Ask.{Ask}
use Rattle.gw_rules.specs.Authorizer.{denied_of}
use Rattle.gw_rules.specs.declared.rule.Rule.{Rule}
use Rattle.gw_relay.specs.FormatTwo.{cast_response_before, link_response_before, manage_response_before}
use Rattle.gw_relay.specs.FormatTwo.{route_response_before}
use Rattle.gw_relay.specs.Message.{Message}
use Rattle.gw_relay.specs.Sends.{Sending}
use Rattle.gw_relay.specs.State.{Move, Relay, moved}
use Rattle.gw_relay.specs.State as move
use Rattle.gw_relay.specs.declared.change.Change.{Change}
use Rattle.gw_script.specs.Event.{Event, Datagram, Tick}
use Rattle.gw_core.specs.declared.effects.Effects.{Effects}
use Rattle.gw_core.specs.Asks.{apdu_asks, asks}
use Rattle.gw_core.specs.Denials.{denials_of}
use Rattle.gw_core.specs.Effects.{answer_sends, apdu_answer, apdu_change, changed, ticks_of}
use Rattle.gw_core.specs.History.{next}
use Rattle.gw_core.specs.Receive.{Received, barred, dropped, managed, message, origin, receive_on, unregistered}
use Rattle.gw_core.specs.Reply.{apdu_for, goes_to_all, max_reply_apdu}
use Rattle.gw_core.specs.State.{State, device_network}

-- ---- what is received: nobody is kept out

abbrev pub received_before : State → Event → Received
received_before w (Datagram port from octets) =
    receive_on w.relay.ports (device_network w.device) port from octets
received_before w Tick = dropped

-- ---- the parts, in the order of the steps

-- what the device knows of a message: nothing of a sender
abbrev pub context_before : ℕ → Message → Context
context_before network m = record {
  port = m.here.port.number;
  source_network = m.claim.net;
  source_key = key48 m.claim.mac;
  sender = None;
  broadcast = goes_to_all network m.npdu.destination;
  room = max_reply_apdu network m.npdu;
}

-- what is asked, with these asks of routing
abbrev pub asks_with : (Message → List Ask) → State → Received → List Ask
asks_with routed w dropped = []
asks_with routed w (managed on from frame) = (link_response_before w.rules on from frame).asks
asks_with routed w (unregistered m) = []
asks_with routed w (barred m) = []
asks_with routed w (message m) =
    let network = device_network w.device in
    (cast_response_before w.rules m).asks ++ routed m ++ (manage_response_before w.rules w.relay m).asks
    ++ apdu_asks w.rules w.device (context_before network m) (apdu_for network m.npdu)

-- what is sent, with these sends of routing
abbrev pub sends_with : (Message → List Sending) → State → Received → List Sending
sends_with routed w dropped = []
sends_with routed w (managed on from frame) = (link_response_before w.rules on from frame).sends
sends_with routed w (unregistered m) = (cast_response_before w.rules m).sends
sends_with routed w (barred m) = []
sends_with routed w (message m) =
    let network = device_network w.device in
    (cast_response_before w.rules m).sends ++ routed m ++ (manage_response_before w.rules w.relay m).sends
    ++ answer_sends network m
    (apdu_answer w.rules w.device (context_before network m) (apdu_for network m.npdu))

-- what changes
abbrev pub relay_change_before : State → Received → Option Change
relay_change_before w (managed on from frame) = (link_response_before w.rules on from frame).change
relay_change_before w (message m) = (manage_response_before w.rules w.relay m).change
relay_change_before w other = None

abbrev pub move_before : State → Event → Option Move
move_before w (Datagram port from octets) =
    option_map move.Commit (relay_change_before w (received_before w (Datagram port from octets)))
move_before w Tick = Some move.Tick

abbrev pub write_before : State → Received → Option Write
write_before w (message m) =
    let network = device_network w.device in
    apdu_change w.rules w.device (context_before network m) (apdu_for network m.npdu)
write_before w other = None

-- ---- an event

-- how routing is judged: what it asks and what it sends
pub record Routing : Type 0 where
  pub asks : Relay → Message → List Ask
  pub sends : List Rule → Relay → Message → List Sending

abbrev pub asks_by : Routing → State → Event → List Ask
asks_by routing w e = asks_with (routing.asks w.relay) w (received_before w e)

abbrev pub effects_by : Routing → State → Event → Effects
effects_by routing w e = record {
  sends = sends_with (routing.sends w.rules w.relay) w (received_before w e);
  denials = denials_of w.rules (w.denials + 1) w.ticks (origin (received_before w e))
      (denied_of w.rules (asks_by routing w e));
}

-- the tables and the routes, the slots, and the counts
abbrev pub next_by : Routing → State → Event → State
next_by routing w e = record w {
  relay = moved (move_before w e) w.relay;
  device = changed (write_before w (received_before w e)) w.device;
  ticks = w.ticks + ticks_of e;
  denials = w.denials + length (effects_by routing w e).denials;
}

-- ---- a list of events, one after the other

-- what each of them asks
unfoldable pub asked_by : Routing → State → List Event → List (List Ask)
asked_by routing w [] = []
asked_by routing w (e ∷ l) = asks_by routing w e ∷ asked_by routing (next_by routing w e) l

-- what each of them does
unfoldable pub run_by : Routing → State → List Event → List Effects
run_by routing w [] = []
run_by routing w (e ∷ l) = effects_by routing w e ∷ run_by routing (next_by routing w e) l

-- the state that they leave
unfoldable pub left_by : Routing → State → List Event → State
left_by routing w [] = w
left_by routing w (e ∷ l) = left_by routing (next_by routing w e) l

-- what each of them asks by the definitions of today
unfoldable pub asked_from : State → List Event → List (List Ask)
asked_from w [] = []
asked_from w (e ∷ l) = asks w e ∷ asked_from (next w e) l

-- ---- before the third format

-- a message that goes on is judged by the format: by its way alone, or by what it names too (clause 6.5)
abbrev pub before_three : Routing
before_three = record {
  asks = λ relay m. (route_response_before [] relay m).asks;
  sends = λ rules relay m. (route_response_before rules relay m).sends;
}
