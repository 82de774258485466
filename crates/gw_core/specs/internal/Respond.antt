-- What the code's steps do about a message, as far as they have come.
use Rattle.std.specs.Prelude.{◌≡◌, Bool, true, false, not, ◌&&◌, ◌||◌, List, [], ◌++◌, Option, None, if◌then◌else◌}
use Rattle.gw_frames.specs.bvll.Bvll.{original_unicast}
use Rattle.gw_frames.specs.bvll.Bvll.{Message as Frame}
use Rattle.gw_device.specs.Response.{HasPlace}
use Rattle.gw_frames.specs.npdu.Npdu.{Payload, apdu, message}
use Rattle.gw_objects.specs.Objects.{Database}
use Rattle.gw_relay.specs.Cast.{cast_asks, cast_sends, goes_on}
use Rattle.gw_relay.specs.Entry.{admits, entry_response}
use Rattle.gw_relay.specs.Manage.{manage_asks, manage_change, manage_sends}
use Rattle.gw_relay.specs.Route.{route_asks, route_sends}
use Rattle.gw_relay.specs.Response.{Response as RelayDue}
use Rattle.gw_relay.specs.Sends.{Sending}
use Rattle.gw_relay.specs.State.{Relay}
use Rattle.gw_relay.specs.declared.change.Change.{Change}
use Rattle.gw_rules.specs.Ask.{Ask}
use Rattle.gw_relay.specs.Turn.{IsWalked}
use Rattle.gw_relay.specs.declared.turn.Turn.{Turn}
use Rattle.gw_rules.specs.declared.format.Format.{Format}
use Rattle.gw_rules.specs.declared.rule.Rule.{Rule}
use Rattle.gw_rules.specs.declared.verdict.Verdict.{Verdict}
use Rattle.gw_objects.specs.Write.{Write}
use Rattle.gw_core.specs.Asks.{asks_for, message_asks}
use Rattle.gw_core.specs.Effects.{change_for, message_sends, relay_change_for, sends_for}
use Rattle.gw_relay.specs.Message.{Message}
use Rattle.gw_core.specs.Receive.{Received}

-- a frame is an Original-Unicast-NPDU
abbrev pub is_unicast : Frame → Bool
is_unicast (original_unicast npdu) = true
is_unicast other = false

-- a payload is an APDU
abbrev pub is_apdu : Payload → Bool
is_apdu (apdu octets) = true
is_apdu (message m) = false

-- a unicast with an APDU: it is neither distributed nor answered by the network layer
abbrev pub is_plain : Message → Bool
is_plain m = is_unicast m.frame && is_apdu m.npdu.payload

-- what is asked before a message is taken that goes on to the network layer
abbrev pub entered_response : List Rule → Relay → Message → RelayDue
entered_response rules relay m =
    if goes_on m.here m.from m.frame then entry_response rules relay m
    else record { asks = []; sends = []; change = None }

-- the policy doesn't keep it out
abbrev pub is_taken : List Rule → Relay → Message → Bool
is_taken rules relay m = not (goes_on m.here m.from m.frame) || admits rules relay m

-- What is asked before the device is: for the distribution, and where the frame goes on, for the routing
-- and the network layer.
abbrev pub passed_asks : Relay → Message → List Ask
passed_asks relay m =
    cast_asks relay.format m
    ++ (if goes_on m.here m.from m.frame then route_asks relay m ++ manage_asks relay m else [])

-- what is sent then
abbrev pub passed_sends : List Rule → Relay → Message → List Sending
passed_sends rules relay m =
    cast_sends rules relay.format m
    ++ (if goes_on m.here m.from m.frame
    then route_sends rules relay m ++ manage_sends rules relay m else [])

-- what changes then
abbrev pub passed_change : List Rule → Relay → Message → Option Change
passed_change rules relay m =
    if goes_on m.here m.from m.frame then manage_change rules relay m else None

-- all of it
abbrev pub passed_response : List Rule → Relay → Message → RelayDue
passed_response rules relay m = record {
  asks = passed_asks relay m;
  sends = passed_sends rules relay m;
  change = passed_change rules relay m;
}

-- what the device does about a message: it commits nothing of the relay
abbrev pub message_response : List Rule → Format → Database → Message → RelayDue
message_response rules format d m = record {
  asks = message_asks rules format d m;
  sends = message_sends rules format d m;
  change = None;
}

-- all that is due about what is received, but for the write to the device
abbrev pub received_response : List Rule → Relay → Database → Received → RelayDue
received_response rules relay d received = record {
  asks = asks_for rules relay d received;
  sends = sends_for rules relay d received;
  change = relay_change_for rules relay received;
}

-- What is due about what is received is added to a turn, and the write that is granted, if there is one, is the one
-- that is due.
pub record IsResponse {A : Type 0} (kept : A → List Verdict) (kept_of : List Rule → List Ask → List Verdict) (rules : List Rule)
    (relay : Relay) (d : Database) (received : Received) (old new : Turn A) (granted : Option Write) : Type 0 where
  pub walked : IsWalked kept kept_of rules (received_response rules relay d received) old new
  pub write : granted ≡ change_for rules relay.format d received
  pub place : HasPlace d granted
