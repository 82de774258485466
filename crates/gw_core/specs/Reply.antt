-- The message that an APDU for the device comes in, and those that carry its answer (clauses 6.2.2, 16.9
-- and 16.10).
use Rattle.std.specs.Prelude.{ℕ, ◌-◌, Bool, true, false, List, [], ◌∷◌, length, slice_index, Option, Some, None}
use Rattle.std.specs.Prelude.{is_some, ◌==◌, ◌&&◌, ◌||◌, not, if◌then◌else◌}
use Rattle.std.specs.Option.{option_map}
use Rattle.gw_frames.specs.npdu.Npdu.{Fields, Address, Destination, Payload, apdu, message}
use Rattle.gw_frames.specs.npdu.Numbers.{every_network, max_len}
use Rattle.gw_frames.specs.npdu.Npdu as npdu
use Rattle.gw_relay.specs.Asks.{sender_of}
use Rattle.gw_relay.specs.Sends.{Sending}
use Rattle.gw_relay.specs.Steps.{broadcast, unicast}
use Rattle.gw_rules.specs.Format.{key_in}
use Rattle.gw_rules.specs.declared.format.Format.{Format}
use Rattle.gw_device.specs.declared.context.Context.{Context}
use Rattle.gw_device.specs.Response.{Answer}
use Rattle.gw_relay.specs.Message.{Message}

-- ---- to the device

-- every network, or every station of the device's
abbrev pub is_broadcast : ℕ → Destination → Bool
is_broadcast network d =
    d.address.network == every_network || (d.address.network == network && length d.address.mac == 0)

-- the one station of the device's network
abbrev pub device_station : ℕ
device_station = 1

abbrev pub is_device : ℕ → Destination → Bool
is_device network d =
    d.address.network == network
    && (length d.address.mac == 1 && slice_index d.address.mac 0 == device_station)

-- the APDU of a payload
abbrev pub apdu_of : Payload → Option (List ℕ)
apdu_of (apdu octets) = Some octets
apdu_of (message m) = None

-- the APDU that a message has for the device
abbrev pub apdu_towards : ℕ → Payload → Option Destination → Option (List ℕ)
apdu_towards network payload None = None
apdu_towards network payload (Some d) =
    if is_device network d || is_broadcast network d then apdu_of payload else None

abbrev pub apdu_for : ℕ → Fields → Option (List ℕ)
apdu_for network fields = apdu_towards network fields.payload fields.destination

-- whether it goes to more than the device
abbrev pub goes_to_all : ℕ → Option Destination → Bool
goes_to_all network None = false
goes_to_all network (Some d) = is_broadcast network d

-- ---- from the device

-- The way back by a router, with a whole count of hops: to the station that asked, or to its network.
abbrev pub whole_count : ℕ
whole_count = 255

-- the address on a network, or everyone there
abbrev pub mac_back : Bool → List ℕ → List ℕ
mac_back false mac = mac
mac_back true mac = []

abbrev pub reply_destination : Bool → Address → Destination
reply_destination broadcast a = record {
  address = record { network = a.network; mac = mac_back broadcast a.mac };
  hops = whole_count;
}

-- the device is the one station of its network, and keeps the request's priority (clause 6.2.2)
abbrev pub reply_npdu : ℕ → Fields → Answer → Fields
reply_npdu network request answer = record {
  destination = option_map (reply_destination answer.broadcast) request.source;
  source = Some (record { network = network; mac = device_station ∷ [] });
  reply_expected = false;
  priority = request.priority;
  payload = apdu answer.apdu;
}

-- ---- what the device knows

-- how many octets the APDU may have that goes back to the station that asked
abbrev pub max_reply_apdu : ℕ → Fields → ℕ
max_reply_apdu network request =
    max_len - length (npdu.header (reply_npdu network request (record { apdu = []; broadcast = false })))

-- where a message came from, whether it goes to more than the device, and the room for the answer
abbrev pub context_of : Format → ℕ → Message → Context
context_of format network m = record {
  port = m.here.port.number;
  source_network = m.claim.net;
  source_key = key_in format m.claim.mac;
  sender = sender_of format m.from;
  broadcast = goes_to_all network m.npdu.destination;
  room = max_reply_apdu network m.npdu;
}

-- ---- what is sent

-- whether an answer goes to everyone on the port's network
abbrev pub is_local_broadcast : Fields → Answer → Bool
is_local_broadcast request answer = answer.broadcast && not (is_some request.source)

-- An answer, where its NPDU is within its length: back to where the message came from; or as a broadcast
-- by the gateway on the port's network, which its peers and foreign devices get too.
abbrev pub reply_sends : ℕ → Message → Answer → List Sending
reply_sends network m answer =
    if is_local_broadcast m.npdu answer then broadcast (reply_npdu network m.npdu answer) m.here
    else unicast m.here.port.number m.link (reply_npdu network m.npdu answer)
