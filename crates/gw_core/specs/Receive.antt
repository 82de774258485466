-- What the gateway makes of an event before any policy is asked.
use Rattle.std.specs.Prelude.{ℕ, Bool, true, false, List, length, Option, Some, None, Ok, Err, nat_le, ◌==◌, ◌&&◌, ◌||◌}
use Rattle.std.specs.Prelude.{not, if◌then◌else◌}
use Rattle.std.specs.List.{list_any}
use Rattle.std.specs.Option.{option_map_or}
use Rattle.gw_addr.specs.declared.bip.BipAddr.{BipAddr}
use Rattle.gw_addr.specs.declared.station.Source.{Source}
use Rattle.gw_addr.specs.Address.{octets_of, big_endian}
use Rattle.gw_frames.specs.bvll.Reading.{bvll_at}
use Rattle.gw_frames.specs.declared.bvll.writing.TheConstants.{MAX_LEN}
use Rattle.gw_frames.specs.bvll.Bvll.{write_bdt, read_bdt, forwarded, register, read_fdt, delete, distribute, original_unicast}
use Rattle.gw_frames.specs.bvll.Bvll.{original_broadcast}
use Rattle.gw_frames.specs.bvll.Bvll.{Message as Frame}
use Rattle.gw_frames.specs.npdu.Npdu.{Fields, Address}
use Rattle.gw_frames.specs.npdu.Numbers.{max_len}
use Rattle.gw_frames.specs.npdu.Reading.{npdu_at}
use Rattle.gw_relay.specs.Cast.{accepts, is_unregistered}
use Rattle.gw_relay.specs.Claim.{local_source}
use Rattle.gw_relay.specs.Entry.{admits}
use Rattle.gw_relay.specs.Message.{Message, message_of}
use Rattle.gw_relay.specs.State.{Relay, port_at}
use Rattle.gw_relay.specs.declared.port.PortState.{PortState}
use Rattle.gw_rules.specs.Ask.{Ask}
use Rattle.gw_rules.specs.Operation.{operation_number}
use Rattle.gw_rules.specs.declared.operation.Operation.TheVariants as operations
use Rattle.gw_rules.specs.declared.rule.Rule.{Rule}
use Rattle.gw_script.specs.Event.{Event}
use Rattle.gw_script.specs.Event.{Datagram, Tick}
use Rattle.gw_core.specs.State.{State, device_network}

-- What an event is received as: nothing; a frame that manages a table of its port; a broadcast to be
-- distributed, from someone who isn't registered; a message of the network layer that the policy keeps out; or one that
-- is heard.
pub data Received : Type 0 where
  dropped : Received
  managed : (on : PortState) (from : BipAddr) (frame : Frame) → Received
  unregistered : Message → Received
  barred : Message → Received
  message : Message → Received

-- ---- the datagram (Annex J.1)

-- two addresses are one where their six octets are one number
abbrev pub is_same_address : BipAddr → BipAddr → Bool
is_same_address a b = big_endian (octets_of a) == big_endian (octets_of b)

-- a datagram of at most 1507 octets that doesn't come from the port's own address
abbrev pub comes_in : BipAddr → BipAddr → List ℕ → Bool
comes_in own from octets = nat_le (length octets) MAX_LEN && not (is_same_address own from)

-- ---- the frame (Annex J.2)

-- the functions that read or change a table of a port
abbrev pub manages : Frame → Bool
manages (write_bdt entries) = true
manages read_bdt = true
manages (register time_to_live) = true
manages read_fdt = true
manages (delete address) = true
manages other = false

-- the NPDU that a frame brings
abbrev pub payload_of : Frame → Option (List ℕ)
payload_of (forwarded originator npdu) = Some npdu
payload_of (distribute npdu) = Some npdu
payload_of (original_unicast npdu) = Some npdu
payload_of (original_broadcast npdu) = Some npdu
payload_of other = None

-- ---- the NPDU (clause 6.2)

-- the network of a port, or the device's
abbrev pub is_direct : List PortState → ℕ → ℕ → Bool
is_direct ports device network =
    network == device || list_any (λ state. state.port.network == network) ports

-- whether a message names a source on a network of the gateway's own
abbrev pub claims_direct : List PortState → ℕ → Option Address → Bool
claims_direct ports device None = false
claims_direct ports device (Some s) = is_direct ports device s.network

-- an NPDU of at most 1497 octets that claims no source on a network of the gateway's own
unfoldable pub npdu_of : List PortState → ℕ → List ℕ → Option Fields
npdu_of ports device octets =
    if nat_le (length octets) max_len then (elim (npdu_at octets) [
      | Ok npdu ↦ if claims_direct ports device npdu.source then None else Some npdu
      | Err fault ↦ None
    ]) else None

-- ---- what is received

-- a message is heard, or an unregistered sender's (Annex J.5)
abbrev pub receive_npdu : List PortState → ℕ → PortState → BipAddr → Frame → List ℕ → Received
receive_npdu ports device on from frame octets = elim (npdu_of ports device octets) [
  | Some npdu ↦
      if is_unregistered on from frame then unregistered (message_of on from frame npdu)
      else message (message_of on from frame npdu)
  | None ↦ dropped
]

-- a frame brings an NPDU where it is heard (Annex J.4)
abbrev pub receive_payload : List PortState → ℕ → PortState → BipAddr → Frame → Received
receive_payload ports device on from frame =
    if not (accepts on from frame) then dropped
    else (elim (payload_of frame) [
      | Some octets ↦ receive_npdu ports device on from frame octets
      | None ↦ dropped
    ])

-- a frame manages a table, or brings an NPDU
abbrev pub receive_frame : List PortState → ℕ → PortState → BipAddr → Frame → Received
receive_frame ports device on from frame =
    if manages frame then managed on from frame else receive_payload ports device on from frame

abbrev pub receive_datagram : List PortState → ℕ → PortState → BipAddr → List ℕ → Received
receive_datagram ports device on from octets =
    if comes_in on.port.address from octets then (elim (bvll_at octets) [
      | Ok frame ↦ receive_frame ports device on from frame
      | Err fault ↦ dropped
    ]) else dropped

abbrev pub receive_on : List PortState → ℕ → ℕ → BipAddr → List ℕ → Received
receive_on ports device number from octets = elim (port_at ports number) [
  | Some on ↦ receive_datagram ports device on from octets
  | None ↦ dropped
]

-- ---- who may enter, and who may speak for a network

-- a message is kept out if the policy denies that its sender enters, or that it claims its source
abbrev pub admit : List Rule → Relay → Received → Received
admit rules relay dropped = dropped
admit rules relay (managed on from frame) = managed on from frame
admit rules relay (unregistered m) = unregistered m
admit rules relay (barred m) = barred m
admit rules relay (message m) = if admits rules relay m then message m else barred m

-- what an event is received as in this state
unfoldable pub receive : State → Event → Received
receive w (Datagram port from octets) =
    admit w.rules w.relay (receive_on w.relay.ports (device_network w.device) port from octets)
receive w Tick = dropped

-- ---- where it comes from

-- the port that a datagram came on, whom it claims to come from, and the link source as a station of the port's network
pub record Origin : Type 0 where
  pub port : ℕ
  pub source : Source
  pub link : Source

-- a node of the port's network
abbrev pub node_origin : PortState → BipAddr → Origin
node_origin on from =
    let source = local_source on.port.network from in
    record { port = on.port.number; source = source; link = source }

-- the origin of a message: who it claims to come from
abbrev pub message_origin : Message → Origin
message_origin m = record {
  port = m.here.port.number;
  source = m.claim;
  link = local_source m.here.port.network m.link;
}

-- whom an ask is of: to enter it is the link source, and else who the datagram claims to come from
abbrev pub source_of : Origin → Ask → Source
source_of from ask =
    if option_map_or (λ number. number == operation_number operations.Enter) ask.operation false then from.link
    else from.source

-- The origin of what is received: a frame that manages a table, and an unregistered sender's, claim to come from
-- their sender.
abbrev pub origin : Received → Option Origin
origin dropped = None
origin (managed on from frame) = Some (node_origin on from)
origin (unregistered m) = Some (node_origin m.here m.from)
origin (barred m) = Some (message_origin m)
origin (message m) = Some (message_origin m)
