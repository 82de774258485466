-- Why a datagram is dropped before any policy is asked.
use Rattle.std.specs.Prelude.{ℕ, if◌then◌else◌, nat_le, List, length, Option, Some, None, Ok, Err}
use Rattle.gw_addr.specs.declared.bip.BipAddr.{BipAddr}
use Rattle.gw_frames.specs.bvll.Bvll.{Message as Frame}
use Rattle.gw_frames.specs.bvll.Reading.{bvll_at}
use Rattle.gw_frames.specs.npdu.Numbers.{max_len}
use Rattle.gw_frames.specs.npdu.Reading.{npdu_at}
use Rattle.gw_relay.specs.Cast.{accepts}
use Rattle.gw_relay.specs.State.{port_at}
use Rattle.gw_relay.specs.declared.port.PortState.{PortState}
use Rattle.gw_script.specs.Event.{Event, Datagram, Tick}
use Rattle.gw_core.specs.declared.drops.DropReason.{DropReason}
use Rattle.gw_core.specs.declared.drops.DropReason.TheVariants.{Ignored, Malformed, OwnNetwork, NoPeer}
use Rattle.gw_core.specs.Receive.{claims_direct, comes_in, is_same_address, manages, payload_of}
use Rattle.gw_core.specs.State.{State, device_network}

-- ---- why it is dropped

-- why the octets that a frame brings are no message
unfoldable pub npdu_drop : List PortState → ℕ → List ℕ → Option DropReason
npdu_drop ports device octets =
    if nat_le (length octets) max_len then (elim (npdu_at octets) [
      | Ok npdu ↦ if claims_direct ports device npdu.source then Some OwnNetwork else None
      | Err fault ↦ Some Malformed
    ]) else Some Malformed

-- a message is dropped if it isn't heard
abbrev pub unheard_drop : PortState → BipAddr → Frame → Option DropReason
unheard_drop on from frame = if accepts on from frame then None else Some NoPeer

abbrev pub either_drop : Option DropReason → Option DropReason → Option DropReason
either_drop (Some why) other = Some why
either_drop None other = other

abbrev pub payload_drop : List PortState → ℕ → PortState → BipAddr → Frame → Option DropReason
payload_drop ports device on from frame = elim (payload_of frame) [
  | Some octets ↦ either_drop (npdu_drop ports device octets) (unheard_drop on from frame)
  | None ↦ Some Ignored
]

abbrev pub frame_drop : List PortState → ℕ → PortState → BipAddr → Frame → Option DropReason
frame_drop ports device on from frame = if manages frame then None else payload_drop ports device on from frame

-- a datagram that doesn't come in is the port's own, or too long
abbrev pub length_drop : BipAddr → BipAddr → DropReason
length_drop own from = if is_same_address own from then Ignored else Malformed

abbrev pub datagram_drop : List PortState → ℕ → PortState → BipAddr → List ℕ → Option DropReason
datagram_drop ports device on from octets =
    if comes_in on.port.address from octets then (elim (bvll_at octets) [
      | Ok frame ↦ frame_drop ports device on from frame
      | Err fault ↦ Some Malformed
    ]) else Some (length_drop on.port.address from)

abbrev pub drop_on : List PortState → ℕ → ℕ → BipAddr → List ℕ → Option DropReason
drop_on ports device number from octets = elim (port_at ports number) [
  | Some on ↦ datagram_drop ports device on from octets
  | None ↦ Some Ignored
]

-- why an event is dropped in this state, if it is a datagram that is
unfoldable pub drop_at : State → Event → Option DropReason
drop_at w (Datagram port from octets) = drop_on w.relay.ports (device_network w.device) port from octets
drop_at w Tick = None
