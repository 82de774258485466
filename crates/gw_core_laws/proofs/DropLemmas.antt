-- A datagram is dropped exactly if it has a reason.
use Rattle.std.proofs.Common.{◌≡◌, ◌∙◌, refl, sym, ℕ, Bool, true, false, not, true≢false, if◌then◌else◌, List, length, Option, Some, None, is_some}
use Rattle.std.specs.Prelude.{Result, Ok, Err, nat_le}
use Rattle.gw_addr.specs.declared.bip.BipAddr.{BipAddr}
use Rattle.gw_frames.specs.bvll.Bvll.{Message as Frame}
use Rattle.gw_frames.specs.bvll.Reading.{bvll_at}
use Rattle.gw_frames.specs.declared.bvll.fault.BvllFault.{BvllFault}
use Rattle.gw_frames.specs.npdu.Npdu.{Fields}
use Rattle.gw_frames.specs.npdu.Numbers.{max_len}
use Rattle.gw_frames.specs.npdu.Reading.{npdu_at}
use Rattle.gw_frames.specs.declared.npdu.fault.NpduFault.{NpduFault}
use Rattle.gw_relay.specs.Cast.{accepts, is_unregistered}
use Rattle.gw_relay.specs.Entry.{admits}
use Rattle.gw_relay.specs.Message.{Message, message_of}
use Rattle.gw_relay.specs.State.{Relay, port_at}
use Rattle.gw_relay.specs.declared.port.PortState.{PortState}
use Rattle.gw_rules.specs.declared.rule.Rule.{Rule}
use Rattle.gw_core.specs.declared.drops.DropReason.{DropReason}
use Rattle.gw_core.specs.declared.drops.DropReason.TheVariants.{Ignored, Malformed, OwnNetwork, NoPeer}
use Rattle.gw_core_laws.specs.Reasons.{DropsHaveReasons, has_reason, is_dropped}
use Rattle.gw_core.specs.Drops.{datagram_drop, drop_at, drop_on, either_drop, frame_drop, length_drop, npdu_drop, payload_drop}
use Rattle.gw_core.specs.Receive.{Received, admit, barred, claims_direct, comes_in, dropped, managed, manages, message, npdu_of, payload_of, receive, receive_datagram, receive_frame, receive_npdu, receive_on, receive_payload, unregistered}
use Rattle.gw_core.specs.State.{device_network}

-- what the policy keeps out isn't dropped
admitted : (rules : List Rule) (relay : Relay) (r : Received) → is_dropped (admit rules relay r) ≡ is_dropped r
admitted rules relay dropped = refl
admitted rules relay (managed on from frame) = refl
admitted rules relay (unregistered m) = refl
admitted rules relay (barred m) = refl
admitted rules relay (message m) = by (admits rules relay m)
  where
    by : (b : Bool) → is_dropped (if b then message m else barred m) ≡ false
    by true = refl
    by false = refl

-- octets are an NPDU that is heard exactly if they have no reason
npdu_alike : (ports : List PortState) (device : ℕ) (octets : List ℕ) → is_some (npdu_of ports device octets) ≡ not (has_reason (npdu_drop ports device octets))
unfolding npdu_of npdu_drop
npdu_alike ports device octets = by (nat_le (length octets) max_len) (npdu_at octets)
  where
    of : (npdu : Fields) (b : Bool) → is_some (if b then None else Some npdu) ≡ not (has_reason (if b then Some OwnNetwork else None))
    of npdu true = refl
    of npdu false = refl

    by : (b : Bool) (r : Result Fields NpduFault) → is_some (if b then (elim r [
      | Ok npdu ↦ if claims_direct ports device npdu.source then None else Some npdu
      | Err fault ↦ None
    ]) else None) ≡ not (has_reason (if b then (elim r [
      | Ok npdu ↦ if claims_direct ports device npdu.source then Some OwnNetwork else None
      | Err fault ↦ Some Malformed
    ]) else Some Malformed))
    by true (Ok npdu) = of npdu (claims_direct ports device npdu.source)
    by true (Err fault) = refl
    by false r = refl

heard_npdu : (ports : List PortState) (device : ℕ) (on : PortState) (from : BipAddr) (frame : Frame) (octets : List ℕ)
    → is_dropped (receive_npdu ports device on from frame octets) ≡ has_reason (either_drop (npdu_drop ports device octets) None)
heard_npdu ports device on from frame octets = by (npdu_of ports device octets) (npdu_drop ports device octets) (npdu_alike ports device octets)
  where
    of : (m : Message) (b : Bool) → is_dropped (if b then unregistered m else message m) ≡ false
    of m true = refl
    of m false = refl

    by : (n : Option Fields) (d : Option DropReason) → is_some n ≡ not (has_reason d) → is_dropped (elim n [
      | Some npdu ↦ if is_unregistered on from frame then unregistered (message_of on from frame npdu) else message (message_of on from frame npdu)
      | None ↦ dropped
    ]) ≡ has_reason (either_drop d None)
    by (Some npdu) None e = of (message_of on from frame npdu) (is_unregistered on from frame)
    by (Some npdu) (Some why) e = absurd (true≢false e)
    by None None e = absurd (true≢false (sym e))
    by None (Some why) e = refl

unheard : (d : Option DropReason) → true ≡ has_reason (either_drop d (Some NoPeer))
unheard None = refl
unheard (Some why) = refl

of_payload : (ports : List PortState) (device : ℕ) (on : PortState) (from : BipAddr) (frame : Frame)
    → is_dropped (receive_payload ports device on from frame) ≡ has_reason (payload_drop ports device on from frame)
of_payload ports device on from frame = by (accepts on from frame) (payload_of frame)
  where
    by : (heard : Bool) (p : Option (List ℕ)) → is_dropped (if not heard then dropped else (elim p [
      | Some octets ↦ receive_npdu ports device on from frame octets
      | None ↦ dropped
    ])) ≡ has_reason (elim p [
      | Some octets ↦ either_drop (npdu_drop ports device octets) (if heard then None else Some NoPeer)
      | None ↦ Some Ignored
    ])
    by true (Some octets) = heard_npdu ports device on from frame octets
    by true None = refl
    by false (Some octets) = unheard (npdu_drop ports device octets)
    by false None = refl

of_frame : (ports : List PortState) (device : ℕ) (on : PortState) (from : BipAddr) (frame : Frame)
    → is_dropped (receive_frame ports device on from frame) ≡ has_reason (frame_drop ports device on from frame)
of_frame ports device on from frame = by (manages frame)
  where
    by : (b : Bool) → is_dropped (if b then managed on from frame else receive_payload ports device on from frame)
        ≡ has_reason (if b then None else payload_drop ports device on from frame)
    by true = refl
    by false = of_payload ports device on from frame

of_datagram : (ports : List PortState) (device : ℕ) (on : PortState) (from : BipAddr) (octets : List ℕ)
    → is_dropped (receive_datagram ports device on from octets) ≡ has_reason (datagram_drop ports device on from octets)
of_datagram ports device on from octets = by (comes_in on.port.address from octets) (bvll_at octets)
  where
    by : (b : Bool) (r : Result Frame BvllFault) → is_dropped (if b then (elim r [
      | Ok frame ↦ receive_frame ports device on from frame
      | Err fault ↦ dropped
    ]) else dropped) ≡ has_reason (if b then (elim r [
      | Ok frame ↦ frame_drop ports device on from frame
      | Err fault ↦ Some Malformed
    ]) else Some (length_drop on.port.address from))
    by true (Ok frame) = of_frame ports device on from frame
    by true (Err fault) = refl
    by false r = refl

of_port : (ports : List PortState) (device number : ℕ) (from : BipAddr) (octets : List ℕ)
    → is_dropped (receive_on ports device number from octets) ≡ has_reason (drop_on ports device number from octets)
of_port ports device number from octets = by (port_at ports number)
  where
    by : (state : Option PortState) → is_dropped (elim state [
      | Some on ↦ receive_datagram ports device on from octets
      | None ↦ dropped
    ]) ≡ has_reason (elim state [
      | Some on ↦ datagram_drop ports device on from octets
      | None ↦ Some Ignored
    ])
    by (Some on) = of_datagram ports device on from octets
    by None = refl

pub drops_have_reasons : DropsHaveReasons
unfolding receive drop_at
drops_have_reasons w port from octets =
    admitted w.rules w.relay (receive_on w.relay.ports (device_network w.device) port from octets)
    ∙ of_port w.relay.ports (device_network w.device) port from octets
