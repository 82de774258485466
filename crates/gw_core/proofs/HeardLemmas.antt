-- What a frame is received as that manages no table, by the NPDU that was read of it.
use Rattle.std.proofs.Common.{◌≡◌, ◌∙◌, refl, sym, ap, ℕ, Bool, true, false, not, if◌then◌else◌, List, length, Option, Some, None}
use Rattle.std.specs.Prelude.{Result, Ok, Err, nat_le}
use Rattle.gw_addr.specs.declared.bip.BipAddr.{BipAddr}
use Rattle.gw_frames.specs.bvll.Bvll.{Message as Frame}
use Rattle.gw_frames.specs.npdu.Npdu.{Fields}
use Rattle.gw_frames.specs.npdu.Numbers.{max_len}
use Rattle.gw_frames.specs.npdu.Reading.{npdu_at}
use Rattle.gw_frames.specs.declared.npdu.fault.NpduFault.{NpduFault}
use Rattle.gw_frames.specs.declared.npdu.fault.NpduFault.TheVariants.{Short}
use Rattle.gw_relay.specs.Cast.{accepts, is_unregistered}
use Rattle.gw_relay.specs.Message.{message_of}
use Rattle.gw_relay.specs.declared.port.PortState.{PortState}
use Rattle.gw_core.specs.declared.drops.DropReason.{DropReason}
use Rattle.gw_core.specs.declared.drops.DropReason.TheVariants.{Ignored, Malformed, OwnNetwork}
use Rattle.gw_core.specs.Drops.{either_drop, npdu_drop, payload_drop, unheard_drop}
use Rattle.gw_core.specs.Receive.{Received, claims_direct, dropped, message, npdu_of, payload_of, receive_npdu, receive_payload, unregistered}
use Rattle.gw_core.specs.internal.View.{judged}
use Rattle.gw_core.specs.internal.Frame.{frame_npdu, payload_npdu, payload_unread, unread_drop}

-- what is received if the frame is heard, and if not
abbrev received_by : List PortState → ℕ → PortState → BipAddr → Frame → Bool → Result Fields NpduFault → Received
received_by ports device on from frame heard (Ok npdu) =
    if claims_direct ports device npdu.source then dropped
    else if not heard then dropped
    else if is_unregistered on from frame then unregistered (message_of on from frame npdu)
    else message (message_of on from frame npdu)
received_by ports device on from frame heard (Err fault) = dropped

payload_as : (ports : List PortState) (device : ℕ) (on : PortState) (from : BipAddr) (frame : Frame)
    → receive_payload ports device on from frame ≡ received_by ports device on from frame (accepts on from frame) (frame_npdu frame)
unfolding npdu_of
payload_as ports device on from frame = by (accepts on from frame) (payload_of frame)
  where
    nothing : (b : Bool) → dropped ≡ (if b then dropped else dropped)
    nothing true = refl
    nothing false = refl

    unheard : (r : Result Fields NpduFault) → dropped ≡ received_by ports device on from frame false r
    unheard (Ok npdu) = nothing (claims_direct ports device npdu.source)
    unheard (Err fault) = refl

    read : (npdu : Fields) (b : Bool) → (elim (if b then None else Some npdu) [
      | Some npdu ↦
          if is_unregistered on from frame then unregistered (message_of on from frame npdu)
          else message (message_of on from frame npdu)
      | None ↦ dropped
    ]) ≡ (if b then dropped
        else if is_unregistered on from frame then unregistered (message_of on from frame npdu)
        else message (message_of on from frame npdu))
    read npdu true = refl
    read npdu false = refl

    of : (b : Bool) (r : Result Fields NpduFault) → (elim (if b then (elim r [
      | Ok npdu ↦ if claims_direct ports device npdu.source then None else Some npdu
      | Err fault ↦ None
    ]) else None) [
      | Some npdu ↦
          if is_unregistered on from frame then unregistered (message_of on from frame npdu)
          else message (message_of on from frame npdu)
      | None ↦ dropped
    ]) ≡ received_by ports device on from frame true (if b then r else Err Short)
    of true (Ok npdu) = read npdu (claims_direct ports device npdu.source)
    of true (Err fault) = refl
    of false r = refl

    by : (heard : Bool) (p : Option (List ℕ)) → (if not heard then dropped else (elim p [
      | Some octets ↦ receive_npdu ports device on from frame octets
      | None ↦ dropped
    ])) ≡ received_by ports device on from frame heard (payload_npdu p)
    by false p = unheard (payload_npdu p)
    by true None = refl
    by true (Some octets) = of (nat_le (length octets) max_len) (npdu_at octets)

-- a frame is received as the message that it brings
pub heard_as : (ports : List PortState) (device : ℕ) (on : PortState) (from : BipAddr) (frame : Frame) (npdu : Fields)
    → frame_npdu frame ≡ Ok npdu → claims_direct ports device npdu.source ≡ false
    → judged (message_of on from frame npdu) ≡ receive_payload ports device on from frame
heard_as ports device on from frame npdu is other =
    sym (payload_as ports device on from frame
    ∙ ap (received_by ports device on from frame (accepts on from frame)) is
    ∙ ap (λ (b : Bool). if b then dropped else judged (message_of on from frame npdu)) other)

-- and as nothing if the message claims a source on one of the gateway's own networks
pub claimed_as : (ports : List PortState) (device : ℕ) (on : PortState) (from : BipAddr) (frame : Frame) (npdu : Fields)
    → frame_npdu frame ≡ Ok npdu → claims_direct ports device npdu.source ≡ true
    → dropped ≡ receive_payload ports device on from frame
claimed_as ports device on from frame npdu is own =
    sym (payload_as ports device on from frame
    ∙ ap (received_by ports device on from frame (accepts on from frame)) is
    ∙ ap (λ (b : Bool). if b then dropped else judged (message_of on from frame npdu)) own)

-- or if none is read of it
pub unheard_as : (ports : List PortState) (device : ℕ) (on : PortState) (from : BipAddr) (frame : Frame) (fault : NpduFault)
    → frame_npdu frame ≡ Err fault → dropped ≡ receive_payload ports device on from frame
unheard_as ports device on from frame fault is =
    sym (payload_as ports device on from frame ∙ ap (received_by ports device on from frame (accepts on from frame)) is)

-- ---- why it is dropped

abbrev drop_by : List PortState → ℕ → Option DropReason → DropReason → Result Fields NpduFault → Option DropReason
drop_by ports device unheard unread (Ok npdu) = if claims_direct ports device npdu.source then Some OwnNetwork else unheard
drop_by ports device unheard unread (Err fault) = Some unread

drop_as : (ports : List PortState) (device : ℕ) (on : PortState) (from : BipAddr) (frame : Frame)
    → payload_drop ports device on from frame
    ≡ drop_by ports device (unheard_drop on from frame) (unread_drop frame) (frame_npdu frame)
unfolding npdu_drop
drop_as ports device on from frame = by (payload_of frame) (unheard_drop on from frame)
  where
    read : (b : Bool) (unheard : Option DropReason)
        → either_drop (if b then Some OwnNetwork else None) unheard ≡ (if b then Some OwnNetwork else unheard)
    read true unheard = refl
    read false unheard = refl

    of : (b : Bool) (r : Result Fields NpduFault) (unheard : Option DropReason) → either_drop (if b then (elim r [
      | Ok npdu ↦ if claims_direct ports device npdu.source then Some OwnNetwork else None
      | Err fault ↦ Some Malformed
    ]) else Some Malformed) unheard ≡ drop_by ports device unheard Malformed (if b then r else Err Short)
    of true (Ok npdu) unheard = read (claims_direct ports device npdu.source) unheard
    of true (Err fault) unheard = refl
    of false r unheard = refl

    by : (p : Option (List ℕ)) (unheard : Option DropReason) → (elim p [
      | Some octets ↦ either_drop (npdu_drop ports device octets) unheard
      | None ↦ Some Ignored
    ]) ≡ drop_by ports device unheard (payload_unread p) (payload_npdu p)
    by (Some octets) unheard = of (nat_le (length octets) max_len) (npdu_at octets) unheard
    by None unheard = refl

pub heard_drop : (ports : List PortState) (device : ℕ) (on : PortState) (from : BipAddr) (frame : Frame) (npdu : Fields)
    → frame_npdu frame ≡ Ok npdu → claims_direct ports device npdu.source ≡ false
    → unheard_drop on from frame ≡ payload_drop ports device on from frame
heard_drop ports device on from frame npdu is other =
    sym (drop_as ports device on from frame
    ∙ ap (drop_by ports device (unheard_drop on from frame) (unread_drop frame)) is
    ∙ ap (λ (b : Bool). if b then Some OwnNetwork else unheard_drop on from frame) other)

pub claimed_drop : (ports : List PortState) (device : ℕ) (on : PortState) (from : BipAddr) (frame : Frame) (npdu : Fields)
    → frame_npdu frame ≡ Ok npdu → claims_direct ports device npdu.source ≡ true
    → Some OwnNetwork ≡ payload_drop ports device on from frame
claimed_drop ports device on from frame npdu is own =
    sym (drop_as ports device on from frame
    ∙ ap (drop_by ports device (unheard_drop on from frame) (unread_drop frame)) is
    ∙ ap (λ (b : Bool). if b then Some OwnNetwork else unheard_drop on from frame) own)

pub not_read_drop : (ports : List PortState) (device : ℕ) (on : PortState) (from : BipAddr) (frame : Frame) (fault : NpduFault)
    → frame_npdu frame ≡ Err fault → Some (unread_drop frame) ≡ payload_drop ports device on from frame
not_read_drop ports device on from frame fault is =
    sym (drop_as ports device on from frame ∙ ap (drop_by ports device (unheard_drop on from frame) (unread_drop frame)) is)
