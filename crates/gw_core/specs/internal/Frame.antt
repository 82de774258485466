-- The NPDU that is read of a frame, and why a frame is dropped of which none is read.
use Rattle.std.specs.Prelude.{ℕ, List, length, Option, Some, None, Result, Ok, Err, nat_le, if◌then◌else◌}
use Rattle.gw_frames.specs.bvll.Bvll.{view}
use Rattle.gw_frames.specs.bvll.Bvll.{Message as Frame}
use Rattle.gw_frames.specs.declared.bvll.fault.BvllFault.{BvllFault}
use Rattle.gw_frames.specs.declared.bvll.message.Bvll.{Bvll}
use Rattle.gw_frames.specs.npdu.Npdu.{Fields}
use Rattle.gw_frames.specs.npdu.Numbers.{max_len}
use Rattle.gw_frames.specs.npdu.Reading.{npdu_at}
use Rattle.gw_frames.specs.declared.npdu.fault.NpduFault.{NpduFault}
use Rattle.gw_frames.specs.declared.npdu.fault.NpduFault.TheVariants.{Short}
use Rattle.gw_core.specs.declared.drops.DropReason.{DropReason}
use Rattle.gw_core.specs.declared.drops.DropReason.TheVariants.{Ignored, Malformed}
use Rattle.gw_core.specs.Receive.{payload_of}

-- of octets that are too long as little is read as of none
abbrev pub payload_npdu : Option (List ℕ) → Result Fields NpduFault
payload_npdu (Some octets) = if nat_le (length octets) max_len then npdu_at octets else Err Short
payload_npdu None = Err Short

abbrev pub frame_npdu : Frame → Result Fields NpduFault
frame_npdu frame = payload_npdu (payload_of frame)

abbrev pub npdu_in : Result Bvll BvllFault → Result Fields NpduFault
npdu_in (Ok frame) = frame_npdu (view frame)
npdu_in (Err fault) = Err Short

-- a frame that brings no NPDU is ignored, and octets that are too long or no NPDU are malformed
abbrev pub payload_unread : Option (List ℕ) → DropReason
payload_unread (Some octets) = Malformed
payload_unread None = Ignored

abbrev pub unread_drop : Frame → DropReason
unread_drop frame = payload_unread (payload_of frame)
