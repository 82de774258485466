-- What a buffer is to have room for.
use Rattle.std.specs.Prelude.{ℕ, List, []}
use Rattle.gw_frames.specs.bvll.Bvll.{Message as Frame, distribute, forwarded, original_broadcast}

-- the NPDU of a broadcast
abbrev pub broadcast_npdu : Frame → List ℕ
broadcast_npdu (original_broadcast npdu) = npdu
broadcast_npdu (distribute npdu) = npdu
broadcast_npdu (forwarded originator npdu) = npdu
broadcast_npdu other = []
