-- The octets of a message, if it isn't too long.
use Rattle.std.specs.Prelude.{ℕ, List, length, Option, Some, None, nat_le, if◌then◌else◌}
use Rattle.gw_frames.specs.bvll.Bvll.{encoding}
use Rattle.gw_frames.specs.bvll.Bvll.{Message as Frame}
use Rattle.gw_frames.specs.declared.bvll.writing.TheConstants.{MAX_LEN}

abbrev pub within : Frame → Option (List ℕ)
within message =
    if nat_le (length (encoding message)) MAX_LEN then Some (encoding message) else None
