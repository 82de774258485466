-- The octets of a frame that brings an NPDU, by its function.
use Rattle.std.specs.Prelude.{ℕ, ◌+◌, List, ◌∷◌, ◌++◌, length}
use Rattle.std.specs.Int.{w16, to_be_bytes}
use Rattle.gw_frames.specs.bvll.Bvll.{octet_of}
use Rattle.gw_frames.specs.declared.bvll.function.Function.{Function}

abbrev pub framed : Function → List ℕ → List ℕ
framed function npdu = 0x81 ∷ octet_of function ∷ to_be_bytes w16 (4 + length npdu) ++ npdu
