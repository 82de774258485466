-- What is wrong with octets that are no message (Annex J.2), said of the octets themselves.
use Rattle.std.specs.Prelude.{◌≡◌, ◌≢◌, ◌⊎◌, ℕ, ◌%◌, ◌<◌, ◌≤◌, List, length, take, drop, slice_index}
use Rattle.std.specs.Int.{w16, from_be_bytes}
use Rattle.gw_frames.specs.declared.bvll.function.Function.{Function}
use Rattle.gw_frames.specs.declared.bvll.function.Function.TheVariants as functions
use Rattle.gw_frames.specs.bvll.Bvll.{octet_of}

-- the length that the third and fourth octets say
abbrev pub told_length : List ℕ → ℕ
told_length octets = from_be_bytes w16 (take 2 (drop 2 octets))

-- four octets or more, the first of them 81
pub record IsMarked (octets : List ℕ) : Type 0 where
  pub whole : 4 ≤ length octets
  pub marker : slice_index octets 0 ≡ 0x81

-- a header that says the length of all the octets
pub record IsFramed (octets : List ℕ) : Type 0 where
  pub marked : IsMarked octets
  pub size : told_length octets ≡ length octets

-- the lengths that the body of a function may have
abbrev pub FitsFunction : Function → ℕ → Type 0
FitsFunction functions.Result size = size ≡ 2
FitsFunction functions.WriteBdt size = size % 10 ≡ 0
FitsFunction functions.ReadBdt size = size ≡ 0
FitsFunction functions.ReadBdtAck size = size % 10 ≡ 0
FitsFunction functions.Forwarded size = 6 ≤ size
FitsFunction functions.Register size = size ≡ 2
FitsFunction functions.ReadFdt size = size ≡ 0
FitsFunction functions.ReadFdtAck size = size % 10 ≡ 0
FitsFunction functions.Delete size = size ≡ 6
FitsFunction functions.Distribute size = Unit {0}
FitsFunction functions.OriginalUnicast size = Unit {0}
FitsFunction functions.OriginalBroadcast size = Unit {0}

-- four octets or more, the first of them not 81
pub record IsBadMarker (octets : List ℕ) : Type 0 where
  pub whole : 4 ≤ length octets
  pub marker : slice_index octets 0 ≢ 0x81

-- fewer than four octets, or a header that says another length than that of all the octets
abbrev pub IsBadLength : List ℕ → Type 0
IsBadLength octets = (length octets < 4) ⊎ (IsMarked octets × (told_length octets ≢ length octets))

-- a whole header with an octet that is no function
pub record IsBadFunction (octets : List ℕ) : Type 0 where
  pub framed : IsFramed octets
  pub function : 0x0B < slice_index octets 1

-- a whole header with a function, and a body of a length that the function does not have
pub record IsBadBody (octets : List ℕ) : Type 0 where
  pub framed : IsFramed octets
  pub function : Function
  pub named : slice_index octets 1 ≡ octet_of function
  pub body : ¬ FitsFunction function (length (drop 4 octets))
