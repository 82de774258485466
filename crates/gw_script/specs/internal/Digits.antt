-- Octets that are written in digits up to a place.
use Rattle.std.specs.Prelude.{◌≡◌, ℕ, ◌+◌, ◌<◌, List, slice_index}
use Rattle.hex.specs.Hex.{encode_upper}

-- up to a place the digits are those of the octets from that digit on
abbrev pub AreDigits : List ℕ → ℕ → List ℕ → ℕ → Type 0
AreDigits octets start digits end = (place : ℕ) → place < end → slice_index digits place ≡ slice_index (encode_upper octets) (start + place)

-- up to a place the digits are those of the octets
abbrev pub AreWritten : List ℕ → List ℕ → ℕ → Type 0
AreWritten octets digits end = AreDigits octets 0 digits end
