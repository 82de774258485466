-- Pairs of digits that are read without a look back: whether all of them were digits is checked at the end.
use Rattle.std.specs.Prelude.{◌≡◌, ℕ, ◌+◌, ◌*◌, ◌<◌, ◌≤◌, List, slice_index, Some, None, Ok, IsErr}
use Rattle.hex.specs.Hex.{decode_of, hex_digit_value, pair_value}

-- the value of a digit, or a number over 15 where the character is none
pub record IsValue (character value : ℕ) : Type 0 where
  pub digit : value < 16 → hex_digit_value character ≡ Some value
  pub other : 16 ≤ value → hex_digit_value character ≡ None

-- an octet of two digits
abbrev pub IsPair : List ℕ → List ℕ → ℕ → Type 0
IsPair text octets place =
    pair_value (slice_index text (2 * place)) (slice_index text (2 * place + 1)) (2 * place) ≡ Ok (slice_index octets place)

-- Up to a place, where this is the largest value: each octet is that of its digits, or one of them is none.
pub record IsReadTo (text octets : List ℕ) (end largest : ℕ) : Type 0 where
  pub read : largest < 16 → (place : ℕ) → place < end → IsPair text octets place
  pub refused : 16 ≤ largest → IsErr (decode_of text)
