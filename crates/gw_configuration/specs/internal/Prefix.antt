-- Numbers of one or two digits, as they are read digit by digit.
use Rattle.std.specs.Prelude.{ℕ, ◌+◌, ◌-◌, ◌*◌, ◌&&◌, nat_eq, nat_le, if◌then◌else◌, List, [], ◌∷◌, Option, Some, None}
use Rattle.std.specs.Option.{option_and_then}

-- the number that a digit is
abbrev pub digit_of : ℕ → Option ℕ
digit_of octet = if nat_le 48 octet && nat_le octet 57 then Some (octet - 48) else None

-- the number of two digits, the first of which isn't 0
abbrev pub two_digits_of : ℕ → ℕ → Option ℕ
two_digits_of tens digit = if nat_eq tens 0 then None else Some (10 * tens + digit)

-- the number of one or two digits that is written so
abbrev pub prefix_of : List ℕ → Option ℕ
prefix_of (digit ∷ []) = digit_of digit
prefix_of (tens ∷ digit ∷ []) = option_and_then (λ t. option_and_then (two_digits_of t) (digit_of digit)) (digit_of tens)
prefix_of _ = None
