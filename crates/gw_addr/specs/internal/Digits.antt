-- Decimal digits, as they are read and written piece by piece.
use Rattle.std.specs.Prelude.{ℕ, List, [], ◌∷◌, length, Bool, false, ◌==◌, nat_le, ◌&&◌, if◌then◌else◌}

-- a digit other than 0 is first, or 0 alone
abbrev pub begins_canonical_of : List ℕ → Bool
begins_canonical_of [] = false
begins_canonical_of (first ∷ digits) =
    if first == 48 then length digits == 0 else (nat_le 49 first && nat_le first 57)
