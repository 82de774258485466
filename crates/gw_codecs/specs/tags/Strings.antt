-- Which octets a character string and a bit string may have (ISO 16484-5, clauses 20.2.9 and
-- 20.2.10).
use Rattle.std.specs.Prelude.{◌≡◌, ℕ, Bool, true, List, nat_lt, ◌==◌, ◌||◌, ◌&&◌}
use Rattle.std.specs.Str.{is_utf8}

-- the octets of character set 0 are UTF-8; those of another set are not looked at
abbrev pub IsText : ℕ → List ℕ → Type 0
IsText charset octets = charset ≡ 0 → is_utf8 octets ≡ true

-- 0 to 7 bits of the last octet are unused, and none if there is no octet
abbrev pub is_unused : ℕ → ℕ → Bool
is_unused unused count = nat_lt unused 8 && (nat_lt 0 count || unused == 0)
