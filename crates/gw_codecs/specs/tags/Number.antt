-- Numbers in one to four octets (ISO 16484-5, clauses 20.2.4 and 20.2.5).
use Rattle.std.specs.Prelude.{◌≡◌, ℕ, ◌*◌, ◌-◌, ◌<◌, ◌≤◌, ◌^◌, List, length, drop, nat_lt, nat_le, ◌&&◌, if◌then◌else◌}
use Rattle.std.specs.Prelude.{Option, Some, None, ℤ, pos, negsuc, suc}
use Rattle.std.specs.Int.{w32, to_be_bytes, cast_unsigned}
use Rattle.gw_addr.specs.Address.{big_endian}
use Rattle.gw_addr.specs.Reading.{AreOctets}

-- a number in one to four octets, the most significant first
pub record EncodesUnsigned (octets : List ℕ) (n : ℕ) : Type 0 where
  pub least : 1 ≤ length octets
  pub most : length octets ≤ 4
  pub octets_fit : AreOctets octets
  pub number : n ≡ big_endian octets

-- the number of octets in two's complement: if the highest bit is set, less the next power of
-- 256
abbrev pub twos_complement : List ℕ → ℤ
twos_complement octets =
    if nat_lt (2 * big_endian octets) (256 ^ length octets) then pos (big_endian octets)
    else negsuc (256 ^ length octets - suc (big_endian octets))

-- a number in one to four octets in two's complement
pub record EncodesSigned (octets : List ℕ) (z : ℤ) : Type 0 where
  pub least : 1 ≤ length octets
  pub most : length octets ≤ 4
  pub octets_fit : AreOctets octets
  pub number : z ≡ twos_complement octets

-- the fewest octets that hold a number
abbrev pub octet_count : ℕ → ℕ
octet_count n = if nat_lt n 256 then 1 else (if nat_lt n 65536 then 2
    else (if nat_lt n 16777216 then 3 else 4))

-- a number without leading zero octets
abbrev pub unsigned_encoding : ℕ → List ℕ
unsigned_encoding n = drop (4 - octet_count n) (to_be_bytes w32 n)

-- the fewest octets that hold a number and its sign
abbrev pub magnitude_count : ℕ → ℕ
magnitude_count n = if nat_lt n 128 then 1 else (if nat_lt n 32768 then 2
    else (if nat_lt n 8388608 then 3 else 4))

abbrev pub signed_count : ℤ → ℕ
signed_count (pos n) = magnitude_count n
signed_count (negsuc n) = magnitude_count n

-- a number in two's complement, without octets that only repeat its sign
abbrev pub signed_encoding : ℤ → List ℕ
signed_encoding z = drop (4 - signed_count z) (to_be_bytes w32 (cast_unsigned w32 z))

-- which numbers have an encoding: 32 bits, the sign among them
abbrev pub IsSigned : ℤ → Type 0
IsSigned (pos n) = n < 2 ^ 31
IsSigned (negsuc n) = n < 2 ^ 31

-- the number of octets, if there are one to four
abbrev pub unsigned_of : List ℕ → Option ℕ
unsigned_of octets =
    if nat_le 1 (length octets) && nat_le (length octets) 4 then Some (big_endian octets)
    else None

abbrev pub signed_of : List ℕ → Option ℤ
signed_of octets =
    if nat_le 1 (length octets) && nat_le (length octets) 4 then Some (twos_complement octets)
    else None
