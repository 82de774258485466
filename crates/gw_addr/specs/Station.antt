-- Network numbers and the addresses of stations (clauses 6.1, 6.2.2 and 6.3).
use Rattle.std.specs.Prelude.{ℕ, ◌+◌, ◌-◌, ◌*◌, ◌/◌, ◌%◌, Bool, List, [], ◌∷◌, length, take, drop, slice_index, nat_lt, Option, Some, None, nat_le, ◌==◌}
use Rattle.std.specs.Prelude.{◌&&◌, if◌then◌else◌}
use Rattle.std.specs.Int.{w64, to_be_bytes}
use Rattle.std.specs.List.{list_all}
use Rattle.gw_addr.specs.Address.{big_endian}

-- a network number: 1 to 65534
abbrev pub is_network : ℕ → Bool
is_network n = nat_le 1 n && nat_le n 65534

abbrev pub network_of : ℕ → Option ℕ
network_of n = if is_network n then Some n else None

-- a station's address on its network: 1 to 255 octets
abbrev pub is_station : List ℕ → Bool
is_station octets = nat_le 1 (length octets) && nat_le (length octets) 255

abbrev pub station_of : List ℕ → Option (List ℕ)
station_of octets = if is_station octets then Some octets else None

-- a station that has a key: one of one to seven octets
abbrev pub has_key : List ℕ → Bool
has_key octets = nat_le 1 (length octets) && nat_le (length octets) 7

-- What is added to the number of so many octets, so that no two stations share a key: nothing to that of six, which each
-- node of a BACnet/IP network has, else their count times 2 to the power of 56.
abbrev pub key_base : ℕ → ℕ
key_base count = if count == 6 then 0 else count * 72057594037927936

-- the key of a station, of which each of one to seven octets has its own
abbrev pub key_of : List ℕ → Option ℕ
key_of octets = if has_key octets then Some (key_base (length octets) + big_endian octets) else None

-- the count of octets that the highest octet of a key says
abbrev pub counted : ℕ → ℕ
counted high = if high == 0 then 6 else if high == 6 then 0 else high

-- the octets of the station whose key is a number of these eight octets: the highest says how many, and all others are zero
abbrev pub octets_keyed : ℕ → List ℕ → Option (List ℕ)
octets_keyed count octets =
    if (nat_le 1 count && nat_le count 7) && list_all (λ octet. octet == 0) (take (7 - count) (drop 1 octets))
    then Some (drop (8 - count) octets)
    else None

-- the octets of the station that has this key, or none if no station has it
abbrev pub station_at : ℕ → Option (List ℕ)
station_at key = let octets = to_be_bytes w64 key in octets_keyed (counted (slice_index octets 0)) octets

-- the number of six octets, if there are six
abbrev pub key48 : List ℕ → Option ℕ
key48 octets = if length octets == 6 then Some (big_endian octets) else None

-- the upper-case hexadecimal digit of a number below 16
abbrev pub digit_of : ℕ → ℕ
digit_of n = if nat_lt n 10 then 48 + n else 55 + n

-- an octet as two hexadecimal digits
abbrev pub two_digits : ℕ → List ℕ
two_digits octet = digit_of (octet / 16) ∷ digit_of (octet % 16) ∷ []
