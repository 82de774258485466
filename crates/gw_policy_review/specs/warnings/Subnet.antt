-- Subnets of IPv4, as far as an own and a broadcast address show them, and masks.
use Rattle.std.specs.Prelude.{ℕ, ◌+◌, ◌-◌, ◌/◌, ◌%◌, ◌^◌, ◌==◌, Bool, ◌&&◌, not, nat_le, List, map, slice_index}
use Rattle.std.specs.Int.{w32, from_be_bytes}
use Rattle.std.specs.List.{list_any, range_with_len}
use Rattle.gw_addr.specs.declared.bip.BipAddr.{BipAddr}

-- four octets as one number, the first of them the highest
abbrev pub number_of : List ℕ → ℕ
number_of octets = from_be_bytes w32 octets

-- from 224 to 239 in the first octet
abbrev pub is_multicast : BipAddr → Bool
is_multicast address = nat_le 224 (slice_index address.ip 0) && nat_le (slice_index address.ip 0) 239

-- 255.255.255.255, which broadcasts on whatever network a datagram goes out (RFC 919)
abbrev pub is_limited : BipAddr → Bool
is_limited address = number_of address.ip == 4294967295

-- how many addresses a subnet may have: the powers of 2 from 1 to 2 ^ 32
unfoldable pub sizes : List ℕ
sizes = map (λ bits. 2 ^ bits) (range_with_len 0 33)

-- A subnet of so many addresses holds this one, and its last one is that. It has at least four: of two, none is a
-- broadcast address.
abbrev pub is_subnet : ℕ → ℕ → ℕ → Bool
is_subnet address last size = nat_le 4 size && (address / size == last / size && last % size + 1 == size)

-- some subnet holds this address and has that broadcast address
abbrev pub is_broadcast_for : BipAddr → BipAddr → Bool
is_broadcast_for own broadcast = list_any (is_subnet (number_of own.ip) (number_of broadcast.ip)) sizes

-- some subnet holds this address and another one, and has that broadcast address
abbrev pub is_beside : BipAddr → BipAddr → BipAddr → Bool
is_beside own broadcast other =
    let last = number_of broadcast.ip in
    list_any (λ size. is_subnet (number_of own.ip) last size && is_subnet (number_of other.ip) last size) sizes

-- no subnet that holds the own address has this broadcast address
abbrev pub is_off_subnet : BipAddr → BipAddr → Bool
is_off_subnet own broadcast = not (is_broadcast_for own broadcast)

-- subnets hold the own address and have this broadcast address, and none of them holds the other address
abbrev pub is_elsewhere : BipAddr → BipAddr → BipAddr → Bool
is_elsewhere own broadcast other = is_broadcast_for own broadcast && not (is_beside own broadcast other)

-- A mask isn't ones and then zeros: where it is, what lacks to 2 ^ 32 is the size of a subnet.
abbrev pub has_holes : List ℕ → Bool
has_holes mask = not (list_any (λ size. 2 ^ 32 - number_of mask == size) sizes)
