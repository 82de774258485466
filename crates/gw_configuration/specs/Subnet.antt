-- Subnets of IPv4 addresses.
use Rattle.std.specs.Prelude.{ℕ, ◌+◌, ◌-◌, ◌*◌, ◌/◌, ◌%◌, ◌^◌, ◌≡◌, ◌≤◌, ◌<◌, ◌==◌, ◌&&◌, ◌++◌, Bool, nat_le, if◌then◌else◌}
use Rattle.std.specs.Prelude.{List, ◌∷◌, decimal, Option, Some, None}
use Rattle.std.specs.Int.{from_be_bytes, to_be_bytes, w32}
use Rattle.gw_addr.specs.declared.bip.BipAddr.{BipAddr}
use Rattle.gw_addr.specs.Text.{four_text}
use Rattle.gw_rules.specs.declared.range.Range.{Range}

-- the IPv4 addresses whose first bits, so many, are those of the network, which has no bits after them
pub record Subnet : Type 0 where
  pub network : ℕ
  pub prefix : ℕ

-- how many IPv4 addresses have the same first bits, so many
abbrev pub size_of : ℕ → ℕ
size_of prefix = 2 ^ (32 - prefix)

-- the first bits of an IPv4 address, so many
abbrev pub first_bits : ℕ → ℕ → ℕ
first_bits prefix ip = ip / size_of prefix

-- each value of the type is so
pub record IsSubnet (s : Subnet) : Type 0 where
  pub short : s.prefix ≤ 32
  pub network : s.network < 2 ^ 32
  pub zeros : s.network % size_of s.prefix ≡ 0

-- the subnet of four octets of which the first bits count, so many; none if a bit after them is set
abbrev pub subnet_of : List ℕ → ℕ → Option Subnet
subnet_of ip prefix =
    if nat_le prefix 32 && (from_be_bytes w32 ip % size_of prefix == 0)
    then Some (record { network = from_be_bytes w32 ip; prefix = prefix }) else None

-- a subnet has an address if the first bits of its IPv4 address are those of the network
unfoldable pub subnet_holds : Subnet → BipAddr → Bool
subnet_holds s address = first_bits s.prefix (from_be_bytes w32 address.ip) == first_bits s.prefix s.network

-- the keys of the subnet's addresses at every UDP port (Annex J.1.2)
abbrev pub keys_of : Subnet → Range
keys_of s = record { low = s.network * 65536; high = (s.network + size_of s.prefix) * 65536 - 1 }

-- `a.b.c.d/n`
abbrev pub subnet_text : Subnet → List ℕ
subnet_text s = four_text (to_be_bytes w32 s.network) ++ 47 ∷ decimal s.prefix
