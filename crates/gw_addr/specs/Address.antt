-- BACnet/IP addresses (Annex J.1.2).
use Rattle.std.specs.Prelude.{◌≡◌, ℕ, ◌+◌, ◌*◌, ◌^◌, ◌<◌, List, [], ◌∷◌, ◌++◌, length, take, drop, slice_index, Result}
use Rattle.std.specs.Prelude.{Ok, Err, ◌==◌, nat_lt, if◌then◌else◌}
use Rattle.std.specs.Int.{w16, from_be_bytes, to_be_bytes}
use Rattle.std.specs.Fmt.{decimal}
use Rattle.gw_addr.specs.declared.bip.BipAddr.{BipAddr}
use Rattle.gw_addr.specs.declared.fault.OctetsFault.{OctetsFault}
use Rattle.gw_addr.specs.declared.fault.OctetsFault.TheVariants.{Length}
use Rattle.gw_addr.specs.Reading.{AreOctets}

-- an address with four octets before its port, as each value of the type has
pub record IsAddress (a : BipAddr) : Type 0 where
  pub four : length a.ip ≡ 4
  pub octets : AreOctets a.ip
  pub udp : a.udp < 2 ^ 16

-- the six octets: the IPv4 address, then the port
abbrev pub octets_of : BipAddr → List ℕ
octets_of a = a.ip ++ to_be_bytes w16 a.udp

-- the address that the first six octets are
abbrev pub address_in : List ℕ → BipAddr
address_in octets = record { ip = take 4 octets; udp = from_be_bytes w16 (take 2 (drop 4 octets)) }

-- the address of six octets, or the fault that there are not six
abbrev pub address_of : List ℕ → Result BipAddr OctetsFault
address_of octets = if length octets == 6 then Ok (address_in octets) else Err Length

-- the address that is read next, and the octets after it
abbrev pub address_at : {F : Type 0} → F → List ℕ → Result (BipAddr × List ℕ) F
address_at short octets =
    if nat_lt (length octets) 6 then Err short else Ok (address_in octets, drop 6 octets)

-- the number that octets are, the first of them the highest
abbrev pub big_endian : List ℕ → ℕ
big_endian [] = 0
big_endian (octet ∷ octets) = octet * 256 ^ length octets + big_endian octets

-- `a.b.c.d:port`
abbrev pub text_of : BipAddr → List ℕ
text_of a =
    decimal (slice_index a.ip 0)
    ++ 46 ∷ (decimal (slice_index a.ip 1)
    ++ 46 ∷ (decimal (slice_index a.ip 2)
    ++ 46 ∷ (decimal (slice_index a.ip 3)
    ++ 58 ∷ decimal a.udp)))
