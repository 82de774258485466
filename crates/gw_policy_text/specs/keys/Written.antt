-- Addresses, masks, subnets and stations as they are written.
use Rattle.std.specs.Prelude.{ℕ, List, [], ◌∷◌, length, take, drop, codes, Bool, ◌&&◌, ◌||◌, ◌==◌, not, nat_eq, nat_lt, if◌then◌else◌}
use Rattle.std.specs.Prelude.{Option, Some, None, option_map, Result, Ok, Err}
use Rattle.std.specs.Cmp.Lexicographic.{pointwise}
use Rattle.std.specs.Option.{option_and_then}
use Rattle.std.specs.Str.{all_ascii_digits}
use Rattle.std.specs.Str.Parse.{digits_value}
use Rattle.gw_addr.specs.internal.Digits.{begins_canonical_of}
use Rattle.hex.specs.Hex.{decode_of}
use Rattle.hex.specs.declared.error.FromHexError.{FromHexError}
use Rattle.gw_addr.specs.Station.{key_of}
use Rattle.gw_addr.specs.declared.bip.BipAddr.{BipAddr}
use Rattle.gw_addr.specs.declared.mask.Mask.{Mask}
use Rattle.gw_configuration.specs.Subnet.{Subnet, subnet_of}

-- decimal digits without leading zeros
abbrev pub is_decimal : List ℕ → Bool
is_decimal text = begins_canonical_of text && all_ascii_digits text

-- the number below the bound that is written so
abbrev pub number_written : ℕ → List ℕ → Option ℕ
number_written bound text =
    if is_decimal text && nat_lt (digits_value 10 text) bound then Some (digits_value 10 text) else None

-- the text before the first such character, and the text after it
abbrev pub split_at : ℕ → List ℕ → Option (List ℕ × List ℕ)
split_at separator [] = None
split_at separator (c ∷ text) =
    if c == separator then Some ([], text) else option_map (λ parts. (c ∷ parts.0, parts.1)) (split_at separator text)

-- the octet that is written before the first such character, and what follows it
abbrev pub octet_written : ℕ → List ℕ → Option (ℕ × List ℕ)
octet_written separator text =
    option_and_then (λ parts. option_map (λ octet. (octet, parts.1)) (number_written 256 parts.0))
    (split_at separator text)

-- the address that is written `a.b.c.d:port`
unfoldable pub address_written : List ℕ → Option BipAddr
address_written text =
    option_and_then (λ a. option_and_then (λ b. option_and_then (λ c. option_and_then (λ d.
    option_map (λ udp. record { ip = a.0 ∷ b.0 ∷ c.0 ∷ d.0 ∷ []; udp = udp })
    (number_written 65536 d.1)) (octet_written 58 c.1)) (octet_written 46 b.1)) (octet_written 46 a.1))
    (octet_written 46 text)

-- the mask that is written `a.b.c.d`
unfoldable pub mask_written : List ℕ → Option Mask
mask_written text =
    option_and_then (λ a. option_and_then (λ b. option_and_then (λ c.
    option_map (λ d. record { octets = a.0 ∷ b.0 ∷ c.0 ∷ d ∷ [] })
    (number_written 256 c.1)) (octet_written 46 b.1)) (octet_written 46 a.1)) (octet_written 46 text)

-- the subnet that is written `a.b.c.d/n`
unfoldable pub subnet_written : List ℕ → Option Subnet
subnet_written text =
    option_and_then (λ parts. option_and_then (λ ip. option_and_then (subnet_of ip.octets)
    (number_written 33 parts.1)) (mask_written parts.0)) (split_at 47 text)

-- what follows `mac:`
abbrev pub after_mac : List ℕ → Option (List ℕ)
after_mac text =
    if nat_lt (length text) 4 || not (pointwise nat_eq (take 4 text) (codes "mac:")) then None else Some (drop 4 text)

-- the key of a station of another length than six octets
abbrev pub other_key : Result (List ℕ) FromHexError → Option ℕ
other_key (Ok octets) = if length octets == 6 then None else key_of octets
other_key (Err fault) = None

-- the key of the station that is written `mac:` and its octets in pairs of hexadecimal digits of either case, which aren't six
unfoldable pub mac_written : List ℕ → Option ℕ
mac_written text = option_and_then (λ pairs. other_key (decode_of pairs)) (after_mac text)
