-- What the words of a question mean under a configuration.
use Rattle.std.specs.Prelude.{◌≡◌, ◌⊎◌, ℕ, ◌^◌, ◌<◌, ◌==◌, Bool, true, false, nat_eq, List, length}
use Rattle.std.specs.Prelude.{Option, Some, None, IfSome, IsNone, Result, Ok, Err, codes, if◌then◌else◌}
use Rattle.std.specs.Prelude.{[], ◌∷◌, ◌||◌, drop, nat_lt, not, take}
use Rattle.std.specs.List.{after_first, before_first, position_or_len}
use Rattle.std.specs.Cmp.Lexicographic.{pointwise}
use Rattle.std.specs.Option.{option_and_then, option_map, option_map_or}
use Rattle.std.specs.Str.Parse.{IsNumeral, digits_value, without_leading_plus}
use Rattle.gw_addr.specs.Address.{IsAddress, text_of}
use Rattle.gw_addr.specs.Mask.{IsMask, mask_text}
use Rattle.gw_addr.specs.Station.{network_of, station_of}
use Rattle.hex.specs.Hex.{decode_of}
use Rattle.hex.specs.declared.error.FromHexError.{FromHexError}
use Rattle.gw_addr.specs.declared.bip.BipAddr.{BipAddr}
use Rattle.gw_addr.specs.declared.mask.Mask.{Mask}
use Rattle.gw_configuration.specs.Configuration.{Configuration}
use Rattle.gw_verdicts.specs.declared.questions.fault.PlaceFault.{PlaceFault}
use Rattle.gw_verdicts.specs.declared.questions.fault.PlaceFault.TheVariants as fault
use Rattle.gw_verdicts.specs.declared.questions.place.Spelled.{Spelled}
use Rattle.gw_verdicts.specs.declared.questions.place.Spelled.TheVariants as spelled
use Rattle.gw_verdicts.specs.declared.questions.place.Station.{Station}
use Rattle.gw_verdicts.specs.declared.questions.place.Addressee.{Addressee}
use Rattle.gw_verdicts.specs.declared.questions.place.Addressee.TheVariants as target
use Rattle.gw_verdicts.specs.questions.Places.{station_at, station_on}

-- ---- texts

abbrev pub Text : Type 0
Text = List ℕ

-- what is in front of the first such character, and what comes after it
abbrev pub parted : (c : ℕ) → Text → Option (Text × Text)
parted c text =
    if position_or_len (λ b. b == c) text == length text then None
    else Some (before_first (λ b. b == c) text, after_first (λ b. b == c) text)

-- the number of so many bits that a text is in decimal, if it is one
abbrev pub IsNumberIn : (bits : ℕ) → Text → Option ℕ → Type 0
IsNumberIn bits text (Some n) =
    IsNumeral 10 (without_leading_plus text) × (n ≡ digits_value 10 (without_leading_plus text)) × (n < 2 ^ bits)
IsNumberIn bits text None =
    ¬ (IsNumeral 10 (without_leading_plus text) × (digits_value 10 (without_leading_plus text) < 2 ^ bits))

-- ---- stations

-- an address as it is written: `a.b.c.d` has the UDP port 47808 (Annex J.1.2), and `a.b.c.d:port` that one
abbrev pub IsWritten : Text → BipAddr → Type 0
IsWritten text address =
    ((four : Mask) × IsMask four × (text ≡ mask_text four) × (address ≡ record { ip = four.octets; udp = 47808 }))
    ⊎ (text ≡ text_of address)

-- the address that a text writes, if it writes one
pub record IsAddressIn (text : Text) (found : Option BipAddr) : Type 0 where
  pub is : IfSome found (IsWritten text)
  pub without : IsNone found → (address : BipAddr) → IsAddress address → ¬ (IsWritten text address)

-- what follows `0x`
abbrev pub after_hex : Text → Option Text
after_hex text =
    if nat_lt (length text) 2 || not (pointwise nat_eq (take 2 text) (codes "0x")) then None else Some (drop 2 text)

-- the octets that pairs of hexadecimal digits write, if they are a station's
abbrev pub mac_in : Result (List ℕ) FromHexError → Option (List ℕ)
mac_in (Ok octets) = station_of octets
mac_in (Err fault) = None

-- one octet, or the octets that a text writes after `0x`
abbrev pub spelled_by : (octet : Option ℕ) → Text → Option Spelled
spelled_by (Some octet) text = Some (spelled.Octets (octet ∷ []))
spelled_by None text = option_map spelled.Octets (option_and_then (λ digits. mac_in (decode_of digits)) (after_hex text))

-- a station on its network: an address, an octet in decimal, or octets in hexadecimal
abbrev pub IsSpelledBy : Text → Option BipAddr → Option Spelled → Type 0
IsSpelledBy text (Some address) written = written ≡ Some (spelled.Address address)
IsSpelledBy text None written = (octet : Option ℕ) × IsNumberIn 8 text octet × (written ≡ spelled_by octet text)

abbrev pub IsSpelledIn : Text → Option Spelled → Type 0
IsSpelledIn text written = (address : Option BipAddr) × IsAddressIn text address × IsSpelledBy text address written

-- the network that is written before a colon, and what comes after it
abbrev pub IsNetworkIn : Text → Option ℕ → Type 0
IsNetworkIn text network = (number : Option ℕ) × IsNumberIn 16 text number × (network ≡ option_and_then network_of number)

abbrev pub IsNetworkBefore : Option (Text × Text) → Option (ℕ × Text) → Type 0
IsNetworkBefore None named = named ≡ None
IsNetworkBefore (Some parts) named =
    (network : Option ℕ) × IsNetworkIn parts.0 network × (named ≡ option_map (λ n. (n, parts.1)) network)

-- the station of this network that a text writes
abbrev pub IsSpelledStation : Configuration → ℕ → Text → Result Station PlaceFault → Type 0
IsSpelledStation c network text station =
    (written : Option Spelled) × IsSpelledIn text written
    × (station ≡ option_map_or (station_on c network) written (Err fault.Text))

-- the station whose address alone a text writes
abbrev pub IsAddressStation : Configuration → Text → Result Station PlaceFault → Type 0
IsAddressStation c text station =
    (address : Option BipAddr) × IsAddressIn text address
    × (station ≡ option_map_or (station_at c.ports) address (Err fault.Text))

abbrev pub IsStationBy : Configuration → Text → Option (ℕ × Text) → Result Station PlaceFault → Type 0
IsStationBy c text (Some named) station = IsSpelledStation c named.0 named.1 station
IsStationBy c text None station = IsAddressStation c text station

-- the station that a text names: `NETWORK:STATION`, or the address alone of a station that one port alone has; or why it
-- names none
abbrev pub IsStationOf : Configuration → Text → Result Station PlaceFault → Type 0
IsStationOf c text station =
    (named : Option (ℕ × Text)) × IsNetworkBefore (parted 58 text) named × IsStationBy c text named station

abbrev pub target_by : Result Station PlaceFault → Result Addressee PlaceFault
target_by (Ok station) = Ok (target.Station station)
target_by (Err f) = Err f

-- whom a text names: `device`, which is the gateway's own, or a station
abbrev pub IsTargetBy : Configuration → Text → (is_device : Bool) → Result Addressee PlaceFault → Type 0
IsTargetBy c text true whom = whom ≡ Ok (target.Device c.device.network)
IsTargetBy c text false whom =
    (station : Result Station PlaceFault) × IsStationOf c text station × (whom ≡ target_by station)

abbrev pub IsTargetOf : Configuration → Text → Result Addressee PlaceFault → Type 0
IsTargetOf c text whom = IsTargetBy c text (pointwise nat_eq text (codes "device")) whom

-- whom a text names, if there is one
abbrev pub IsTargetIn : Configuration → Option Text → Result Addressee PlaceFault → Type 0
IsTargetIn c (Some text) whom = IsTargetOf c text whom
IsTargetIn c None whom = whom ≡ Err fault.Nobody
