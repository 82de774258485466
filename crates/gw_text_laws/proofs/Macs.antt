-- Items without stations that are written by their octets name what they named.
use Rattle.std.proofs.Common.{◌≡◌, ◌∙◌, ◌<◌, ◌^◌, ◌==◌, ◌||◌, ◌∷◌, [], ℕ, Bool, List, true, false, refl, ap, arith, sym, Option, Some, None, Ok, Err}
use Rattle.std.specs.Prelude.{is_some, if◌then◌else◌}
use Rattle.std.specs.List.{list_any}
use Rattle.std.specs.Option.{ok_or, option_and_then, option_map, option_map_or}
use Rattle.std.specs.Result.{result_err}
use Rattle.std.proofs.lemmas.Bool.{eq-eqb}
use Rattle.hex.specs.Hex.{decode_of}
use Rattle.toml.specs.Data.{Data, as_str}
use Rattle.gw_addr.proofs.Addresses.{keys_below}
use Rattle.gw_addr.specs.Reading.{◌>>=◌}
use Rattle.gw_addr.specs.declared.bip.BipAddr.{BipAddr}
use Rattle.gw_addr.specs.declared.mask.Mask.{Mask}
use Rattle.gw_rules.specs.declared.range.Range.{Range as RuleRange}
use Rattle.gw_configuration.specs.declared.fault.ConfigFault.TheVariants as faults
use Rattle.gw_configuration.specs.Duplicates.{key, or_else}
use Rattle.gw_configuration.specs.Located.{Read}
use Rattle.gw_policy_text.specs.keys.Items as now
use Rattle.gw_policy_text.specs.keys.Items.{address_end, addresses_written, key_with, length_of, mac_if, of_one_length, only}
use Rattle.gw_policy_text.specs.keys.Range.{is_kind, ordered}
use Rattle.gw_policy_text.specs.keys.Value.{list_in, reading}
use Rattle.gw_policy_text.specs.keys.Written.{address_written, after_mac, mac_written, mask_written, other_key}
use Rattle.gw_policy_text.proofs.keys_lemmas.Written.{address_found, mask_found}
use Rattle.gw_text_laws.specs.WithoutMacs as before

or_parts : (a b : Bool) → (a || b) ≡ false → (a ≡ false) × (b ≡ false)
or_parts true b e = absurd cc
or_parts false b e = (refl, e)

-- no such text is a station

no_mac : (every : Bool) (text : List ℕ) → is_some (after_mac text) ≡ false → mac_if every text ≡ None
unfolding mac_written
no_mac false text e = refl
no_mac true text e = by (after_mac text) e
  where
    by : (o : Option (List ℕ)) → is_some o ≡ false → option_and_then (λ pairs. other_key (decode_of pairs)) o ≡ None
    by None h = refl
    by (Some pairs) h = absurd cc

or_none : {A : Type 0} (o : Option A) → or_else o None ≡ o
or_none None = refl
or_none (Some x) = refl

abbrev is_mac_text : Option (List ℕ) → Bool
is_mac_text text = option_map_or (λ text. is_some (after_mac text)) text false

same_end : (every : Bool) (udp : ℕ) (text : Option (List ℕ)) → is_mac_text text ≡ false → reading (now.end_written every udp) text ≡ reading (address_end udp) text
same_end every udp None e = refl
same_end every udp (Some text) e =
    ap (λ (o : Option ℕ). ok_or (or_else (address_end udp text) o) faults.Range) (no_mac every text e)
    ∙ ap (λ (o : Option ℕ). ok_or o faults.Range) (or_none (address_end udp text))

same_text : (every : Bool) (text : Option (List ℕ)) → is_mac_text text ≡ false → reading (now.stations_written every) text ≡ reading addresses_written text
same_text every None e = refl
same_text every (Some text) e =
    ap (λ (o : Option ℕ). ok_or (or_else (addresses_written text) (option_map only o)) faults.Range) (no_mac every text e)
    ∙ ap (λ (o : Option RuleRange). ok_or o faults.Range) (or_none (addresses_written text))

-- keys of six octets are of one length

small : (n : ℕ) → n < 2 ^ 48 → length_of n ≡ 0
small n below = omega (arith, below)

end_small : (udp : ℕ) (text : List ℕ) (n : ℕ) → udp < 65536 → address_end udp text ≡ Some n → n < 2 ^ 48
end_small udp text n fits e = by (address_written text) refl (mask_written text) refl e
  where
    by : (a : Option BipAddr) → address_written text ≡ a → (m : Option Mask) → mask_written text ≡ m → or_else (option_map key a) (option_map (key_with udp) m) ≡ Some n → n < 2 ^ 48
    by (Some address) ea m em h =
        let same : key address ≡ n = cc in
        let below = keys_below address (address_found text address ea).0 in
        omega (arith, same, below)
    by None ea (Some ip) em h =
        let same : key_with udp ip ≡ n = cc in
        let is = (mask_found text ip em).0 in
        let below = keys_below (record { ip = ip.octets; udp = udp }) (record { four = is.four; octets = is.octets; udp = fits }) in
        omega (arith, same, below)
    by None ea None em h = absurd cc

read_small : (udp : ℕ) (text : Option (List ℕ)) (n : ℕ) → udp < 65536 → reading (address_end udp) text ≡ Ok n → n < 2 ^ 48
read_small udp None n fits e = absurd cc
read_small udp (Some text) n fits e = by (address_end udp text) refl e
  where
    by : (o : Option ℕ) → address_end udp text ≡ o → ok_or o faults.Range ≡ Ok n → n < 2 ^ 48
    by None is h = absurd cc
    by (Some m) is h = let same : m ≡ n = cc in end_small udp text n fits (is ∙ ap (λ (k : ℕ). Some k) same)

one_length : (low high : ℕ) → low < 2 ^ 48 → high < 2 ^ 48 → of_one_length low high ≡ ordered low high
one_length low high l h =
    let same : (length_of low == length_of high) ≡ true = eq-eqb (length_of low) (length_of high) (small low l ∙ sym (small high h)) in
    ap (λ (b : Bool). if b then ordered low high else Err faults.Range) same

-- lists of two

same_from : (every : Bool) (low high : Data) → before.is_mac low ≡ false → before.is_mac high ≡ false → now.stations_from every low high ≡ before.stations_from low high
same_from every low high e f =
    ap (λ (r : Read ℕ). r >>= λ l. now.end_in every 65535 high >>= λ h. of_one_length l h) (same_end every 0 (as_str low) e)
    ∙ ap (λ (r : Read ℕ). before.end_in 0 low >>= λ l. r >>= λ h. of_one_length l h) (same_end every 65535 (as_str high) f)
    ∙ by (before.end_in 0 low) refl (before.end_in 65535 high) refl
  where
    by : (l : Read ℕ) → before.end_in 0 low ≡ l → (h : Read ℕ) → before.end_in 65535 high ≡ h → (l >>= λ x. h >>= λ y. of_one_length x y) ≡ (l >>= λ x. h >>= λ y. ordered x y)
    by (Err fault) el h eh = refl
    by (Ok x) el (Err fault) eh = refl
    by (Ok x) el (Ok y) eh = one_length x y (read_small 0 (as_str low) x (omega arith) el) (read_small 65535 (as_str high) y (omega arith) eh)

same_kinds : (every : Bool) (ends : List Data) → list_any before.is_mac ends ≡ false
    → list_any (λ value. is_kind (result_err (now.end_in every 0 value))) ends ≡ list_any (λ value. is_kind (result_err (before.end_in 0 value))) ends
same_kinds every [] e = refl
same_kinds every (value ∷ ends) e =
    let parts = or_parts (before.is_mac value) (list_any before.is_mac ends) e in
    let here : now.end_in every 0 value ≡ before.end_in 0 value = same_end every 0 (as_str value) parts.0 in
    ap (λ (r : Read ℕ). is_kind (result_err r) || list_any (λ value. is_kind (result_err (now.end_in every 0 value))) ends) here
    ∙ ap (λ (b : Bool). is_kind (result_err (before.end_in 0 value)) || b) (same_kinds every ends parts.1)

same_ends : (every : Bool) (ends : List Data) → list_any before.is_mac ends ≡ false → now.station_ends every ends ≡ before.station_ends ends
same_ends every [] e = refl
same_ends every (low ∷ []) e = refl
same_ends every (low ∷ high ∷ []) e =
    let first = or_parts (before.is_mac low) (list_any before.is_mac (high ∷ [])) e in
    let second = or_parts (before.is_mac high) false first.1 in
    same_from every low high first.0 second.0
same_ends every (low ∷ high ∷ more ∷ ends) e = refl

same_between : (every : Bool) (ends : List Data) → list_any before.is_mac ends ≡ false → now.stations_between every ends ≡ before.stations_between ends
same_between every ends e =
    ap (λ (b : Bool). if b then Err faults.Kind else now.station_ends every ends) (same_kinds every ends e)
    ∙ ap (λ (r : Read RuleRange). if list_any (λ value. is_kind (result_err (before.end_in 0 value))) ends then Err faults.Kind else r) (same_ends every ends e)

pub as_before : before.StationsAreAsBefore
as_before every value e = by (list_in value) parts.1
  where
    parts : (before.is_mac value ≡ false) × (before.has_mac (list_in value) ≡ false)
    parts = or_parts (before.is_mac value) (before.has_mac (list_in value)) e

    by : (r : Read (List Data)) → before.has_mac r ≡ false → now.stations_or every value r ≡ before.stations_or value r
    by (Ok ends) h = same_between every ends h
    by (Err fault) h = same_text every (as_str value) parts.0
