-- No range of stations holds keys of two lengths.
use Rattle.std.proofs.Common.{◌≡◌, ◌∙◌, ◌+◌, ◌-◌, ◌*◌, ◌/◌, ◌<◌, ◌≤◌, ◌^◌, ◌==◌, ◌∷◌, [], ℕ, Bool, List, true, false, refl, ap, arith, sym, Option, Some, None, Ok, Err, nat_le, cond}
use Rattle.std.specs.Prelude.{if◌then◌else◌}
use Rattle.std.specs.List.{list_any}
use Rattle.std.specs.Option.{ok_or, option_map}
use Rattle.std.specs.Result.{result_err}
use Rattle.std.proofs.lemmas.Bool.{eqb-true}
use Rattle.std.proofs.lemmas.Option.{cond_some}
use Rattle.toml.specs.Data.{Data, as_str}
use Rattle.gw_addr.proofs.Addresses.{keys_below}
use Rattle.gw_addr.proofs.Reading.{bind_ok, ok_is}
use Rattle.gw_addr.specs.Address.{IsAddress}
use Rattle.gw_addr.specs.Mask.{IsMask}
use Rattle.gw_addr.specs.Reading.{◌>>=◌}
use Rattle.gw_addr.specs.declared.bip.BipAddr.{BipAddr}
use Rattle.gw_addr.specs.declared.mask.Mask.{Mask}
use Rattle.gw_rules.specs.declared.range.Range.{Range}
use Rattle.gw_configuration.specs.declared.fault.ConfigFault.TheVariants as faults
use Rattle.gw_configuration.specs.Duplicates.{key, or_else}
use Rattle.gw_configuration.specs.Located.{Read}
use Rattle.gw_configuration.specs.Subnet.{IsSubnet, Subnet, keys_of, size_of}
use Rattle.gw_configuration.proofs.Keys.{last_key}
use Rattle.gw_policy_text.specs.keys.Items.{addresses_written, end_in, key_with, keys_of_host, length_of, mac_if, of_one_length, only, station_ends, stations_between, stations_from, stations_in, stations_or, stations_written}
use Rattle.gw_policy_text.specs.keys.Laws.{HaveOneLength}
use Rattle.gw_policy_text.specs.keys.Range.{is_kind, ordered}
use Rattle.gw_policy_text.specs.keys.Value.{list_in, reading}
use Rattle.gw_policy_text.specs.keys.Written.{address_written, mask_written, subnet_written}
use Rattle.gw_policy_text.proofs.keys_lemmas.Written.{mask_found, subnet_is}

-- small keys are those of six octets
small : (n : ℕ) → n < 2 ^ 48 → length_of n ≡ 0
small n below = omega (arith, below)

abbrev HasOne : Range → Type 0
HasOne range = length_of range.low ≡ length_of range.high

-- two ends
ends : (low high : ℕ) (range : Range) → of_one_length low high ≡ Ok range → HasOne range
ends low high range e = by (length_of low == length_of high) refl e
  where
    on : (b : Bool) → length_of low ≡ length_of high → (if b then Ok (record { low = low; high = high }) else Err faults.Range) ≡ Ok range → HasOne range
    on true same h = let is : record { low = low; high = high } ≡ range = ok_is _ _ h in ap (λ (r : Range). length_of r.low) (sym is) ∙ same ∙ ap (λ (r : Range). length_of r.high) is
    on false same h = absurd cc

    by : (b : Bool) → (length_of low == length_of high) ≡ b → (if b then ordered low high else Err faults.Range) ≡ Ok range → HasOne range
    by true t h = on (nat_le low high) (eqb-true (length_of low) (length_of high) t) h
    by false t h = absurd cc

between : (every : Bool) (low high : Data) (range : Range) → stations_from every low high ≡ Ok range → HasOne range
between every low high range e =
    let l = bind_ok (end_in every 0 low) _ range e in
    let h = bind_ok (end_in every 65535 high) _ range l.2 in
    ends l.0 h.0 range h.2

listed : (every : Bool) (values : List Data) (range : Range) → stations_between every values ≡ Ok range → HasOne range
listed every values range e = by (list_any (λ value. is_kind (result_err (end_in every 0 value))) values) values e
  where
    by : (b : Bool) (values : List Data) → (if b then Err faults.Kind else station_ends every values) ≡ Ok range → HasOne range
    by true values h = absurd cc
    by false [] h = absurd cc
    by false (low ∷ []) h = absurd cc
    by false (low ∷ high ∷ []) h = between every low high range h
    by false (low ∷ high ∷ more ∷ values) h = absurd cc

-- a text

host : (ip : Mask) → IsMask ip → HasOne (keys_of_host ip)
host ip is =
    let first = keys_below (record { ip = ip.octets; udp = 0 }) (record { four = is.four; octets = is.octets; udp = omega arith }) in
    let last = keys_below (record { ip = ip.octets; udp = 65535 }) (record { four = is.four; octets = is.octets; udp = omega arith }) in
    small (key_with 0 ip) first ∙ sym (small (key_with 65535 ip) last)

subnet : (s : Subnet) → IsSubnet s → HasOne (keys_of s)
subnet s is =
    let last = last_key s.network s.prefix is.short is.network is.zeros in
    let below = is.network in
    small (s.network * 65536) (omega (arith, below)) ∙ sym (small ((s.network + size_of s.prefix) * 65536 - 1) last)

found : (o : Option Range) (range made : Range) → HasOne made → o ≡ Some made → o ≡ Some range → HasOne range
found o range made one is e = let same : made ≡ range = cc in ap (λ (r : Range). length_of r.low) (sym same) ∙ one ∙ ap (λ (r : Range). length_of r.high) same

written : (every : Bool) (text : List ℕ) (range : Range) → stations_written every text ≡ Some range → HasOne range
written every text range e = by (address_written text) (mask_written text) refl (subnet_written text) refl (mac_if every text) e
  where
    by : (a : Option BipAddr) (m : Option Mask) → mask_written text ≡ m → (s : Option Subnet) → subnet_written text ≡ s → (k : Option ℕ)
        → or_else (or_else (option_map (λ address. only (key address)) a) (or_else (option_map keys_of_host m) (option_map keys_of s))) (option_map only k) ≡ Some range → HasOne range
    by (Some address) m em s es k h = found _ range (only (key address)) refl refl h
    by None (Some ip) em s es k h = found _ range (keys_of_host ip) (host ip (mask_found text ip em).0) refl h
    by None None em (Some net) es k h = found _ range (keys_of net) (subnet net (subnet_is text net es).0) refl h
    by None None em None es (Some number) h = found _ range (only number) refl refl h
    by None None em None es None h = absurd cc

single : (every : Bool) (text : Option (List ℕ)) (range : Range) → reading (stations_written every) text ≡ Ok range → HasOne range
single every None range e = absurd cc
single every (Some text) range e = by (stations_written every text) refl e
  where
    by : (o : Option Range) → stations_written every text ≡ o → ok_or o faults.Range ≡ Ok range → HasOne range
    by None is h = absurd cc
    by (Some r) is h = written every text range (is ∙ ap (λ (x : Range). Some x) (ok_is _ _ h))

pub have_one_length : HaveOneLength
have_one_length every value range e = by (list_in value) e
  where
    by : (r : Read (List Data)) → stations_or every value r ≡ Ok range → HasOne range
    by (Ok values) h = listed every values range h
    by (Err fault) h = single every (as_str value) range h
