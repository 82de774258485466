-- Stations that are written by their octets.
use Rattle.std.proofs.Common.{◌≡◌, ◌∙◌, ◌*◌, ◌/◌, ◌^◌, ◌<◌, ◌≤◌, ◌==◌, ◌&&◌, ◌+◌, ℕ, Bool, List, true, false, length, refl, ap, arith, sym, nat_le, Option, Some, None, Result, Ok, Err}
use Rattle.std.specs.Prelude.{IfSome, if◌then◌else◌}
use Rattle.std.proofs.lemmas.Bool.{and_from, and_parts, eq-eqb, le-leb, leb-false, leb-true, ne_eqb}
use Rattle.std.proofs.lemmas.Option.{cond_some}
use Rattle.hex.specs.Hex.{decode_of}
use Rattle.hex.specs.declared.error.FromHexError.{FromHexError}
use Rattle.hex.proofs.HexLemmas.{decode_of-ok}
use Rattle.gw_addr.proofs.Keys.{keys_of_others, keys_of_six, keys_of_six_below}
use Rattle.gw_addr.specs.Address.{big_endian}
use Rattle.gw_addr.specs.Reading.{AreOctets}
use Rattle.gw_addr.specs.Station.{has_key, key48, key_base, key_of}
use Rattle.gw_rules.specs.Range.{holds}
use Rattle.gw_policy_text.specs.keys.Written.{other_key}

pub six_octets : (digits : List ℕ) → length digits / 2 ≡ 6 → None ≡ other_key (decode_of digits)
six_octets digits six = by (decode_of digits) refl
  where
    by : (r : Result (List ℕ) FromHexError) → decode_of digits ≡ r → None ≡ other_key r
    by (Err fault) e = refl
    by (Ok octets) e =
        let ok = decode_of-ok digits octets e in
        let same : (length octets == 6) ≡ true = eq-eqb (length octets) 6 (omega (arith, ok.2, six)) in
        rw same refl

no_key : (octets : List ℕ) → 7 < length octets → key_of octets ≡ None
no_key octets many =
    let long : nat_le (length octets) 7 ≡ false = over (length octets) many in
    on (nat_le 1 (length octets)) (nat_le (length octets) 7) long
  where
    over : (n : ℕ) → 7 < n → nat_le n 7 ≡ false
    over n h = decided (nat_le n 7) refl
      where
        decided : (b : Bool) → nat_le n 7 ≡ b → nat_le n 7 ≡ false
        decided true e = let small : n ≤ 7 = leb-true n 7 e in absurd (omega (arith, h, small))
        decided false e = e

    on : (some few : Bool) → few ≡ false → (if some && few then Some (key_base (length octets) + big_endian octets) else None) ≡ None
    on true few e = rw e refl
    on false few e = refl

pub many_octets : (digits : List ℕ) → 7 < length digits / 2 → None ≡ other_key (decode_of digits)
many_octets digits many = by (decode_of digits) refl
  where
    on : (b : Bool) (o : Option ℕ) → o ≡ None → None ≡ (if b then None else o)
    on true o e = refl
    on false o e = sym e

    by : (r : Result (List ℕ) FromHexError) → decode_of digits ≡ r → None ≡ other_key r
    by (Err fault) e = refl
    by (Ok octets) e =
        let ok = decode_of-ok digits octets e in
        on (length octets == 6) (key_of octets) (no_key octets (omega (arith, ok.2, many)))

-- a key is at most the last one
keyed_below : (octets : List ℕ) (n : ℕ) → AreOctets octets → key_of octets ≡ Some n → n ≤ 576460752303423487
keyed_below octets n fits e = by (length octets == 6) refl
  where
    short : length octets ≤ 7
    short =
        let c = cond_some (nat_le 1 (length octets) && nat_le (length octets) 7) (key_base (length octets) + big_endian octets) n e in
        leb-true (length octets) 7 (and_parts (nat_le 1 (length octets)) (nat_le (length octets) 7) c.0).1

    by : (b : Bool) → (length octets == 6) ≡ b → n ≤ 576460752303423487
    by true six =
        let own : key48 octets ≡ Some (big_endian octets) = rw six refl in
        let same : n ≡ big_endian octets = keys_same own in
        let below = keys_of_six_below octets (big_endian octets) fits own in
        omega (arith, same, below)
      where
        keys_same : key48 octets ≡ Some (big_endian octets) → n ≡ big_endian octets
        keys_same own = let is : Some (big_endian octets) ≡ Some n = sym (keys_of_six octets (big_endian octets) own) ∙ e in cc
    by false other =
        let none : key48 octets ≡ None = rw other refl in
        let lies = keys_of_others octets n fits none e in
        omega (arith, lies.1, short)

pub key_held : (o : Option ℕ) (digits : List ℕ) → o ≡ other_key (decode_of digits) → IfSome o (λ n. holds n (record { low = 0; high = 576460752303423487 }) ≡ true)
key_held None digits e = tt
key_held (Some n) digits e = by (decode_of digits) refl (sym e)
  where
    held : n ≤ 576460752303423487 → holds n (record { low = 0; high = 576460752303423487 }) ≡ true
    held most = and_from (nat_le 0 n) (nat_le n 576460752303423487) (le-leb 0 n (omega arith)) (le-leb n 576460752303423487 most)

    by : (r : Result (List ℕ) FromHexError) → decode_of digits ≡ r → other_key r ≡ Some n → holds n (record { low = 0; high = 576460752303423487 }) ≡ true
    by (Err fault) d h = absurd cc
    by (Ok octets) d h =
        let ok = decode_of-ok digits octets d in
        on (length octets == 6) h ok.3
      where
        on : (b : Bool) → (if b then None else key_of octets) ≡ Some n → AreOctets octets → holds n (record { low = 0; high = 576460752303423487 }) ≡ true
        on true f fits = absurd cc
        on false f fits = held (keyed_below octets n fits f)
