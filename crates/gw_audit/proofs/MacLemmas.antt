-- The octets of a station: the digits that are read are those that are written.
use Rattle.std.proofs.Common.{◌≡◌, ℕ, ◌+◌, ◌-◌, ◌*◌, ◌/◌, ◌%◌, ◌<◌, Bool, true, false, List, [], ◌∷◌, ◌++◌, length, Option, Some, None, Result, Ok, Err, refl, sym, ap, subst, ◌∙◌, arith}
use Rattle.std.specs.Prelude.{◌==◌, ◌&&◌, nat_le, if◌then◌else◌, slice_index}
use Rattle.std.specs.List.{flat_map, list_any}
use Rattle.std.proofs.lemmas.Bool.{agree_below_at, eqb-true, or_parts}
use Rattle.std.proofs.lemmas.Bool.Decides.{nat_tests}
use Rattle.std.proofs.lemmas.List.Concat.{flat_map-cons}
use Rattle.hex.specs.Hex.{decode_of, decode_pairs, digit_or_error, encode_upper, encode_with, hex_digit_value, upper_digits, ◌>>=◌}
use Rattle.hex.specs.declared.error.FromHexError.{FromHexError}
use Rattle.hex.proofs.HexLemmas.{decode_of-encode_upper, decode_of-even, decode_of-ok}
use Rattle.gw_addr.specs.Reading.{AreOctets}
use Rattle.gw_addr.specs.Station.{digit_of, is_station, station_of, two_digits}
use Rattle.gw_addr.proofs.Reading.{AreOctets-rest, ok_is}
use Rattle.gw_audit.specs.internal.Reading.{is_lower, mac_in, station_in}
use Rattle.gw_audit.proofs.ReadingLemmas.{some_is}

-- ---- a digit

upper_digit : (n : ℕ) → n < 16 → slice_index upper_digits n ≡ digit_of n
upper_digit n small =
    eqb-true (slice_index upper_digits n) (digit_of n)
    (agree_below_at (λ k. slice_index upper_digits k == digit_of k) (λ k. true) 16 n refl small)

not_lower : (n : ℕ) → n < 16 → is_lower (digit_of n) ≡ false
not_lower n small = agree_below_at (λ k. is_lower (digit_of k)) (λ k. false) 16 n refl small

record IsDigit (c v : ℕ) : Type 0 where
  written : c ≡ digit_of v
  small : v < 16

digit_read : (c v : ℕ) → is_lower c ≡ false → hex_digit_value c ≡ Some v → IsDigit c v
digit_read c v upper e =
    by (nat_le 65 c && nat_le c 70) (nat_le 97 c && nat_le c 122) (nat_le 97 c && nat_le c 102) (nat_le 48 c && nat_le c 57) refl refl refl refl upper e
  where
    by : (a b d n : Bool) → (nat_le 65 c && nat_le c 70) ≡ a → (nat_le 97 c && nat_le c 122) ≡ b → (nat_le 97 c && nat_le c 102) ≡ d → (nat_le 48 c && nat_le c 57) ≡ n
        → b ≡ false → (if a then Some (c - 55) else if d then Some (c - 87) else if n then Some (c - 48) else None) ≡ Some v → IsDigit c v
    by true b d n ea eb ed en up h =
        let is : c - 55 ≡ v = some_is (c - 55) v h in
        record { written = grind (arith, nat_tests); small = grind (arith, nat_tests) }
    by false b true n ea eb ed en up h = absurd (grind (arith, nat_tests))
    by false b false true ea eb ed en up h =
        let is : c - 48 ≡ v = some_is (c - 48) v h in
        record { written = grind (arith, nat_tests); small = grind (arith, nat_tests) }
    by false b false false ea eb ed en up h = absurd cc

-- ---- octets

two_of : (high low : ℕ) → high < 16 → low < 16 → two_digits (high * 16 + low) ≡ digit_of high ∷ digit_of low ∷ []
two_of high low sh sl =
    let h : (high * 16 + low) / 16 ≡ high = omega (arith, sh, sl) in
    let l : (high * 16 + low) % 16 ≡ low = omega (arith, sh, sl) in
    rw (h, l) refl

pairs_read : (i : ℕ) (text octets : List ℕ) → list_any is_lower text ≡ false → decode_pairs i text ≡ Ok octets → text ≡ flat_map two_digits octets
unfolding decode_pairs
pairs_read i [] octets upper e = ap (flat_map two_digits) (ok_is {F = FromHexError} [] octets e)
pairs_read i (digit ∷ []) octets upper e = absurd cc
pairs_read i (high ∷ low ∷ rest) octets upper e =
    by (hex_digit_value high) (hex_digit_value low) (decode_pairs (i + 2) rest) refl refl (pairs_read (i + 2) rest) e
  where
    parts : (is_lower high ≡ false) × (list_any is_lower (low ∷ rest) ≡ false)
    parts = or_parts (is_lower high) (list_any is_lower (low ∷ rest)) upper

    others : (is_lower low ≡ false) × (list_any is_lower rest ≡ false)
    others = or_parts (is_lower low) (list_any is_lower rest) parts.1

    by : (h l : Option ℕ) (r : Result (List ℕ) FromHexError) → hex_digit_value high ≡ h → hex_digit_value low ≡ l
        → ((more : List ℕ) → list_any is_lower rest ≡ false → r ≡ Ok more → rest ≡ flat_map two_digits more)
        → ((digit_or_error high i h >>= (λ x. digit_or_error low (i + 1) l >>= (λ y. Ok (x * 16 + y))))
        >>= (λ byte. r >>= (λ bytes. Ok (byte ∷ bytes)))) ≡ Ok octets
        → high ∷ low ∷ rest ≡ flat_map two_digits octets
    by None l r eh el later k = absurd cc
    by (Some x) None r eh el later k = absurd cc
    by (Some x) (Some y) (Err fault) eh el later k = absurd cc
    by (Some x) (Some y) (Ok more) eh el later k =
        let is : (x * 16 + y) ∷ more ≡ octets = ok_is {F = FromHexError} ((x * 16 + y) ∷ more) octets k in
        let a = digit_read high x parts.0 eh in
        let b = digit_read low y others.0 el in
        let behind : rest ≡ flat_map two_digits more = later more others.1 refl in
        let written : flat_map two_digits ((x * 16 + y) ∷ more) ≡ digit_of x ∷ digit_of y ∷ flat_map two_digits more =
        flat_map-cons two_digits (x * 16 + y) more ∙ ap (λ (t : List ℕ). t ++ flat_map two_digits more) (two_of x y a.small b.small) in
        let front : high ∷ low ∷ rest ≡ digit_of x ∷ digit_of y ∷ flat_map two_digits more = rw (a.written, b.written, behind) refl in
        front ∙ sym written ∙ ap (flat_map two_digits) is

written_upper : (octets : List ℕ) → AreOctets octets → flat_map two_digits octets ≡ encode_upper octets
unfolding encode_with
written_upper [] fits = refl
written_upper (x ∷ xs) fits =
    let small : x < 256 = fits 0 in
    let high = upper_digit (x / 16) (omega (arith, small)) in
    let low = upper_digit (x % 16) (omega (arith, small)) in
    let rest = written_upper xs (AreOctets-rest x xs fits) in
    flat_map-cons two_digits x xs ∙ rw (high, low, rest) refl

none_lower : (octets : List ℕ) → AreOctets octets → list_any is_lower (flat_map two_digits octets) ≡ false
none_lower [] fits = refl
none_lower (x ∷ xs) fits =
    let small : x < 256 = fits 0 in
    let high = not_lower (x / 16) (omega (arith, small)) in
    let low = not_lower (x % 16) (omega (arith, small)) in
    let rest = none_lower xs (AreOctets-rest x xs fits) in
    ap (list_any is_lower) (flat_map-cons two_digits x xs) ∙ rw (high, low, rest) refl

-- ---- a station

too_long : (n : ℕ) → 255 < n → nat_le n 255 ≡ false
too_long n many = grind (arith, nat_tests)

with_least : (b : Bool) (octets : List ℕ) → nat_le (length octets) 255 ≡ false
    → (if b && nat_le (length octets) 255 then Some octets else None) ≡ None
with_least true octets e = rw e refl
with_least false octets e = refl

-- more octets than a station has are none
pub too_many : (text : List ℕ) → 255 < length text / 2 → station_in (decode_of text) ≡ None
too_many text many = by (decode_of text) refl
  where
    by : (r : Result (List ℕ) FromHexError) → decode_of text ≡ r → station_in r ≡ None
    by (Err fault) e = refl
    by (Ok octets) e =
        let ok = decode_of-ok text octets e in
        let long : nat_le (length octets) 255 ≡ false = too_long (length octets) (omega (arith, ok.2, many)) in
        with_least (nat_le 1 (length octets)) octets long

pub record IsStationIn (text mac : List ℕ) : Type 0 where
  pub spelled : text ≡ flat_map two_digits mac
  pub station : is_station mac ≡ true
  pub octets : AreOctets mac

station_takes : (octets mac : List ℕ) → station_of octets ≡ Some mac → (octets ≡ mac) × (is_station octets ≡ true)
station_takes octets mac e = by (is_station octets) refl e
  where
    by : (b : Bool) → is_station octets ≡ b → (if b then Some octets else None) ≡ Some mac → (octets ≡ mac) × (is_station octets ≡ true)
    by true f h = (some_is octets mac h, f)
    by false f h = absurd cc

pub mac_takes : (text mac : List ℕ) → mac_in text ≡ Some mac → IsStationIn text mac
mac_takes text mac e = by (list_any is_lower text) (decode_of text) refl refl e
  where
    by : (b : Bool) (r : Result (List ℕ) FromHexError) → list_any is_lower text ≡ b → decode_of text ≡ r
        → (if b then None else station_in r) ≡ Some mac → IsStationIn text mac
    by true r f g h = absurd cc
    by false (Err fault) f g h = absurd cc
    by false (Ok octets) f g h =
        let ok = decode_of-ok text octets g in
        let is = station_takes octets mac h in
        let read : text ≡ flat_map two_digits octets = pairs_read 0 text octets f (sym (decode_of-even text ok.0) ∙ g) in
        record {
          spelled = read ∙ ap (flat_map two_digits) is.0;
          station = subst (λ (m : List ℕ). is_station m ≡ true) is.0 is.1;
          octets = subst AreOctets is.0 ok.3;
        }

pub mac_again : (mac : List ℕ) → is_station mac ≡ true → AreOctets mac → mac_in (flat_map two_digits mac) ≡ Some mac
mac_again mac station fits =
    let read : decode_of (flat_map two_digits mac) ≡ Ok mac = ap decode_of (written_upper mac fits) ∙ decode_of-encode_upper mac fits in
    rw (none_lower mac fits, read, station) refl
