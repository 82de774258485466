-- The key that an ask says for a station is one of those that shapes have.
use Rattle.std.proofs.Common.{◌≡◌, ◌≤◌, ◌+◌, refl, ℕ, Bool, true, false, List, [], ◌∷◌, length, Option, Some, None, arith, nat_le}
use Rattle.std.specs.Prelude.{◌==◌, if◌then◌else◌}
use Rattle.std.proofs.lemmas.Bool.{and_parts, eqb-true, leb-true}
use Rattle.gw_addr.specs.Address.{big_endian}
use Rattle.gw_addr.specs.Reading.{AreOctets}
use Rattle.gw_addr.specs.Station.{has_key, key_base, key_of}
use Rattle.gw_addr.proofs.Addresses.{key_below}
use Rattle.gw_rules.specs.Format.{key_in, names_stations}
use Rattle.gw_rules.specs.Range.{holds}
use Rattle.gw_rules.specs.declared.format.Format.{Format}
use Rattle.gw_ask_sets.specs.regions.Ranges.{between}
use Rattle.gw_ask_sets.specs.shapes.Shape.{IsWithin, is_key, key_ranges}
use Rattle.gw_ask_sets.specs.shapes.Shapes.{address, any_key, source_in}
use Rattle.gw_ask_sets.proofs.regions_lemmas.Growing.{any_at}
use Rattle.gw_ask_sets.proofs.regions_lemmas.RangeLaw.{hold}

if_some : (b : Bool) (x key : ℕ) → (if b then Some x else None) ≡ Some key → (b ≡ true) × (x ≡ key)
if_some true x key e = (refl, cc)
if_some false x key e = absurd cc

-- so many octets are a number below so many powers of 256
pub key_number : (octets : List ℕ) (key : ℕ) → AreOctets octets → length octets ≤ 7 → key_base (length octets) + big_endian octets ≡ key
    → 1 ≤ length octets → (is_key key ≡ true) × (key ≤ 576460752303423487)
key_number [] key fits small is some = absurd (omega arith)
key_number (a ∷ []) key fits small is some =
    let low : 72057594037927936 ≤ key = omega (arith, is, fits 0) in
    let high : key ≤ 72057594037928191 = omega (arith, is, fits 0) in
    (any_at (holds key) key_ranges 1 (between 0 0) (omega arith) (hold key (between 72057594037927936 72057594037928191) low high), omega arith)
key_number (a ∷ b ∷ []) key fits small is some =
    let low : 144115188075855872 ≤ key = omega (arith, is, fits 0, fits 1) in
    let high : key ≤ 144115188075921407 = omega (arith, is, fits 0, fits 1) in
    (any_at (holds key) key_ranges 2 (between 0 0) (omega arith) (hold key (between 144115188075855872 144115188075921407) low high), omega arith)
key_number (a ∷ b ∷ c ∷ []) key fits small is some =
    let low : 216172782113783808 ≤ key = omega (arith, is, fits 0, fits 1, fits 2) in
    let high : key ≤ 216172782130561023 = omega (arith, is, fits 0, fits 1, fits 2) in
    (any_at (holds key) key_ranges 3 (between 0 0) (omega arith) (hold key (between 216172782113783808 216172782130561023) low high), omega arith)
key_number (a ∷ b ∷ c ∷ d ∷ []) key fits small is some =
    let low : 288230376151711744 ≤ key = omega (arith, is, fits 0, fits 1, fits 2, fits 3) in
    let high : key ≤ 288230380446679039 = omega (arith, is, fits 0, fits 1, fits 2, fits 3) in
    (any_at (holds key) key_ranges 4 (between 0 0) (omega arith) (hold key (between 288230376151711744 288230380446679039) low high), omega arith)
key_number (a ∷ b ∷ c ∷ d ∷ e ∷ []) key fits small is some =
    let low : 360287970189639680 ≤ key = omega (arith, is, fits 0, fits 1, fits 2, fits 3, fits 4) in
    let high : key ≤ 360289069701267455 = omega (arith, is, fits 0, fits 1, fits 2, fits 3, fits 4) in
    (any_at (holds key) key_ranges 5 (between 0 0) (omega arith) (hold key (between 360287970189639680 360289069701267455) low high), omega arith)
key_number (a ∷ b ∷ c ∷ d ∷ e ∷ f ∷ []) key fits small is some =
    let high : key ≤ 281474976710655 = omega (arith, is, fits 0, fits 1, fits 2, fits 3, fits 4, fits 5) in
    (any_at (holds key) key_ranges 0 (between 0 0) (omega arith) (hold key (between 0 281474976710655) (omega arith) high), omega arith)
key_number (a ∷ b ∷ c ∷ d ∷ e ∷ f ∷ g ∷ []) key fits small is some =
    let low : 504403158265495552 ≤ key = omega (arith, is, fits 0, fits 1, fits 2, fits 3, fits 4, fits 5, fits 6) in
    let high : key ≤ 576460752303423487 = omega (arith, is, fits 0, fits 1, fits 2, fits 3, fits 4, fits 5, fits 6) in
    (any_at (holds key) key_ranges 6 (between 0 0) (omega arith) (hold key (between 504403158265495552 576460752303423487) low high), high)
key_number (a ∷ b ∷ c ∷ d ∷ e ∷ f ∷ g ∷ h ∷ rest) key fits small is some = absurd (omega arith)

-- a station of any length, or none
pub key_within : (mac : List ℕ) → AreOctets mac → IsWithin any_key (key_of mac)
key_within mac fits = by (key_of mac) refl
  where
    by : (value : Option ℕ) → key_of mac ≡ value → IsWithin any_key value
    by None e = refl
    by (Some key) e =
        let has = if_some (has_key mac) (key_base (length mac) + big_endian mac) key e in
        let ends = and_parts (nat_le 1 (length mac)) (nat_le (length mac) 7) has.0 in
        let number = key_number mac key fits (leb-true (length mac) 7 ends.1) has.1 (leb-true 1 (length mac) ends.0) in
        ((omega arith, number.1), number.0)

-- the source of another network, in each format
pub source_within : (format : Format) (mac : List ℕ) → AreOctets mac → IsWithin (source_in format) (key_in format mac)
source_within format mac fits = by (names_stations format)
  where
    six : (b : Bool) → (length mac == 6) ≡ b → IsWithin (record address { absent = true }) (if b then Some (big_endian mac) else None)
    six true e =
        let small = key_below mac (eqb-true (length mac) 6 e) fits in
        (omega arith, omega (arith, small))
    six false e = refl

    by : (b : Bool)
        → IsWithin (if b then any_key else record address { absent = true })
        (if b then key_of mac else (if length mac == 6 then Some (big_endian mac) else None))
    by true = key_within mac fits
    by false = six (length mac == 6) refl
