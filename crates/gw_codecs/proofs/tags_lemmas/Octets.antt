-- Facts about one octet, as tables.
use Rattle.std.proofs.Common.{◌≡◌, ℕ, zero, suc, ◌+◌, ◌*◌, ◌/◌, ◌%◌, ◌<◌, Bool, true, false, List, [], ◌∷◌, ◌++◌, not, eqb, ltb, refl, arith}
use Rattle.std.specs.Int.RustNames.{bit_and, bit_or}
use Rattle.std.proofs.lemmas.Bool.{agree_below_at, eqb-true}
use Rattle.gw_addr.specs.Reading.{AreOctets}
use Rattle.gw_addr.proofs.Reading.{AreOctets-rest}
use Rattle.gw_codecs.specs.tags.Tag.{class_of}

-- the class bit is set if the low four bits are 8 or more
pub class_bit_set : (first : ℕ) → first < 256 → not (eqb (bit_and first 8) 0) ≡ ltb 7 (first % 16)
class_bit_set first lt = agree_below_at (λ n. not (eqb (bit_and n 8) 0)) (λ n. ltb 7 (n % 16)) 256 first refl lt

-- the parts of a first octet do not overlap
pub first_octet_joins : (high low : ℕ) (context : Bool) → high < 16 → low < 8 → bit_or (bit_or (high * 16 % 256) (class_of context)) low ≡ 16 * high + class_of context + low
first_octet_joins high low context high_lt low_lt =
    let place : (8 * high + low) / 8 ≡ high = omega arith in
    let part : (8 * high + low) % 8 ≡ low = omega arith in
    let test = λ (class n : ℕ). eqb (bit_or (bit_or (n / 8 * 16 % 256) class) (n % 8)) (16 * (n / 8) + class + n % 8) in
    let all : test (class_of context) (8 * high + low) ≡ true = elim context as (λ c. test (class_of c) (8 * high + low) ≡ true) [
      | true ↦ agree_below_at (test 8) (λ n. true) 128 (8 * high + low) refl (omega arith)
      | false ↦ agree_below_at (test 0) (λ n. true) 128 (8 * high + low) refl (omega arith)
    ] in
    eqb-true _ _ (rw (place, part) at all)

pub none : AreOctets []
none i = omega arith

pub one_more : (octet : ℕ) (octets : List ℕ) → octet < 256 → AreOctets octets → AreOctets (octet ∷ octets)
one_more octet octets lt fits zero = lt
one_more octet octets lt fits (suc i) = fits i

-- the rest of a list of octets has only octets
pub behind_octets : (xs ys : List ℕ) → AreOctets (xs ++ ys) → AreOctets ys
behind_octets [] ys fits = fits
behind_octets (x ∷ xs) ys fits = behind_octets xs ys (AreOctets-rest x (xs ++ ys) fits)
