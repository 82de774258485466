-- Octets that are written in digits, place by place.
use Rattle.std.proofs.Common.{◌≡◌, inl, inr, ℕ, zero, suc, ◌+◌, ◌*◌, ◌/◌, ◌%◌, ◌<◌, List, [], ◌∷◌, length, get_or, set, refl, sym, ap, ◌∙◌, arith}
use Rattle.std.proofs.lemmas.Bool.{cases_lt}
use Rattle.std.proofs.lemmas.List.{ext_get_or, get_or-set_other, length-set}
use Rattle.std.proofs.lemmas.Grind.{get_or-set_at}
use Rattle.hex.specs.Hex.{encode_with, encode_upper, upper_digits}
use Rattle.hex.proofs.HexLemmas.{length-encode_with}
use Rattle.gw_script.specs.internal.Digits.{AreDigits, AreWritten}

-- the two digits of an octet
pub high_digit : (t xs : List ℕ) (i : ℕ) → i < length xs → get_or (encode_with t xs) (2 * i) 0 ≡ get_or t (get_or xs i 0 / 16) 0
unfolding encode_with
high_digit t [] i inside = absurd (omega arith)
high_digit t (x ∷ xs) zero inside = refl
high_digit t (x ∷ xs) (suc i) inside =
    let next : 2 * suc i ≡ suc (suc (2 * i)) = omega arith in
    rw next (high_digit t xs i (omega arith))

pub low_digit : (t xs : List ℕ) (i : ℕ) → i < length xs → get_or (encode_with t xs) (2 * i + 1) 0 ≡ get_or t (get_or xs i 0 % 16) 0
unfolding encode_with
low_digit t [] i inside = absurd (omega arith)
low_digit t (x ∷ xs) zero inside = refl
low_digit t (x ∷ xs) (suc i) inside =
    let next : 2 * suc i + 1 ≡ suc (suc (2 * i + 1)) = omega arith in
    rw next (low_digit t xs i (omega arith))

-- one digit more at its place
pub digit_more : (octets : List ℕ) (start : ℕ) (digits : List ℕ) (end digit : ℕ) → end < length digits
    → digit ≡ get_or (encode_upper octets) (start + end) 0 → AreDigits octets start digits end → AreDigits octets start (set digits end digit) (end + 1)
digit_more octets start digits end digit inside is before place low =
    elim (cases_lt place end) [
      | inl less ↦ get_or-set_other digits end place digit 0 (λ e. absurd (omega (arith, e))) ∙ before place less
      | inr last ↦
          let e : place ≡ end = omega arith in
          get_or-set_at digits end place digit 0 e inside ∙ is ∙ ap (λ (k : ℕ). get_or (encode_upper octets) (start + k) 0) (sym e)
    ]

-- an octet more, of two digits
pub octet_more : (octets : List ℕ) (start place : ℕ) (digits : List ℕ) (high low : ℕ) → place + start < length octets → 2 * place + 1 < length digits
    → high ≡ get_or upper_digits (get_or octets (start + place) 0 / 16) 0 → low ≡ get_or upper_digits (get_or octets (start + place) 0 % 16) 0
    → AreDigits octets (2 * start) digits (2 * place)
    → AreDigits octets (2 * start) (set (set digits (2 * place) high) (2 * place + 1) low) (2 * (place + 1))
octet_more octets start place digits high low inside fits is_high is_low before =
    let first : 2 * start + 2 * place ≡ 2 * (start + place) = omega arith in
    let second : 2 * start + (2 * place + 1) ≡ 2 * (start + place) + 1 = omega arith in
    let next : 2 * (place + 1) ≡ 2 * place + 1 + 1 = omega arith in
    let one = digit_more octets (2 * start) digits (2 * place) high (omega arith)
    (is_high ∙ sym (ap (λ (k : ℕ). get_or (encode_upper octets) k 0) first ∙ high_digit upper_digits octets (start + place) (omega arith))) before in
    let more = digit_more octets (2 * start) (set digits (2 * place) high) (2 * place + 1) low (omega (arith, length-set digits (2 * place) high))
    (is_low ∙ sym (ap (λ (k : ℕ). get_or (encode_upper octets) k 0) second ∙ low_digit upper_digits octets (start + place) (omega arith))) one in
    λ p lt. more p (omega (arith, next))

-- all digits are written
pub written_whole : (octets digits : List ℕ) → length digits ≡ 2 * length octets → AreWritten octets digits (2 * length octets)
    → digits ≡ encode_upper octets
written_whole octets digits len all =
    ext_get_or 0 digits (encode_upper octets) (len ∙ sym (length-encode_with upper_digits octets)) (λ i inside.
    let same : 0 + i ≡ i = omega arith in
    all i (omega (arith, len)) ∙ ap (λ (k : ℕ). get_or (encode_upper octets) k 0) same)
