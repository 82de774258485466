-- The control octet is the sum of its bits, and its bits are those that make it up.
use Rattle.std.proofs.Common.{◌≡◌, ℕ, ◌+◌, ◌*◌, ◌^◌, ◌<◌, ◌≤◌, Bool, true, false, refl, arith}
use Rattle.std.specs.Prelude.{nat_eq, nat_lt}
use Rattle.std.specs.Int.RustNames.{bit_and}
use Rattle.std.proofs.lemmas.Bool.{agree_below_at, eqb-true, ltb-true}
use Rattle.gw_frames.specs.npdu.Numbers.{message_bit, bit_six, destination_bit, bit_four}
use Rattle.gw_frames.specs.npdu.Numbers.{source_bit, reply_bit, priority_bits}
use Rattle.gw_frames.specs.npdu.Npdu.{bit}
use Rattle.gw_frames.specs.npdu.Reading.{is_set}

-- the bits of an octet from the highest on, and the two lowest as a number
abbrev pub octet_of : Bool → Bool → Bool → Bool → Bool → Bool → ℕ → ℕ
octet_of seven six five four three two low =
    message_bit * bit seven + bit_six * bit six + destination_bit * bit five + bit_four * bit four
    + source_bit * bit three + reply_bit * bit two + low

abbrev low : ℕ → ℕ
low c = bit_and c priority_bits

abbrev pub split_again : ℕ → ℕ
split_again c =
    octet_of (is_set c message_bit) (is_set c bit_six) (is_set c destination_bit)
    (is_set c bit_four) (is_set c source_bit) (is_set c reply_bit) (low c)

pub octet-split : (c : ℕ) → c < 2 ^ 8 → c ≡ split_again c
octet-split c lt = eqb-true _ _ (agree_below_at (λ n. nat_eq n (split_again n)) (λ n. true) 256 c refl lt)

pub low-below : (c : ℕ) → c < 2 ^ 8 → bit_and c priority_bits < 2 ^ 2
low-below c lt = ltb-true _ _ (agree_below_at (λ n. nat_lt (low n) 4) (λ n. true) 256 c refl lt)

pub bit-most : (b : Bool) → bit b ≤ 1
bit-most true = omega arith
bit-most false = omega arith

pub bit-same : (a b : Bool) → bit a ≡ bit b → a ≡ b
bit-same true true e = refl
bit-same true false e = absurd (omega arith)
bit-same false true e = absurd (omega arith)
bit-same false false e = refl

-- the bits of an octet that was made of bits
pub record IsMadeOf (c : ℕ) (seven five three two : Bool) (priority : ℕ) : Type 0 where
  pub seven_is : is_set c message_bit ≡ seven
  pub five_is : is_set c destination_bit ≡ five
  pub three_is : is_set c source_bit ≡ three
  pub two_is : is_set c reply_bit ≡ two
  pub low_is : bit_and c priority_bits ≡ priority

-- seven numbers that an octet is made of
abbrev sum : ℕ → ℕ → ℕ → ℕ → ℕ → ℕ → ℕ → ℕ
sum a b c d e f p = 128 * a + 64 * b + 32 * c + 16 * d + 8 * e + 4 * f + p

same_bits : (a b c d e f a' b' c' d' e' f' p p' : ℕ) → a ≤ 1 → b ≤ 1 → c ≤ 1 → d ≤ 1 → e ≤ 1 → f ≤ 1
    → a' ≤ 1 → b' ≤ 1 → c' ≤ 1 → d' ≤ 1 → e' ≤ 1 → f' ≤ 1 → p < 4 → p' < 4
    → sum a b c d e f p ≡ sum a' b' c' d' e' f' p'
    → (a ≡ a') × (b ≡ b') × (c ≡ c') × (d ≡ d') × (e ≡ e') × (f ≡ f') × (p ≡ p')
same_bits a b c d e f a' b' c' d' e' f' p p' ha hb hc hd he hf ha' hb' hc' hd' he' hf' hp hp' same =
    let first : a ≡ a' = omega arith in
    let second : b ≡ b' = omega arith in
    let third : c ≡ c' = omega arith in
    let fourth : d ≡ d' = omega arith in
    let fifth : e ≡ e' = omega arith in
    let sixth : f ≡ f' = omega arith in
    (first, second, third, fourth, fifth, sixth, omega arith)

pub octet_of-bits : (c : ℕ) (seven six five four three two : Bool) (priority : ℕ) → priority < 2 ^ 2
    → c ≡ octet_of seven six five four three two priority → IsMadeOf c seven five three two priority
octet_of-bits c seven six five four three two priority lt is =
    let small : c < 2 ^ 8 =
    omega (arith, bit-most seven, bit-most six, bit-most five, bit-most four, bit-most three, bit-most two) in
    let split = octet-split c small in
    let all =
    same_bits (bit (is_set c message_bit)) (bit (is_set c bit_six)) (bit (is_set c destination_bit))
    (bit (is_set c bit_four)) (bit (is_set c source_bit)) (bit (is_set c reply_bit))
    (bit seven) (bit six) (bit five) (bit four) (bit three) (bit two) (low c) priority
    (bit-most _) (bit-most _) (bit-most _) (bit-most _) (bit-most _) (bit-most _)
    (bit-most _) (bit-most _) (bit-most _) (bit-most _) (bit-most _) (bit-most _)
    (low-below c small) lt (cc) in
    record {
      seven_is = bit-same _ _ all.0;
      five_is = bit-same _ _ all.2;
      three_is = bit-same _ _ all.4;
      two_is = bit-same _ _ all.5;
      low_is = all.6;
    }
