-- Numbers in the fewest octets: what is written is an encoding, and none is shorter.
use Rattle.std.proofs.Common.{◌≡◌, ℕ, suc, ◌+◌, ◌-◌, ◌*◌, ◌/◌, ◌%◌, ◌^◌, ◌<◌, ◌≤◌, cond, ltb, List, [], ◌∷◌, length, drop, ℤ, pos, negsuc, Some, refl, subst, sym, ap, arith, inl, inr}
use Rattle.std.specs.Int.{w32, to_be_bytes, cast_unsigned}
use Rattle.std.proofs.lemmas.Bool.{cases_lt, lt-ltb, le-ltb, le-leb}
use Rattle.std.proofs.lemmas.List.{length-drop}
use Rattle.gw_addr.specs.Address.{big_endian}
use Rattle.gw_addr.specs.Reading.{AreOctets}
use Rattle.gw_addr.proofs.Reading.{AreOctets-drop}
use Rattle.gw_codecs.proofs.tags_lemmas.Octets.{none, one_more}
use Rattle.gw_codecs.specs.tags.Number.{EncodesUnsigned, EncodesSigned, IsSigned, octet_count, unsigned_encoding, magnitude_count, signed_count, signed_encoding, twos_complement, unsigned_of, signed_of}

-- ---- how many octets

in_four : (n : ℕ) → 16777216 ≤ n → octet_count n ≡ 4
in_four n le =
    let above : 256 ≤ n = omega arith in
    let higher : 65536 ≤ n = omega arith in
    rw (le-ltb n 256 above, le-ltb n 65536 higher, le-ltb n 16777216 le) refl

in_three : (n : ℕ) → 65536 ≤ n → n < 16777216 → octet_count n ≡ 3
in_three n le lt =
    let above : 256 ≤ n = omega arith in
    rw (le-ltb n 256 above, le-ltb n 65536 le, lt-ltb n 16777216 lt) refl

-- the sizes of a number
pub data Size (n : ℕ) : Type 0 where
  size_one : n < 256 → octet_count n ≡ 1 → Size n
  size_two : n < 65536 → 256 ≤ n → octet_count n ≡ 2 → Size n
  size_three : n < 16777216 → 65536 ≤ n → octet_count n ≡ 3 → Size n
  size_four : 16777216 ≤ n → octet_count n ≡ 4 → Size n

pub size_of : (n : ℕ) → Size n
size_of n = elim (cases_lt n 256) [
  | inl one ↦ size_one one (rw (lt-ltb n 256 one) refl)
  | inr above ↦ elim (cases_lt n 65536) [
    | inl two ↦ size_two two above (rw (le-ltb n 256 above, lt-ltb n 65536 two) refl)
    | inr higher ↦ elim (cases_lt n 16777216) [
      | inl three ↦ size_three three higher (in_three n higher three)
      | inr highest ↦ size_four highest (in_four n highest)
    ]
  ]
]

signed_four : (n : ℕ) → 8388608 ≤ n → magnitude_count n ≡ 4
signed_four n le =
    let above : 128 ≤ n = omega arith in
    let higher : 32768 ≤ n = omega arith in
    rw (le-ltb n 128 above, le-ltb n 32768 higher, le-ltb n 8388608 le) refl

signed_three : (n : ℕ) → 32768 ≤ n → n < 8388608 → magnitude_count n ≡ 3
signed_three n le lt =
    let above : 128 ≤ n = omega arith in
    rw (le-ltb n 128 above, le-ltb n 32768 le, lt-ltb n 8388608 lt) refl

-- the sizes of a number with its sign
pub data SignedSize (n : ℕ) : Type 0 where
  signed_in_one : n < 128 → magnitude_count n ≡ 1 → SignedSize n
  signed_in_two : n < 32768 → 128 ≤ n → magnitude_count n ≡ 2 → SignedSize n
  signed_in_three : n < 8388608 → 32768 ≤ n → magnitude_count n ≡ 3 → SignedSize n
  signed_in_four : 8388608 ≤ n → magnitude_count n ≡ 4 → SignedSize n

pub signed_size_of : (n : ℕ) → SignedSize n
signed_size_of n = elim (cases_lt n 128) [
  | inl one ↦ signed_in_one one (rw (lt-ltb n 128 one) refl)
  | inr above ↦ elim (cases_lt n 32768) [
    | inl two ↦ signed_in_two two above (rw (le-ltb n 128 above, lt-ltb n 32768 two) refl)
    | inr higher ↦ elim (cases_lt n 8388608) [
      | inl three ↦ signed_in_three three higher (signed_three n higher three)
      | inr highest ↦ signed_in_four highest (signed_four n highest)
    ]
  ]
]

-- ---- a number in fewer octets than it needs

-- so many octets are a number below the power of 256
pub below_power : (octets : List ℕ) → length octets ≤ 4 → AreOctets octets → big_endian octets < 256 ^ length octets
below_power [] most fits = omega arith
below_power (a ∷ []) most fits = omega (arith, fits 0)
below_power (a ∷ b ∷ []) most fits = omega (arith, fits 0, fits 1)
below_power (a ∷ b ∷ c ∷ []) most fits = omega (arith, fits 0, fits 1, fits 2)
below_power (a ∷ b ∷ c ∷ d ∷ []) most fits = omega (arith, fits 0, fits 1, fits 2, fits 3)
below_power (a ∷ b ∷ c ∷ d ∷ e ∷ others) most fits = absurd (omega arith)

-- ---- what is written

cells_fit : (n : ℕ) → AreOctets (to_be_bytes w32 n)
cells_fit n =
    let last = one_more (n % 256) [] (omega arith) none in
    let third = one_more (n / 256 % 256) (n % 256 ∷ []) (omega arith) last in
    let second = one_more (n / 65536 % 256) (n / 256 % 256 ∷ n % 256 ∷ []) (omega arith) third in
    one_more (n / 16777216 % 256) (n / 65536 % 256 ∷ n / 256 % 256 ∷ n % 256 ∷ []) (omega arith) second

abbrev last_cells : ℕ → ℕ → List ℕ
last_cells count n = drop (4 - count) (to_be_bytes w32 n)

sized : (n : ℕ) → n < 2 ^ 32 → Size n → EncodesUnsigned (unsigned_encoding n) n
sized n lt (size_one below e) = subst (λ (k : ℕ). EncodesUnsigned (last_cells k n) n) (sym e) (record { least = omega arith; most = omega arith; octets_fit = AreOctets-drop (4 - 1) (to_be_bytes w32 n) (cells_fit n); number = omega arith })
sized n lt (size_two below le e) = subst (λ (k : ℕ). EncodesUnsigned (last_cells k n) n) (sym e) (record { least = omega arith; most = omega arith; octets_fit = AreOctets-drop (4 - 2) (to_be_bytes w32 n) (cells_fit n); number = omega arith })
sized n lt (size_three below le e) = subst (λ (k : ℕ). EncodesUnsigned (last_cells k n) n) (sym e) (record { least = omega arith; most = omega arith; octets_fit = AreOctets-drop (4 - 3) (to_be_bytes w32 n) (cells_fit n); number = omega arith })
sized n lt (size_four le e) = subst (λ (k : ℕ). EncodesUnsigned (last_cells k n) n) (sym e) (record { least = omega arith; most = omega arith; octets_fit = AreOctets-drop (4 - 4) (to_be_bytes w32 n) (cells_fit n); number = omega arith })

pub unsigned_encodes : (n : ℕ) → n < 2 ^ 32 → EncodesUnsigned (unsigned_encoding n) n
unsigned_encodes n lt = sized n lt (size_of n)

-- two's complement of a number below a power
abbrev twos : ℕ → ℕ → ℤ
twos b power = cond (ltb (2 * b) power) (pos b) (negsuc (power - suc b))

twos_pos : (b power n : ℕ) → b ≡ n → 2 * n < power → pos n ≡ twos b power
twos_pos b power n e lt = rw (e, lt-ltb (2 * n) power lt) refl

twos_neg : (b power n : ℕ) → b + suc n ≡ power → power ≤ 2 * b → negsuc n ≡ twos b power
twos_neg b power n e le =
    let rest : power - suc b ≡ n = omega arith in
    rw (le-ltb (2 * b) power le, rest) refl

signed_made : (count : ℕ) (n : ℕ) (z : ℤ) → 1 ≤ length (last_cells count n) → length (last_cells count n) ≤ 4 → z ≡ twos_complement (last_cells count n) → EncodesSigned (last_cells count n) z
signed_made count n z least most is = record { least = least; most = most; octets_fit = AreOctets-drop (4 - count) (to_be_bytes w32 n) (cells_fit n); number = is }

pos_sized : (n : ℕ) → n < 2 ^ 31 → SignedSize n → EncodesSigned (signed_encoding (pos n)) (pos n)
pos_sized n lt (signed_in_one below e) = subst (λ (k : ℕ). EncodesSigned (last_cells k n) (pos n)) (sym e) (signed_made 1 n (pos n) (omega arith) (omega arith) (twos_pos _ _ n (omega arith) (omega arith)))
pos_sized n lt (signed_in_two below le e) = subst (λ (k : ℕ). EncodesSigned (last_cells k n) (pos n)) (sym e) (signed_made 2 n (pos n) (omega arith) (omega arith) (twos_pos _ _ n (omega arith) (omega arith)))
pos_sized n lt (signed_in_three below le e) = subst (λ (k : ℕ). EncodesSigned (last_cells k n) (pos n)) (sym e) (signed_made 3 n (pos n) (omega arith) (omega arith) (twos_pos _ _ n (omega arith) (omega arith)))
pos_sized n lt (signed_in_four le e) = subst (λ (k : ℕ). EncodesSigned (last_cells k n) (pos n)) (sym e) (signed_made 4 n (pos n) (omega arith) (omega arith) (twos_pos _ _ n (omega arith) (omega arith)))

-- a negative number is the power of 256 less its distance below 0
abbrev under : ℕ → ℕ
under n = 2 ^ 32 - suc n

neg_sized : (n : ℕ) → n < 2 ^ 31 → SignedSize n → EncodesSigned (signed_encoding (negsuc n)) (negsuc n)
neg_sized n lt (signed_in_one below e) = subst (λ (k : ℕ). EncodesSigned (last_cells k (under n)) (negsuc n)) (sym e) (signed_made 1 (under n) (negsuc n) (omega arith) (omega arith) (twos_neg _ _ n (omega arith) (omega arith)))
neg_sized n lt (signed_in_two below le e) = subst (λ (k : ℕ). EncodesSigned (last_cells k (under n)) (negsuc n)) (sym e) (signed_made 2 (under n) (negsuc n) (omega arith) (omega arith) (twos_neg _ _ n (omega arith) (omega arith)))
neg_sized n lt (signed_in_three below le e) = subst (λ (k : ℕ). EncodesSigned (last_cells k (under n)) (negsuc n)) (sym e) (signed_made 3 (under n) (negsuc n) (omega arith) (omega arith) (twos_neg _ _ n (omega arith) (omega arith)))
neg_sized n lt (signed_in_four le e) = subst (λ (k : ℕ). EncodesSigned (last_cells k (under n)) (negsuc n)) (sym e) (signed_made 4 (under n) (negsuc n) (omega arith) (omega arith) (twos_neg _ _ n (omega arith) (omega arith)))

pub signed_encodes : (z : ℤ) → IsSigned z → EncodesSigned (signed_encoding z) z
signed_encodes (pos n) lt = pos_sized n lt (signed_size_of n)
signed_encodes (negsuc n) lt = neg_sized n lt (signed_size_of n)

-- ---- what is read fits, and none is shorter

pub unsigned_fits : (octets : List ℕ) (n : ℕ) → EncodesUnsigned octets n → n < 2 ^ 32
unsigned_fits [] n s = absurd (omega (arith, s.least))
unsigned_fits (a ∷ []) n s = omega (arith, s.number, s.octets_fit 0)
unsigned_fits (a ∷ b ∷ []) n s = omega (arith, s.number, s.octets_fit 0, s.octets_fit 1)
unsigned_fits (a ∷ b ∷ c ∷ []) n s = omega (arith, s.number, s.octets_fit 0, s.octets_fit 1, s.octets_fit 2)
unsigned_fits (a ∷ b ∷ c ∷ d ∷ []) n s = omega (arith, s.number, s.octets_fit 0, s.octets_fit 1, s.octets_fit 2, s.octets_fit 3)
unsigned_fits (a ∷ b ∷ c ∷ d ∷ e ∷ others) n s = absurd (omega (arith, s.most))

count_below : (octets : List ℕ) (n : ℕ) → Size n → EncodesUnsigned octets n → octet_count n ≤ length octets
count_below [] n size s = absurd (omega (arith, s.least))
count_below (a ∷ []) n (size_one lt e) s = omega (arith, e)
count_below (a ∷ []) n (size_two lt le e) s = absurd (omega (arith, s.octets_fit 0, s.number))
count_below (a ∷ []) n (size_three lt le e) s = absurd (omega (arith, s.octets_fit 0, s.number))
count_below (a ∷ []) n (size_four le e) s = absurd (omega (arith, s.octets_fit 0, s.number))
count_below (a ∷ b ∷ []) n (size_one lt e) s = omega (arith, e)
count_below (a ∷ b ∷ []) n (size_two lt le e) s = omega (arith, e)
count_below (a ∷ b ∷ []) n (size_three lt le e) s = absurd (omega (arith, s.octets_fit 0, s.octets_fit 1, s.number))
count_below (a ∷ b ∷ []) n (size_four le e) s = absurd (omega (arith, s.octets_fit 0, s.octets_fit 1, s.number))
count_below (a ∷ b ∷ c ∷ []) n (size_one lt e) s = omega (arith, e)
count_below (a ∷ b ∷ c ∷ []) n (size_two lt le e) s = omega (arith, e)
count_below (a ∷ b ∷ c ∷ []) n (size_three lt le e) s = omega (arith, e)
count_below (a ∷ b ∷ c ∷ []) n (size_four le e) s = absurd (omega (arith, s.octets_fit 0, s.octets_fit 1, s.octets_fit 2, s.number))
count_below (a ∷ b ∷ c ∷ d ∷ others) n (size_one lt e) s = omega (arith, e)
count_below (a ∷ b ∷ c ∷ d ∷ others) n (size_two lt le e) s = omega (arith, e)
count_below (a ∷ b ∷ c ∷ d ∷ others) n (size_three lt le e) s = omega (arith, e)
count_below (a ∷ b ∷ c ∷ d ∷ others) n (size_four le e) s = omega (arith, e)

-- a number fills no fewer octets than it is written in
pub count_is_least : (octets : List ℕ) (n : ℕ) → EncodesUnsigned octets n → octet_count n ≤ length octets
count_is_least octets n s = count_below octets n (size_of n) s

-- what a number in two's complement is above or below 0
abbrev magnitude : ℤ → ℕ
magnitude (pos n) = n
magnitude (negsuc n) = n

half : (b power : ℕ) → b < power → 2 * magnitude (twos b power) < power
half b power lt = elim (cases_lt (2 * b) power) [
  | inl low ↦ rw (lt-ltb (2 * b) power low) low
  | inr high ↦ rw (le-ltb (2 * b) power high) (omega arith)
]

-- so many octets hold a number of half their power
pub signed_half : (octets : List ℕ) (z : ℤ) → EncodesSigned octets z → 2 * magnitude z < 256 ^ length octets
signed_half octets z s = rw s.number (half (big_endian octets) (256 ^ length octets) (below_power octets s.most s.octets_fit))

signed_below : (octets : List ℕ) (n : ℕ) → 1 ≤ length octets → length octets ≤ 4 → SignedSize n → 2 * n < 256 ^ length octets → magnitude_count n ≤ length octets
signed_below [] n least most size lt = absurd (omega arith)
signed_below (a ∷ []) n least most (signed_in_one below e) lt = omega (arith, e)
signed_below (a ∷ []) n least most (signed_in_two below le e) lt = absurd (omega arith)
signed_below (a ∷ []) n least most (signed_in_three below le e) lt = absurd (omega arith)
signed_below (a ∷ []) n least most (signed_in_four le e) lt = absurd (omega arith)
signed_below (a ∷ b ∷ []) n least most (signed_in_one below e) lt = omega (arith, e)
signed_below (a ∷ b ∷ []) n least most (signed_in_two below le e) lt = omega (arith, e)
signed_below (a ∷ b ∷ []) n least most (signed_in_three below le e) lt = absurd (omega arith)
signed_below (a ∷ b ∷ []) n least most (signed_in_four le e) lt = absurd (omega arith)
signed_below (a ∷ b ∷ c ∷ []) n least most (signed_in_one below e) lt = omega (arith, e)
signed_below (a ∷ b ∷ c ∷ []) n least most (signed_in_two below le e) lt = omega (arith, e)
signed_below (a ∷ b ∷ c ∷ []) n least most (signed_in_three below le e) lt = omega (arith, e)
signed_below (a ∷ b ∷ c ∷ []) n least most (signed_in_four le e) lt = absurd (omega arith)
signed_below (a ∷ b ∷ c ∷ d ∷ others) n least most (signed_in_one below e) lt = omega (arith, e)
signed_below (a ∷ b ∷ c ∷ d ∷ others) n least most (signed_in_two below le e) lt = omega (arith, e)
signed_below (a ∷ b ∷ c ∷ d ∷ others) n least most (signed_in_three below le e) lt = omega (arith, e)
signed_below (a ∷ b ∷ c ∷ d ∷ others) n least most (signed_in_four le e) lt = omega (arith, e)

pub signed_is_least : (octets : List ℕ) (z : ℤ) → EncodesSigned octets z → signed_count z ≤ length octets
signed_is_least octets (pos n) s = signed_below octets n s.least s.most (signed_size_of n) (signed_half octets (pos n) s)
signed_is_least octets (negsuc n) s = signed_below octets n s.least s.most (signed_size_of n) (signed_half octets (negsuc n) s)

power_most : (octets : List ℕ) → length octets ≤ 4 → 256 ^ length octets ≤ 2 ^ 32
power_most [] most = omega arith
power_most (a ∷ []) most = omega arith
power_most (a ∷ b ∷ []) most = omega arith
power_most (a ∷ b ∷ c ∷ []) most = omega arith
power_most (a ∷ b ∷ c ∷ d ∷ []) most = omega arith
power_most (a ∷ b ∷ c ∷ d ∷ e ∷ others) most = absurd (omega arith)

pub signed_fits : (octets : List ℕ) (z : ℤ) → EncodesSigned octets z → IsSigned z
signed_fits octets (pos n) s = omega (arith, signed_half octets (pos n) s, power_most octets s.most)
signed_fits octets (negsuc n) s = omega (arith, signed_half octets (negsuc n) s, power_most octets s.most)

pub unsigned_length : (n : ℕ) → length (unsigned_encoding n) ≤ octet_count n
unsigned_length n = omega (arith, length-drop (4 - octet_count n) (to_be_bytes w32 n))

pub signed_length : (z : ℤ) → length (signed_encoding z) ≤ signed_count z
signed_length z = omega (arith, length-drop (4 - signed_count z) (to_be_bytes w32 (cast_unsigned w32 z)))

-- ---- what is written is read again

pub unsigned_again : (n : ℕ) → n < 2 ^ 32 → unsigned_of (unsigned_encoding n) ≡ Some n
unsigned_again n lt =
    let s = unsigned_encodes n lt in
    rw (le-leb 1 (length (unsigned_encoding n)) s.least, le-leb (length (unsigned_encoding n)) 4 s.most) (ap (λ (m : ℕ). Some m) (sym s.number))

pub signed_again : (z : ℤ) → IsSigned z → signed_of (signed_encoding z) ≡ Some z
signed_again z is =
    let s = signed_encodes z is in
    rw (le-leb 1 (length (signed_encoding z)) s.least, le-leb (length (signed_encoding z)) 4 s.most) (ap (λ (y : ℤ). Some y) (sym s.number))

-- a number below 256 is its own octet
pub in_one_octet : (n : ℕ) → n < 256 → unsigned_encoding n ≡ n ∷ []
in_one_octet n lt =
    let same : n % 256 ≡ n = omega arith in
    rw (lt-ltb n 256 lt) (ap (λ (octet : ℕ). octet ∷ []) same)
