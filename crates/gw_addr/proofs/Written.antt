-- Numbers that are written digit by digit.
use Rattle.std.proofs.Common.{◌≡◌, ℕ, zero, suc, ◌/◌, ◌%◌, ◌+◌, ◌-◌, ◌*◌, ◌^◌, ◌<◌, ◌≤◌, Bool, true, false, ◌&&◌, T, eqb, List, [], ◌∷◌, ◌++◌, length, codes, take, drop, get_or, set, append_assoc, nat_lt, if◌then◌else◌, refl, sym, ap, subst, ◌∙◌, inl, inr, arith, eq-zero-or-pos, eqb→eq}
use Rattle.std.specs.Fmt.{decimal}
use Rattle.std.proofs.lemmas.Bool.Decides.{nat_tests}
use Rattle.std.proofs.lemmas.Fmt.{decimal_digit, decimal_injective, decimal_step}
use Rattle.std.proofs.lemmas.List.{length-append, length-take, take-take, take_more_set}
use Rattle.std.proofs.lemmas.Slice.{take-put_mid}
use Rattle.std.proofs.Math.Seq.{take-append-add}
use borrow.Rule.Slice.PartMut.{put_mid}
use lib.Ieee.Fits.{and_l, and_r}
use Rattle.gw_addr.specs.declared.digits.TheConstants.{OCTETS}

pub two_digits : (n : ℕ) → 10 ≤ n → n < 100 → decimal n ≡ (48 + n / 10) ∷ (48 + n % 10) ∷ []
two_digits n some few = rw (decimal_step n some (omega arith), decimal_digit (n / 10) (omega arith)) refl

pub three_digits : (n : ℕ) → 100 ≤ n → n < 1000 → decimal n ≡ (48 + n / 100) ∷ (48 + n / 10 % 10) ∷ (48 + n % 10) ∷ []
three_digits n some few =
    let same : n / 10 / 10 ≡ n / 100 = omega arith in
    rw (
      decimal_step n (omega arith) (omega arith),
      decimal_step (n / 10) (omega arith) (omega arith),
      decimal_digit (n / 10 / 10) (omega arith),
      same,
    )
    refl

-- how many digits there are
pub one_counted : (n : ℕ) → n < 10 → length (decimal n) ≡ 1
one_counted n few = ap length (decimal_digit n few)

pub two_counted : (n : ℕ) → 10 ≤ n → n < 100 → length (decimal n) ≡ 2
two_counted n some few = ap length (two_digits n some few)

pub three_counted : (n : ℕ) → 100 ≤ n → n < 1000 → length (decimal n) ≡ 3
three_counted n some few = ap length (three_digits n some few)

-- ---- the table of the numbers below 256, held against their digits by computing

-- a number below 256, with points after it that make four octets of it
abbrev group : ℕ → List ℕ
group n =
    if nat_lt n 10 then (48 + n) ∷ 46 ∷ 46 ∷ 46 ∷ []
    else if nat_lt n 100 then (48 + n / 10) ∷ (48 + n % 10) ∷ 46 ∷ 46 ∷ []
    else (48 + n / 100) ∷ (48 + n / 10 % 10) ∷ (48 + n % 10) ∷ 46 ∷ []

stands_at : ℕ → ℕ → Bool
stands_at n k = eqb (get_or OCTETS (4 * n + k) 0) (get_or (group n) k 0)

abbrev are_groups : ℕ → Bool
are_groups zero = true
are_groups (suc n) = ((stands_at n 0 && stands_at n 1) && (stands_at n 2 && stands_at n 3)) && are_groups n

record IsGroup (n : ℕ) : Type 0 where
  first : get_or OCTETS (4 * n + 0) 0 ≡ get_or (group n) 0 0
  second : get_or OCTETS (4 * n + 1) 0 ≡ get_or (group n) 1 0
  third : get_or OCTETS (4 * n + 2) 0 ≡ get_or (group n) 2 0
  fourth : get_or OCTETS (4 * n + 3) 0 ≡ get_or (group n) 3 0

below : (n p : ℕ) → T (are_groups n) → p < n → IsGroup p
unfolding stands_at
below zero p t h = absurd (omega arith)
below (suc n) p t h =
    elim (eq-zero-or-pos (n - p)) [
      | inl z ↦
          let e : p ≡ n = omega arith in
          let four = and_l _ (are_groups n) t in
          let front = and_l _ (stands_at n 2 && stands_at n 3) four in
          let back = and_r (stands_at n 0 && stands_at n 1) _ four in
          rw e (record {
            first = eqb→eq _ _ (and_l _ (stands_at n 1) front);
            second = eqb→eq _ _ (and_r (stands_at n 0) _ front);
            third = eqb→eq _ _ (and_l _ (stands_at n 3) back);
            fourth = eqb→eq _ _ (and_r (stands_at n 2) _ back);
          })
      | inr g ↦ below n p (and_r _ (are_groups n) t) (omega arith)
    ]

four_at : (xs : List ℕ) (a : ℕ) → a + 4 ≤ length xs
    → take 4 (drop a xs) ≡ get_or xs (a + 0) 0 ∷ get_or xs (a + 1) 0 ∷ get_or xs (a + 2) 0 ∷ get_or xs (a + 3) 0 ∷ []
four_at [] a fits = absurd (omega arith)
four_at (x ∷ xs) (suc a) fits =
    let zeroth : suc a + 0 ≡ suc (a + 0) = omega arith in
    let first : suc a + 1 ≡ suc (a + 1) = omega arith in
    let second : suc a + 2 ≡ suc (a + 2) = omega arith in
    let third : suc a + 3 ≡ suc (a + 3) = omega arith in
    rw (zeroth, first, second, third) (four_at xs a (omega arith))
four_at (x ∷ []) zero fits = absurd (omega arith)
four_at (x ∷ y ∷ []) zero fits = absurd (omega arith)
four_at (x ∷ y ∷ z ∷ []) zero fits = absurd (omega arith)
four_at (x ∷ y ∷ z ∷ w ∷ xs) zero fits = refl

-- the digits in front of a group
digits_of_group : (n : ℕ) (one two : Bool) → nat_lt n 10 ≡ one → nat_lt n 100 ≡ two → n < 256
    → take (length (decimal n)) (get_or (group n) 0 0 ∷ get_or (group n) 1 0 ∷ get_or (group n) 2 0 ∷ get_or (group n) 3 0 ∷ []) ≡ decimal n
digits_of_group n true two few less small =
    let least : n < 10 = grind (arith, nat_tests) in
    rw (few, decimal_digit n least) refl
digits_of_group n false true few less small =
    let least : 10 ≤ n = grind (arith, nat_tests) in
    let most : n < 100 = grind (arith, nat_tests) in
    rw (few, less, two_digits n least most) refl
digits_of_group n false false few less small =
    let least : 100 ≤ n = grind (arith, nat_tests) in
    rw (few, less, three_digits n least (omega arith)) refl

-- what the table has for a number
pub record IsInTable (n : ℕ) (row : List ℕ) : Type 0 where
  pub digits : take (length (decimal n)) row ≡ decimal n
  pub four : length row ≡ 4

pub in_table : (n : ℕ) → n < 256 → IsInTable n (take 4 (drop (4 * n) OCTETS))
unfolding stands_at
in_table n small =
    let g = below 256 n tt small in
    let row = four_at OCTETS (4 * n) (omega arith) in record {
      digits = rw (row, g.first, g.second, g.third, g.fourth) (digits_of_group n (nat_lt n 10) (nat_lt n 100) refl refl small);
      four = ap length row;
    }

-- ---- what is written into a text

-- the first of what is put in the middle
put_front : (a k d : ℕ) (xs ys : List ℕ) → a ≤ length xs → d ≤ length ys → take (a + d) (put_mid a k xs ys) ≡ take a xs ++ take d ys
put_front a k d xs ys fits few =
    let len : length (take a xs) ≡ a = omega (arith, length-take a xs) in
    let front : take (a + d) (take a xs ++ ys) ≡ take a xs ++ take d ys =
    subst (λ (n : ℕ). take (n + d) (take a xs ++ ys) ≡ take a xs ++ take d ys) len (take-append-add (take a xs) ys d) in
    sym (take-take (a + d) (a + length ys) (put_mid a k xs ys) (omega (arith, few)))
    ∙ ap (take (a + d)) (take-put_mid a k xs ys (a + length ys) refl fits) ∙ front

-- the first of a row that is put in the middle, and a character after it
pub part_written : (a k d b : ℕ) (xs ys : List ℕ) → a ≤ length xs → d < length ys
    → take (a + d + 1) (set (put_mid a k xs ys) (a + d) b) ≡ take a xs ++ (take d ys ++ b ∷ [])
part_written a k d b xs ys fits few =
    let whole = ap length (take-put_mid a k xs ys (a + length ys) refl fits) in
    let inside : a + d < length (put_mid a k xs ys) = omega (
      arith,
      whole,
      few,
      length-take (a + length ys) (put_mid a k xs ys),
      length-append (take a xs) ys,
      length-take a xs,
    ) in
    take_more_set (put_mid a k xs ys) (a + d) b inside
    ∙ ap (λ (t : List ℕ). t ++ b ∷ []) (put_front a k d xs ys fits (omega (arith, few)))
    ∙ append_assoc (take a xs) (take d ys) (b ∷ [])

pub five_digits : (n : ℕ) → 10000 ≤ n → n < 65536
    → decimal n ≡ (48 + n / 10000 % 10) ∷ (48 + n / 1000 % 10) ∷ (48 + n / 100 % 10) ∷ (48 + n / 10 % 10) ∷ (48 + n % 10) ∷ []
five_digits n some few =
    let hundreds : n / 10 / 10 ≡ n / 100 = omega arith in
    let thousands : n / 100 / 10 ≡ n / 1000 = omega arith in
    let first : n / 1000 / 10 ≡ n / 10000 % 10 = omega arith in
    rw (
      decimal_step n (omega arith) (omega arith),
      decimal_step (n / 10) (omega arith) (omega arith),
      hundreds,
      decimal_step (n / 100) (omega arith) (omega arith),
      thousands,
      decimal_step (n / 1000) (omega arith) (omega arith),
      first,
      decimal_digit (n / 10000 % 10) (omega arith),
    )
    refl

-- the digits of the port of BACnet/IP
pub bacnet_digits : decimal 47808 ≡ codes "47808"
bacnet_digits = five_digits 47808 (omega arith) (omega arith)

-- and no other number has them
pub bacnet_port : (n : ℕ) → n < 2 ^ 16 → codes "47808" ≡ decimal n → 47808 ≡ n
bacnet_port n small is = decimal_injective 47808 n (omega arith) (omega arith) (bacnet_digits ∙ is)
