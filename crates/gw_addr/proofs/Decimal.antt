-- Numbers in decimal digits without leading zeros.
use Rattle.std.proofs.Common.{◌≡◌, ◌≢◌, ℕ, zero, suc, ◌+◌, ◌-◌, ◌*◌, ◌^◌, ◌<◌, ◌≤◌, true, false, List, [], ◌∷◌, length, take, get_or, Some, Result, Ok, Err, sym, ap, subst, ◌∙◌, arith}
use Rattle.std.specs.Char.{digit_value}
use Rattle.std.specs.Fmt.{decimal}
use Rattle.std.specs.Int.{IsInRange}
use Rattle.std.specs.Str.{all_ascii_digits}
use Rattle.std.specs.Str.Parse.{digits_value}
use Rattle.std.proofs.lemmas.Fmt.{decimal-digits_value, digits_decimal, digits_value-decimal, decimal_nonempty, first_decimal, decimal_digit, length-decimal-le}
use Rattle.std.proofs.lemmas.Int.Digits.{digits_more, digits_value_more}
use Rattle.std.proofs.lemmas.List.{length-take, take_all}
use Rattle.std.proofs.lemmas.Str.Parse.{IsNumeralModel, digit_at, digits_value_short, numerals_by_value, tells_all_ascii_digits}
use Rattle.std.proofs.lemmas.Bool.Decides.{nat_tests}
use Rattle.std.specs.Prelude.{IfSome}
use Rattle.std.specs.Result.{OkIff, result_ok}
use Rattle.gw_addr.specs.internal.Digits.{begins_canonical_of}

pub own : IsNumeralModel (λ ds. all_ascii_digits ds ≡ true) (digits_value 10)
own = numerals_by_value (λ ds. all_ascii_digits ds ≡ true) tells_all_ascii_digits

-- what begins canonically has no plus and no leading zero
canonical_start : (ds : List ℕ) → begins_canonical_of ds ≡ true → (get_or ds 0 0 ≢ 43) × (get_or ds 0 0 ≡ 48 → length ds ≡ 1)
canonical_start [] h = absurd cc
canonical_start (d ∷ ds) h = (λ e. grind (arith, nat_tests), λ e. grind (arith, nat_tests))

some_digit : (ds : List ℕ) → begins_canonical_of ds ≡ true → 0 < length ds
some_digit [] h = absurd cc
some_digit (d ∷ ds) h = omega arith

-- digits without a leading zero begin canonically
starts_canonical : (ds : List ℕ) → all_ascii_digits ds ≡ true → 0 < length ds → (get_or ds 0 0 ≡ 48 → length ds ≡ 1) → begins_canonical_of ds ≡ true
starts_canonical [] digits some lead = absurd (omega arith)
starts_canonical (d ∷ ds) digits some lead = grind (arith, nat_tests)

pub begins_canonical-decimal : (n : ℕ) → n < 2 ^ 64 → begins_canonical_of (decimal n) ≡ true
begins_canonical-decimal zero h = ap begins_canonical_of (decimal_digit 0 (omega arith))
begins_canonical-decimal (suc n) h =
    let above : 48 < get_or (decimal (suc n)) 0 0 = first_decimal (suc n) (omega arith) h in
    starts_canonical (decimal (suc n)) (digits_decimal own (suc n) h) (decimal_nonempty (suc n) h) (λ e. absurd (omega arith))

-- what is no number below 65536 as it is written
pub not_canonical : (text : List ℕ) (n : ℕ) → n < 2 ^ 16 → begins_canonical_of text ≡ false → text ≡ decimal n → ⊥
not_canonical text n small starts e =
    let whole : begins_canonical_of (decimal n) ≡ true = begins_canonical-decimal n (omega arith) in
    let same = ap begins_canonical_of e in
    absurd cc

pub too_long : (text : List ℕ) (n : ℕ) → n < 2 ^ 16 → 5 < length text → text ≡ decimal n → ⊥
too_long text n small long e = omega (arith, ap length e, length-decimal-le 5 n (omega arith) (omega arith) (omega arith))

pub no_digit : (text : List ℕ) (n i : ℕ) → n < 2 ^ 16 → i < length text → ¬ (IsInRange 48 57 (get_or text i 0)) → text ≡ decimal n → ⊥
no_digit text n i small inside other e =
    let digits : all_ascii_digits text ≡ true = subst (λ (t : List ℕ). all_ascii_digits t ≡ true) (sym e) (digits_decimal own n (omega arith)) in
    other (digit_at text i (own.to text digits) inside)

-- the number of the first digits
pub few_digits : (text : List ℕ) (i : ℕ) → i ≤ 4 → all_ascii_digits (take i text) ≡ true → digits_value 10 (take i text) < 10 ^ 4
few_digits text i few digits = digits_value_short own (take i text) 4 digits (omega (arith, length-take i text))

digit_of : (c : ℕ) → IsInRange 48 57 c → digit_value c ≡ c - 48
digit_of c range = grind (arith, nat_tests)

pub more_digits : (text : List ℕ) (i : ℕ) → i < length text → IsInRange 48 57 (get_or text i 0) → all_ascii_digits (take i text) ≡ true
    → (all_ascii_digits (take (i + 1) text) ≡ true) × (digits_value 10 (take (i + 1) text) ≡ 10 * digits_value 10 (take i text) + (get_or text i 0 - 48))
more_digits text i inside range digits =
    let value = digit_of (get_or text i 0) range in (
      own.from (take (i + 1) text) (digits_more 10 text i inside (own.to (take i text) digits) (omega (arith, value, range))),
      omega (arith, value, digits_value_more 10 text i inside),
    )

-- all digits
pub number_found : (text : List ℕ) (n i : ℕ) → length text ≤ i → all_ascii_digits (take i text) ≡ true → n ≡ digits_value 10 (take i text) → n < 2 ^ 16
    → begins_canonical_of text ≡ true → text ≡ decimal n
number_found text n i all digits value small canonical =
    let whole : take i text ≡ text = take_all i text all in
    let start = canonical_start text canonical in
    let own_digits : all_ascii_digits text ≡ true = rw whole at digits in
    let own_value : n ≡ digits_value 10 text = rw whole at value in
    sym (ap decimal own_value ∙ decimal-digits_value own text own_digits (some_digit text canonical) start.1 (omega arith))

pub number_only : (text : List ℕ) (n m i : ℕ) → length text ≤ i → n ≡ digits_value 10 (take i text) → m < 2 ^ 16 → text ≡ decimal m → n ≡ m
number_only text n m i all value small e =
    let whole : take i text ≡ text = take_all i text all in
    value ∙ ap (digits_value 10) (whole ∙ e) ∙ digits_value-decimal own m (omega arith)

-- the same of what is no larger than a number of 16 bits
pub found_below : {E : Type 0} (text : List ℕ) (number : ℕ) (r : Result ℕ E) → OkIff r (number < 2 ^ 16) number → (number < 2 ^ 16 → text ≡ decimal number) → IfSome (result_ok r) (λ n. text ≡ decimal n)
found_below text number (Ok n) h found = found h.0 ∙ ap decimal (sym h.1)
found_below text number (Err e) h found = tt

pub only_below : {E : Type 0} (number m : ℕ) (r : Result ℕ E) → OkIff r (number < 2 ^ 16) number → number ≡ m → m < 2 ^ 16 → result_ok r ≡ Some m
only_below number m (Ok n) h e small = ap (λ (x : ℕ). Some x) (h.1 ∙ e)
only_below number m (Err x) h e small = absurd (h (omega arith))
