-- Pairs of digits that are read without a look back: whether all of them were digits is checked at the end.
use Rattle.std.proofs.Common.{◌≡◌, inl, inr, ℕ, zero, suc, ◌+◌, ◌*◌, ◌%◌, ◌<◌, ◌≤◌, List, length, take, drop, get_or, set, Option, Some, None, unwrap_or, Bool, true, cond, eqb, ltb, max, min, bit_or, Ok, Err, refl, sym, ap, ◌∙◌, arith}
use Rattle.std.specs.Prelude.{IsErr}
use Rattle.std.specs.Bool.{OnTrue, OnFalse}
use Rattle.std.proofs.lemmas.Bool.{agree_below_at, cases_lt, cond-true, cond-false, eqb-true, lt-ltb, le-ltb, ltb-true, ltb-false, OnTrue_from, OnFalse_from}
use Rattle.std.proofs.lemmas.List.{get_or-set_other, get_or-set_same, set-get_or}
use Rattle.hex.specs.declared.error.FromHexError.TheVariants.{InvalidHexCharacter}
use Rattle.hex.specs.Hex.{decode_of, decode_pairs, hex_digit_value, pair_value}
use Rattle.hex.proofs.HexLemmas.{decode_of-even}
use Rattle.hex.proofs.Pairs.{prepend, decode_start, decode_step, decode_err, decode_done}
use Rattle.gw_script.specs.internal.Pairs.{IsPair, IsReadTo, IsValue}

-- ---- one digit

-- the value that a digit is read as: a number over 15 where it is none
abbrev pub number_of : ℕ → ℕ
number_of c = (c + 208) % 256

abbrev pub letter_of : ℕ → ℕ
letter_of c = min ((bit_or c 32 + 159) % 256 + 10) 255

abbrev value_read : ℕ → ℕ
value_read c = min (cond (ltb (number_of c) 10) (number_of c) 255) (letter_of c)

-- the same of each octet, by a table
abbrev is_read_well : ℕ → Bool
is_read_well c = eqb (unwrap_or (hex_digit_value c) 255) (cond (ltb (value_read c) 16) (value_read c) 255)

read_well : (c : ℕ) → c < 256 → unwrap_or (hex_digit_value c) 255 ≡ cond (ltb (value_read c) 16) (value_read c) 255
read_well c lt = eqb-true _ _ (agree_below_at is_read_well (λ n. true) 256 c refl lt)

some_of : (o : Option ℕ) (v : ℕ) → v < 16 → unwrap_or o 255 ≡ v → o ≡ Some v
some_of (Some w) v small e = ap Some e
some_of None v small e = absurd (omega arith)

none_of : (o : Option ℕ) → ((v : ℕ) → o ≡ Some v → v < 16) → 16 ≤ unwrap_or o 255 → o ≡ None
none_of (Some w) small over = absurd (omega (arith, small w refl))
none_of None small over = refl

small_value : (c v : ℕ) → hex_digit_value c ≡ Some v → v < 16
small_value c v h = grind (arith)

is_value : (c r : ℕ) → c < 256 → value_read c ≡ r → IsValue c r
is_value c r lt e =
    let well = read_well c lt in record {
      digit = λ small.
          let is : value_read c < 16 = omega arith in
          some_of (hex_digit_value c) r small (well ∙ cond-true _ _ _ (lt-ltb _ _ is) ∙ e);
      other = λ over.
          let is : 16 ≤ value_read c = omega arith in
          none_of (hex_digit_value c) (small_value c) (omega (arith, well ∙ cond-false _ _ _ (le-ltb _ _ is)));
    }

-- a number, and what is no number
pub number_is : (c n r : ℕ) → c < 256 → number_of c < 10 → n ≡ number_of c → r ≡ min n (letter_of c) → IsValue c r
number_is c n r lt small is e =
    is_value c r lt (ap (λ (m : ℕ). min m (letter_of c)) (cond-true _ _ _ (lt-ltb _ _ small) ∙ sym is) ∙ sym e)

pub letter_is : (c n r : ℕ) → c < 256 → 10 ≤ number_of c → n ≡ 255 → r ≡ min n (letter_of c) → IsValue c r
letter_is c n r lt over is e =
    is_value c r lt (ap (λ (m : ℕ). min m (letter_of c)) (cond-false _ _ _ (le-ltb _ _ over) ∙ sym is) ∙ sym e)

-- ---- pairs

high_refused : (a b i : ℕ) → hex_digit_value a ≡ None → pair_value a b i ≡ Err (InvalidHexCharacter a i)
high_refused a b i none = rw none refl

low_refused : (a b i v : ℕ) → hex_digit_value a ≡ Some v → hex_digit_value b ≡ None → pair_value a b i ≡ Err (InvalidHexCharacter b (i + 1))
low_refused a b i v some none = rw (some, none) refl

-- the octets of the first pairs are before what the rest is decoded to
first_read : (text octets : List ℕ) (i : ℕ) → i ≤ length octets → length text ≡ 2 * length octets
    → ((place : ℕ) → place < i → IsPair text octets place)
    → decode_pairs 0 text ≡ prepend (take i octets) (decode_pairs (2 * i) (drop (2 * i) text))
first_read text octets zero room len all = decode_start text octets
first_read text octets (suc i) room len all =
    let before = first_read text octets i (omega arith) len (λ place lt. all place (omega arith)) in
    let step = decode_step text octets i (get_or octets i 0) (omega arith) (omega arith) (all i (omega arith)) before in
    let next : i + 1 ≡ suc i = omega arith in
    rw (set-get_or octets i 0, next) at step

pub read_none : (text octets : List ℕ) → IsReadTo text octets 0 0
read_none text octets = record { read = λ _ place lt. absurd (omega arith); refused = λ over. absurd (omega arith) }

-- what is read to a place is read to each place before it
pub read_less : (text octets : List ℕ) (i j largest : ℕ) → j ≤ i → IsReadTo text octets i largest → IsReadTo text octets j largest
read_less text octets i j largest less all = record { read = λ small place lt. all.read small place (omega arith); refused = all.refused }

pub read_more : (text octets : List ℕ) (i largest high low x : ℕ) → length text ≡ 2 * length octets → i < length octets
    → IsValue (get_or text (2 * i) 0) high → IsValue (get_or text (2 * i + 1) 0) low → x ≡ ((high * 16) % 256 + low) % 256
    → IsReadTo text octets i largest → IsReadTo text (set octets i x) (i + 1) (max (max largest high) low)
read_more text octets i largest high low x len room is_high is_low e before = record {
  read = λ small place lt.
      let all : (largest < 16) × (high < 16) × (low < 16) = (omega arith, omega arith, omega arith) in
      let byte : high * 16 + low ≡ x = omega arith in
      elim (cases_lt place i) [
        | inl less ↦ before.read all.0 place less ∙ ap Ok (sym (get_or-set_other octets i place x 0 (λ same. absurd (omega arith))))
        | inr over ↦
            let this : place ≡ i = omega arith in
            rw (this, is_high.digit all.1, is_low.digit all.2, get_or-set_same octets i x 0 room, byte) refl
      ];
  refused = λ over.
      elim (cases_lt largest 16) [
        | inr bad ↦ before.refused bad
        | inl small ↦
            let fits : 2 * i + 1 < length text = omega arith in
            let first = first_read text octets i (omega arith) len (before.read small) in
            let even = decode_of-even text (omega arith) in
            elim (cases_lt high 16) [
              | inr bad ↦ rw (even, decode_err text octets i _ fits (high_refused (get_or text (2 * i) 0) (get_or text (2 * i + 1) 0) (2 * i) (is_high.other bad)) first) refl
              | inl good ↦
                  let bad : 16 ≤ low = omega arith in
                  rw (even, decode_err text octets i _ fits (low_refused (get_or text (2 * i) 0) (get_or text (2 * i + 1) 0) (2 * i) high (is_high.digit good) (is_low.other bad)) first) refl
            ]
      ];
}

-- what the test at the end shows
pub is_read : (text octets : List ℕ) (largest : ℕ) → length text ≡ 2 * length octets
    → IsReadTo text octets (length octets) largest → OnTrue (ltb largest 16) (decode_of text ≡ Ok octets)
is_read text octets largest len all =
    OnTrue_from (ltb largest 16) (decode_of text ≡ Ok octets) (λ small.
    let whole = first_read text octets (length octets) (omega arith) len (all.read (ltb-true _ _ small)) in
    rw (decode_of-even text (omega arith)) (decode_done text octets (length octets) (omega arith) (omega arith) whole))

pub is_refused : (text octets : List ℕ) (largest : ℕ)
    → IsReadTo text octets (length octets) largest → OnFalse (ltb largest 16) (IsErr (decode_of text))
is_refused text octets largest all =
    OnFalse_from (ltb largest 16) (IsErr (decode_of text)) (λ over. all.refused (ltb-false _ _ over))
