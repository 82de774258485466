-- Rows of bits: words of ones, rows that are joined, and the first rule of a row.
use Rattle.std.proofs.Common.{◌≡◌, ℕ, ◌+◌, ◌-◌, ◌*◌, ◌/◌, ◌%◌, ◌^◌, ◌≤◌, ◌<◌, Bool, true, false, ◌&&◌, cond, List, [], ◌∷◌, length, Option, Some, None, arith, refl, sym, ◌∙◌, ap, nat_lt, get_or, min, inl, inr, bit_and, bit_or, set, ◌≢◌, get_or-set_same, get_or-set_other}
use Rattle.std.specs.List.{position, position_or_len, slice_get}
use Rattle.std.specs.Option.{option_map_or}
use Rattle.std.specs.Int.{bit_at, w64}
use Rattle.std.proofs.lemmas.Bool.{cases_lt, lt-ltb, le-ltb}
use Rattle.std.proofs.lemmas.Nat.{div-add-mod', mod_below, div_below, one_shl}
use Rattle.std.proofs.lemmas.Nat.Bits.{bit_at_ones, bit_at_ones_above, bit_at_and, bit_at-zero, bit_at_set_same, bit_at_set_other}
use Rattle.std.proofs.lemmas.List.Sums.{position_or_len_is}
use Rattle.std.proofs.lemmas.Option.{slice_get-get_or, get_or_from_slice_get, slice_get_within, slice_get_past}
use Rattle.gw_rules.specs.declared.rule.Rule.{Rule}
use Rattle.gw_rule_index.specs.internal.Row.{Marks, bit, is_marked}

-- ---- one more word, and one more bit
pub word_placed : (f : ℕ → ℕ → ℕ) (words : List ℕ) (place word : ℕ) → place < length words → ((k b : ℕ) → k < place → b < 64 → bit_at (get_or words k 0) b ≡ f k b) → ((b : ℕ) → b < 64 → bit_at word b ≡ f place b) → (k b : ℕ) → k < place + 1 → b < 64 → bit_at (get_or (set words place word) k 0) b ≡ f k b
word_placed f words place word within before here k b below inside =
    elim (cases_lt k place) [
      | inl lower ↦
          let apart : k ≢ place = omega arith in
          ap (λ w. bit_at w b) (get_or-set_other words place k word 0 apart) ∙ before k b lower inside
      | inr upper ↦
          let same : k ≡ place = omega arith in
          ap (λ j. bit_at (get_or (set words place word) j 0) b) same
          ∙ ap (λ w. bit_at w b) (get_or-set_same words place word 0 within)
          ∙ here b inside
          ∙ ap (λ j. f j b) (sym same)
    ]

-- the bits below a place are those of f, and those from it on are clear
pub record HasBits (f : ℕ → ℕ) (word place : ℕ) : Type 0 where
  pub done : (b : ℕ) → b < place → bit_at word b ≡ f b
  pub left : (b : ℕ) → place ≤ b → bit_at word b ≡ 0

pub bit_set : (f : ℕ → ℕ) (word place : ℕ) → place < 64 → f place ≡ 1 → ((b : ℕ) → b < place → bit_at word b ≡ f b) → ((b : ℕ) → place ≤ b → bit_at word b ≡ 0) → HasBits f (bit_or word (1 * 2 ^ place % 2 ^ 64)) (place + 1)
bit_set f word place inside set done left = record {
  done = λ b below. elim (cases_lt b place) [
    | inl lower ↦ let apart : b ≢ place = omega arith in bit_at_set_other w64 word place inside b apart ∙ done b lower
    | inr upper ↦
        let same : b ≡ place = omega arith in
        ap (λ j. bit_at (bit_or word (1 * 2 ^ place % 2 ^ 64)) j) same ∙ bit_at_set_same w64 word place inside ∙ sym set ∙ ap f (sym same)
  ];
  left = λ b past. let apart : b ≢ place = omega arith in bit_at_set_other w64 word place inside b apart ∙ left b (omega arith);
}

pub bit_left : (f : ℕ → ℕ) (word place : ℕ) → f place ≡ 0 → ((b : ℕ) → b < place → bit_at word b ≡ f b) → ((b : ℕ) → place ≤ b → bit_at word b ≡ 0) → HasBits f word (place + 1)
bit_left f word place clear done left = record {
  done = λ b below. elim (cases_lt b place) [
    | inl lower ↦ done b lower
    | inr upper ↦ let same : b ≡ place = omega arith in ap (λ j. bit_at word j) same ∙ left place (omega arith) ∙ sym clear ∙ ap f (sym same)
  ];
  left = λ b past. left b (omega arith);
}

-- ---- words of ones
pub all_ones : (count b : ℕ) → 64 ≤ count → b < 64 → bit_at 18446744073709551615 b ≡ bit (nat_lt b count)
all_ones count b full inside =
    bit_at_ones 64 b inside ∙ sym (ap bit (lt-ltb b count (omega arith)))

shifted : (count : ℕ) → count < 64 → 1 * 2 ^ count % 18446744073709551616 ≡ 2 ^ count
shifted count inside = one_shl count 64 inside

pub low_ones : (count b : ℕ) → count < 64 → b < 64 → bit_at (1 * 2 ^ count % 18446744073709551616 - 1) b ≡ bit (nat_lt b count)
low_ones count b few inside =
    ap (λ n. bit_at (n - 1) b) (shifted count few) ∙ elim (cases_lt b count) [
      | inl below ↦ bit_at_ones count b below ∙ sym (ap bit (lt-ltb b count below))
      | inr above ↦ bit_at_ones_above count b above ∙ sym (ap bit (le-ltb b count above))
    ]

-- ---- rows that are joined
both : (a b : Bool) → min (bit a) (bit b) ≡ bit (a && b)
both true true = refl
both true false = refl
both false true = refl
both false false = refl

marked_both : (one two : Rule → Bool) (o : Option Rule) → option_map_or (λ rule. one rule && two rule) o false ≡ (option_map_or one o false && option_map_or two o false)
marked_both one two None = refl
marked_both one two (Some rule) = refl

-- a row of which each word is that of two rows marks what both mark
pub marks_both : (before other after : List ℕ) (one two : Rule → Bool) (rules : List Rule) → ((k : ℕ) → k < 8 → get_or after k 0 ≡ bit_and (get_or before k 0) (get_or other k 0)) → Marks before one rules → Marks other two rules → Marks after (λ rule. one rule && two rule) rules
marks_both before other after one two rules is marks more k b word inside =
    let left : bit_at (get_or before k 0) b ≡ bit (is_marked one rules (64 * k + b)) = marks k b word inside in
    let right : bit_at (get_or other k 0) b ≡ bit (is_marked two rules (64 * k + b)) = more k b word inside in
    ap (λ w. bit_at w b) (is k word)
    ∙ bit_at_and (get_or before k 0) (get_or other k 0) b
    ∙ ap (λ n. min n (bit_at (get_or other k 0) b)) left
    ∙ ap (λ n. min (bit (is_marked one rules (64 * k + b))) n) right
    ∙ both (is_marked one rules (64 * k + b)) (is_marked two rules (64 * k + b))
    ∙ sym (ap bit (marked_both one two (slice_get rules (64 * k + b))))

-- ---- the row of all rules
every_marked : (rules : List Rule) (place : ℕ) → is_marked (λ _. true) rules place ≡ nat_lt place (length rules)
every_marked rules place =
    elim (cases_lt place (length rules)) [
      | inl within ↦ there rules place within ∙ sym (lt-ltb place (length rules) within)
      | inr past ↦ ap (λ o. option_map_or (λ _. true) o false) (slice_get_past rules place past) ∙ sym (le-ltb place (length rules) past)
    ]
  where
    there : (rules : List Rule) (place : ℕ) → place < length rules → is_marked (λ _. true) rules place ≡ true
    there [] place within = absurd (omega arith)
    there (rule ∷ rules) place within = ap (λ o. option_map_or (λ _. true) o false) (slice_get-get_or (rule ∷ rules) place rule within)

pub marks_every : (words : List ℕ) (rules : List Rule) → ((k b : ℕ) → k < 8 → b < 64 → bit_at (get_or words k 0) b ≡ bit (nat_lt b (length rules - 64 * k))) → Marks words (λ _. true) rules
marks_every words rules is k b word inside =
    is k b word inside ∙ ap bit (same k b) ∙ sym (ap bit (every_marked rules (64 * k + b)))
  where
    same : (k b : ℕ) → nat_lt b (length rules - 64 * k) ≡ nat_lt (64 * k + b) (length rules)
    same k b =
        elim (cases_lt (64 * k + b) (length rules)) [
          | inl below ↦ lt-ltb b (length rules - 64 * k) (omega arith) ∙ sym (lt-ltb (64 * k + b) (length rules) below)
          | inr above ↦ le-ltb b (length rules - 64 * k) (omega arith) ∙ sym (le-ltb (64 * k + b) (length rules) above)
        ]

-- ---- the first rule of a row
set_is : (b : Bool) → bit b ≡ 1 → b ≡ true
set_is true e = refl
set_is false e = absurd (omega arith)

clear_is : (b : Bool) → bit b ≡ 0 → b ≡ false
clear_is true e = absurd (omega arith)
clear_is false e = refl

-- a place is clear if its word is 0, or its bit
clear_at : (words : List ℕ) (test : Rule → Bool) (rules : List Rule) (place : ℕ) → Marks words test rules → place < 512 → bit_at (get_or words (place / 64) 0) (place % 64) ≡ 0 → is_marked test rules place ≡ false
clear_at words test rules place marks inside clear =
    let parts : 64 * (place / 64) + place % 64 ≡ place = omega (arith, div-add-mod' place 64) in
    let is = marks (place / 64) (place % 64) (div_below place 64 8 (omega arith) (omega arith)) (mod_below place 64 (omega arith)) in
    ap (is_marked test rules) (sym parts) ∙ clear_is (is_marked test rules (64 * (place / 64) + place % 64)) (sym is ∙ clear)

unmarked : (test : Rule → Bool) (rules : List Rule) (place : ℕ) (d : Rule) → place < length rules → is_marked test rules place ≡ false → test (get_or rules place d) ≡ false
unmarked test rules place d within e =
    ap (λ o. option_map_or test o false) (sym (slice_get-get_or rules place d within)) ∙ e

-- no word is set: no rule passes
pub none_marked : (words : List ℕ) (test : Rule → Bool) (rules : List Rule) → length rules ≤ 512 → ((k : ℕ) → k < 8 → get_or words k 0 ≡ 0) → Marks words test rules → position test rules ≡ None
none_marked words test [] few zero marks = refl
none_marked words test (rule ∷ rules) few zero marks =
    let clear : (place : ℕ) → place < length (rule ∷ rules) → test (get_or (rule ∷ rules) place rule) ≡ false = λ place within.
    let inside : place < 512 = omega arith in
    unmarked test (rule ∷ rules) place rule within
    (clear_at words test (rule ∷ rules) place marks inside (ap (λ w. bit_at w (place % 64)) (zero (place / 64) (div_below place 64 8 (omega arith) (omega arith))) ∙ bit_at-zero (place % 64))) in
    let at : position_or_len test (rule ∷ rules) ≡ length (rule ∷ rules) = position_or_len_is test (rule ∷ rules) (length (rule ∷ rules)) rule (omega arith) clear (λ h. absurd (omega arith)) in
    ap (λ n. cond (nat_lt n (length (rule ∷ rules))) (Some n) None) at
    ∙ ap (λ b. cond b (Some (length (rule ∷ rules))) None) (le-ltb (length (rule ∷ rules)) (length (rule ∷ rules)) (omega arith))

-- the lowest bit of the first word that is set: the first rule that passes
first_at : (test : Rule → Bool) (rules : List Rule) (place : ℕ) (o : Option Rule) → slice_get rules place ≡ o → option_map_or test o false ≡ true → ((lower : ℕ) → lower < place → is_marked test rules lower ≡ false) → position test rules ≡ Some place
first_at test rules place None there passes below = absurd (cc)
first_at test rules place (Some rule) there passes below =
    let within = slice_get_within rules place rule there in
    let is : get_or rules place rule ≡ rule = get_or_from_slice_get rules place rule rule there in
    let at : position_or_len test rules ≡ place = position_or_len_is test rules place rule (omega arith) (λ lower less. unmarked test rules lower rule (omega arith) (below lower less)) (λ _. ap test is ∙ passes) in
    ap (λ n. cond (nat_lt n (length rules)) (Some n) None) at
    ∙ ap (λ b. cond b (Some place) None) (lt-ltb place (length rules) within)

pub first_marked : (words : List ℕ) (test : Rule → Bool) (rules : List Rule) (k t : ℕ) → k < 8 → t < 64 → bit_at (get_or words k 0) t ≡ 1 → ((i : ℕ) → i < t → bit_at (get_or words k 0) i ≡ 0) → ((j : ℕ) → j < k → get_or words j 0 ≡ 0) → Marks words test rules → position test rules ≡ Some (64 * k + t)
first_marked words test rules k t word small set low zero marks =
    let here : is_marked test rules (64 * k + t) ≡ true = set_is (is_marked test rules (64 * k + t)) (sym (marks k t word small) ∙ set) in
    first_at test rules (64 * k + t) (slice_get rules (64 * k + t)) refl here (lower_clear t small low)
  where
    lower_clear : (t : ℕ) → t < 64 → ((i : ℕ) → i < t → bit_at (get_or words k 0) i ≡ 0) → (lower : ℕ) → lower < 64 * k + t → is_marked test rules lower ≡ false
    lower_clear t small low lower less =
        let j : ℕ = lower / 64 in
        let i : ℕ = lower % 64 in
        let inside : lower % 64 < 64 = mod_below lower 64 (omega arith) in
        let parts : lower / 64 * 64 + lower % 64 ≡ lower = div-add-mod' lower 64 in
        let past : lower < 512 = omega arith in
        clear_at words test rules lower marks past (elim (cases_lt (lower / 64) k) [
          | inl before ↦ ap (λ w. bit_at w (lower % 64)) (zero (lower / 64) before) ∙ bit_at-zero (lower % 64)
          | inr after ↦
              let same : lower / 64 ≡ k = omega arith in
              let under : lower % 64 < t = omega arith in
              ap (λ n. bit_at (get_or words n 0) (lower % 64)) same ∙ low (lower % 64) under
        ])
