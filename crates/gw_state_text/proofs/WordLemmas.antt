-- Words: what is read of one is there, and what is there is read.
use Rattle.std.proofs.Common.{◌≡◌, ◌≢◌, ℕ, suc, ◌+◌, ◌^◌, ◌<◌, ◌≤◌, Bool, true, false, ◌&&◌, List, [], ◌∷◌, ◌++◌, ◌-◌, length, take, drop, get_or, Bor, Option, Some, None, Result, Ok, nat_eq, refl, sym, ap, subst, ◌∙◌, append_assoc, arith}
use Rattle.std.specs.Prelude.{IfSome, MatchOption, ◌==◌, nat_lt, if◌then◌else◌, position}
use Rattle.std.specs.Cmp.Lexicographic.{pointwise, same_text}
use Rattle.std.specs.Fmt.{decimal}
use Rattle.std.specs.List.{position_or_len}
use Rattle.std.specs.Char.{IsAsciiDigit}
use Rattle.std.specs.Option.{IsSomeAnd}
use Rattle.std.specs.Str.{IsAscii, IsUtf8}
use Rattle.std.specs.Str.Parse.{ParsesUnsigned, digits_value}
use Rattle.std.proofs.lemmas.Bool.{lt-ltb, ltb-true, eqb-true, eq-eqb}
use Rattle.std.proofs.lemmas.Cmp.{nat_list_eq_equiv}
use Rattle.std.proofs.lemmas.Fmt.{IsAscii-decimal, digits_value-decimal, parse-decimal}
use Rattle.std.proofs.lemmas.List.{append_cancel_left, drop_more, length-drop, take-append-drop, drop_at, length-append}
use Rattle.std.proofs.Math.Seq.{take-length}
use Rattle.std.proofs.lemmas.List.Quantifiers.{position-Some}
use Rattle.std.proofs.lemmas.Str.{IsAscii-append, IsUtf8-from_ascii}
use Rattle.std.proofs.lemmas.Str.Ascii.{IsAscii-cons}
use Rattle.gw_addr.specs.declared.bip.BipAddr.{BipAddr}
use Rattle.gw_addr.specs.Address.{IsAddress, text_of}
use Rattle.gw_addr.specs.declared.mask.Mask.{Mask}
use Rattle.gw_addr.specs.Mask.{IsMask, mask_text}
use Rattle.gw_addr.specs.Text.{Lacks, four_text}
use Rattle.gw_addr.proofs.Lacking.{address_lacks, lacks_append, lacks_cons, not_in_decimal}
use Rattle.gw_addr.proofs.Decimal.{own}
use Rattle.gw_state_text.specs.Words.{number_in}

-- ---- texts

-- a text is the same as itself
pub same_as_itself : (text : List ℕ) → pointwise nat_eq text text ≡ true
same_as_itself text = nat_list_eq_equiv.refl text

-- the test of two texts that are the same says so
pub differs : (xs ys : List ℕ) → xs ≡ ys → false ≡ pointwise nat_eq xs ys → ⊥
differs xs ys same e =
    let is : pointwise nat_eq xs ys ≡ true = ap (pointwise nat_eq xs) (sym same) ∙ same_as_itself xs in
    absurd (let both = e ∙ is in cc)

abbrev pub some : {A : Type 0} → A → Option A
some x = Some x

pub some_is : {A : Type 0} (x y : A) → some x ≡ some y → x ≡ y
some_is x y e = cc

-- ---- a number

pub record IsNumberIn (text : List ℕ) (n : ℕ) : Type 0 where
  pub spelled : text ≡ decimal n
  pub small : n < 2 ^ 64

pub number_takes : (text : List ℕ) (n : ℕ) → number_in text ≡ Some n → IsNumberIn text n
number_takes text n e = by (nat_lt v (2 ^ 64)) (pointwise nat_eq (decimal v) text) refl refl e
  where
    v : ℕ
    v = digits_value 10 text

    by : (small same : Bool) → nat_lt v (2 ^ 64) ≡ small → pointwise nat_eq (decimal v) text ≡ same
        → (if small && same then Some v else None) ≡ Some n → IsNumberIn text n
    by true true f g e =
        let is : v ≡ n = some_is v n e in
        record {
          spelled = sym (same_text (decimal v) text (sym g)) ∙ ap decimal is;
          small = subst (λ (k : ℕ). k < 2 ^ 64) is (ltb-true v (2 ^ 64) f);
        }
    by true false f g e = absurd cc
    by false same f g e = absurd cc

pub number_again : (text : List ℕ) (n : ℕ) → n < 2 ^ 64 → text ≡ decimal n → number_in text ≡ Some n
number_again text n small is =
    let value : digits_value 10 text ≡ n = ap (digits_value 10) is ∙ digits_value-decimal own n small in
    let fits : nat_lt n (2 ^ 64) ≡ true = lt-ltb n (2 ^ 64) small in
    let same : pointwise nat_eq (decimal n) text ≡ true = ap (pointwise nat_eq (decimal n)) is ∙ same_as_itself (decimal n) in
    rw (value, fits, same) refl

no_number : (text : List ℕ) → ((n : ℕ) → n < 2 ^ 64 → text ≢ decimal n) → number_in text ≡ None
no_number text none = by (number_in text) refl
  where
    by : (found : Option ℕ) → number_in text ≡ found → number_in text ≡ None
    by None e = e
    by (Some n) e =
        let is = number_takes text n e in
        absurd (none n is.small is.spelled)

-- what is no text is no number
pub no_text : (text : List ℕ) → ¬ (IsUtf8 text) → number_in text ≡ None
no_text text other = no_number text (λ n small e. other (subst IsUtf8 (sym e) (IsUtf8-from_ascii (decimal n) (IsAscii-decimal n small))))

-- what is not parsed to a number that is written so is none
pub unparsed : {E : Type 0} (text digits : List ℕ) (r : Result ℕ E) → digits ≡ text → ParsesUnsigned 64 10 digits r
    → ((n : ℕ) → r ≡ Ok n → text ≢ decimal n) → number_in text ≡ None
unparsed text digits r same parses other =
    no_number text (λ n small e. other n (parse-decimal 64 n digits r small small (same ∙ e) parses) e)

-- ---- a word

-- another character
pub other_character : (x c : ℕ) → x ≢ c → (x == c) ≡ false
other_character x c other = by (x == c) refl
  where
    by : (b : Bool) → (x == c) ≡ b → (x == c) ≡ false
    by true e = absurd (other (eqb-true x c e))
    by false e = e

-- the first such character is the one before which the text lacks it
first_place : (c : ℕ) (word rest : List ℕ) → Lacks c word → position_or_len (λ x. x == c) (word ++ c ∷ rest) ≡ length word
first_place c [] rest lacks = rw (eq-eqb c c refl) refl
first_place c (x ∷ word) rest lacks =
    let other = other_character x c (lacks 0 (omega arith)) in
    let later = first_place c word rest (λ i lt. lacks (suc i) (omega arith)) in
    rw (other, later) (omega arith)

pub place_first : (c : ℕ) (word rest : List ℕ) → Lacks c word → position (λ x. x == c) (word ++ c ∷ rest) ≡ Some (length word)
place_first c word rest lacks =
    let within : nat_lt (length word) (length (word ++ c ∷ rest)) ≡ true = lt-ltb _ _ (omega (arith, length-append word (c ∷ rest))) in
    rw (first_place c word rest lacks, within) refl

pub drop_past : (c : ℕ) (xs ys : List ℕ) → drop (length xs + 1) (xs ++ c ∷ ys) ≡ ys
drop_past c xs ys =
    ap (drop (length xs + 1)) (sym (append_assoc xs (c ∷ []) ys))
    ∙ drop_at (xs ++ c ∷ []) ys (length xs + 1) (length-append xs (c ∷ []))

-- a text is what comes before the place of a character, that character, and what comes after it
pub parts_at : (c : ℕ) (text : List ℕ) (i : ℕ) → position (λ x. x == c) text ≡ Some i → text ≡ take i text ++ c ∷ drop (i + 1) text
parts_at c text i f =
    let found = position-Some (λ x. x == c) text i 0 f in
    let there : get_or text i 0 ≡ c = eqb-true (get_or text i 0) c found.1 in
    sym (take-append-drop i text) ∙ ap (λ (t : List ℕ). take i text ++ t) (drop_more text i 0 found.0)
    ∙ ap (λ (x : ℕ). take i text ++ x ∷ drop (i + 1) text) there

-- all that comes after the first characters
pub tail_whole : (n : ℕ) (xs : List ℕ) → take (length xs - n) (drop n xs) ≡ drop n xs
tail_whole n xs = ap (λ (k : ℕ). take k (drop n xs)) (sym (length-drop n xs)) ∙ take-length (drop n xs)

-- what comes after a word
pub found_after : (word text : List ℕ) (r : Option (Bor (List ℕ)))
    → MatchOption r ((rest : List ℕ) → text ≢ word ++ rest) (λ x. text ≡ word ++ x.now) → IfSome r (λ x. text ≡ word ++ x.now)
found_after word text None m = tt
found_after word text (Some x) m = m

pub only_after : (word text : List ℕ) (r : Option (Bor (List ℕ)))
    → MatchOption r ((rest : List ℕ) → text ≢ word ++ rest) (λ x. text ≡ word ++ x.now)
    → (rest : List ℕ) → text ≡ word ++ rest → IsSomeAnd r (λ x. x.now ≡ rest)
only_after word text None m rest e = absurd (m rest e)
only_after word text (Some x) m rest e = append_cancel_left word x.now rest (sym m ∙ e)

-- ---- masks

part_ascii : (n c : ℕ) (rest : List ℕ) → n < 2 ^ 64 → c < 128 → IsAscii rest → IsAscii (decimal n ++ c ∷ rest)
part_ascii n c rest small low ascii =
    IsAscii-append (decimal n) (c ∷ rest) (IsAscii-decimal n small) (IsAscii-cons c rest low ascii)

-- the text of a mask is of ASCII characters, and so of UTF-8
pub mask_utf8 : (m : Mask) → IsMask m → IsUtf8 (mask_text m)
unfolding four_text
mask_utf8 m is =
    let small : (i : ℕ) → get_or m.octets i 0 < 2 ^ 64 = λ i. omega (arith, is.octets i) in
    let last = decimal (get_or m.octets 3 0) in
    let later = decimal (get_or m.octets 2 0) ++ 46 ∷ last in
    let most = decimal (get_or m.octets 1 0) ++ 46 ∷ later in
    let third : IsAscii later = part_ascii (get_or m.octets 2 0) 46 last (small 2) (omega arith) (IsAscii-decimal (get_or m.octets 3 0) (small 3)) in
    let second : IsAscii most = part_ascii (get_or m.octets 1 0) 46 later (small 1) (omega arith) third in
    IsUtf8-from_ascii (mask_text m) (part_ascii (get_or m.octets 0 0) 46 most (small 0) (omega arith) second)

-- a number and a point, and a text after them that lacks the character
part_lacks : (n c : ℕ) (rest : List ℕ) → n < 2 ^ 64 → ¬ (IsAsciiDigit c) → 46 ≢ c → Lacks c rest → Lacks c (decimal n ++ 46 ∷ rest)
part_lacks n c rest small digit other lacks =
    lacks_append c (decimal n) (46 ∷ rest) (not_in_decimal n c small digit) (lacks_cons c 46 rest other lacks)

pub mask_lacks : (c : ℕ) → ¬ (IsAsciiDigit c) → 46 ≢ c → (m : Mask) → IsMask m → Lacks c (mask_text m)
unfolding four_text
mask_lacks c digit point m is =
    let small : (i : ℕ) → get_or m.octets i 0 < 2 ^ 64 = λ i. omega (arith, is.octets i) in
    let last = decimal (get_or m.octets 3 0) in
    let later = decimal (get_or m.octets 2 0) ++ 46 ∷ last in
    let most = decimal (get_or m.octets 1 0) ++ 46 ∷ later in
    part_lacks (get_or m.octets 0 0) c most (small 0) digit point
    (part_lacks (get_or m.octets 1 0) c later (small 1) digit point
    (part_lacks (get_or m.octets 2 0) c last (small 2) digit point (not_in_decimal (get_or m.octets 3 0) c (small 3) digit)))

-- no space and no line feed is in the text of an address
pub lacks_low : (c : ℕ) → c ≤ 32 → (a : BipAddr) → IsAddress a → Lacks c (text_of a)
lacks_low c low a is =
    address_lacks c (λ h. absurd (omega (arith, low, h))) (λ e. absurd (omega (arith, low, e))) (λ e. absurd (omega (arith, low, e))) a is

pub mask_lacks_feed : (m : Mask) → IsMask m → Lacks 10 (mask_text m)
mask_lacks_feed m is = mask_lacks 10 (λ h. absurd (omega (arith, h))) (λ e. absurd (omega (arith, e))) m is
