-- A text that a writer of JSON gives has no control octets.
use Rattle.std.proofs.Common.{◌≡◌, ◌⊎◌, inl, inr, ℕ, zero, suc, ◌<◌, ◌≤◌, ◌/◌, ◌%◌, ◌^◌, ◌==◌, Bool, true, false, cond, List, [], ◌∷◌, ◌++◌, length, decimal, refl, arith}
use Rattle.std.specs.Prelude.{⊤, get_or, nat_lt, slice_index, ◌||◌, ◌&&◌}
use Rattle.std.specs.Char.{digit_char}
use Rattle.std.proofs.lemmas.Fmt.{decimal_is_IsNumeral}
use Rattle.std.proofs.lemmas.Str.Parse.{digit_at}
use Rattle.json.specs.Print.{escape, escape_byte, escape_letter, print_from, quoted, separator, token_text, ends, begins}
use Rattle.json.specs.Token.{Token}

-- ---- texts without control octets

abbrev pub Each : {A : Type 0} → (A → Type 0) → List A → Type 0
Each P [] = ⊤
Each P (x ∷ xs) = P x × Each P xs

pub each_append : {A : Type 0} (P : A → Type 0) (xs ys : List A) → Each P xs → Each P ys → Each P (xs ++ ys)
each_append P [] ys front rest = rest
each_append P (x ∷ xs) ys front rest = (front.0, each_append P xs ys front.1 rest)

abbrev pub IsPlain : List ℕ → Type 0
IsPlain text = Each (λ octet. 32 ≤ octet) text

pub all_plain : (text : List ℕ) → IsPlain text → (k d : ℕ) → k < length text → 32 ≤ get_or text k d
all_plain [] plain k d within = absurd (omega arith)
all_plain (x ∷ text) plain zero d within = plain.0
all_plain (x ∷ text) plain (suc k) d within = all_plain text plain.1 k d (omega arith)

chosen : (b : Bool) (xs ys : List ℕ) → (b ≡ true → IsPlain xs) → (b ≡ false → IsPlain ys) → IsPlain (cond b xs ys)
chosen true xs ys first other = first refl
chosen false xs ys first other = other refl

big : (b : Bool) (x y : ℕ) → (b ≡ true → 32 ≤ x) → ((32 ≤ y) ⊎ (y ≡ 0)) → (32 ≤ cond b x y) ⊎ (cond b x y ≡ 0)
big true x y first rest = inl (first refl)
big false x y first rest = rest

quote_big : (x : ℕ) → ((x == 34) || (x == 92)) ≡ true → 32 ≤ x
quote_big x is = grind (arith, is)

letter_big : (x : ℕ) → (32 ≤ escape_letter x) ⊎ (escape_letter x ≡ 0)
letter_big x =
    big ((x == 34) || (x == 92)) x _ (quote_big x)
    (big (x == 8) 98 _ (λ _. omega arith)
    (big (x == 12) 102 _ (λ _. omega arith)
    (big (x == 10) 110 _ (λ _. omega arith)
    (big (x == 13) 114 _ (λ _. omega arith)
    (big (x == 9) 116 _ (λ _. omega arith) (inr refl))))))

letter_plain : (n : ℕ) → ((32 ≤ n) ⊎ (n ≡ 0)) → nat_lt 0 n ≡ true → IsPlain (92 ∷ n ∷ [])
letter_plain n (inl most) some = (omega arith, (most, tt))
letter_plain n (inr none) some = absurd (grind (arith, none, some))

glyph_big : (n : ℕ) → 32 ≤ digit_char n
glyph_big n = grind arith

byte_plain : (x : ℕ) → IsPlain (escape_byte x)
unfolding escape_byte
byte_plain x =
    let hex : IsPlain (92 ∷ 117 ∷ 48 ∷ 48 ∷ digit_char (x / 16) ∷ digit_char (x % 16) ∷ []) = (omega arith, (omega arith, (omega arith, (omega arith, (glyph_big (x / 16), (glyph_big (x % 16), tt)))))) in
    let itself : nat_lt x 32 ≡ false → IsPlain (x ∷ []) = λ most. (grind (arith, most), tt) in
    chosen (nat_lt 0 (escape_letter x)) (92 ∷ escape_letter x ∷ []) _ (letter_plain (escape_letter x) (letter_big x))
    (λ _. chosen (nat_lt x 32) _ (x ∷ []) (λ _. hex) itself)

escape_plain : (s : List ℕ) → IsPlain (escape s)
escape_plain [] = tt
escape_plain (x ∷ s) = each_append (λ octet. 32 ≤ octet) (escape_byte x) (escape s) (byte_plain x) (escape_plain s)

quoted_plain : (s : List ℕ) → IsPlain (quoted s)
quoted_plain s = (omega arith, each_append (λ octet. 32 ≤ octet) (escape s) (34 ∷ []) (escape_plain s) (omega arith, tt))

digits_plain : (ds : List ℕ) → ((i : ℕ) → i < length ds → 32 ≤ slice_index ds i) → IsPlain ds
digits_plain [] each = tt
digits_plain (d ∷ ds) each = (each 0 (omega arith), digits_plain ds (λ i within. each (suc i) (omega arith)))

pub decimal_plain : (n : ℕ) → n < 2 ^ 64 → IsPlain (decimal n)
decimal_plain n fits = digits_plain (decimal n) (λ i within. omega (arith, digit_at (decimal n) i (decimal_is_IsNumeral n fits).0.1 within))

-- ---- tokens

-- a token whose number, if it has one, is plain
abbrev pub IsPlainToken : Token → Type 0
IsPlainToken Token.begin_object = ⊤
IsPlainToken Token.end_object = ⊤
IsPlainToken Token.begin_array = ⊤
IsPlainToken Token.end_array = ⊤
IsPlainToken (Token.key s) = ⊤
IsPlainToken (Token.string s) = ⊤
IsPlainToken (Token.number s) = IsPlain s
IsPlainToken (Token.boolean b) = ⊤
IsPlainToken Token.null = ⊤
IsPlainToken Token.bad = ⊤

token_plain : (t : Token) → IsPlainToken t → IsPlain (token_text t)
token_plain Token.begin_object is = (omega arith, tt)
token_plain Token.end_object is = (omega arith, tt)
token_plain Token.begin_array is = (omega arith, tt)
token_plain Token.end_array is = (omega arith, tt)
token_plain (Token.key s) is = each_append (λ octet. 32 ≤ octet) (quoted s) (58 ∷ []) (quoted_plain s) (omega arith, tt)
token_plain (Token.string s) is = quoted_plain s
token_plain (Token.number s) is = is
token_plain (Token.boolean true) is = (omega arith, (omega arith, (omega arith, (omega arith, tt))))
token_plain (Token.boolean false) is = (omega arith, (omega arith, (omega arith, (omega arith, (omega arith, tt)))))
token_plain Token.null is = (omega arith, (omega arith, (omega arith, (omega arith, tt))))
token_plain Token.bad is = tt

separator_plain : (b : Bool) (t : Token) → IsPlain (separator b t)
separator_plain b t = chosen (b && begins t) _ _ (λ _. (omega arith, tt)) (λ _. tt)

pub print_plain : (b : Bool) (ts : List Token) → Each IsPlainToken ts → IsPlain (print_from b ts)
unfolding print_from
print_plain b [] are = tt
print_plain b (t ∷ ts) are =
    each_append (λ octet. 32 ≤ octet) (separator b t) (token_text t ++ print_from (ends t) ts) (separator_plain b t)
    (each_append (λ octet. 32 ≤ octet) (token_text t) (print_from (ends t) ts) (token_plain t are.0) (print_plain (ends t) ts are.1))
