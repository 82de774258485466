-- The texts of the fields: what they lack, and that each is of one value.
use Rattle.std.proofs.Common.{◌≡◌, ◌≢◌, ℕ, suc, ◌/◌, ◌%◌, ◌^◌, ◌<◌, Bool, true, false, cond, List, [], ◌∷◌, get_or, Option, Some, None, refl, sym, ap, ap₂, ◌∙◌, arith, nat_eq}
use Rattle.std.specs.Prelude.{IfSome, ◌||◌, if◌then◌else◌, nat_lt}
use Rattle.std.specs.Char.{IsAsciiDigit}
use Rattle.std.specs.Fmt.{decimal}
use Rattle.std.specs.List.{flat_map}
use Rattle.std.specs.Option.{option_map_or}
use Rattle.std.proofs.lemmas.Bool.{eq-eqb}
use Rattle.std.proofs.lemmas.Bool.Decides.{nat_tests}
use Rattle.std.proofs.lemmas.Fmt.{decimal_injective, decimal_nonempty}
use Rattle.std.proofs.lemmas.List.Concat.{flat_map-cons}
use Rattle.gw_addr.specs.Reading.{AreOctets}
use Rattle.gw_addr.specs.Station.{digit_of, two_digits}
use Rattle.gw_addr.specs.Text.{Lacks}
use Rattle.gw_addr.proofs.Lacking.{lacks_cons, not_in_decimal}
use Rattle.gw_rules.specs.declared.operation.Operation.{Operation}
use Rattle.gw_rules.specs.declared.operation.Operation.TheVariants.{Cast, Route, Register, Delete, ReadTable, WriteTable, Learn, Network, Read, Write, List as Listing, Enter, Claim}
use Rattle.gw_rules.specs.Operation.{operation_name, operation_number}
use Rattle.gw_rules.proofs.Operations.{number_found, one_name}
use Rattle.gw_audit.specs.Line.{field_text, operation_named, operation_of, operation_word}

-- ---- which characters a text lacks

-- the empty text lacks all
pub lacks_in_none : (c : ℕ) → Lacks c []
lacks_in_none c i lt e = absurd (omega arith)

-- the test of a whole text
unfoldable pub has_none : ℕ → List ℕ → Bool
has_none c [] = true
has_none c (x ∷ xs) = cond (nat_eq x c) false (has_none c xs)

lacks_first : (c x : ℕ) (xs : List ℕ) (b : Bool) → nat_eq x c ≡ b → cond b false (has_none c xs) ≡ true → (has_none c xs ≡ true → Lacks c xs) → Lacks c (x ∷ xs)
lacks_first c x xs true same h later = absurd cc
lacks_first c x xs false other h later =
    lacks_cons c x xs (λ e. let same = eq-eqb x c e in absurd cc) (later h)

pub lacks_by_test : (c : ℕ) (xs : List ℕ) → has_none c xs ≡ true → Lacks c xs
unfolding has_none
lacks_by_test c [] h = lacks_in_none c
lacks_by_test c (x ∷ xs) h = lacks_first c x xs (nat_eq x c) refl h (lacks_by_test c xs)

-- no number is a space, a line feed, a comma or a colon
pub space : ¬ (IsAsciiDigit 32)
space h = absurd (omega arith)

pub feed : ¬ (IsAsciiDigit 10)
feed h = absurd (omega arith)

pub comma : ¬ (IsAsciiDigit 44)
comma h = absurd (omega arith)

pub colon : ¬ (IsAsciiDigit 58)
colon h = absurd (omega arith)

dash : ¬ (IsAsciiDigit 45)
dash h = absurd (omega arith)

-- ---- a field

-- a number of 64 bits, or none
abbrev pub IsSmall : Option ℕ → Type 0
IsSmall value = IfSome value (λ n. n < 2 ^ 64)

pub field_lacks : (c : ℕ) → ¬ (IsAsciiDigit c) → 45 ≢ c → (value : Option ℕ) → IsSmall value → Lacks c (field_text value)
field_lacks c digit other None small = lacks_cons c 45 [] other (lacks_in_none c)
field_lacks c digit other (Some n) small = not_in_decimal n c small digit

pub no_dash : (n : ℕ) → n < 2 ^ 64 → decimal n ≡ 45 ∷ [] → ⊥
no_dash n small e =
    not_in_decimal n 45 small dash 0 (decimal_nonempty n small) (ap (λ (t : List ℕ). get_or t 0 0) e)

pub field_same : (a b : Option ℕ) → IsSmall a → IsSmall b → field_text a ≡ field_text b → a ≡ b
field_same None None sa sb e = refl
field_same None (Some n) sa sb e = absurd (no_dash n sb (sym e))
field_same (Some m) None sa sb e = absurd (no_dash m sa e)
field_same (Some m) (Some n) sa sb e = ap (λ (x : ℕ). Some x) (decimal_injective m n sa sb e)

-- ---- an operation

-- a name begins with a letter, and has neither a space nor a line feed
pub letter : (o : Operation) → 57 < get_or (operation_name o) 0 0
letter o = elim o as (λ o. 57 < get_or (operation_name o) 0 0) [ Cast ↦ omega arith | Route ↦ omega arith | Register ↦ omega arith | Delete ↦ omega arith | ReadTable ↦ omega arith | WriteTable ↦ omega arith | Learn ↦ omega arith | Network ↦ omega arith | Read ↦ omega arith | Write ↦ omega arith | Listing ↦ omega arith | Enter ↦ omega arith | Claim ↦ omega arith ]

has_no_space : (o : Operation) → has_none 32 (operation_name o) ≡ true
unfolding has_none
has_no_space o = elim o as (λ o. has_none 32 (operation_name o) ≡ true) [ Cast ↦ refl | Route ↦ refl | Register ↦ refl | Delete ↦ refl | ReadTable ↦ refl | WriteTable ↦ refl | Learn ↦ refl | Network ↦ refl | Read ↦ refl | Write ↦ refl | Listing ↦ refl | Enter ↦ refl | Claim ↦ refl ]

has_no_feed : (o : Operation) → has_none 10 (operation_name o) ≡ true
unfolding has_none
has_no_feed o = elim o as (λ o. has_none 10 (operation_name o) ≡ true) [ Cast ↦ refl | Route ↦ refl | Register ↦ refl | Delete ↦ refl | ReadTable ↦ refl | WriteTable ↦ refl | Learn ↦ refl | Network ↦ refl | Read ↦ refl | Write ↦ refl | Listing ↦ refl | Enter ↦ refl | Claim ↦ refl ]

-- it is no number
pub no_number : (o : Operation) (n : ℕ) → n < 2 ^ 64 → operation_name o ≡ decimal n → ⊥
no_number o n small e =
    let other : ¬ (IsAsciiDigit (get_or (operation_name o) 0 0)) = λ digit. absurd (omega (arith, letter o, digit)) in
    not_in_decimal n (get_or (operation_name o) 0 0) small other 0 (decimal_nonempty n small) (ap (λ (t : List ℕ). get_or t 0 0) (sym e))

-- and no dash
pub no_absent : (o : Operation) → operation_name o ≡ 45 ∷ [] → ⊥
no_absent o e = absurd (omega (arith, letter o, ap (λ (t : List ℕ). get_or t 0 0) e))

abbrev pub of_number : Option Operation → ℕ → List ℕ
of_number found number = option_map_or operation_name found (decimal number)

of_number_lacks : (c : ℕ) → ¬ (IsAsciiDigit c) → ((o : Operation) → has_none c (operation_name o) ≡ true) → (found : Option Operation) (n : ℕ) → n < 2 ^ 64 → Lacks c (of_number found n)
of_number_lacks c digit names None n small = not_in_decimal n c small digit
of_number_lacks c digit names (Some o) n small = lacks_by_test c (operation_name o) (names o)

operation_lacks : (c : ℕ) → ¬ (IsAsciiDigit c) → 45 ≢ c → ((o : Operation) → has_none c (operation_name o) ≡ true) → (b : Bool) (value : Option ℕ) → IsSmall value → Lacks c (operation_word b value)
operation_lacks c digit other names b None small = lacks_cons c 45 [] other (lacks_in_none c)
operation_lacks c digit other names b (Some n) small = of_number_lacks c digit names (operation_named b n) n small

pub operation_spaceless : (b : Bool) (value : Option ℕ) → IsSmall value → Lacks 32 (operation_word b value)
operation_spaceless = operation_lacks 32 space (λ e. absurd (omega arith)) has_no_space

pub operation_feedless : (b : Bool) (value : Option ℕ) → IsSmall value → Lacks 10 (operation_word b value)
operation_feedless = operation_lacks 10 feed (λ e. absurd (omega arith)) has_no_feed

-- an operation that is named has that number
pub named_found : (b : Bool) (n : ℕ) (o : Operation) → operation_named b n ≡ Some o → n ≡ operation_number o
named_found b n o e = by (b || nat_lt n 12) e
  where
    by : (t : Bool) → (if t then operation_of n else None) ≡ Some o → n ≡ operation_number o
    by true f = (number_found (operation_of n) n refl o).0 f
    by false f = absurd cc

no_absent_number : (found : Option Operation) (n : ℕ) → n < 2 ^ 64 → of_number found n ≡ 45 ∷ [] → ⊥
no_absent_number None n small e = no_dash n small e
no_absent_number (Some o) n small e = no_absent o e

same_number : (b : Bool) (m n : ℕ) → m < 2 ^ 64 → n < 2 ^ 64 → (f g : Option Operation) → operation_named b m ≡ f → operation_named b n ≡ g → of_number f m ≡ of_number g n → m ≡ n
same_number b m n sm sn None None ef eg e = decimal_injective m n sm sn e
same_number b m n sm sn None (Some p) ef eg e = absurd (no_number p m sm (sym e))
same_number b m n sm sn (Some o) None ef eg e = absurd (no_number o n sn e)
same_number b m n sm sn (Some o) (Some p) ef eg e = named_found b m o ef ∙ ap operation_number (one_name o p e) ∙ sym (named_found b n p eg)

pub operation_same : (b : Bool) (x y : Option ℕ) → IsSmall x → IsSmall y → operation_word b x ≡ operation_word b y → x ≡ y
operation_same b None None sx sy e = refl
operation_same b None (Some n) sx sy e = absurd (no_absent_number (operation_named b n) n sy (sym e))
operation_same b (Some m) None sx sy e = absurd (no_absent_number (operation_named b m) m sx e)
operation_same b (Some m) (Some n) sx sy e =
    ap (λ (x : ℕ). Some x) (same_number b m n sx sy (operation_named b m) (operation_named b n) refl refl e)

-- ---- the octets of a station

digit_above : (n : ℕ) → 47 < digit_of n
digit_above n = grind (arith, nat_tests)

pub digits_lack : (c : ℕ) → c < 48 → (octets : List ℕ) → Lacks c (flat_map two_digits octets)
digits_lack c low [] = lacks_in_none c
digits_lack c low (x ∷ xs) =
    let later = digits_lack c low xs in
    lacks_cons c (digit_of (x / 16)) (digit_of (x % 16) ∷ flat_map two_digits xs) (λ e. absurd (omega (arith, digit_above (x / 16))))
    (lacks_cons c (digit_of (x % 16)) (flat_map two_digits xs) (λ e. absurd (omega (arith, digit_above (x % 16)))) later)

digit_same : (m n : ℕ) → m < 16 → n < 16 → digit_of m ≡ digit_of n → m ≡ n
digit_same m n sm sn e = grind (arith, nat_tests)

octet_same : (a b : ℕ) → a < 256 → b < 256 → digit_of (a / 16) ≡ digit_of (b / 16) → digit_of (a % 16) ≡ digit_of (b % 16) → a ≡ b
octet_same a b sa sb high low =
    let highs = digit_same (a / 16) (b / 16) (omega arith) (omega arith) high in
    let lows = digit_same (a % 16) (b % 16) (omega arith) (omega arith) low in
    omega (arith, highs, lows)

pub digits_same : (xs ys : List ℕ) → AreOctets xs → AreOctets ys → flat_map two_digits xs ≡ flat_map two_digits ys → xs ≡ ys
digits_same [] [] fx fy e = refl
digits_same [] (y ∷ ys) fx fy e = let cells = e ∙ flat_map-cons two_digits y ys in absurd cc
digits_same (x ∷ xs) [] fx fy e = let cells = sym (flat_map-cons two_digits x xs) ∙ e in absurd cc
digits_same (x ∷ xs) (y ∷ ys) fx fy e =
    let cells : digit_of (x / 16) ∷ digit_of (x % 16) ∷ flat_map two_digits xs ≡ digit_of (y / 16) ∷ digit_of (y % 16) ∷ flat_map two_digits ys = sym (flat_map-cons two_digits x xs) ∙ e ∙ flat_map-cons two_digits y ys in
    let high : digit_of (x / 16) ≡ digit_of (y / 16) = cc in
    let low : digit_of (x % 16) ≡ digit_of (y % 16) = cc in
    let rest : flat_map two_digits xs ≡ flat_map two_digits ys = cc in
    ap₂ (λ (z : ℕ) (zs : List ℕ). z ∷ zs) (octet_same x y (fx 0) (fy 0) high low) (digits_same xs ys (λ i. fx (suc i)) (λ i. fy (suc i)) rest)
