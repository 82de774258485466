-- Words: what is read of one is there, and what is there is read.
use Rattle.std.proofs.Common.{◌≡◌, ◌≢◌, ℕ, suc, ◌+◌, ◌^◌, ◌<◌, Bool, true, false, ◌&&◌, List, [], ◌∷◌, ◌++◌, length, take, drop, get_or, Option, Some, None, Result, Ok, nat_eq, refl, sym, ap, ap₂, subst, ◌∙◌, append_assoc, arith}
use Rattle.std.specs.Prelude.{◌==◌, nat_lt, is_some, if◌then◌else◌, position}
use Rattle.std.specs.Cmp.Lexicographic.{pointwise, same_text}
use Rattle.std.specs.Fmt.{decimal}
use Rattle.std.specs.List.{find, position_or_len}
use Rattle.std.specs.Option.{option_and_then, option_map}
use Rattle.std.specs.Str.{IsUtf8, is_utf8}
use Rattle.std.specs.Str.Parse.{digits_value}
use Rattle.std.specs.Str.Parse.{ParsesUnsigned}
use Rattle.std.proofs.lemmas.Bool.{lt-ltb, ltb-true, eqb-true, eq-eqb}
use Rattle.std.proofs.lemmas.Cmp.{nat_list_eq_equiv}
use Rattle.std.proofs.lemmas.Fmt.{IsAscii-decimal, digits_value-decimal, parse-decimal}
use Rattle.std.proofs.lemmas.List.{drop_more, take-append-drop, drop_at, length-append, take_at}
use Rattle.std.proofs.lemmas.List.Quantifiers.{position-Some}
use Rattle.std.proofs.lemmas.Str.{IsUtf8-from_ascii, IsUtf8-from_is_utf8, is_utf8-from_IsUtf8}
use Rattle.gw_addr.specs.Text.{Lacks}
use Rattle.gw_addr.proofs.Decimal.{own}
use Rattle.gw_rules.specs.declared.operation.Operation.{Operation}
use Rattle.gw_rules.specs.declared.operation.Operation.TheVariants.{Cast, Route, Register, Delete, ReadTable, WriteTable, Learn, Network, Read, Write, List as Listing, Enter, Claim}
use Rattle.gw_rules.specs.declared.operation.TheConstants.Operation.{ALL}
use Rattle.gw_rules.specs.Operation.{operation_name, operation_number}
use Rattle.gw_rules.proofs.Operations.{name_found, one_number}
use Rattle.gw_audit.specs.Line.{absent, field_text, operation_named, operation_word}
use Rattle.gw_audit.specs.internal.Reading.{◌>>=◌, field_in, name_of, number_in, operation_in, operation_or, other_number, parted_at}
use Rattle.gw_audit.proofs.Fields.{IsSmall, named_found, no_absent, no_dash}
use Rattle.gw_audit.proofs.Fields as fields

-- ---- texts

-- a text is the same as itself
pub same_as_itself : (text : List ℕ) → pointwise nat_eq text text ≡ true
same_as_itself text = nat_list_eq_equiv.refl text

-- the test of two texts that are different
pub not_same : (xs ys : List ℕ) → xs ≢ ys → pointwise nat_eq xs ys ≡ false
not_same xs ys other = by (pointwise nat_eq xs ys) refl
  where
    by : (b : Bool) → pointwise nat_eq xs ys ≡ b → pointwise nat_eq xs ys ≡ false
    by true e = absurd (other (same_text xs ys (sym e)))
    by false e = e

pub differs : (xs ys : List ℕ) → xs ≡ ys → false ≡ pointwise nat_eq xs ys → ⊥
differs xs ys same e =
    let is : pointwise nat_eq xs ys ≡ true = ap (pointwise nat_eq xs) (sym same) ∙ same_as_itself xs in
    absurd (let both = e ∙ is in cc)

abbrev pub some : {A : Type 0} → A → Option A
some x = Some x

pub some_is : {A : Type 0} (x y : A) → some x ≡ some y → x ≡ y
some_is x y e = cc

-- ---- steps

-- what came of a step that gave something
pub record Step {A B : Type 0} (r : Option A) (f : A → Option B) (y : B) : Type 0 where
  pub value : A
  pub gave : r ≡ Some value
  pub goes_on : f value ≡ Some y

pub step_of : {A B : Type 0} (r : Option A) (f : A → Option B) (y : B) → (r >>= f) ≡ Some y → Step r f y
step_of (Some x) f y e = record { value = x; gave = refl; goes_on = e }
step_of None f y e = absurd cc

-- ---- a name

pub name_there : (text : List ℕ) → IsUtf8 text → name_of text ≡ Some text
name_there text is = rw (is_utf8-from_IsUtf8 text is) refl

pub no_name : (text : List ℕ) → ¬ (IsUtf8 text) → name_of text ≡ None
no_name text other = by (is_utf8 text) refl
  where
    by : (b : Bool) → is_utf8 text ≡ b → name_of text ≡ None
    by true e = absurd (other (IsUtf8-from_is_utf8 text e))
    by false e = rw e refl

pub name_takes : (text name : List ℕ) → name_of text ≡ Some name → (text ≡ name) × IsUtf8 name
name_takes text name e = by (is_utf8 text) refl e
  where
    by : (b : Bool) → is_utf8 text ≡ b → (if b then Some text else None) ≡ Some name → (text ≡ name) × IsUtf8 name
    by true e h =
        let is : text ≡ name = some_is text name h in
        (is, subst IsUtf8 is (IsUtf8-from_is_utf8 text e))
    by false e h = absurd cc

-- ---- a number

pub record IsNumberIn (text : List ℕ) (n : ℕ) : Type 0 where
  pub spelled : text ≡ decimal n
  pub small : n < 2 ^ 64

pub number_takes : (text : List ℕ) (n : ℕ) → number_in text ≡ Some n → IsNumberIn text n
number_takes text n e = by (nat_lt v (2 ^ 64)) (pointwise nat_eq (decimal v) text) refl refl e
  where
    v : ℕ
    v = digits_value 10 text

    by : (small same : Bool) → nat_lt v (2 ^ 64) ≡ small → pointwise nat_eq (decimal v) text ≡ same
        → (if small && same then Some v else None) ≡ Some n → IsNumberIn text n
    by true true f g e =
        let is : v ≡ n = some_is v n e in
        record {
          spelled = sym (same_text (decimal v) text (sym g)) ∙ ap decimal is;
          small = subst (λ (k : ℕ). k < 2 ^ 64) is (ltb-true v (2 ^ 64) f);
        }
    by true false f g e = absurd cc
    by false same f g e = absurd cc

pub number_again : (text : List ℕ) (n : ℕ) → n < 2 ^ 64 → text ≡ decimal n → number_in text ≡ Some n
number_again text n small is =
    let value : digits_value 10 text ≡ n = ap (digits_value 10) is ∙ digits_value-decimal own n small in
    let fits : nat_lt n (2 ^ 64) ≡ true = lt-ltb n (2 ^ 64) small in
    let same : pointwise nat_eq (decimal n) text ≡ true = ap (pointwise nat_eq (decimal n)) is ∙ same_as_itself (decimal n) in
    rw (value, fits, same) refl

pub no_number : (text : List ℕ) → ((n : ℕ) → n < 2 ^ 64 → text ≢ decimal n) → number_in text ≡ None
no_number text none = by (number_in text) refl
  where
    by : (found : Option ℕ) → number_in text ≡ found → number_in text ≡ None
    by None e = e
    by (Some n) e =
        let is = number_takes text n e in
        absurd (none n is.small is.spelled)

-- what is no text is no number
pub no_text : (text : List ℕ) → ¬ (IsUtf8 text) → number_in text ≡ None
no_text text other = no_number text (λ n small e. other (subst IsUtf8 (sym e) (IsUtf8-from_ascii (decimal n) (IsAscii-decimal n small))))

-- what is not parsed to a number that is written so is none
pub unparsed : {E : Type 0} (text digits : List ℕ) (r : Result ℕ E) → digits ≡ text → ParsesUnsigned 64 10 digits r
    → ((n : ℕ) → r ≡ Ok n → text ≢ decimal n) → number_in text ≡ None
unparsed text digits r same parses other =
    no_number text (λ n small e. other n (parse-decimal 64 n digits r small small (same ∙ e) parses) e)

-- ---- a field

pub field_takes : (text : List ℕ) (value : Option ℕ) → field_in text ≡ Some value → (text ≡ field_text value) × IsSmall value
field_takes text value e = by (pointwise nat_eq text absent) (number_in text) refl refl e
  where
    by : (b : Bool) (found : Option ℕ) → pointwise nat_eq text absent ≡ b → number_in text ≡ found
        → (if b then Some None else (elim found [ None ↦ None | Some number ↦ Some (Some number) ])) ≡ Some value
        → (text ≡ field_text value) × IsSmall value
    by true found f g e =
        let is : None ≡ value = some_is None value e in
        subst (λ (v : Option ℕ). (text ≡ field_text v) × IsSmall v) is (same_text text absent (sym f), tt)
    by false None f g e = absurd cc
    by false (Some n) f g e =
        let is : Some n ≡ value = some_is (Some n) value e in
        let number = number_takes text n g in
        subst (λ (v : Option ℕ). (text ≡ field_text v) × IsSmall v) is (number.spelled, number.small)

pub field_again : (value : Option ℕ) → IsSmall value → field_in (field_text value) ≡ Some value
field_again None small = refl
field_again (Some n) small =
    let other : pointwise nat_eq (decimal n) absent ≡ false = not_same (decimal n) absent (no_dash n small) in
    rw (other, number_again (decimal n) n small refl) refl

-- ---- an operation

abbrev named : List ℕ → Option Operation
named text = find (λ operation. pointwise nat_eq (operation_name operation) text) ALL

name_again : (o : Operation) → named (operation_name o) ≡ Some o
name_again o = (name_found (named (operation_name o)) (operation_name o) refl o).1 refl

not_named : (n : ℕ) → n < 2 ^ 64 → (found : Option Operation) → named (decimal n) ≡ found → found ≡ None
not_named n small None e = refl
not_named n small (Some o) e =
    absurd (fields.no_number o n small (sym ((name_found (named (decimal n)) (decimal n) refl o).0 e)))

other_takes : (b : Bool) (found : Option ℕ) (value : Option ℕ) (text : List ℕ) → number_in text ≡ found → option_and_then (other_number b) found ≡ Some value
    → (text ≡ operation_word b value) × IsSmall value
other_takes b None value text e h = absurd cc
other_takes b (Some n) value text e h = by (operation_named b n) refl h
  where
    number : IsNumberIn text n
    number = number_takes text n e

    by : (by_number : Option Operation) → operation_named b n ≡ by_number
        → (if is_some by_number then None else Some (Some n)) ≡ Some value
        → (text ≡ operation_word b value) × IsSmall value
    by None g k =
        let is : Some n ≡ value = some_is (Some n) value k in
        let shown : text ≡ operation_word b (Some n) = rw g number.spelled in
        subst (λ (v : Option ℕ). (text ≡ operation_word b v) × IsSmall v) is (shown, number.small)
    by (Some o) g k = absurd cc

number_small : (o : Operation) → operation_number o < 2 ^ 64
number_small o = elim o as (λ o. operation_number o < 2 ^ 64) [ Cast ↦ omega arith | Route ↦ omega arith | Register ↦ omega arith | Delete ↦ omega arith | ReadTable ↦ omega arith | WriteTable ↦ omega arith | Learn ↦ omega arith | Network ↦ omega arith | Read ↦ omega arith | Write ↦ omega arith | Listing ↦ omega arith | Enter ↦ omega arith | Claim ↦ omega arith ]

name_takes_number : (b : Bool) (o : Operation) (value : Option ℕ) (text : List ℕ) → text ≡ operation_name o → (found : Option Operation) → operation_named b (operation_number o) ≡ found
    → (if is_some found then Some (Some (operation_number o)) else None) ≡ Some value → (text ≡ operation_word b value) × IsSmall value
name_takes_number b o value text name None g e = absurd cc
name_takes_number b o value text name (Some p) g e =
    let is : Some (operation_number o) ≡ value = some_is (Some (operation_number o)) value e in
    let same : o ≡ p = one_number o p (named_found b (operation_number o) p g) in
    let shown : text ≡ operation_word b (Some (operation_number o)) = rw g (name ∙ ap operation_name same) in
    subst (λ (v : Option ℕ). (text ≡ operation_word b v) × IsSmall v) is (shown, number_small o)

pub operation_takes : (b : Bool) (text : List ℕ) (value : Option ℕ) → operation_in b text ≡ Some value → (text ≡ operation_word b value) × IsSmall value
operation_takes b text value e = by (pointwise nat_eq text absent) (named text) refl refl e
  where
    by : (is_absent : Bool) (found : Option Operation) → pointwise nat_eq text absent ≡ is_absent → named text ≡ found
        → (if is_absent then Some None else operation_or b found text) ≡ Some value
        → (text ≡ operation_word b value) × IsSmall value
    by true found f g e =
        let is : None ≡ value = some_is None value e in
        subst (λ (v : Option ℕ). (text ≡ operation_word b v) × IsSmall v) is (same_text text absent (sym f), tt)
    by false None f g e = other_takes b (number_in text) value text refl e
    by false (Some o) f g e =
        name_takes_number b o value text ((name_found (named text) text refl o).0 g) (operation_named b (operation_number o)) refl e

operation_again_by : (b : Bool) (n : ℕ) → n < 2 ^ 64 → (found : Option Operation) → operation_named b n ≡ found
    → operation_in b (fields.of_number found n) ≡ Some (Some n)
operation_again_by b n small None e =
    let other : pointwise nat_eq (decimal n) absent ≡ false = not_same (decimal n) absent (no_dash n small) in
    let unnamed : named (decimal n) ≡ None = not_named n small (named (decimal n)) refl in
    rw (other, unnamed, number_again (decimal n) n small refl, e) refl
operation_again_by b n small (Some o) e =
    let other : pointwise nat_eq (operation_name o) absent ≡ false = not_same (operation_name o) absent (no_absent o) in
    let number : n ≡ operation_number o = named_found b n o e in
    let there : operation_named b (operation_number o) ≡ Some o = ap (operation_named b) (sym number) ∙ e in
    rw (other, name_again o, number, there) refl

pub operation_again : (b : Bool) (value : Option ℕ) → IsSmall value → operation_in b (operation_word b value) ≡ Some value
operation_again b None small = refl
operation_again b (Some n) small = operation_again_by b n small (operation_named b n) refl

-- ---- a word

-- another character
pub other_character : (x c : ℕ) → x ≢ c → (x == c) ≡ false
other_character x c other = by (x == c) refl
  where
    by : (b : Bool) → (x == c) ≡ b → (x == c) ≡ false
    by true e = absurd (other (eqb-true x c e))
    by false e = e

-- the first such character is where the text before it lacks it
pub first_place : (c : ℕ) (word rest : List ℕ) → Lacks c word → position_or_len (λ x. x == c) (word ++ c ∷ rest) ≡ length word
first_place c [] rest lacks = rw (eq-eqb c c refl) refl
first_place c (x ∷ word) rest lacks =
    let other = other_character x c (lacks 0 (omega arith)) in
    let later = first_place c word rest (λ i lt. lacks (suc i) (omega arith)) in
    rw (other, later) (omega arith)

pub place_first : (c : ℕ) (word rest : List ℕ) → Lacks c word → position (λ x. x == c) (word ++ c ∷ rest) ≡ Some (length word)
place_first c word rest lacks =
    let within : nat_lt (length word) (length (word ++ c ∷ rest)) ≡ true = lt-ltb _ _ (omega (arith, length-append word (c ∷ rest))) in
    rw (first_place c word rest lacks, within) refl

drop_past : (c : ℕ) (xs ys : List ℕ) → drop (length xs + 1) (xs ++ c ∷ ys) ≡ ys
drop_past c xs ys =
    ap (drop (length xs + 1)) (sym (append_assoc xs (c ∷ []) ys))
    ∙ drop_at (xs ++ c ∷ []) ys (length xs + 1) (length-append xs (c ∷ []))

abbrev pub pair : {A B : Type 0} → A → B → A × B
pair x y = (x, y)

pub first_is : {A B : Type 0} (x u : A) (y v : B) → pair x y ≡ pair u v → x ≡ u
first_is x u y v e = ap (λ p. p.0) e

pub second_is : {A B : Type 0} (x u : A) (y v : B) → pair x y ≡ pair u v → y ≡ v
second_is x u y v e = ap (λ p. p.1) e

pub parted_takes : (c : ℕ) (text word rest : List ℕ) → parted_at c text ≡ Some (word, rest) → text ≡ word ++ c ∷ rest
parted_takes c text word rest e = by (position (λ x. x == c) text) refl e
  where
    by : (place : Option ℕ) → position (λ x. x == c) text ≡ place
        → option_map {U = List ℕ × List ℕ} (λ place. (take place text, drop (place + 1) text)) place ≡ Some (word, rest) → text ≡ word ++ c ∷ rest
    by None f h = absurd cc
    by (Some i) f h =
        let is = some_is (take i text, drop (i + 1) text) (word, rest) h in
        let found = position-Some (λ x. x == c) text i 0 f in
        let there : get_or text i 0 ≡ c = eqb-true (get_or text i 0) c found.1 in
        let parts : text ≡ take i text ++ get_or text i 0 ∷ drop (i + 1) text =
        sym (take-append-drop i text) ∙ ap (λ (t : List ℕ). take i text ++ t) (drop_more text i 0 found.0) in
        let front : take i text ≡ word = ap (λ (p : List ℕ × List ℕ). p.0) is in
        let behind : drop (i + 1) text ≡ rest = ap (λ (p : List ℕ × List ℕ). p.1) is in
        parts ∙ ap (λ (x : ℕ). take i text ++ x ∷ drop (i + 1) text) there
        ∙ ap₂ (λ (x y : List ℕ). x ++ c ∷ y) front behind

pub parted_again : (c : ℕ) (word rest : List ℕ) → Lacks c word → parted_at c (word ++ c ∷ rest) ≡ Some (word, rest)
parted_again c word rest lacks =
    rw (place_first c word rest lacks, take_at word (c ∷ rest) (length word) refl, drop_past c word rest) refl
