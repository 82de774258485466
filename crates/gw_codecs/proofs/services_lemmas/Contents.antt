-- Which content octets are: read as it exactly there, and a fault exactly elsewhere.
use Rattle.std.proofs.Common.{◌≡◌, ℕ, Bool, true, false, ◌&&◌, not, eqb, leb, List, [], ◌∷◌, length, Result, Ok, Err, refl, sym, ap, ◌∙◌, inl, inr, ◌⊎◌}
use Rattle.std.specs.Str.{is_utf8}
use Rattle.std.proofs.lemmas.Bool.{eq-eqb, ne_eqb, eqb-true, leb-true, le-leb, cases_eq}
use Rattle.gw_addr.specs.Reading.{◌>>=◌, AreOctets}
use Rattle.gw_addr.specs.Address.{big_endian}
use Rattle.gw_addr.proofs.Reading.{both_true}
use Rattle.gw_codecs.specs.tags.Number.{EncodesUnsigned}
use Rattle.gw_codecs.specs.tags.Object.{object_of}
use Rattle.gw_codecs.specs.tags.Strings.{IsText}
use Rattle.gw_codecs.proofs.tags_lemmas.Objects.{object_read, object_encoded}
use Rattle.gw_codecs.specs.declared.services.fault.BodyFault.{BodyFault}
use Rattle.gw_codecs.specs.declared.services.fault.BodyFault.TheVariants.{InvalidTag, OutOfRange}
use Rattle.gw_codecs.specs.services.Parameter.{Content, object, number, text, Shape, an_object, a_number, a_text, IsContentOf, of_object, of_number, of_text, in_range, shape_allows}
use Rattle.gw_codecs.specs.services.Reading.{object_in, number_in, text_in}

-- what a content of the shape holds
abbrev pub interpret : Shape → List ℕ → Result Content BodyFault
interpret an_object own = object_in own >>= λ o. Ok (object o)
interpret (a_number least most) own = number_in least most own >>= λ n. Ok (number n)
interpret a_text own = text_in own >>= λ t. Ok (text t.0 t.1)

-- what octets are
pub data Interpreted (shape : Shape) (own : List ℕ) : Type 0 where
  content_none : ((held : Content) → IsContentOf shape own held → ⊥) → interpret shape own ≡ Err InvalidTag → Interpreted shape own
  content_past : (held : Content) → IsContentOf shape own held → shape_allows shape held ≡ false → interpret shape own ≡ Err OutOfRange → Interpreted shape own
  content_is : (held : Content) → IsContentOf shape own held → shape_allows shape held ≡ true → interpret shape own ≡ Ok held → Interpreted shape own

pub either_bool : (b : Bool) → (b ≡ true) ⊎ (b ≡ false)
either_bool true = inl refl
either_bool false = inr refl

no_object : (own : List ℕ) → (length own ≡ 4 → ⊥) → (held : Content) → IsContentOf an_object own held → ⊥
no_object own other held (of_object id is parts) = other (ap length parts)

read_object : (own : List ℕ) → AreOctets own → Interpreted an_object own
read_object own fits = elim (cases_eq (length own) 4) [
  | inl four ↦
      let is = object_encoded own four fits in
      content_is (object (object_of own)) (of_object (object_of own) is.0 (sym is.1)) refl (rw (eq-eqb (length own) 4 four) refl)
  | inr other ↦ content_none (no_object own other) (rw (ne_eqb (length own) 4 other) refl)
]

one_to_four : (own : List ℕ) (n : ℕ) → EncodesUnsigned own n → (leb 1 (length own) && leb (length own) 4) ≡ true
one_to_four own n is = rw (le-leb 1 (length own) is.least, le-leb (length own) 4 is.most) refl

no_number : (least most : ℕ) (own : List ℕ) → (leb 1 (length own) && leb (length own) 4) ≡ false → (held : Content) → IsContentOf (a_number least most) own held → ⊥
no_number least most own other held (of_number n is) = let fits = one_to_four own n is in cc

read_number : (least most : ℕ) (own : List ℕ) → AreOctets own → Interpreted (a_number least most) own
read_number least most own fits = elim (either_bool (leb 1 (length own) && leb (length own) 4)) [
  | inl few ↦
      let n = big_endian own in
      let both = both_true (leb 1 (length own)) (leb (length own) 4) few in
      let is : EncodesUnsigned own n = record { least = leb-true _ _ both.0; most = leb-true _ _ both.1; octets_fit = fits; number = refl } in
      elim (either_bool (in_range least most n)) [
        | inl inside ↦ content_is (number n) (of_number n is) inside (rw (few, inside) refl)
        | inr past ↦ content_past (number n) (of_number n is) past (rw (few, past) refl)
      ]
  | inr other ↦ content_none (no_number least most own other) (rw other refl)
]

no_text : (charset : ℕ) (own : List ℕ) → (eqb charset 0 && not (is_utf8 own)) ≡ true → (held : Content) → IsContentOf a_text (charset ∷ own) held → ⊥
no_text charset own bad held (of_text set octets is parts) =
    let both = both_true (eqb charset 0) (not (is_utf8 own)) bad in
    let zero_set : charset ≡ 0 = eqb-true _ _ both.0 in
    let same_set : charset ≡ set = cc in
    let same_octets : own ≡ octets = cc in
    let utf8 : is_utf8 own ≡ true = ap is_utf8 same_octets ∙ is (sym same_set ∙ zero_set) in
    let other = both.1 in cc

is_text : (charset : ℕ) (own : List ℕ) → (eqb charset 0 && not (is_utf8 own)) ≡ false → IsText charset own
is_text charset own good zero_set = elim (either_bool (is_utf8 own)) [
  | inl yes_utf8 ↦ yes_utf8
  | inr other ↦ absurd (let never : (eqb charset 0 && not (is_utf8 own)) ≡ true = rw (eq-eqb charset 0 zero_set, other) refl in cc)
]

no_empty_text : (held : Content) → IsContentOf a_text [] held → ⊥
no_empty_text held (of_text set octets is parts) = cc

read_text : (own : List ℕ) → Interpreted a_text own
read_text [] = content_none no_empty_text refl
read_text (charset ∷ own) = elim (either_bool (eqb charset 0 && not (is_utf8 own))) [
  | inl bad ↦ content_none (no_text charset own bad) (rw bad refl)
  | inr good ↦ content_is (text charset own) (of_text charset own (is_text charset own good) refl) refl (rw good refl)
]

pub interpreted : (shape : Shape) (own : List ℕ) → AreOctets own → Interpreted shape own
interpreted an_object own fits = read_object own fits
interpreted (a_number least most) own fits = read_number least most own fits
interpreted a_text own fits = read_text own

-- octets are one content at most
pub one_content : (shape : Shape) (own : List ℕ) (a b : Content) → IsContentOf shape own a → IsContentOf shape own b → a ≡ b
one_content an_object own a b (of_object x is parts) (of_object y is' parts') =
    ap object (sym (object_read x is) ∙ ap object_of (sym parts ∙ parts') ∙ object_read y is')
one_content (a_number least most) own a b (of_number x is) (of_number y is') = ap number (is.number ∙ sym is'.number)
one_content a_text own a b (of_text x os is parts) (of_text y ps is' parts') =
    let both : x ∷ os ≡ y ∷ ps = sym parts ∙ parts' in cc
