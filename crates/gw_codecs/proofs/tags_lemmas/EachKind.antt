-- Reading the content of each of the thirteen kinds.
use Rattle.std.proofs.Common.{◌≡◌, ◌≢◌, ℕ, suc, ◌-◌, ◌<◌, Bool, true, false, cond, eqb, ltb, ◌||◌, List, [], ◌∷◌, ◌++◌, length, take, drop, Result, Ok, Err, refl, sym, ap, subst, ◌∙◌, arith, inl, inr}
use Rattle.std.proofs.lemmas.Bool.{ltb-true, lt-ltb, eqb-true, eqb-false, ne_eqb}
use Rattle.std.proofs.lemmas.List.{append-nil, length-append}
use Rattle.gw_addr.specs.Address.{big_endian}
use Rattle.gw_addr.specs.Reading.{◌>>=◌, AreOctets, front_at}
use Rattle.gw_addr.proofs.Reading.{AreOctets-rest, bind_ok, bind_err, guard_err, chosen, ok_is, front_takes, front_again}
use Rattle.gw_codecs.specs.declared.tags.fault.ValueFault.{ValueFault}
use Rattle.gw_codecs.specs.declared.tags.fault.ValueFault.TheVariants.{Short as ShortValue, BadLength}
use Rattle.gw_codecs.specs.declared.tags.datatype.Datatype.{Datatype}
use Rattle.gw_codecs.specs.declared.tags.datatype.Datatype.TheVariants as kinds
use Rattle.gw_codecs.specs.tags.Object.{Object, object_of}
use Rattle.gw_codecs.specs.tags.Number.{twos_complement}
use Rattle.gw_codecs.specs.tags.Strings.{is_unused}
use Rattle.gw_codecs.specs.tags.Value.{Value, null, boolean, unsigned, signed, real, double, octet_string, character_string, bit_string, enumerated, date, time, object_id, bit_of, layout, IsContent}
use Rattle.gw_codecs.specs.tags.Reading.{null_at, boolean_at, content_at, one_to_four, text_of, bits_at, body_at}
use Rattle.gw_codecs.proofs.tags_lemmas.Objects.{object_read}
use Rattle.gw_codecs.proofs.tags_lemmas.Bodies.{Read, body, kind_number, HasBits, TakesBody, EndsBody, Fails, zeros, zeros_length, some_zeros, counted_takes, counted_fails, counted_again, one_to_four_holds, is_unsigned, is_enumerated, is_signed, is_real, is_double, is_date, is_time, is_octets, is_object, is_text_kind}

-- ---- what is read

null_takes : (low count : ℕ) (octets : List ℕ) (value : Value) (rest : List ℕ) → null_at (body low count octets) ≡ Ok (value, rest) → TakesBody 0 low count octets value rest
null_takes low count octets value rest e = elim (chosen (eqb count 0) (Ok (null, octets)) (Err BadLength) (Ok (value, rest)) e) [
  | inl none ↦
      let zero_count : count ≡ 0 = eqb-true _ _ none.0 in
      let made : Value × List ℕ = (null, octets) in
      subst (λ (x : Value × List ℕ). TakesBody 0 low count octets x.0 x.1) (ok_is made (value, rest) none.1) (record { number_is = refl; content = []; parts = refl; is = refl; bits = zero_count })
  | inr some ↦ absurd (let h = some.1 in cc)
]

null_fails : (low count : ℕ) (octets : List ℕ) (fault : ValueFault) → null_at (body low count octets) ≡ Err fault → Fails 0 low count octets fault (λ o. null_at (body low count o))
null_fails low count octets fault e = elim (chosen (eqb count 0) (Ok (null, octets)) (Err BadLength) (Err fault) e) [
  | inl none ↦ absurd (let h = none.1 in cc)
  | inr some ↦ inr (let h = some.1 in cc, λ more. rw some.0 refl)
]

flag : (low count : ℕ) (octets : List ℕ) (value : Value) (rest : List ℕ) (said : Bool) → low ≡ bit_of said → (let r : Read = Ok (boolean said, octets) in r) ≡ Ok (value, rest) → TakesBody 1 low count octets value rest
flag low count octets value rest said is e =
    let made : Value × List ℕ = (boolean said, octets) in
    subst (λ (x : Value × List ℕ). TakesBody 1 low count octets x.0 x.1) (ok_is made (value, rest) e) (record { number_is = refl; content = []; parts = refl; is = refl; bits = is })

boolean_takes : (low count : ℕ) (octets : List ℕ) (value : Value) (rest : List ℕ) → boolean_at (body low count octets) ≡ Ok (value, rest) → TakesBody 1 low count octets value rest
boolean_takes low count octets value rest e =
    elim (chosen (eqb low 0) (Ok (boolean false, octets)) (cond (eqb low 1) (Ok (boolean true, octets)) (Err BadLength)) (Ok (value, rest)) e) [
      | inl off ↦ flag low count octets value rest false (eqb-true _ _ off.0) off.1
      | inr more ↦ elim (chosen (eqb low 1) (Ok (boolean true, octets)) (Err BadLength) (Ok (value, rest)) more.1) [
        | inl on ↦ flag low count octets value rest true (eqb-true _ _ on.0) on.1
        | inr other ↦ absurd (let h = other.1 in cc)
      ]
    ]

boolean_fails : (low count : ℕ) (octets : List ℕ) (fault : ValueFault) → boolean_at (body low count octets) ≡ Err fault → Fails 1 low count octets fault (λ o. boolean_at (body low count o))
boolean_fails low count octets fault e =
    elim (chosen (eqb low 0) (Ok (boolean false, octets)) (cond (eqb low 1) (Ok (boolean true, octets)) (Err BadLength)) (Err fault) e) [
      | inl off ↦ absurd (let h = off.1 in cc)
      | inr more ↦ elim (chosen (eqb low 1) (Ok (boolean true, octets)) (Err BadLength) (Err fault) more.1) [
        | inl on ↦ absurd (let h = on.1 in cc)
        | inr other ↦ inr (let h = other.1 in cc, λ behind. rw (more.0, other.0) refl)
      ]
    ]

-- what follows the count of unused bits
abbrev own_bits : ℕ → ℕ → List ℕ → Read
own_bits unused count octets = front_at ShortValue count octets >>= λ x. Ok (bit_string unused x.0, x.1)

abbrev judged_bits : ℕ → ℕ → List ℕ → Read
judged_bits unused count octets = cond (is_unused unused count) (own_bits unused count octets) (Err BadLength)

bits_made : (low count unused : ℕ) (others own rest : List ℕ) → 0 < count → length own ≡ count - 1 → others ≡ own ++ rest → is_unused unused (count - 1) ≡ true → TakesBody 8 low count (unused ∷ others) (bit_string unused own) rest
bits_made low count unused others own rest some len parts known = record {
  number_is = refl;
  content = unused ∷ own;
  parts = ap (λ (o : List ℕ). unused ∷ o) parts;
  is = (refl, ap (is_unused unused) len ∙ known);
  bits = omega (arith, len);
}

own_bits_takes : (low count unused : ℕ) (others : List ℕ) (value : Value) (rest : List ℕ) → 0 < count → AreOctets others → is_unused unused (count - 1) ≡ true → own_bits unused (count - 1) others ≡ Ok (value, rest) → TakesBody 8 low count (unused ∷ others) value rest
own_bits_takes low count unused others value rest some fits known e =
    let a = bind_ok (front_at ShortValue (count - 1) others) (λ x. Ok (bit_string unused x.0, x.1)) (value, rest) e in
    let f = front_takes ShortValue (count - 1) others a.0.0 a.0.1 fits a.1 in
    let made : Value × List ℕ = (bit_string unused a.0.0, a.0.1) in
    subst (λ (x : Value × List ℕ). TakesBody 8 low count (unused ∷ others) x.0 x.1) (ok_is made (value, rest) a.2) (bits_made low count unused others a.0.0 a.0.1 some f.1 f.0.parts known)

not_zero : (n : ℕ) → n ≢ 0 → 0 < n
not_zero n other = omega arith

bits_takes : (low count : ℕ) (octets : List ℕ) (value : Value) (rest : List ℕ) → AreOctets octets → bits_at (body low count octets) ≡ Ok (value, rest) → TakesBody 8 low count octets value rest
bits_takes low count [] value rest fits e = elim (chosen (eqb count 0) (Err BadLength) (Err ShortValue) (Ok (value, rest)) e) [
  | inl none ↦ absurd (let h = none.1 in cc)
  | inr short ↦ absurd (let h = short.1 in cc)
]
bits_takes low count (unused ∷ others) value rest fits e = elim (chosen (eqb count 0) (Err BadLength) (judged_bits unused (count - 1) others) (Ok (value, rest)) e) [
  | inl none ↦ absurd (let h = none.1 in cc)
  | inr some ↦ elim (chosen (is_unused unused (count - 1)) (own_bits unused (count - 1) others) (Err BadLength) (Ok (value, rest)) some.1) [
    | inl known ↦ own_bits_takes low count unused others value rest (not_zero count (eqb-false _ _ some.0)) (AreOctets-rest unused others fits) known.0 known.1
    | inr other ↦ absurd (let h = other.1 in cc)
  ]
]

or_true : (b : Bool) → (b || true) ≡ true
or_true true = refl
or_true false = refl

unused_none : (n : ℕ) → is_unused 0 n ≡ true
unused_none n = or_true (ltb 0 n)

-- the octet that counts is missing, and those after it
bits_missing : (low count : ℕ) → 0 < count → EndsBody 8 low count []
bits_missing low count some = record {
  missing = 0 ∷ zeros (count - 1);
  some_missing = λ e. cc;
  value = bit_string 0 (zeros (count - 1));
  takes = bits_made low count 0 (zeros (count - 1)) (zeros (count - 1)) [] some (zeros_length (count - 1)) (sym (append-nil (zeros (count - 1)))) (unused_none (count - 1));
}

own_bits_missing : (low count unused : ℕ) (others : List ℕ) → 0 < count → is_unused unused (count - 1) ≡ true → length others < count - 1 → EndsBody 8 low count (unused ∷ others)
own_bits_missing low count unused others some known lt =
    let more = zeros (count - 1 - length others) in
    record {
      missing = more;
      some_missing = some_zeros (count - 1 - length others) (omega arith);
      value = bit_string unused (others ++ more);
      takes = bits_made low count unused (others ++ more) (others ++ more) [] some (omega (arith, length-append others more, zeros_length (count - 1 - length others))) (sym (append-nil (others ++ more))) known;
    }

bits_fails : (low count : ℕ) (octets : List ℕ) (fault : ValueFault) → bits_at (body low count octets) ≡ Err fault → Fails 8 low count octets fault (λ o. bits_at (body low count o))
bits_fails low count [] fault e = elim (chosen (eqb count 0) (Err BadLength) (Err ShortValue) (Err fault) e) [
  | inl none ↦ inr (let h = none.1 in cc, λ more. rw none.0 refl)
  | inr short ↦ inl (let h = short.1 in cc, bits_missing low count (not_zero count (eqb-false _ _ short.0)))
]
bits_fails low count (unused ∷ others) fault e = elim (chosen (eqb count 0) (Err BadLength) (judged_bits unused (count - 1) others) (Err fault) e) [
  | inl none ↦ inr (let h = none.1 in cc, λ more. rw none.0 refl)
  | inr some ↦ elim (chosen (is_unused unused (count - 1)) (own_bits unused (count - 1) others) (Err BadLength) (Err fault) some.1) [
    | inl known ↦ elim (bind_err (front_at ShortValue (count - 1) others) (λ x. Ok (bit_string unused x.0, x.1)) fault known.1) [
      | inl here ↦
          let g = guard_err (ltb (length others) (count - 1)) ShortValue fault (take (count - 1) others, drop (count - 1) others) here in
          inl (sym g.1, own_bits_missing low count unused others (not_zero count (eqb-false _ _ some.0)) known.0 (ltb-true _ _ g.0))
      | inr after ↦ absurd (let h = after.2 in cc)
    ]
    | inr other ↦ inr (let h = other.1 in cc, λ more. rw (some.0, other.0) refl)
  ]
]

-- what is read of a kind is its content
pub body_takes : (kind : Datatype) (low count : ℕ) (octets : List ℕ) (value : Value) (rest : List ℕ) → AreOctets octets → body_at kind (body low count octets) ≡ Ok (value, rest) → TakesBody (kind_number kind) low count octets value rest
body_takes kinds.Null low count octets value rest fits e = null_takes low count octets value rest e
body_takes kinds.Boolean low count octets value rest fits e = boolean_takes low count octets value rest e
body_takes kinds.Unsigned low count octets value rest fits e = counted_takes _ _ _ _ _ _ _ _ is_unsigned fits e
body_takes kinds.Signed low count octets value rest fits e = counted_takes _ _ _ _ _ _ _ _ is_signed fits e
body_takes kinds.Real low count octets value rest fits e = counted_takes _ _ _ _ _ _ _ _ is_real fits e
body_takes kinds.Double low count octets value rest fits e = counted_takes _ _ _ _ _ _ _ _ is_double fits e
body_takes kinds.Octets low count octets value rest fits e = counted_takes _ _ _ _ _ _ _ _ is_octets fits e
body_takes kinds.Text low count octets value rest fits e = counted_takes _ _ _ _ _ _ _ _ is_text_kind fits e
body_takes kinds.Bits low count octets value rest fits e = bits_takes low count octets value rest fits e
body_takes kinds.Enumerated low count octets value rest fits e = counted_takes _ _ _ _ _ _ _ _ is_enumerated fits e
body_takes kinds.Date low count octets value rest fits e = counted_takes _ _ _ _ _ _ _ _ is_date fits e
body_takes kinds.Time low count octets value rest fits e = counted_takes _ _ _ _ _ _ _ _ is_time fits e
body_takes kinds.Object low count octets value rest fits e = counted_takes _ _ _ _ _ _ _ _ is_object fits e

-- a fault is want of octets, or a length that the kind has not
pub body_fails : (kind : Datatype) (low count : ℕ) (octets : List ℕ) (fault : ValueFault) → AreOctets octets → body_at kind (body low count octets) ≡ Err fault → Fails (kind_number kind) low count octets fault (λ o. body_at kind (body low count o))
body_fails kinds.Null low count octets fault fits e = null_fails low count octets fault e
body_fails kinds.Boolean low count octets fault fits e = boolean_fails low count octets fault e
body_fails kinds.Unsigned low count octets fault fits e = counted_fails _ _ _ _ _ _ _ is_unsigned fits e
body_fails kinds.Signed low count octets fault fits e = counted_fails _ _ _ _ _ _ _ is_signed fits e
body_fails kinds.Real low count octets fault fits e = counted_fails _ _ _ _ _ _ _ is_real fits e
body_fails kinds.Double low count octets fault fits e = counted_fails _ _ _ _ _ _ _ is_double fits e
body_fails kinds.Octets low count octets fault fits e = counted_fails _ _ _ _ _ _ _ is_octets fits e
body_fails kinds.Text low count octets fault fits e = counted_fails _ _ _ _ _ _ _ is_text_kind fits e
body_fails kinds.Bits low count octets fault fits e = bits_fails low count octets fault e
body_fails kinds.Enumerated low count octets fault fits e = counted_fails _ _ _ _ _ _ _ is_enumerated fits e
body_fails kinds.Date low count octets fault fits e = counted_fails _ _ _ _ _ _ _ is_date fits e
body_fails kinds.Time low count octets fault fits e = counted_fails _ _ _ _ _ _ _ is_time fits e
body_fails kinds.Object low count octets fault fits e = counted_fails _ _ _ _ _ _ _ is_object fits e

-- ---- what is encoded so is read

abbrev pub kind_of : Value → Datatype
kind_of null = kinds.Null
kind_of (boolean b) = kinds.Boolean
kind_of (unsigned n) = kinds.Unsigned
kind_of (signed z) = kinds.Signed
kind_of (real own) = kinds.Real
kind_of (double own) = kinds.Double
kind_of (octet_string own) = kinds.Octets
kind_of (character_string charset own) = kinds.Text
kind_of (bit_string unused own) = kinds.Bits
kind_of (enumerated n) = kinds.Enumerated
kind_of (date own) = kinds.Date
kind_of (time own) = kinds.Time
kind_of (object_id id) = kinds.Object

pub kind_number-of : (value : Value) → kind_number (kind_of value) ≡ (layout value).number
kind_number-of null = refl
kind_number-of (boolean b) = refl
kind_number-of (unsigned n) = refl
kind_number-of (signed z) = refl
kind_number-of (real own) = refl
kind_number-of (double own) = refl
kind_number-of (octet_string own) = refl
kind_number-of (character_string charset own) = refl
kind_number-of (bit_string unused own) = refl
kind_number-of (enumerated n) = refl
kind_number-of (date own) = refl
kind_number-of (time own) = refl
kind_number-of (object_id id) = refl

exactly_again : (make : List ℕ → Value) (count low : ℕ) (content own rest : List ℕ) → (content ≡ own) × (length own ≡ count) → content_at (λ n. eqb n count) make (body low (length content) (content ++ rest)) ≡ Ok (make own, rest)
exactly_again make count low content own rest s =
    let known : eqb (length content) count ≡ true = rw (s.0, s.1) (same count) in
    counted_again (λ n. eqb n count) make low content rest known ∙ ap (λ (o : List ℕ). Ok (make o, rest)) s.0 where
      same : (n : ℕ) → eqb n n ≡ true
      same n = grind arith

bits_again : (low unused : ℕ) (own rest : List ℕ) → is_unused unused (length own) ≡ true → judged_bits unused (length own) (own ++ rest) ≡ Ok (bit_string unused own, rest)
bits_again low unused own rest known = rw known (ap (λ (r : Result (List ℕ × List ℕ) ValueFault). r >>= λ x. Ok (bit_string unused x.0, x.1)) (front_again ShortValue own rest))

pub body_again : (value : Value) (low count : ℕ) (content rest : List ℕ) → IsContent (layout value).content content → HasBits (layout value).bits low count (length content) → body_at (kind_of value) (body low count (content ++ rest)) ≡ Ok (value, rest)
body_again null low count content rest s b = rw (b, s) refl
body_again (boolean false) low count content rest s b = rw (s, b) refl
body_again (boolean true) low count content rest s b = rw (s, b) refl
body_again (unsigned n) low count content rest s b = rw b (counted_again one_to_four (λ o. unsigned (big_endian o)) low content rest (one_to_four_holds (length content) s.least s.most) ∙ ap (λ (m : ℕ). Ok (unsigned m, rest)) (sym s.number))
body_again (signed z) low count content rest s b = rw b (counted_again one_to_four (λ o. signed (twos_complement o)) low content rest (one_to_four_holds (length content) s.least s.most) ∙ ap (λ m. Ok (signed m, rest)) (sym s.number))
body_again (real own) low count content rest s b = rw b (exactly_again real 4 low content own rest s)
body_again (double own) low count content rest s b = rw b (exactly_again double 8 low content own rest s)
body_again (octet_string own) low count content rest s b = rw b (counted_again (λ n. true) octet_string low content rest refl ∙ ap (λ (o : List ℕ). Ok (octet_string o, rest)) s)
body_again (character_string charset own) low count content rest s b = rw (b, s) (counted_again (ltb 0) text_of low (charset ∷ own) rest (lt-ltb _ _ (omega arith)))
body_again (bit_string unused own) low count content rest s b =
    let one_less : suc (length own) - 1 ≡ length own = omega arith in
    let some : eqb (suc (length own)) 0 ≡ false = ne_eqb _ _ (λ e. omega arith) in
    rw (b, s.0, some, one_less) (bits_again low unused own rest s.1)
body_again (enumerated n) low count content rest s b = rw b (counted_again one_to_four (λ o. enumerated (big_endian o)) low content rest (one_to_four_holds (length content) s.least s.most) ∙ ap (λ (m : ℕ). Ok (enumerated m, rest)) (sym s.number))
body_again (date own) low count content rest s b = rw b (exactly_again date 4 low content own rest s)
body_again (time own) low count content rest s b = rw b (exactly_again time 4 low content own rest s)
body_again (object_id id) low count content rest s b =
    let four : eqb (length content) 4 ≡ true = rw s.0 refl in
    rw b (counted_again (λ n. eqb n 4) (λ o. object_id (object_of o)) low content rest four ∙ ap (λ (o : List ℕ). Ok (object_id (object_of o), rest)) s.0 ∙ ap (λ (o : Object). Ok (object_id o, rest)) (object_read id s.1))
