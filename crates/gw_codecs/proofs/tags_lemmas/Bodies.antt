-- What reading the content of each kind gives: a content of the kind, or a fault that more octets do not cure but one.
use Rattle.std.proofs.Common.{◌≡◌, ◌≢◌, ℕ, zero, suc, ◌-◌, ◌<◌, ◌≤◌, Bool, true, eqb, ltb, List, [], ◌∷◌, ◌++◌, length, take, drop, Result, Ok, Err, refl, sym, ap, subst, ◌∙◌, arith, inl, inr, ◌⊎◌}
use Rattle.std.proofs.lemmas.Bool.{ltb-true, eqb-true, le-leb, leb-true}
use Rattle.std.proofs.lemmas.List.{append-nil, length-append}
use Rattle.gw_addr.specs.Address.{big_endian}
use Rattle.gw_addr.specs.Reading.{◌>>=◌, AreOctets, front_at}
use Rattle.gw_addr.proofs.Reading.{AreOctets-append, both_true, bind_ok, bind_err, guard_err, chosen, ok_is, front_takes, front_again}
use Rattle.gw_codecs.specs.declared.tags.fault.ValueFault.{ValueFault}
use Rattle.gw_codecs.specs.declared.tags.fault.ValueFault.TheVariants.{Short as ShortValue, BadLength}
use Rattle.gw_codecs.specs.declared.tags.datatype.Datatype.{Datatype}
use Rattle.gw_codecs.specs.declared.tags.datatype.Datatype.TheVariants as kinds
use Rattle.gw_codecs.specs.tags.Object.{object_of}
use Rattle.gw_codecs.specs.tags.Number.{twos_complement}
use Rattle.gw_codecs.specs.tags.Value.{Value, unsigned, signed, real, double, octet_string, enumerated, date, time, object_id, LengthBits, length_of_content, value_itself, layout, IsContent}
use Rattle.gw_codecs.specs.tags.Reading.{Body, octets_at, content_at, one_to_four, text_of}
use Rattle.gw_codecs.proofs.tags_lemmas.Octets.{none, one_more}
use Rattle.gw_codecs.proofs.tags_lemmas.Objects.{object_encoded}

abbrev pub Read : Type 0
Read = Result (Value × List ℕ) ValueFault

abbrev pub body : ℕ → ℕ → List ℕ → Body
body low count octets = record { low_bits = low; count = count; octets = octets }

-- the tag number of a kind
abbrev pub kind_number : Datatype → ℕ
kind_number kinds.Null = 0
kind_number kinds.Boolean = 1
kind_number kinds.Unsigned = 2
kind_number kinds.Signed = 3
kind_number kinds.Real = 4
kind_number kinds.Double = 5
kind_number kinds.Octets = 6
kind_number kinds.Text = 7
kind_number kinds.Bits = 8
kind_number kinds.Enumerated = 9
kind_number kinds.Date = 10
kind_number kinds.Time = 11
kind_number kinds.Object = 12

-- the low bits and the length of a tag are those of a content so long
abbrev pub HasBits : LengthBits → ℕ → ℕ → ℕ → Type 0
HasBits length_of_content low count len = count ≡ len
HasBits (value_itself n) low count len = low ≡ n

-- the octets are the value's content and then the rest
pub record TakesBody (number low count : ℕ) (octets : List ℕ) (value : Value) (rest : List ℕ) : Type 0 where
  pub number_is : (layout value).number ≡ number
  pub content : List ℕ
  pub parts : octets ≡ content ++ rest
  pub is : IsContent (layout value).content content
  pub bits : HasBits (layout value).bits low count (length content)

-- the octets end before the content of some value
pub record EndsBody (number low count : ℕ) (octets : List ℕ) : Type 0 where
  pub missing : List ℕ
  pub some_missing : missing ≢ []
  pub value : Value
  pub takes : TakesBody number low count (octets ++ missing) value []

-- ---- zeros
abbrev pub zeros : ℕ → List ℕ
zeros zero = []
zeros (suc n) = 0 ∷ zeros n

pub zeros_octets : (n : ℕ) → AreOctets (zeros n)
zeros_octets zero = none
zeros_octets (suc n) = one_more 0 (zeros n) (omega arith) (zeros_octets n)

pub zeros_length : (n : ℕ) → length (zeros n) ≡ n
zeros_length zero = refl
zeros_length (suc n) = omega (arith, zeros_length n)

pub some_zeros : (n : ℕ) → 0 < n → zeros n ≢ []
some_zeros zero lt e = absurd (omega arith)
some_zeros (suc n) lt e = cc

-- ---- a kind whose content has a length and is the value

pub record IsCounted (has : ℕ → Bool) (make : List ℕ → Value) (number : ℕ) : Type 0 where
  pub number_is : (c : List ℕ) → (layout (make c)).number ≡ number
  pub bits_are : (c : List ℕ) → (layout (make c)).bits ≡ length_of_content
  pub content_is : (c : List ℕ) → AreOctets c → has (length c) ≡ true → IsContent (layout (make c)).content c

counted : (has : ℕ → Bool) (make : List ℕ → Value) (number low count : ℕ) (octets content rest : List ℕ) → IsCounted has make number → octets ≡ content ++ rest → length content ≡ count → AreOctets content → has count ≡ true → TakesBody number low count octets (make content) rest
counted has make number low count octets content rest t parts len fits known = record {
  number_is = t.number_is content;
  content = content;
  parts = parts;
  is = t.content_is content fits (ap has len ∙ known);
  bits = subst (λ (b : LengthBits). HasBits b low count (length content)) (sym (t.bits_are content)) (sym len);
}

pub counted_takes : (has : ℕ → Bool) (make : List ℕ → Value) (number low count : ℕ) (octets : List ℕ) (value : Value) (rest : List ℕ) → IsCounted has make number → AreOctets octets → content_at has make (body low count octets) ≡ Ok (value, rest) → TakesBody number low count octets value rest
counted_takes has make number low count octets value rest t fits e =
    let a = bind_ok (octets_at (has count) (body low count octets)) (λ x. Ok (make x.0, x.1)) (value, rest) e in
    elim (chosen (has count) (front_at ShortValue count octets) (Err BadLength) (Ok a.0) a.1) [
      | inl known ↦
          let f = front_takes ShortValue count octets a.0.0 a.0.1 fits known.1 in
          let made : Value × List ℕ = (make a.0.0, a.0.1) in
          subst (λ (x : Value × List ℕ). TakesBody number low count octets x.0 x.1) (ok_is made (value, rest) a.2) (counted has make number low count octets a.0.0 a.0.1 t f.0.parts f.1 f.2 known.0)
      | inr other ↦ absurd (let h = other.1 in cc)
    ]

-- a fault is want of octets, or one that more octets do not cure
abbrev pub Fails : ℕ → ℕ → ℕ → List ℕ → ValueFault → (List ℕ → Read) → Type 0
Fails number low count octets fault read = ((fault ≡ ShortValue) × EndsBody number low count octets) ⊎ ((fault ≡ BadLength) × ((more : List ℕ) → read (octets ++ more) ≡ Err BadLength))

-- octets that are too few are completed by zeros
completed : (has : ℕ → Bool) (make : List ℕ → Value) (number low count : ℕ) (octets : List ℕ) → IsCounted has make number → AreOctets octets → has count ≡ true → length octets < count → EndsBody number low count octets
completed has make number low count octets t fits known lt = record {
  missing = zeros (count - length octets);
  some_missing = some_zeros (count - length octets) (omega arith);
  value = make (octets ++ zeros (count - length octets));
  takes = counted has make number low count (octets ++ zeros (count - length octets)) (octets ++ zeros (count - length octets)) [] t (sym (append-nil (octets ++ zeros (count - length octets)))) (omega (arith, length-append octets (zeros (count - length octets)), zeros_length (count - length octets))) (AreOctets-append octets (zeros (count - length octets)) fits (zeros_octets (count - length octets))) known;
}

pub counted_fails : (has : ℕ → Bool) (make : List ℕ → Value) (number low count : ℕ) (octets : List ℕ) (fault : ValueFault) → IsCounted has make number → AreOctets octets → content_at has make (body low count octets) ≡ Err fault → Fails number low count octets fault (λ o. content_at has make (body low count o))
counted_fails has make number low count octets fault t fits e =
    elim (bind_err (octets_at (has count) (body low count octets)) (λ x. Ok (make x.0, x.1)) fault e) [
      | inl here ↦ elim (chosen (has count) (front_at ShortValue count octets) (Err BadLength) (Err fault) here) [
        | inl known ↦
            let g = guard_err (ltb (length octets) count) ShortValue fault (take count octets, drop count octets) known.1 in
            inl (sym g.1, completed has make number low count octets t fits known.0 (ltb-true _ _ g.0))
        | inr other ↦ inr (let h = other.1 in cc, λ more. rw other.0 refl)
      ]
      | inr after ↦ absurd (let h = after.2 in cc)
    ]

pub counted_again : (has : ℕ → Bool) (make : List ℕ → Value) (low : ℕ) (content rest : List ℕ) → has (length content) ≡ true → content_at has make (body low (length content) (content ++ rest)) ≡ Ok (make content, rest)
counted_again has make low content rest known = rw known (ap (λ (r : Result (List ℕ × List ℕ) ValueFault). r >>= λ x. Ok (make x.0, x.1)) (front_again ShortValue content rest))

-- ---- the kinds that are so

pub one_to_four_holds : (n : ℕ) → 1 ≤ n → n ≤ 4 → one_to_four n ≡ true
one_to_four_holds n least most = rw (le-leb 1 n least, le-leb n 4 most) refl

pub is_unsigned : IsCounted one_to_four (λ o. unsigned (big_endian o)) 2
is_unsigned = record {
  number_is = λ c. refl;
  bits_are = λ c. refl;
  content_is = λ c fits has. let b = both_true _ _ has in record { least = leb-true _ _ b.0; most = leb-true _ _ b.1; octets_fit = fits; number = refl };
}

pub is_enumerated : IsCounted one_to_four (λ o. enumerated (big_endian o)) 9
is_enumerated = record {
  number_is = λ c. refl;
  bits_are = λ c. refl;
  content_is = λ c fits has. let b = both_true _ _ has in record { least = leb-true _ _ b.0; most = leb-true _ _ b.1; octets_fit = fits; number = refl };
}

pub is_signed : IsCounted one_to_four (λ o. signed (twos_complement o)) 3
is_signed = record {
  number_is = λ c. refl;
  bits_are = λ c. refl;
  content_is = λ c fits has. let b = both_true _ _ has in record { least = leb-true _ _ b.0; most = leb-true _ _ b.1; octets_fit = fits; number = refl };
}

pub is_real : IsCounted (λ n. eqb n 4) real 4
is_real = record { number_is = λ c. refl; bits_are = λ c. refl; content_is = λ c fits has. (refl, eqb-true _ _ has) }

pub is_double : IsCounted (λ n. eqb n 8) double 5
is_double = record { number_is = λ c. refl; bits_are = λ c. refl; content_is = λ c fits has. (refl, eqb-true _ _ has) }

pub is_date : IsCounted (λ n. eqb n 4) date 10
is_date = record { number_is = λ c. refl; bits_are = λ c. refl; content_is = λ c fits has. (refl, eqb-true _ _ has) }

pub is_time : IsCounted (λ n. eqb n 4) time 11
is_time = record { number_is = λ c. refl; bits_are = λ c. refl; content_is = λ c fits has. (refl, eqb-true _ _ has) }

pub is_octets : IsCounted (λ n. true) octet_string 6
is_octets = record { number_is = λ c. refl; bits_are = λ c. refl; content_is = λ c fits has. refl }

pub is_object : IsCounted (λ n. eqb n 4) (λ o. object_id (object_of o)) 12
is_object = record {
  number_is = λ c. refl;
  bits_are = λ c. refl;
  content_is = λ c fits has. let o = object_encoded c (eqb-true _ _ has) fits in (sym o.1, o.0);
}

text_number : (c : List ℕ) → (layout (text_of c)).number ≡ 7
text_number [] = refl
text_number (charset ∷ own) = refl

text_bits : (c : List ℕ) → (layout (text_of c)).bits ≡ length_of_content
text_bits [] = refl
text_bits (charset ∷ own) = refl

text_content : (c : List ℕ) → AreOctets c → ltb 0 (length c) ≡ true → IsContent (layout (text_of c)).content c
text_content [] fits has = absurd cc
text_content (charset ∷ own) fits has = refl

pub is_text_kind : IsCounted (ltb 0) text_of 7
is_text_kind = record { number_is = text_number; bits_are = text_bits; content_is = text_content }
