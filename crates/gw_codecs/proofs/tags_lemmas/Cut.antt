-- Octets that end within a tag can be completed to a tag_encoding of one.
use Rattle.std.proofs.Common.{◌≡◌, ◌≢◌, ℕ, zero, suc, ◌+◌, ◌*◌, ◌/◌, ◌%◌, ◌^◌, ◌<◌, false, cond, eqb, ltb, List, [], ◌∷◌, ◌++◌, length, take, drop, Ok, Err, refl, sym, ap, ◌∙◌, append_assoc, arith, inl, inr}
use Rattle.std.specs.Int.{Width, w16, w32, byte_len, from_be_bytes, to_be_bytes}
use Rattle.std.proofs.lemmas.Bool.{eqb-true, ltb-true}
use Rattle.gw_addr.specs.Reading.{◌>>=◌, AreOctets, octet_at, number_at}
use Rattle.gw_addr.proofs.Reading.{AreOctets-rest, bind_err, guard_err, chosen, IsWide, wide16, wide32}
use Rattle.gw_codecs.specs.declared.tags.tag.Kind.{Kind}
use Rattle.gw_codecs.specs.declared.tags.tag.Kind.TheVariants.{Length, Opening, Closing}
use Rattle.gw_codecs.specs.declared.tags.fault.TagFault.{TagFault}
use Rattle.gw_codecs.specs.declared.tags.fault.TagFault.TheVariants.{Short}
use Rattle.gw_codecs.specs.tags.Tag.{high_bits, own_octet, LengthPlace, low_bits, one_octet, two_octets, four_octets, high_of, class_of, low_of, number_octets, length_octets, LengthHasRoom, IsShortTag}
use Rattle.gw_codecs.specs.tags.Reading.{tag_number_at, length_at, kind_at, header_at}
use Rattle.gw_codecs.proofs.tags_lemmas.Octets.{none, one_more}
use Rattle.gw_codecs.proofs.tags_lemmas.Takes.{first_made, ReadsNumber, tag_number_takes}

-- octets that some number of a width begins with
record IsFrontOfNumber (width : Width) (limit : ℕ) (octets : List ℕ) : Type 0 where
  n : ℕ
  missing : List ℕ
  some_missing : missing ≢ []
  room : n < limit
  whole : octets ++ missing ≡ to_be_bytes width n

of_cells : (width : Width) (limit : ℕ) (wide : IsWide width limit) (octets missing : List ℕ) → missing ≢ [] → length (octets ++ missing) ≡ byte_len width → AreOctets (octets ++ missing) → IsFrontOfNumber width limit octets
of_cells width limit wide octets missing some len fits = record {
  n = from_be_bytes width (octets ++ missing);
  missing = missing;
  some_missing = some;
  room = wide.below (octets ++ missing) fits;
  whole = sym (wide.back (octets ++ missing) len fits);
}

one_zero : AreOctets (0 ∷ [])
one_zero = one_more 0 [] (omega arith) none

two_zeros : AreOctets (0 ∷ 0 ∷ [])
two_zeros = one_more 0 (0 ∷ []) (omega arith) one_zero

three_zeros : AreOctets (0 ∷ 0 ∷ 0 ∷ [])
three_zeros = one_more 0 (0 ∷ 0 ∷ []) (omega arith) two_zeros

two_cut : (octets : List ℕ) → length octets < 2 → AreOctets octets → IsFrontOfNumber w16 (2 ^ 16) octets
two_cut [] lt fits = of_cells w16 (2 ^ 16) wide16 [] (0 ∷ 0 ∷ []) (λ e. cc) refl two_zeros
two_cut (a ∷ []) lt fits = of_cells w16 (2 ^ 16) wide16 (a ∷ []) (0 ∷ []) (λ e. cc) refl (one_more a (0 ∷ []) (fits 0) one_zero)
two_cut (a ∷ b ∷ others) lt fits = absurd (omega arith)

four_cut : (octets : List ℕ) → length octets < 4 → AreOctets octets → IsFrontOfNumber w32 (2 ^ 32) octets
four_cut [] lt fits = of_cells w32 (2 ^ 32) wide32 [] (0 ∷ 0 ∷ 0 ∷ 0 ∷ []) (λ e. cc) refl (one_more 0 (0 ∷ 0 ∷ 0 ∷ []) (omega arith) three_zeros)
four_cut (a ∷ []) lt fits = of_cells w32 (2 ^ 32) wide32 (a ∷ []) (0 ∷ 0 ∷ 0 ∷ []) (λ e. cc) refl (one_more a (0 ∷ 0 ∷ 0 ∷ []) (fits 0) three_zeros)
four_cut (a ∷ b ∷ []) lt fits = of_cells w32 (2 ^ 32) wide32 (a ∷ b ∷ []) (0 ∷ 0 ∷ []) (λ e. cc) refl (one_more a (b ∷ 0 ∷ 0 ∷ []) (fits 0) (one_more b (0 ∷ 0 ∷ []) (fits 1) two_zeros))
four_cut (a ∷ b ∷ c ∷ []) lt fits = of_cells w32 (2 ^ 32) wide32 (a ∷ b ∷ c ∷ []) (0 ∷ []) (λ e. cc) refl (one_more a (b ∷ c ∷ 0 ∷ []) (fits 0) (one_more b (c ∷ 0 ∷ []) (fits 1) (one_more c (0 ∷ []) (fits 2) one_zero)))
four_cut (a ∷ b ∷ c ∷ d ∷ others) lt fits = absurd (omega arith)

-- octets that some length begins with
record IsFrontOfLength (octets : List ℕ) : Type 0 where
  n : ℕ
  place : LengthPlace
  missing : List ℕ
  some_missing : missing ≢ []
  low : low_of (Length n) place ≡ 5
  room : LengthHasRoom (Length n) place
  whole : octets ++ missing ≡ length_octets (Length n) place

behind_254 : (first : ℕ) (others : List ℕ) → first ≡ 254 → IsFrontOfNumber w16 (2 ^ 16) others → IsFrontOfLength (first ∷ others)
behind_254 first others is f = record { n = f.n; place = two_octets; missing = f.missing; some_missing = f.some_missing; low = refl; room = f.room; whole = rw is (ap (λ (o : List ℕ). 254 ∷ o) f.whole) }

behind_255 : (first : ℕ) (others : List ℕ) → first ≡ 255 → IsFrontOfNumber w32 (2 ^ 32) others → IsFrontOfLength (first ∷ others)
behind_255 first others is f = record { n = f.n; place = four_octets; missing = f.missing; some_missing = f.some_missing; low = refl; room = f.room; whole = rw is (ap (λ (o : List ℕ). 255 ∷ o) f.whole) }

length_cut : (octets : List ℕ) (fault : TagFault) → AreOctets octets → length_at octets ≡ Err fault → (fault ≡ Short) × IsFrontOfLength octets
length_cut [] fault fits e = (cc, record { n = 0; place = one_octet; missing = 0 ∷ []; some_missing = λ e. cc; low = refl; room = omega arith; whole = refl })
length_cut (first ∷ others) fault fits e =
    let others_fit = AreOctets-rest first others fits in
    elim (chosen (eqb first 254) (number_at Short w16 others) (cond (eqb first 255) (number_at Short w32 others) (Ok (first, others))) (Err fault) e) [
      | inl two ↦
          let g = guard_err (ltb (length others) 2) Short fault (from_be_bytes w16 (take 2 others), drop 2 others) two.1 in
          let f = two_cut others (ltb-true _ _ g.0) others_fit in
          (sym g.1, behind_254 first others (eqb-true _ _ two.0) f)
      | inr more ↦ elim (chosen (eqb first 255) (number_at Short w32 others) (Ok (first, others)) (Err fault) more.1) [
        | inl four ↦
            let g = guard_err (ltb (length others) 4) Short fault (from_be_bytes w32 (take 4 others), drop 4 others) four.1 in
            let f = four_cut others (ltb-true _ _ g.0) others_fit in
            (sym g.1, behind_255 first others (eqb-true _ _ four.0) f)
        | inr one ↦ absurd (let h = one.1 in cc)
      ]
    ]

kind_cut : (low : ℕ) (octets : List ℕ) (fault : TagFault) → AreOctets octets → kind_at low octets ≡ Err fault → (fault ≡ Short) × (low ≡ 5) × IsFrontOfLength octets
kind_cut low octets fault fits e =
    elim (chosen (eqb low 6) (Ok (Opening, octets)) (cond (eqb low 7) (Ok (Closing, octets)) (cond (eqb low 5) (length_at octets >>= λ n. Ok (Length n.0, n.1)) (Ok (Length low, octets)))) (Err fault) e) [
      | inl opening ↦ absurd (let h = opening.1 in cc)
      | inr more ↦ elim (chosen (eqb low 7) (Ok (Closing, octets)) (cond (eqb low 5) (length_at octets >>= λ n. Ok (Length n.0, n.1)) (Ok (Length low, octets))) (Err fault) more.1) [
        | inl closing ↦ absurd (let h = closing.1 in cc)
        | inr length ↦ elim (chosen (eqb low 5) (length_at octets >>= λ n. Ok (Length n.0, n.1)) (Ok (Length low, octets)) (Err fault) length.1) [
          | inl own ↦ elim (bind_err (length_at octets) (λ n. Ok (Length n.0, n.1)) fault own.1) [
            | inl here ↦ let f = length_cut octets fault fits here in (f.0, eqb-true _ _ own.0, f.1)
            | inr after ↦ absurd (let h = after.2 in cc)
          ]
          | inr bits ↦ absurd (let h = bits.1 in cc)
        ]
      ]
    ]

-- each value of the low bits announces something
record Announces (low : ℕ) : Type 0 where
  kind : Kind
  place : LengthPlace
  low_is : low ≡ low_of kind place
  room : LengthHasRoom kind place

announced : (low : ℕ) → low < 8 → Announces low
announced zero lt = record { kind = Length 0; place = low_bits; low_is = refl; room = omega arith }
announced (suc zero) lt = record { kind = Length 1; place = low_bits; low_is = refl; room = omega arith }
announced (suc (suc zero)) lt = record { kind = Length 2; place = low_bits; low_is = refl; room = omega arith }
announced (suc (suc (suc zero))) lt = record { kind = Length 3; place = low_bits; low_is = refl; room = omega arith }
announced (suc (suc (suc (suc zero)))) lt = record { kind = Length 4; place = low_bits; low_is = refl; room = omega arith }
announced (suc (suc (suc (suc (suc zero))))) lt = record { kind = Length 0; place = one_octet; low_is = refl; room = omega arith }
announced (suc (suc (suc (suc (suc (suc zero)))))) lt = record { kind = Opening; place = low_bits; low_is = refl; room = tt }
announced (suc (suc (suc (suc (suc (suc (suc zero))))))) lt = record { kind = Closing; place = low_bits; low_is = refl; room = tt }
announced (suc (suc (suc (suc (suc (suc (suc (suc n)))))))) lt = absurd (omega arith)

octet_cut : (octets : List ℕ) (fault : TagFault) → octet_at Short octets ≡ Err fault → (fault ≡ Short) × (octets ≡ [])
octet_cut [] fault e = (cc, refl)
octet_cut (octet ∷ octets) fault e = absurd cc

number_cut : (first : ℕ) (octets : List ℕ) (fault : TagFault) → tag_number_at first octets ≡ Err fault → (fault ≡ Short) × (first / 16 ≡ 15) × (octets ≡ [])
number_cut first octets fault e = elim (chosen (eqb (first / 16) 15) (octet_at Short octets) (Ok (first / 16, octets)) (Err fault) e) [
  | inl own ↦ let f = octet_cut octets fault own.1 in (f.0, eqb-true _ _ own.0, f.1)
  | inr bits ↦ absurd (let h = bits.1 in cc)
]

empty_cut : IsShortTag []
empty_cut = record {
  tag = record { number = 0; context = false; kind = Length 0 };
  missing = 0 ∷ [];
  some_missing = λ e. cc;
  encodes = record { number_place = high_bits; length_place = low_bits; number_room = omega arith; length_room = omega arith; encoded = refl };
}

-- the octet of the number is missing, and what follows it
cut_at_number : (first : ℕ) (others : List ℕ) → first < 256 → first / 16 ≡ 15 → others ≡ [] → Announces (first % 8) → IsShortTag (first ∷ others)
cut_at_number first others small high ends a = record {
  tag = record { number = 0; context = ltb 7 (first % 16); kind = a.kind };
  missing = 0 ∷ length_octets a.kind a.place;
  some_missing = λ e. cc;
  encodes = record {
    number_place = own_octet;
    length_place = a.place;
    number_room = omega arith;
    length_room = a.room;
    encoded = rw ends (ap (λ (o : ℕ). o ∷ 0 ∷ length_octets a.kind a.place) (first_made first 15 (low_of a.kind a.place) small high a.low_is));
  };
}

-- octets of the length are missing
cut_at_length : (first : ℕ) (others : List ℕ) (n : ℕ) (middle : List ℕ) → first < 256 → ReadsNumber first others n middle → first % 8 ≡ 5 → IsFrontOfLength middle → IsShortTag (first ∷ others)
cut_at_length first others n middle small a low b = record {
  tag = record { number = n; context = ltb 7 (first % 16); kind = Length b.n };
  missing = b.missing;
  some_missing = b.some_missing;
  encodes = record {
    number_place = a.place;
    length_place = b.place;
    number_room = a.room;
    length_room = b.room;
    encoded =
        let octets : others ++ b.missing ≡ number_octets n a.place ++ length_octets (Length b.n) b.place = ap (λ (o : List ℕ). o ++ b.missing) a.takes.parts ∙ append_assoc (number_octets n a.place) middle b.missing ∙ ap (λ (o : List ℕ). number_octets n a.place ++ o) b.whole in
        let octet : first ≡ 16 * high_of n a.place + class_of (ltb 7 (first % 16)) + low_of (Length b.n) b.place = first_made first (high_of n a.place) (low_of (Length b.n) b.place) small a.high (low ∙ sym b.low) in
        ap (λ (o : List ℕ). first ∷ o) octets ∙ ap (λ (o : ℕ). o ∷ (number_octets n a.place ++ length_octets (Length b.n) b.place)) octet;
  };
}

-- what ends within a tag is cut
pub header_cut : (octets : List ℕ) (fault : TagFault) → AreOctets octets → header_at octets ≡ Err fault → (fault ≡ Short) × IsShortTag octets
header_cut [] fault fits e = (cc, empty_cut)
header_cut (first ∷ others) fault fits e =
    let small : first < 256 = fits 0 in
    let others_fit = AreOctets-rest first others fits in
    elim (bind_err (tag_number_at first others) (λ number. kind_at (first % 8) number.1 >>= λ kind. Ok (record { number = number.0; context = ltb 7 (first % 16); kind = kind.0 }, kind.1)) fault e) [
      | inl here ↦
          let c = number_cut first others fault here in
          (c.0, cut_at_number first others small c.1 c.2 (announced (first % 8) (omega arith)))
      | inr (number, number_read, after) ↦
          let a = tag_number_takes first others number.0 number.1 small others_fit number_read in
          elim (bind_err (kind_at (first % 8) number.1) (λ kind. Ok (record { number = number.0; context = ltb 7 (first % 16); kind = kind.0 }, kind.1)) fault after) [
            | inl there ↦
                let c = kind_cut (first % 8) number.1 fault a.takes.rest_octets there in
                (c.0, cut_at_length first others number.0 number.1 small a c.1 c.2)
            | inr done ↦ absurd (let h = done.2 in cc)
          ]
    ]
