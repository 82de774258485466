-- What was read as a tag is a tag_encoding of it, and what ends within a tag can be completed to one.
use Rattle.std.proofs.Common.{◌≡◌, ◌≢◌, ℕ, ◌+◌, ◌*◌, ◌/◌, ◌%◌, ◌^◌, ◌<◌, cond, eqb, ltb, List, [], ◌∷◌, ◌++◌, length, Result, Ok, refl, ap, subst, ◌∙◌, arith, inl, inr}
use Rattle.std.specs.Int.{w16, w32, to_be_bytes}
use Rattle.std.proofs.lemmas.Bool.{cases_lt, eqb-false, eqb-true, le-ltb, lt-ltb}
use Rattle.gw_addr.specs.Reading.{◌>>=◌, AreOctets, Takes, octet_at, number_at}
use Rattle.gw_addr.proofs.Reading.{AreOctets-rest, bind_ok, chosen, ok_is, Takes-then, octet_takes, number_takes, wide16, wide32}
use Rattle.gw_codecs.specs.declared.tags.tag.Kind.{Kind}
use Rattle.gw_codecs.specs.declared.tags.tag.Kind.TheVariants.{Length, Opening, Closing}
use Rattle.gw_codecs.specs.declared.tags.fault.TagFault.{TagFault}
use Rattle.gw_codecs.specs.declared.tags.fault.TagFault.TheVariants.{Short}
use Rattle.gw_codecs.specs.tags.Tag.{Tag, NumberPlace, high_bits, own_octet, LengthPlace, low_bits, one_octet, two_octets, four_octets, high_of, class_of, low_of, number_octets, length_octets, NumberHasRoom, LengthHasRoom, BeginsWith}
use Rattle.gw_codecs.specs.tags.Reading.{tag_number_at, length_at, kind_at, header_at}

-- the parts of a first octet make it up
first_is : (first : ℕ) → first < 256 → first ≡ 16 * (first / 16) + class_of (ltb 7 (first % 16)) + first % 8
first_is first lt = elim (cases_lt 7 (first % 16)) [
  | inl set ↦ rw (lt-ltb 7 (first % 16) set) (omega arith)
  | inr unset ↦ rw (le-ltb 7 (first % 16) unset) (omega arith)
]

pub first_made : (first high low : ℕ) → first < 256 → first / 16 ≡ high → first % 8 ≡ low → first ≡ 16 * high + class_of (ltb 7 (first % 16)) + low
first_made first high low lt high_is low_is = rw (← high_is, ← low_is) (first_is first lt)

-- ---- what was read

-- a number was read, and where it was
pub record ReadsNumber (first : ℕ) (octets : List ℕ) (n : ℕ) (rest : List ℕ) : Type 0 where
  pub place : NumberPlace
  pub high : first / 16 ≡ high_of n place
  pub room : NumberHasRoom n place
  pub takes : Takes octets (number_octets n place) rest

pub tag_number_takes : (first : ℕ) (octets : List ℕ) (n : ℕ) (rest : List ℕ) → first < 256 → AreOctets octets → tag_number_at first octets ≡ Ok (n, rest) → ReadsNumber first octets n rest
tag_number_takes first octets n rest lt fits e = elim (chosen (eqb (first / 16) 15) (octet_at Short octets) (Ok (first / 16, octets)) (Ok (n, rest)) e) [
  | inl own ↦
      let t = octet_takes Short octets n rest fits own.1 in
      record { place = own_octet; high = eqb-true _ _ own.0; room = t.1; takes = t.0 }
  | inr bits ↦
      let both = ok_is (first / 16, octets) (n, rest) bits.1 in
      let number : first / 16 ≡ n = ap (λ (p : ℕ × List ℕ). p.0) both in
      let others : octets ≡ rest = ap (λ (p : ℕ × List ℕ). p.1) both in
      let other : first / 16 ≢ 15 = eqb-false _ _ bits.0 in
      record { place = high_bits; high = number; room = omega arith; takes = record { parts = others; rest_octets = rw (← others) fits } }
]

-- a kind was read, and where its length was
pub record ReadsKind (low : ℕ) (octets : List ℕ) (kind : Kind) (rest : List ℕ) : Type 0 where
  pub place : LengthPlace
  pub low_is : low ≡ low_of kind place
  pub room : LengthHasRoom kind place
  pub takes : Takes octets (length_octets kind place) rest

-- an octet in front of what was read
behind : (first octet : ℕ) (others text rest : List ℕ) → first ≡ octet → Takes others text rest → Takes (first ∷ others) (octet ∷ text) rest
behind first octet others text rest is t = record { parts = rw is (ap (λ (o : List ℕ). octet ∷ o) t.parts); rest_octets = t.rest_octets }

-- a kind that takes no octet
stays : (low : ℕ) (octets : List ℕ) (read : Kind) (place : LengthPlace) (kind : Kind) (rest : List ℕ) → AreOctets octets → low ≡ low_of read place → LengthHasRoom read place → length_octets read place ≡ [] → (let r : Result (Kind × List ℕ) TagFault = Ok (read, octets) in r) ≡ Ok (kind, rest) → ReadsKind low octets kind rest
stays low octets read place kind rest fits low_is room none e =
    let made : Kind × List ℕ = (read, octets) in
    subst (λ (x : Kind × List ℕ). ReadsKind low octets x.0 x.1) (ok_is made (kind, rest) e) (record { place = place; low_is = low_is; room = room; takes = record { parts = rw none refl; rest_octets = fits } })

length_takes : (octets : List ℕ) (n : ℕ) (rest : List ℕ) → AreOctets octets → length_at octets ≡ Ok (n, rest) → ReadsKind 5 octets (Length n) rest
length_takes [] n rest fits e = absurd cc
length_takes (first ∷ others) n rest fits e =
    let small : first < 256 = fits 0 in
    let others_fit = AreOctets-rest first others fits in
    elim (chosen (eqb first 254) (number_at Short w16 others) (cond (eqb first 255) (number_at Short w32 others) (Ok (first, others))) (Ok (n, rest)) e) [
      | inl two ↦
          let t = number_takes Short w16 (2 ^ 16) wide16 others n rest others_fit two.1 in
          record { place = two_octets; low_is = refl; room = t.1; takes = behind first 254 others (to_be_bytes w16 n) rest (eqb-true _ _ two.0) t.0 }
      | inr more ↦ elim (chosen (eqb first 255) (number_at Short w32 others) (Ok (first, others)) (Ok (n, rest)) more.1) [
        | inl four ↦
            let t = number_takes Short w32 (2 ^ 32) wide32 others n rest others_fit four.1 in
            record { place = four_octets; low_is = refl; room = t.1; takes = behind first 255 others (to_be_bytes w32 n) rest (eqb-true _ _ four.0) t.0 }
        | inr one ↦
            let both = ok_is (first, others) (n, rest) one.1 in
            let number : first ≡ n = ap (λ (p : ℕ × List ℕ). p.0) both in
            let others_are : others ≡ rest = ap (λ (p : ℕ × List ℕ). p.1) both in
            let not_two : first ≢ 254 = eqb-false _ _ more.0 in
            let not_four : first ≢ 255 = eqb-false _ _ one.0 in
            record { place = one_octet; low_is = refl; room = omega arith; takes = behind first n others [] rest number (record { parts = others_are; rest_octets = rw (← others_are) others_fit }) }
      ]
    ]

pub kind_takes : (low : ℕ) (octets : List ℕ) (kind : Kind) (rest : List ℕ) → low < 8 → AreOctets octets → kind_at low octets ≡ Ok (kind, rest) → ReadsKind low octets kind rest
kind_takes low octets kind rest lt fits e =
    elim (chosen (eqb low 6) (Ok (Opening, octets)) (cond (eqb low 7) (Ok (Closing, octets)) (cond (eqb low 5) (length_at octets >>= λ n. Ok (Length n.0, n.1)) (Ok (Length low, octets)))) (Ok (kind, rest)) e) [
      | inl opening ↦ stays low octets Opening low_bits kind rest fits (eqb-true _ _ opening.0) tt refl opening.1
      | inr more ↦ elim (chosen (eqb low 7) (Ok (Closing, octets)) (cond (eqb low 5) (length_at octets >>= λ n. Ok (Length n.0, n.1)) (Ok (Length low, octets))) (Ok (kind, rest)) more.1) [
        | inl closing ↦ stays low octets Closing low_bits kind rest fits (eqb-true _ _ closing.0) tt refl closing.1
        | inr length ↦ elim (chosen (eqb low 5) (length_at octets >>= λ n. Ok (Length n.0, n.1)) (Ok (Length low, octets)) (Ok (kind, rest)) length.1) [
          | inl own ↦
              let a = bind_ok (length_at octets) (λ n. Ok (Length n.0, n.1)) (kind, rest) own.1 in
              let r = length_takes octets a.0.0 a.0.1 fits a.1 in
              let five : low ≡ 5 = eqb-true _ _ own.0 in
              let made : Kind × List ℕ = (Length a.0.0, a.0.1) in
              subst (λ (x : Kind × List ℕ). ReadsKind low octets x.0 x.1) (ok_is made (kind, rest) a.2) (record { place = r.place; low_is = five ∙ r.low_is; room = r.room; takes = r.takes })
          | inr bits ↦
              let not_six : low ≢ 6 = eqb-false _ _ more.0 in
              let not_seven : low ≢ 7 = eqb-false _ _ length.0 in
              let not_five : low ≢ 5 = eqb-false _ _ bits.0 in
              stays low octets (Length low) low_bits kind rest fits refl (omega arith) refl bits.1
        ]
      ]
    ]

-- a number and a kind that were read make a tag_encoding
joined : (first : ℕ) (others : List ℕ) (n : ℕ) (middle : List ℕ) (kind : Kind) (rest : List ℕ) → first < 256 → ReadsNumber first others n middle → ReadsKind (first % 8) middle kind rest → BeginsWith (first ∷ others) (record { number = n; context = ltb 7 (first % 16); kind = kind }) rest
joined first others n middle kind rest small a b = record {
  front = first ∷ (number_octets n a.place ++ length_octets kind b.place);
  encodes = record {
    number_place = a.place;
    length_place = b.place;
    number_room = a.room;
    length_room = b.room;
    encoded = ap (λ (o : ℕ). o ∷ (number_octets n a.place ++ length_octets kind b.place)) (first_made first (high_of n a.place) (low_of kind b.place) small a.high b.low_is);
  };
  parts = ap (λ (o : List ℕ). first ∷ o) (Takes-then others (number_octets n a.place) middle (length_octets kind b.place) rest a.takes b.takes).parts;
}

-- what was read is encoded so
pub header_takes : (octets : List ℕ) (tag : Tag) (rest : List ℕ) → AreOctets octets → header_at octets ≡ Ok (tag, rest) → BeginsWith octets tag rest
header_takes [] tag rest fits e = absurd cc
header_takes (first ∷ others) tag rest fits e =
    let small : first < 256 = fits 0 in
    let a = bind_ok (tag_number_at first others) (λ number. kind_at (first % 8) number.1 >>= λ kind. Ok (record { number = number.0; context = ltb 7 (first % 16); kind = kind.0 }, kind.1)) (tag, rest) e in
    let b = bind_ok (kind_at (first % 8) a.0.1) (λ kind. Ok (record { number = a.0.0; context = ltb 7 (first % 16); kind = kind.0 }, kind.1)) (tag, rest) a.2 in
    let number = tag_number_takes first others a.0.0 a.0.1 small (AreOctets-rest first others fits) a.1 in
    let kind = kind_takes (first % 8) a.0.1 b.0.0 b.0.1 (omega arith) number.takes.rest_octets b.1 in
    let made : Tag × List ℕ = (record { number = a.0.0; context = ltb 7 (first % 16); kind = b.0.0 }, b.0.1) in
    subst (λ (x : Tag × List ℕ). BeginsWith (first ∷ others) x.0 x.1) (ok_is made (tag, rest) b.2) (joined first others a.0.0 a.0.1 b.0.0 b.0.1 small number kind)
