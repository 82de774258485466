-- What is written for a tag is an encoding, and is read again.
use Rattle.std.proofs.Common.{◌≡◌, ℕ, ◌+◌, ◌*◌, ◌^◌, ◌<◌, ◌≤◌, Bool, List, [], ◌∷◌, ◌++◌, length, Ok, refl, sym, ap, subst, ◌∙◌, arith, inl, inr}
use Rattle.std.proofs.lemmas.Bool.{cases_lt, lt-ltb, le-ltb}
use Rattle.std.proofs.lemmas.List.{append_cancel_right, length-append}
use Rattle.gw_addr.proofs.Reading.{ok_is}
use Rattle.gw_codecs.specs.tags.Tag.{Tag, IsTag, LengthFits, EncodesTag, EncodesInLowBits, NumberPlace, high_bits, own_octet, LengthPlace, low_bits, one_octet, two_octets, four_octets, number_octets, length_octets, NumberHasRoom, LengthHasRoom, shortest_number, shortest_length, tag_encoding, canonical, class_of, length_tag}
use Rattle.gw_codecs.specs.declared.tags.tag.Kind.{Kind}
use Rattle.gw_codecs.specs.declared.tags.tag.Kind.TheVariants.{Length, Opening, Closing}
use Rattle.gw_codecs.specs.tags.Reading.{header_at, tag_at}
use Rattle.gw_codecs.proofs.tags_lemmas.Tags.{header_again, tag_again}

-- ---- the places with the fewest octets

-- where a length is written, and in how many octets
data Written (n : ℕ) : Type 0 where
  in_bits : n < 5 → shortest_length (Length n) ≡ low_bits → Written n
  in_one : 5 ≤ n → n < 254 → shortest_length (Length n) ≡ one_octet → Written n
  in_two : 254 ≤ n → n < 65536 → shortest_length (Length n) ≡ two_octets → Written n
  in_four : 65536 ≤ n → shortest_length (Length n) ≡ four_octets → Written n

far : (n : ℕ) → 65536 ≤ n → shortest_length (Length n) ≡ four_octets
far n le =
    let above : 5 ≤ n = omega arith in
    let higher : 254 ≤ n = omega arith in
    rw (le-ltb n 5 above, le-ltb n 254 higher, le-ltb n 65536 le) refl

middle : (n : ℕ) → 254 ≤ n → n < 65536 → shortest_length (Length n) ≡ two_octets
middle n le lt =
    let above : 5 ≤ n = omega arith in
    rw (le-ltb n 5 above, le-ltb n 254 le, lt-ltb n 65536 lt) refl

written : (n : ℕ) → Written n
written n = elim (cases_lt n 5) [
  | inl few ↦ in_bits few (rw (lt-ltb n 5 few) refl)
  | inr above ↦ elim (cases_lt n 254) [
    | inl one ↦ in_one above one (rw (le-ltb n 5 above, lt-ltb n 254 one) refl)
    | inr higher ↦ elim (cases_lt n 65536) [
      | inl two ↦ in_two higher two (middle n higher two)
      | inr four ↦ in_four four (far n four)
    ]
  ]
]

length_room : (n : ℕ) → n < 2 ^ 32 → Written n → LengthHasRoom (Length n) (shortest_length (Length n))
length_room n fits (in_bits lt e) = subst (LengthHasRoom (Length n)) (sym e) lt
length_room n fits (in_one le lt e) = subst (LengthHasRoom (Length n)) (sym e) lt
length_room n fits (in_two le lt e) = subst (LengthHasRoom (Length n)) (sym e) (omega arith)
length_room n fits (in_four le e) = subst (LengthHasRoom (Length n)) (sym e) fits

kind_room : (kind : Kind) → LengthFits kind → LengthHasRoom kind (shortest_length kind)
kind_room (Length n) fits = length_room n fits (written n)
kind_room Opening fits = tt
kind_room Closing fits = tt

number_room : (n : ℕ) → n < 255 → NumberHasRoom n (shortest_number n)
number_room n small = elim (cases_lt n 15) [
  | inl lt ↦ rw (lt-ltb n 15 lt) lt
  | inr le ↦ rw (le-ltb n 15 le) (omega arith)
]

pub canonical_encodes : (tag : Tag) → IsTag tag → EncodesTag (canonical tag) tag
canonical_encodes tag is = record {
  number_place = shortest_number tag.number;
  length_place = shortest_length tag.kind;
  number_room = number_room tag.number is.numbered;
  length_room = kind_room tag.kind is.length_fits;
  encoded = refl;
}

pub canonical_in_low_bits : (tag : Tag) → IsTag tag → shortest_length tag.kind ≡ low_bits → EncodesInLowBits (canonical tag) tag
unfolding canonical_encodes
canonical_in_low_bits tag is place = record { encodes = canonical_encodes tag is; place = place }

-- ---- none is shorter

least_length : (m n : ℕ) (place : LengthPlace) → m ≤ n → LengthHasRoom (Length n) place → Written m → length (length_octets (Length m) (shortest_length (Length m))) ≤ length (length_octets (Length n) place)
least_length m n place le room (in_bits lt e) = rw e (omega arith)
least_length m n low_bits le room (in_one above lt e) = absurd (omega (arith, room))
least_length m n one_octet le room (in_one above lt e) = rw e (omega arith)
least_length m n two_octets le room (in_one above lt e) = rw e (omega arith)
least_length m n four_octets le room (in_one above lt e) = rw e (omega arith)
least_length m n low_bits le room (in_two above lt e) = absurd (omega (arith, room))
least_length m n one_octet le room (in_two above lt e) = absurd (omega (arith, room))
least_length m n two_octets le room (in_two above lt e) = rw e (omega arith)
least_length m n four_octets le room (in_two above lt e) = rw e (omega arith)
least_length m n low_bits le room (in_four above e) = absurd (omega (arith, room))
least_length m n one_octet le room (in_four above e) = absurd (omega (arith, room))
least_length m n two_octets le room (in_four above e) = absurd (omega (arith, room))
least_length m n four_octets le room (in_four above e) = rw e (omega arith)

least_number : (n : ℕ) (place : NumberPlace) → NumberHasRoom n place → length (number_octets n (shortest_number n)) ≤ length (number_octets n place)
least_number n high_bits room = rw (lt-ltb n 15 room) (omega arith)
least_number n own_octet room = elim (cases_lt n 15) [
  | inl lt ↦ rw (lt-ltb n 15 lt) (omega arith)
  | inr le ↦ rw (le-ltb n 15 le) (omega arith)
]

parts_length : (number_place : NumberPlace) (length_place : LengthPlace) (tag : Tag) → length (tag_encoding number_place length_place tag) ≡ 1 + (length (number_octets tag.number number_place) + length (length_octets tag.kind length_place))
parts_length number_place length_place tag = omega (arith, length-append (number_octets tag.number number_place) (length_octets tag.kind length_place))

-- a tag of a length no greater is written in no more octets
pub shorter_tag : (header : List ℕ) (tag : Tag) (fewer count : ℕ) → tag.kind ≡ Length count → fewer ≤ count → EncodesTag header tag → length (canonical (record tag { kind = Length fewer })) ≤ length header
shorter_tag header tag fewer count is le s =
    let room : LengthHasRoom (Length count) s.length_place = subst (λ (k : Kind). LengthHasRoom k s.length_place) is s.length_room in
    let lengths = least_length fewer count s.length_place le room (written fewer) in
    let own : length (length_octets tag.kind s.length_place) ≡ length (length_octets (Length count) s.length_place) = ap (λ (k : Kind). length (length_octets k s.length_place)) is in
    let numbers = least_number tag.number s.number_place s.number_room in
    let made = parts_length (shortest_number tag.number) (shortest_length (Length fewer)) (record tag { kind = Length fewer }) in
    let had = parts_length s.number_place s.length_place tag in
    omega (arith, lengths, own, numbers, made, had, ap length s.encoded)

pub canonical_again : (tag : Tag) (rest : List ℕ) → IsTag tag → tag_at (canonical tag ++ rest) ≡ Ok (tag, rest)
canonical_again tag rest is = tag_again (canonical tag) tag rest is (canonical_encodes tag is)

pub tags_are_prefix_free : (a b x y : List ℕ) (s t : Tag) → EncodesTag a s → EncodesTag b t → a ++ x ≡ b ++ y → (a ≡ b) × (s ≡ t)
tags_are_prefix_free a b x y s t p q e =
    let same = ok_is (s, x) (t, y) (sym (header_again a s x p) ∙ ap header_at e ∙ header_again b t y q) in
    let behind : x ≡ y = ap (λ (r : Tag × List ℕ). r.1) same in
    (append_cancel_right a b x (e ∙ ap (λ (o : List ℕ). b ++ o) (sym behind)), ap (λ (r : Tag × List ℕ). r.0) same)

-- the tag of a short content is one octet
pub in_one_octet : (number count : ℕ) (context : Bool) → number < 15 → count < 5
    → canonical (length_tag number context count) ≡ (16 * number + class_of context + count) ∷ []
in_one_octet number count context few short = rw (lt-ltb number 15 few, lt-ltb count 5 short) refl
