-- The laws of reading a tag: what was read is encoded so, what is encoded so is read again, and what is cut can be completed.
use Rattle.std.proofs.Common.{◌≡◌, ℕ, ◌+◌, ◌*◌, ◌/◌, ◌%◌, ◌^◌, ◌<◌, Bool, true, false, eqb, ltb, List, ◌++◌, Result, Ok, refl, ap, append_assoc, arith}
use Rattle.std.specs.Int.{w16, w32}
use Rattle.std.proofs.lemmas.Bool.{ne_eqb, le-ltb, lt-ltb}
use Rattle.gw_addr.specs.Reading.{◌>>=◌}
use Rattle.gw_addr.proofs.Reading.{number_again, wide16, wide32}
use Rattle.gw_codecs.specs.declared.tags.tag.Kind.{Kind}
use Rattle.gw_codecs.specs.declared.tags.tag.Kind.TheVariants.{Length, Opening, Closing}
use Rattle.gw_codecs.specs.declared.tags.fault.TagFault.{TagFault}
use Rattle.gw_codecs.specs.declared.tags.fault.TagFault.TheVariants.{Short}
use Rattle.gw_codecs.specs.tags.Tag.{Tag, IsTag, is_tag, NumberPlace, high_bits, own_octet, LengthPlace, low_bits, one_octet, two_octets, four_octets, high_of, class_of, low_of, number_octets, length_octets, NumberHasRoom, LengthHasRoom, EncodesTag}
use Rattle.gw_codecs.specs.tags.Reading.{tag_number_at, kind_at, header_at, tag_at}

-- ---- the first octet

pub low_small : (kind : Kind) (place : LengthPlace) → LengthHasRoom kind place → low_of kind place < 8
low_small (Length n) low_bits room = omega (arith, room)
low_small (Length n) one_octet room = omega arith
low_small (Length n) two_octets room = omega arith
low_small (Length n) four_octets room = omega arith
low_small Opening place room = omega arith
low_small Closing place room = omega arith

high_part : (high low : ℕ) (context : Bool) → low < 8 → (16 * high + class_of context + low) / 16 ≡ high
high_part high low true lt = omega arith
high_part high low false lt = omega arith

pub low_part : (high low : ℕ) (context : Bool) → low < 8 → (16 * high + class_of context + low) % 8 ≡ low
low_part high low true lt = omega arith
low_part high low false lt = omega arith

class_part : (high low : ℕ) (context : Bool) → low < 8 → ltb 7 ((16 * high + class_of context + low) % 16) ≡ context
class_part high low true lt = lt-ltb _ _ (omega arith)
class_part high low false lt = le-ltb _ _ (omega arith)

-- ---- the number

tag_number_again : (first n : ℕ) (place : NumberPlace) (rest : List ℕ) → first / 16 ≡ high_of n place → NumberHasRoom n place → tag_number_at first (number_octets n place ++ rest) ≡ Ok (n, rest)
tag_number_again first n high_bits rest high room =
    let other : eqb n 15 ≡ false = ne_eqb n 15 (λ e. omega (arith, room)) in
    rw (high, other) refl
tag_number_again first n own_octet rest high room = rw high refl

-- ---- what the low bits announce

kind_again : (kind : Kind) (place : LengthPlace) (rest : List ℕ) → LengthHasRoom kind place → kind_at (low_of kind place) (length_octets kind place ++ rest) ≡ Ok (kind, rest)
kind_again (Length n) low_bits rest room =
    let not_five : eqb n 5 ≡ false = ne_eqb n 5 (λ e. omega (arith, room)) in
    let not_six : eqb n 6 ≡ false = ne_eqb n 6 (λ e. omega (arith, room)) in
    let not_seven : eqb n 7 ≡ false = ne_eqb n 7 (λ e. omega (arith, room)) in
    rw (not_six, not_seven, not_five) refl
kind_again (Length n) one_octet rest room =
    let not_two : eqb n 254 ≡ false = ne_eqb n 254 (λ e. omega (arith, room)) in
    let not_four : eqb n 255 ≡ false = ne_eqb n 255 (λ e. omega (arith, room)) in
    rw (not_two, not_four) refl
kind_again (Length n) two_octets rest room = ap (λ (r : Result (ℕ × List ℕ) TagFault). r >>= λ m. Ok (Length m.0, m.1)) (number_again Short w16 (2 ^ 16) wide16 n rest room)
kind_again (Length n) four_octets rest room = ap (λ (r : Result (ℕ × List ℕ) TagFault). r >>= λ m. Ok (Length m.0, m.1)) (number_again Short w32 (2 ^ 32) wide32 n rest room)
kind_again Opening place rest room = refl
kind_again Closing place rest room = refl

-- ---- the whole tag

-- what is encoded so is read, be it reserved or not
pub header_again : (front : List ℕ) (tag : Tag) (rest : List ℕ) → EncodesTag front tag → header_at (front ++ rest) ≡ Ok (tag, rest)
header_again front tag rest s =
    let small = low_small tag.kind s.length_place s.length_room in
    let high = high_part (high_of tag.number s.number_place) (low_of tag.kind s.length_place) tag.context small in
    let low = low_part (high_of tag.number s.number_place) (low_of tag.kind s.length_place) tag.context small in
    let class = class_part (high_of tag.number s.number_place) (low_of tag.kind s.length_place) tag.context small in
    let number = tag_number_again (16 * high_of tag.number s.number_place + class_of tag.context + low_of tag.kind s.length_place) tag.number s.number_place (length_octets tag.kind s.length_place ++ rest) high s.number_room in
    let kind = kind_again tag.kind s.length_place rest s.length_room in
    rw (s.encoded, append_assoc, number, low, class, kind) refl

pub known_tag : (tag : Tag) → IsTag tag → is_tag tag ≡ true
known_tag tag is = rw (lt-ltb tag.number 255 is.numbered) is.classed

-- a tag that is encoded so is read
pub tag_again : (front : List ℕ) (tag : Tag) (rest : List ℕ) → IsTag tag → EncodesTag front tag → tag_at (front ++ rest) ≡ Ok (tag, rest)
tag_again front tag rest is s = rw (header_again front tag rest s, known_tag tag is) refl
