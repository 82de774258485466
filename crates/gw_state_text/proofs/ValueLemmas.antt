-- How many octets a value has.
use Rattle.std.proofs.Common.{◌≡◌, ℕ, ◌^◌, ◌<◌, ◌≤◌, true, false, List, ◌++◌, length, refl, ap, arith}
use Rattle.std.specs.Prelude.{ℤ}
use Rattle.std.specs.Str.{is_utf8}
use Rattle.std.proofs.lemmas.List.{length-append}
use Rattle.gw_addr.proofs.Reading.{wide16}
use Rattle.gw_configuration.specs.declared.object.ObjectKind.{ObjectKind}
use Rattle.gw_configuration.specs.declared.object.ObjectKind.TheVariants as kinds
use Rattle.gw_objects.specs.Table.{value_of}
use Rattle.gw_objects.specs.declared.value.PropertyValue.{PropertyValue}
use Rattle.gw_objects.specs.declared.value.PropertyValue.TheVariants.{Binary, State, Text, Integer, PositiveInteger}
use Rattle.gw_codecs.specs.tags.Number.{IsSigned}
use Rattle.gw_codecs.specs.tags.Tag.{EncodesTag, high_bits, two_octets, tag_encoding}
use Rattle.gw_codecs.specs.tags.Value.{IsValue, application, character_string, enumerated, signed, unsigned, value_encoding}
use Rattle.gw_codecs.proofs.tags_lemmas.Numbers.{signed_encodes, unsigned_encodes}
use Rattle.gw_codecs.proofs.tags_lemmas.Written.{value_encoding_encodes, value_encoding_is_shortest}
use Rattle.hex.proofs.HexLemmas.{length-encode_with}
use Rattle.hex.specs.Hex.{upper_digits}
use Rattle.gw_state_text.specs.Fit.{FitsKind}
use Rattle.gw_state_text.specs.Text.{value_text}

pub unsigned_is : (n : ℕ) → n < 2 ^ 32 → IsValue (unsigned n)
unsigned_is n small = record { within = small; length_fits = omega (arith, (unsigned_encodes n small).most); text = refl }

pub enumerated_is : (n : ℕ) → n < 2 ^ 32 → IsValue (enumerated n)
enumerated_is n small = record { within = small; length_fits = omega (arith, (unsigned_encodes n small).most); text = refl }

pub signed_is : (z : ℤ) → IsSigned z → IsValue (signed z)
signed_is z small = record { within = small; length_fits = omega (arith, (signed_encodes z small).most); text = refl }

pub text_is : (octets : List ℕ) → length octets ≤ 255 → is_utf8 octets ≡ true → IsValue (character_string 0 octets)
text_is octets few utf8 = record { within = tt; length_fits = omega (arith, few); text = utf8 }

-- the octets of a tag with room for a longer content
abbrev short : ℕ → List ℕ → List ℕ
short number content = tag_encoding high_bits two_octets (application number (length content))

short_encodes : (number : ℕ) (content : List ℕ) → number < 15 → length content ≤ 256 → EncodesTag (short number content) (application number (length content))
short_encodes number content small few = record {
  number_place = high_bits;
  length_place = two_octets;
  number_room = small;
  length_room = omega (arith, few);
  encoded = refl;
}

-- no more octets than a tag of four, and the content
few_octets : (encoding : List ℕ) (number : ℕ) (content : List ℕ) → length content ≤ 256
    → length encoding ≤ length (short number content ++ content) → length encoding ≤ 260
few_octets encoding number content most least =
    omega (arith, least, most, length-append (short number content) content, wide16.len (length content))

unsigned_few : (n : ℕ) → n < 2 ^ 32 → length (value_encoding (unsigned n)) ≤ 260
unsigned_few n small =
    let e = value_encoding_encodes (unsigned n) (unsigned_is n small) in
    let most : length e.content ≤ 256 = omega (arith, e.encoded.most) in
    few_octets (value_encoding (unsigned n)) 2 e.content most
    (value_encoding_is_shortest (short 2 e.content ++ e.content) (unsigned n) (record {
      header = short 2 e.content;
      content = e.content;
      parts = refl;
      tagged = short_encodes 2 e.content (omega arith) most;
      encoded = e.encoded;
    }))

enumerated_few : (n : ℕ) → n < 2 ^ 32 → length (value_encoding (enumerated n)) ≤ 260
enumerated_few n small =
    let e = value_encoding_encodes (enumerated n) (enumerated_is n small) in
    let most : length e.content ≤ 256 = omega (arith, e.encoded.most) in
    few_octets (value_encoding (enumerated n)) 9 e.content most
    (value_encoding_is_shortest (short 9 e.content ++ e.content) (enumerated n) (record {
      header = short 9 e.content;
      content = e.content;
      parts = refl;
      tagged = short_encodes 9 e.content (omega arith) most;
      encoded = e.encoded;
    }))

signed_few : (z : ℤ) → IsSigned z → length (value_encoding (signed z)) ≤ 260
signed_few z small =
    let e = value_encoding_encodes (signed z) (signed_is z small) in
    let most : length e.content ≤ 256 = omega (arith, e.encoded.most) in
    few_octets (value_encoding (signed z)) 3 e.content most
    (value_encoding_is_shortest (short 3 e.content ++ e.content) (signed z) (record {
      header = short 3 e.content;
      content = e.content;
      parts = refl;
      tagged = short_encodes 3 e.content (omega arith) most;
      encoded = e.encoded;
    }))

text_few : (octets : List ℕ) → length octets ≤ 255 → is_utf8 octets ≡ true → length (value_encoding (character_string 0 octets)) ≤ 260
text_few octets few utf8 =
    let e = value_encoding_encodes (character_string 0 octets) (text_is octets few utf8) in
    let most : length e.content ≤ 256 = omega (arith, ap length e.encoded, few) in
    few_octets (value_encoding (character_string 0 octets)) 7 e.content most
    (value_encoding_is_shortest (short 7 e.content ++ e.content) (character_string 0 octets) (record {
      header = short 7 e.content;
      content = e.content;
      parts = refl;
      tagged = short_encodes 7 e.content (omega arith) most;
      encoded = e.encoded;
    }))

-- a value has at most 260 octets
pub value_few : (kind : ObjectKind) (v : PropertyValue) → FitsKind kind v → length (value_encoding (value_of v)) ≤ 260
value_few kinds.BinaryValue (Binary true) fits = enumerated_few 1 (omega arith)
value_few kinds.BinaryValue (Binary false) fits = enumerated_few 0 (omega arith)
value_few kinds.BinaryValue (State n) fits = absurd fits
value_few kinds.BinaryValue (Text octets) fits = absurd fits
value_few kinds.BinaryValue (Integer z) fits = absurd fits
value_few kinds.BinaryValue (PositiveInteger n) fits = absurd fits
value_few kinds.MultiStateValue (Binary active) fits = absurd fits
value_few kinds.MultiStateValue (State n) fits = unsigned_few n fits
value_few kinds.MultiStateValue (Text octets) fits = absurd fits
value_few kinds.MultiStateValue (Integer z) fits = absurd fits
value_few kinds.MultiStateValue (PositiveInteger n) fits = absurd fits
value_few kinds.CharacterStringValue (Binary active) fits = absurd fits
value_few kinds.CharacterStringValue (State n) fits = absurd fits
value_few kinds.CharacterStringValue (Text octets) fits = text_few octets fits.0 fits.1
value_few kinds.CharacterStringValue (Integer z) fits = absurd fits
value_few kinds.CharacterStringValue (PositiveInteger n) fits = absurd fits
value_few kinds.IntegerValue (Binary active) fits = absurd fits
value_few kinds.IntegerValue (State n) fits = absurd fits
value_few kinds.IntegerValue (Text octets) fits = absurd fits
value_few kinds.IntegerValue (Integer z) fits = signed_few z fits
value_few kinds.IntegerValue (PositiveInteger n) fits = absurd fits
value_few kinds.PositiveIntegerValue (Binary active) fits = absurd fits
value_few kinds.PositiveIntegerValue (State n) fits = absurd fits
value_few kinds.PositiveIntegerValue (Text octets) fits = absurd fits
value_few kinds.PositiveIntegerValue (Integer z) fits = absurd fits
value_few kinds.PositiveIntegerValue (PositiveInteger n) fits = unsigned_few n fits

-- and two digits for each
pub digits_few : (kind : ObjectKind) (v : PropertyValue) → FitsKind kind v → length (value_text v) ≤ 520
digits_few kind v fits = omega (arith, value_few kind v fits, length-encode_with upper_digits (value_encoding (value_of v)))
