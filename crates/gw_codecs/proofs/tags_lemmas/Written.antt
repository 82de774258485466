-- What is written for a value is an encoding of it, and none is shorter.
use Rattle.std.proofs.Common.{◌≡◌, ℕ, ◌^◌, ◌<◌, ◌≤◌, true, List, [], ◌++◌, length, refl, ap, arith}
use Rattle.std.proofs.lemmas.Bool.{lt-ltb}
use Rattle.std.proofs.lemmas.List.{length-append}
use Rattle.gw_codecs.specs.declared.tags.tag.Kind.TheVariants.{Length}
use Rattle.gw_codecs.specs.tags.Tag.{IsTag, low_bits, shortest_length, canonical}
use Rattle.gw_codecs.specs.tags.Value.{Value, null, boolean, unsigned, signed, real, double, octet_string, character_string, bit_string, enumerated, date, time, object_id, LengthBits, length_of_content, value_itself, Content, empty, natural, integer, opaque, exactly, bits_of, identifier, layout, application, announced, IsContent, IsHeader, IsWithin, IsValue, LengthFits, is_text, EncodesValue, BeginsWithValue, content_encoding, value_encoding}
use Rattle.gw_codecs.proofs.tags_lemmas.Canonical.{canonical_encodes, canonical_in_low_bits, shorter_tag}
use Rattle.gw_codecs.specs.tags.Reading.{low_bits_at}
use Rattle.gw_codecs.proofs.tags_lemmas.Bodies.{HasBits}
use Rattle.gw_codecs.proofs.tags_lemmas.Faults.{fits_kind}
use Rattle.gw_codecs.proofs.tags_lemmas.Heads.{IsSmall, tag_of_header}
use Rattle.gw_codecs.proofs.tags_lemmas.ValueLaws.{small_bits}
use Rattle.gw_codecs.proofs.tags_lemmas.Numbers.{unsigned_encodes, signed_encodes, unsigned_fits, signed_fits, count_is_least, signed_is_least, unsigned_length, signed_length}

-- ---- the content

content_encodes : (content : Content) → IsWithin content → IsContent content (content_encoding content)
content_encodes empty within = refl
content_encodes (natural n) within = unsigned_encodes n within
content_encodes (integer z) within = signed_encodes z within
content_encodes (opaque own) within = refl
content_encodes (exactly count own) within = (refl, within)
content_encodes (bits_of unused own) within = (refl, within)
content_encodes (identifier id) within = (refl, within)

content_is_shortest : (content : Content) (octets : List ℕ) → IsContent content octets → length (content_encoding content) ≤ length octets
content_is_shortest empty octets s = omega (arith, ap length s)
content_is_shortest (natural n) octets s = omega (arith, unsigned_length n, count_is_least octets n s)
content_is_shortest (integer z) octets s = omega (arith, signed_length z, signed_is_least octets z s)
content_is_shortest (opaque own) octets s = omega (arith, ap length s)
content_is_shortest (exactly count own) octets s = omega (arith, ap length s.0)
content_is_shortest (bits_of unused own) octets s = omega (arith, ap length s.0)
content_is_shortest (identifier id) octets s = omega (arith, ap length s.0)

content_within : (content : Content) (octets : List ℕ) → IsContent content octets → IsWithin content
content_within empty octets s = tt
content_within (natural n) octets s = unsigned_fits octets n s
content_within (integer z) octets s = signed_fits octets z s
content_within (opaque own) octets s = tt
content_within (exactly count own) octets s = s.1
content_within (bits_of unused own) octets s = s.1
content_within (identifier id) octets s = s.1

-- ---- the tag

number_below : (value : Value) → (layout value).number < 255
number_below null = omega arith
number_below (boolean b) = omega arith
number_below (unsigned n) = omega arith
number_below (signed z) = omega arith
number_below (real own) = omega arith
number_below (double own) = omega arith
number_below (octet_string own) = omega arith
number_below (character_string charset own) = omega arith
number_below (bit_string unused own) = omega arith
number_below (enumerated n) = omega arith
number_below (date own) = omega arith
number_below (time own) = omega arith
number_below (object_id id) = omega arith

is_application : (number count : ℕ) → number < 255 → count < 2 ^ 32 → IsTag (application number count)
is_application number count below fits = record { numbered = below; classed = refl; length_fits = fits }

low_place : (n : ℕ) → n < 2 → shortest_length (Length n) ≡ low_bits
low_place n lt = let below : n < 5 = omega arith in rw (lt-ltb n 5 below) refl

header_encodes : (number count : ℕ) (bits : LengthBits) → number < 255 → IsSmall bits → count < 2 ^ 32 → IsHeader (canonical (application number (announced bits count))) number bits count
header_encodes number count length_of_content below small fits = canonical_encodes (application number count) (is_application number count below fits)
header_encodes number count (value_itself n) below small fits = canonical_in_low_bits (application number n) (is_application number n below (omega arith)) (low_place n small)

pub value_encoding_encodes : (value : Value) → IsValue value → EncodesValue (value_encoding value) value
value_encoding_encodes value is =
    let content = (layout value).content in
    record {
      header = canonical (application (layout value).number (announced (layout value).bits (length (content_encoding content))));
      content = content_encoding content;
      parts = refl;
      tagged = header_encodes (layout value).number (length (content_encoding content)) (layout value).bits (number_below value) (small_bits value) is.length_fits;
      encoded = content_encodes content is.within;
    }

-- ---- none is shorter

header_is_shortest : (header : List ℕ) (number fewer count : ℕ) (bits : LengthBits) → fewer ≤ count → IsHeader header number bits count → length (canonical (application number (announced bits fewer))) ≤ length header
header_is_shortest header number fewer count length_of_content le s = shorter_tag header (application number count) fewer count refl le s
header_is_shortest header number fewer count (value_itself n) le s = shorter_tag header (application number n) n n refl (omega arith) s.encodes

pub value_encoding_is_shortest : (octets : List ℕ) (value : Value) → EncodesValue octets value → length (value_encoding value) ≤ length octets
value_encoding_is_shortest octets value s =
    let own = content_encoding (layout value).content in
    let contents = content_is_shortest (layout value).content s.content s.encoded in
    let headers = header_is_shortest s.header (layout value).number (length own) (length s.content) (layout value).bits contents s.tagged in
    omega (arith, contents, headers, ap length s.parts, length-append s.header s.content, length-append (canonical (application (layout value).number (announced (layout value).bits (length own)))) own)

-- ---- what is read can be written

-- a content is as long as its tag says, if the tag says how long
fits_so : (value : Value) (content : List ℕ) (count low : ℕ) → IsContent (layout value).content content → HasBits (layout value).bits low count (length content) → count < 2 ^ 32 → length (content_encoding (layout value).content) ≤ length content → LengthFits value
fits_so null content count low s b fits le = omega arith
fits_so (boolean said) content count low s b fits le = omega arith
fits_so (unsigned n) content count low s b fits le = omega (arith, b)
fits_so (signed z) content count low s b fits le = omega (arith, b)
fits_so (real own) content count low s b fits le = omega (arith, b)
fits_so (double own) content count low s b fits le = omega (arith, b)
fits_so (octet_string own) content count low s b fits le = omega (arith, b)
fits_so (character_string charset own) content count low s b fits le = omega (arith, b)
fits_so (bit_string unused own) content count low s b fits le = omega (arith, b)
fits_so (enumerated n) content count low s b fits le = omega (arith, b)
fits_so (date own) content count low s b fits le = omega (arith, b)
fits_so (time own) content count low s b fits le = omega (arith, b)
fits_so (object_id id) content count low s b fits le = omega (arith, b)

pub value_within : (octets : List ℕ) (value : Value) (rest : List ℕ) → BeginsWithValue octets value rest → is_text value ≡ true → IsValue value
value_within octets value rest b text =
    let s = b.encodes in
    let least = content_is_shortest (layout value).content s.content s.encoded in
    let t = tag_of_header s.header (layout value).number (length s.content) (layout value).bits s.tagged in
    let fits = fits_kind (Length t.count) t.encodes.length_place t.encodes.length_room in
    record {
      within = content_within (layout value).content s.content s.encoded;
      length_fits = fits_so value s.content t.count (low_bits_at (s.header ++ [])) s.encoded (t.bits_are []) fits least;
      text = text;
    }
