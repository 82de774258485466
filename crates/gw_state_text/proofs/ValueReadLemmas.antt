-- A value that is written is read again.
use Rattle.std.proofs.Common.{◌≡◌, ◌≢◌, ◌∙◌, ℕ, suc, ◌+◌, ◌*◌, ◌/◌, ◌%◌, ◌^◌, ◌<◌, ◌≤◌, Bool, true, false, cond, ltb, List, [], ◌∷◌, ◌++◌, length, get_or, Result, Ok, Err, inl, inr, refl, sym, ap, subst, arith, append-nil}
use Rattle.std.specs.Prelude.{ℤ, ◌⊎◌, ◌==◌, ◌&&◌, if◌then◌else◌, nat_eq, nat_le, nat_lt}
use Rattle.std.specs.Cmp.Lexicographic.{pointwise}
use Rattle.std.specs.Int.{w16, w32, to_be_bytes}
use Rattle.std.specs.Str.{IsUtf8, encode_utf8_all, is_utf8}
use Rattle.std.specs.Char.{encode_utf8}
use Rattle.std.proofs.Math.Utf8.{next, scalar, scalar_cases, scalars}
use Rattle.std.proofs.lemmas.Bool.{agree_below_at, and_parts, le-leb, le-ltb, leb-true, ltb-false, ltb-true}
use Rattle.std.proofs.lemmas.Str.{IsUtf8-from_is_utf8}
use Rattle.hex.proofs.HexLemmas.{decode_of-encode_upper}
use Rattle.hex.specs.Hex.{decode_of, encode_upper, encode_with, upper_digits}
use Rattle.gw_addr.specs.Reading.{◌>>=◌, AreOctets}
use Rattle.gw_addr.specs.Text.{Lacks}
use Rattle.gw_addr.proofs.Lacking.{lacks_cons}
use Rattle.gw_addr.proofs.Reading.{AreOctets-append, wide16, wide32}
use Rattle.gw_configuration.specs.declared.object.ObjectKind.{ObjectKind}
use Rattle.gw_configuration.specs.declared.object.ObjectKind.TheVariants as kinds
use Rattle.gw_objects.specs.Table.{value_of}
use Rattle.gw_objects.specs.declared.value.PropertyValue.{PropertyValue}
use Rattle.gw_objects.specs.declared.value.PropertyValue.TheVariants.{Binary, State, Text, Integer, PositiveInteger}
use Rattle.gw_codecs.specs.tags.Number.{IsSigned}
use Rattle.gw_codecs.specs.tags.Reading.{value_at}
use Rattle.gw_codecs.specs.tags.Tag.{EncodesTag, LengthHasRoom, LengthPlace, NumberHasRoom, NumberPlace, four_octets, high_bits, low_bits, one_octet, own_octet, tag_encoding, two_octets}
use Rattle.gw_codecs.specs.declared.tags.tag.Kind.TheVariants.{Length}
use Rattle.gw_codecs.specs.tags.Value.{IsValue, Value, application, character_string, enumerated, is_text, layout, signed, unsigned, value_encoding}
use Rattle.gw_codecs.proofs.tags_lemmas.Octets.{none, one_more}
use Rattle.gw_codecs.proofs.tags_lemmas.ValueFaults.{value_only}
use Rattle.gw_codecs.proofs.tags_lemmas.Written.{value_encoding_encodes}
use Rattle.gw_state_text.specs.Fit.{FitsKind}
use Rattle.gw_state_text.specs.Text.{value_text}
use Rattle.gw_state_text.specs.declared.fault.FaultKind.{FaultKind}
use Rattle.gw_state_text.specs.declared.fault.FaultKind.TheVariants.{Range}
use Rattle.gw_codecs.specs.declared.tags.fault.ValueFault.{ValueFault}
use Rattle.gw_state_text.specs.Values.{alone, decoded, octets_in, property_of, spelled, text_of, value_in, value_of as value_of_octets}
use Rattle.gw_state_text.proofs.ValueLemmas.{digits_few, enumerated_is, signed_is, text_is, unsigned_is}
use Rattle.gw_state_text.proofs.WordLemmas.{same_as_itself}

-- ---- a value of each type

-- what is so of each value of each type
of_kind : (P : ObjectKind → PropertyValue → Type 0) → ((active : Bool) → P kinds.BinaryValue (Binary active))
    → ((n : ℕ) → n < 2 ^ 32 → P kinds.MultiStateValue (State n))
    → ((octets : List ℕ) → length octets ≤ 255 → is_utf8 octets ≡ true → P kinds.CharacterStringValue (Text octets))
    → ((z : ℤ) → IsSigned z → P kinds.IntegerValue (Integer z))
    → ((n : ℕ) → n < 2 ^ 32 → P kinds.PositiveIntegerValue (PositiveInteger n))
    → (kind : ObjectKind) (v : PropertyValue) → FitsKind kind v → P kind v
of_kind P b m t i p kinds.BinaryValue (Binary active) fits = b active
of_kind P b m t i p kinds.BinaryValue (State n) fits = absurd fits
of_kind P b m t i p kinds.BinaryValue (Text octets) fits = absurd fits
of_kind P b m t i p kinds.BinaryValue (Integer z) fits = absurd fits
of_kind P b m t i p kinds.BinaryValue (PositiveInteger n) fits = absurd fits
of_kind P b m t i p kinds.MultiStateValue (Binary active) fits = absurd fits
of_kind P b m t i p kinds.MultiStateValue (State n) fits = m n fits
of_kind P b m t i p kinds.MultiStateValue (Text octets) fits = absurd fits
of_kind P b m t i p kinds.MultiStateValue (Integer z) fits = absurd fits
of_kind P b m t i p kinds.MultiStateValue (PositiveInteger n) fits = absurd fits
of_kind P b m t i p kinds.CharacterStringValue (Binary active) fits = absurd fits
of_kind P b m t i p kinds.CharacterStringValue (State n) fits = absurd fits
of_kind P b m t i p kinds.CharacterStringValue (Text octets) fits = t octets fits.0 fits.1
of_kind P b m t i p kinds.CharacterStringValue (Integer z) fits = absurd fits
of_kind P b m t i p kinds.CharacterStringValue (PositiveInteger n) fits = absurd fits
of_kind P b m t i p kinds.IntegerValue (Binary active) fits = absurd fits
of_kind P b m t i p kinds.IntegerValue (State n) fits = absurd fits
of_kind P b m t i p kinds.IntegerValue (Text octets) fits = absurd fits
of_kind P b m t i p kinds.IntegerValue (Integer z) fits = i z fits
of_kind P b m t i p kinds.IntegerValue (PositiveInteger n) fits = absurd fits
of_kind P b m t i p kinds.PositiveIntegerValue (Binary active) fits = absurd fits
of_kind P b m t i p kinds.PositiveIntegerValue (State n) fits = absurd fits
of_kind P b m t i p kinds.PositiveIntegerValue (Text octets) fits = absurd fits
of_kind P b m t i p kinds.PositiveIntegerValue (Integer z) fits = absurd fits
of_kind P b m t i p kinds.PositiveIntegerValue (PositiveInteger n) fits = p n fits

-- ---- its octets

-- the octets of a tag
tag_octets : (octets : List ℕ) (number count : ℕ) → EncodesTag octets (application number count) → AreOctets octets
tag_octets octets number count e =
    subst AreOctets (sym e.encoded) (by e.number_place e.length_place e.number_room e.length_room)
  where
    two : List ℕ
    two = to_be_bytes w16 count

    four : List ℕ
    four = to_be_bytes w32 count

    by : (n : NumberPlace) (l : LengthPlace) → NumberHasRoom number n → LengthHasRoom (Length count) l
        → AreOctets (tag_encoding n l (application number count))
    by high_bits low_bits p q = one_more (16 * number + 0 + count) [] (omega (arith, p, q)) none
    by high_bits one_octet p q = one_more (16 * number + 0 + 5) (count ∷ []) (omega (arith, p)) (one_more count [] (omega (arith, q)) none)
    by high_bits two_octets p q =
        one_more (16 * number + 0 + 5) (254 ∷ two) (omega (arith, p)) (one_more 254 two (omega arith) (wide16.octets count))
    by high_bits four_octets p q =
        one_more (16 * number + 0 + 5) (255 ∷ four) (omega (arith, p)) (one_more 255 four (omega arith) (wide32.octets count))
    by own_octet low_bits p q = one_more (240 + count) (number ∷ []) (omega (arith, q)) (one_more number [] p none)
    by own_octet one_octet p q =
        one_more 245 (number ∷ count ∷ []) (omega arith) (one_more number (count ∷ []) p (one_more count [] (omega (arith, q)) none))
    by own_octet two_octets p q =
        one_more 245 (number ∷ 254 ∷ two) (omega arith)
        (one_more number (254 ∷ two) p (one_more 254 two (omega arith) (wide16.octets count)))
    by own_octet four_octets p q =
        one_more 245 (number ∷ 255 ∷ four) (omega arith)
        (one_more number (255 ∷ four) p (one_more 255 four (omega arith) (wide32.octets count)))

-- the octets of a character
character_octets : (c : ℕ) → scalar c ≡ true → AreOctets (encode_utf8 c)
unfolding encode_utf8
character_octets c is = by (ltb c 128) (ltb c 2048) (ltb c 65536) refl refl refl
  where
    last : (n : ℕ) → next n < 256
    last n = omega arith

    small : (c < 55296) ⊎ ((57344 ≤ c) × (c < 1114112)) → c < 1114112
    small (inl low) = omega (arith, low)
    small (inr high) = high.1

    by : (p q r : Bool) → ltb c 128 ≡ p → ltb c 2048 ≡ q → ltb c 65536 ≡ r
        → AreOctets (cond p (c ∷ []) (cond q ((192 + c / 64) ∷ next c ∷ []) (cond r ((224 + c / 4096) ∷ next (c / 64) ∷ next c ∷ [])
        ((240 + c / 262144) ∷ next (c / 4096) ∷ next (c / 64) ∷ next c ∷ []))))
    by true q r e f g = one_more c [] (omega (arith, ltb-true c 128 e)) none
    by false true r e f g =
        one_more (192 + c / 64) (next c ∷ []) (omega (arith, ltb-true c 2048 f)) (one_more (next c) [] (last c) none)
    by false false true e f g =
        one_more (224 + c / 4096) (next (c / 64) ∷ next c ∷ []) (omega (arith, ltb-true c 65536 g))
        (one_more (next (c / 64)) (next c ∷ []) (last (c / 64)) (one_more (next c) [] (last c) none))
    by false false false e f g =
        one_more (240 + c / 262144) (next (c / 4096) ∷ next (c / 64) ∷ next c ∷ []) (omega (arith, small (scalar_cases c is)))
        (one_more (next (c / 4096)) (next (c / 64) ∷ next c ∷ []) (last (c / 4096))
        (one_more (next (c / 64)) (next c ∷ []) (last (c / 64)) (one_more (next c) [] (last c) none)))

characters_octets : (cs : List ℕ) → scalars cs ≡ true → AreOctets (encode_utf8_all cs)
characters_octets [] are = none
characters_octets (c ∷ cs) are =
    let parts = and_parts (scalar c) (scalars cs) are in
    AreOctets-append (encode_utf8 c) (encode_utf8_all cs) (character_octets c parts.0) (characters_octets cs parts.1)

utf8_octets : (octets : List ℕ) → is_utf8 octets ≡ true → AreOctets octets
utf8_octets octets utf8 =
    let is = IsUtf8-from_is_utf8 octets utf8 in
    subst AreOctets is.1.1 (characters_octets is.0 is.1.0)

-- the octets of a value
encoded_octets : (kind : ObjectKind) (v : PropertyValue) → FitsKind kind v → AreOctets (value_encoding (value_of v))
encoded_octets kind v fits =
    of_kind (λ kind v. AreOctets (value_encoding (value_of v))) binary unsigned_octets text_octets signed_octets unsigned_octets kind v fits
  where
    unsigned_octets : (n : ℕ) → n < 2 ^ 32 → AreOctets (value_encoding (unsigned n))
    unsigned_octets n lt =
        let e = value_encoding_encodes (unsigned n) (unsigned_is n lt) in
        subst AreOctets (sym e.parts)
        (AreOctets-append e.header e.content (tag_octets e.header 2 (length e.content) e.tagged) e.encoded.octets_fit)

    enumerated_octets : (n : ℕ) → n < 2 ^ 32 → AreOctets (value_encoding (enumerated n))
    enumerated_octets n lt =
        let e = value_encoding_encodes (enumerated n) (enumerated_is n lt) in
        subst AreOctets (sym e.parts)
        (AreOctets-append e.header e.content (tag_octets e.header 9 (length e.content) e.tagged) e.encoded.octets_fit)

    signed_octets : (z : ℤ) → IsSigned z → AreOctets (value_encoding (signed z))
    signed_octets z is =
        let e = value_encoding_encodes (signed z) (signed_is z is) in
        subst AreOctets (sym e.parts)
        (AreOctets-append e.header e.content (tag_octets e.header 3 (length e.content) e.tagged) e.encoded.octets_fit)

    text_octets : (octets : List ℕ) → length octets ≤ 255 → is_utf8 octets ≡ true → AreOctets (value_encoding (character_string 0 octets))
    text_octets octets few utf8 =
        let e = value_encoding_encodes (character_string 0 octets) (text_is octets few utf8) in
        let content : AreOctets e.content =
        subst AreOctets (sym e.encoded) (one_more 0 octets (omega arith) (utf8_octets octets utf8)) in
        subst AreOctets (sym e.parts)
        (AreOctets-append e.header e.content (tag_octets e.header 7 (length e.content) e.tagged) content)

    binary : (active : Bool) → AreOctets (value_encoding (value_of (Binary active)))
    binary true = enumerated_octets 1 (omega arith)
    binary false = enumerated_octets 0 (omega arith)

-- ---- its digits

digit_high : (d : ℕ) → d < 16 → 48 ≤ get_or upper_digits d 0
digit_high d lt =
    leb-true 48 (get_or upper_digits d 0) (agree_below_at (λ n. nat_le 48 (get_or upper_digits n 0)) (λ n. true) 16 d refl lt)

digits_lack : (c : ℕ) → c < 48 → (octets : List ℕ) → AreOctets octets → Lacks c (encode_upper octets)
unfolding encode_with
digits_lack c low [] are = λ i lt. absurd (omega (arith, lt))
digits_lack c low (octet ∷ octets) are =
    let small : octet < 256 = are 0 in
    let high = digit_high (octet / 16) (omega (arith, small)) in
    let last = digit_high (octet % 16) (omega arith) in
    let first = get_or upper_digits (octet / 16) 0 in
    let second = get_or upper_digits (octet % 16) 0 in
    lacks_cons c first (second ∷ encode_with upper_digits octets) (λ e. absurd (omega (arith, high, low, e)))
    (lacks_cons c second (encode_with upper_digits octets) (λ e. absurd (omega (arith, last, low, e)))
    (digits_lack c low octets (λ i. are (suc i))))

pub value_lacks : (c : ℕ) → c < 48 → (kind : ObjectKind) (v : PropertyValue) → FitsKind kind v → Lacks c (value_text v)
value_lacks c low kind v fits = digits_lack c low (value_encoding (value_of v)) (encoded_octets kind v fits)

-- ---- it is read

value_is : (kind : ObjectKind) (v : PropertyValue) → FitsKind kind v → IsValue (value_of v)
value_is kind v fits =
    of_kind (λ kind v. IsValue (value_of v)) binary (λ n lt. unsigned_is n lt) text_is signed_is (λ n lt. unsigned_is n lt) kind v fits
  where
    binary : (active : Bool) → IsValue (value_of (Binary active))
    binary true = enumerated_is 1 (omega arith)
    binary false = enumerated_is 0 (omega arith)

value_again : (v : PropertyValue) → IsValue (value_of v) → value_at (value_encoding (value_of v)) ≡ Ok (value_of v, [])
value_again v is = value_only (value_encoding (value_of v)) (value_of v) [] is.text (record {
  front = value_encoding (value_of v);
  encodes = value_encoding_encodes (value_of v) is;
  parts = sym (append-nil (value_encoding (value_of v)));
})

property_again : (kind : ObjectKind) (v : PropertyValue) → FitsKind kind v → property_of kind (value_of v) ≡ Ok v
unfolding property_of
property_again kind v fits =
    of_kind (λ kind v. property_of kind (value_of v) ≡ Ok v) binary (λ n lt. refl) text (λ z is. refl) (λ n lt. refl) kind v fits
  where
    binary : (active : Bool) → property_of kinds.BinaryValue (value_of (Binary active)) ≡ Ok (Binary active)
    binary true = refl
    binary false = refl

    text : (octets : List ℕ) → length octets ≤ 255 → is_utf8 octets ≡ true
        → property_of kinds.CharacterStringValue (value_of (Text octets)) ≡ Ok (Text octets)
    text octets few utf8 = rw (utf8, le-leb (length octets) 255 few) refl

octets_again : (kind : ObjectKind) (v : PropertyValue) → FitsKind kind v → octets_in (value_text v) ≡ Ok (value_encoding (value_of v))
unfolding octets_in
octets_again kind v fits =
    let few : nat_lt 520 (length (value_text v)) ≡ false = le-ltb 520 (length (value_text v)) (digits_few kind v fits) in
    rw few (ap decoded (decode_of-encode_upper (value_encoding (value_of v)) (encoded_octets kind v fits)))

value_of_again : (kind : ObjectKind) (v : PropertyValue) → FitsKind kind v → value_of_octets kind (value_encoding (value_of v)) ≡ Ok v
unfolding value_of_octets
value_of_again kind v fits =
    ap (λ (r : Result (Value × List ℕ) ValueFault). alone r >>= property_of kind) (value_again v (value_is kind v fits))
    ∙ property_again kind v fits

pub value_in_again : (kind : ObjectKind) (v : PropertyValue) → FitsKind kind v → value_in kind (value_text v) ≡ Ok v
unfolding value_in
value_in_again kind v fits =
    let same : pointwise nat_eq (value_text v) (value_text v) ≡ true = same_as_itself (value_text v) in
    ap (λ (r : Result (List ℕ) FaultKind). r >>= λ octets. value_of_octets kind octets >>= spelled (value_text v)) (octets_again kind v fits)
    ∙ ap (λ (r : Result PropertyValue FaultKind). r >>= spelled (value_text v)) (value_of_again kind v fits)
    ∙ rw same refl

abbrev fails : Result PropertyValue FaultKind → Type 0
fails read = read ≡ Err Range

-- what is no text is no text of an object
pub not_text : (charset : ℕ) (octets : List ℕ) → ¬ (IsUtf8 octets) → text_of charset octets ≡ Err Range
not_text charset octets other = by (charset == 0) (is_utf8 octets) refl
  where
    by : (p q : Bool) → is_utf8 octets ≡ q
        → fails (if p && (q && nat_le (length octets) 255) then Ok (Text octets) else Err Range)
    by p true e = absurd (other (IsUtf8-from_is_utf8 octets e))
    by true false e = refl
    by false false e = refl
