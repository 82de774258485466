-- Which fault reading a value gives, in terms of the octets.
use Rattle.std.proofs.Common.{◌≡◌, ◌≢◌, ℕ, ◌≤◌, arith, Bool, true, false, cond, List, [], ◌∷◌, ◌++◌, length, Result, Ok, Err, refl, sym, ap, subst, ◌∙◌, append_assoc, inl, inr}
use Rattle.std.specs.Prelude.{◌↔◌}
use Rattle.std.proofs.lemmas.List.{append-nil, append_cancel_left, append_cancel_right, length-append}
use Rattle.gw_addr.specs.Reading.{◌>>=◌, AreOctets}
use Rattle.gw_addr.proofs.Reading.{bind_ok, bind_err, chosen, ok_is}
use Rattle.gw_codecs.specs.declared.tags.fault.TagFault.{TagFault}
use Rattle.gw_codecs.specs.declared.tags.fault.TagFault.TheVariants as tags
use Rattle.gw_codecs.specs.declared.tags.fault.ValueFault.{ValueFault}
use Rattle.gw_codecs.specs.declared.tags.fault.ValueFault.TheVariants.{Short, BadTag, BadLength, BadText}
use Rattle.gw_codecs.specs.tags.Tag.{Tag, EncodesTag, BeginsWith, IsShortTag}
use Rattle.gw_codecs.specs.tags.Value.{Value, application, layout, is_text, is_value_tag, EncodesValue, EncodeAll, no_values, value_first, BeginsWithValue, EndsInContent, IsShortValue, IsBadValueTag, IsBadLength, IsBadText}
use Rattle.gw_codecs.specs.tags.Reading.{header_at, low_bits_at, body_at, judged, value_at}
use Rattle.gw_codecs.proofs.tags_lemmas.Faults.{nothing_behind, tag_is_short, begins_again, cut_is_short}
use Rattle.gw_codecs.proofs.tags_lemmas.Bodies.{Read}
use Rattle.gw_codecs.proofs.tags_lemmas.EachKind.{kind_of, kind_number-of}
use Rattle.gw_codecs.proofs.tags_lemmas.Heads.{headed, tag_of_header, is_value_kind}
use Rattle.gw_codecs.proofs.tags_lemmas.ValueLaws.{raw_at, value_is_judged, raw_takes, raw_again, begins_read, Fault, tag_ends, content_ends, other_tag, other_length, raw_fails}

-- ---- one tag is at the front

one_tag : (octets : List ℕ) (s t : Tag) (x y : List ℕ) → BeginsWith octets s x → BeginsWith octets t y → s ≡ t
one_tag octets s t x y a b =
    let same = ok_is {F = TagFault} (s, x) (t, y) (sym (begins_again octets s x a) ∙ begins_again octets t y b) in
    ap (λ (p : Tag × List ℕ). p.0) same

further : (octets more : List ℕ) (tag : Tag) (rest : List ℕ) → BeginsWith octets tag rest → BeginsWith (octets ++ more) tag (rest ++ more)
further octets more tag rest b = record { front = b.front; encodes = b.encodes; parts = ap (λ (o : List ℕ). o ++ more) b.parts ∙ append_assoc b.front rest more }

no_cut : (octets : List ℕ) (tag : Tag) (rest : List ℕ) → AreOctets octets → BeginsWith octets tag rest → IsShortTag octets → ⊥
no_cut octets tag rest fits b c =
    let cut = cut_is_short octets (header_at octets) fits c refl in
    let whole = begins_again octets tag rest b in
    clash (tag, rest) (sym whole ∙ cut) where
      clash : (x : Tag × List ℕ) → (let r : Result (Tag × List ℕ) TagFault = Ok x in r) ≡ Err tags.Short → ⊥
      clash x e = cc

-- the tag of a value
record HasValueTag (octets : List ℕ) : Type 0 where
  tag : Tag
  rest : List ℕ
  begins : BeginsWith octets tag rest
  known : is_value_tag tag ≡ true

value_tag : (octets : List ℕ) (value : Value) (rest : List ℕ) → BeginsWithValue octets value rest → HasValueTag octets
value_tag octets value rest b =
    let s = b.encodes in
    let t = tag_of_header s.header (layout value).number (length s.content) (layout value).bits s.tagged in
    record {
      tag = application (layout value).number t.count;
      rest = s.content ++ rest;
      begins = record { front = s.header; encodes = t.encodes; parts = b.parts ∙ ap (λ (o : List ℕ). o ++ rest) s.parts ∙ append_assoc s.header s.content rest };
      known = ap (λ (n : ℕ). is_value_tag (application n t.count)) (sym (kind_number-of value)) ∙ is_value_kind (kind_of value) t.count;
    }

tags_differ : (octets : List ℕ) (s t : Tag) (x y : List ℕ) → BeginsWith octets s x → is_value_tag s ≡ true → BeginsWith octets t y → is_value_tag t ≡ false → ⊥
tags_differ octets s t x y a known b other =
    let same = ap is_value_tag (one_tag octets s t x y a b) in
    let clash : true ≡ false = sym known ∙ same ∙ other in
    cc

-- ---- each fault of what is read, whatever the text is

completes : (octets : List ℕ) (c : EndsInContent octets) → BeginsWithValue (octets ++ c.missing) c.value []
completes octets c = record { front = octets ++ c.missing; encodes = c.encodes; parts = sym (append-nil (octets ++ c.missing)) }

raw_short_tag : (octets : List ℕ) → AreOctets octets → IsShortTag octets → raw_at octets ≡ Err Short
raw_short_tag octets fits s = ap (λ (r : Result (Tag × List ℕ) TagFault). headed (low_bits_at octets) r >>= λ head. body_at head.0 head.1) ((tag_is_short octets fits).1 s)

-- what began is whole with more after it
ends_no_whole : (octets : List ℕ) (value : Value) (rest : List ℕ) (c : EndsInContent octets) → BeginsWithValue octets value rest → ⊥
ends_no_whole octets value rest c b =
    let whole = begins_read (octets ++ c.missing) c.value [] (completes octets c) in
    let front = raw_again b.front value (rest ++ c.missing) b.encodes in
    let regrouped : octets ++ c.missing ≡ b.front ++ (rest ++ c.missing) = ap (λ (o : List ℕ). o ++ c.missing) b.parts ∙ append_assoc b.front rest c.missing in
    let same = ok_is {F = ValueFault} (c.value, []) (value, rest ++ c.missing) (sym whole ∙ ap raw_at regrouped ∙ front) in
    absurd (c.some_missing (nothing_behind rest c.missing (ap (λ (y : Value × List ℕ). y.1) same)))

-- the tag of octets that end in the content is one of a value
ends_known : (octets : List ℕ) (tag : Tag) (rest : List ℕ) (c : EndsInContent octets) → BeginsWith octets tag rest → is_value_tag tag ≡ false → ⊥
ends_known octets tag rest c b other =
    let h = value_tag (octets ++ c.missing) c.value [] (completes octets c) in
    tags_differ (octets ++ c.missing) h.tag tag h.rest (rest ++ c.missing) h.begins h.known (further octets c.missing tag rest b) other

whole_known : (octets : List ℕ) (value : Value) (behind : List ℕ) (tag : Tag) (rest : List ℕ) → BeginsWithValue octets value behind → BeginsWith octets tag rest → is_value_tag tag ≡ false → ⊥
whole_known octets value behind tag rest v b other =
    let h = value_tag octets value behind v in
    tags_differ octets h.tag tag h.rest rest h.begins h.known b other

short_of : (octets : List ℕ) (read : Read) → AreOctets octets → (c : EndsInContent octets) → raw_at octets ≡ read → raw_at octets ≡ Err Short
short_of octets (Ok x) fits c e = absurd (ends_no_whole octets x.0 x.1 c (raw_takes octets x.0 x.1 fits e))
short_of octets (Err fault) fits c e = why (raw_fails octets fault fits e) where
  why : Fault octets fault → raw_at octets ≡ Err Short
  why (tag_ends is s) = e ∙ ap Err is
  why (content_ends is s) = e ∙ ap Err is
  why (other_tag is b) = absurd (ends_known octets b.tag b.rest c b.begins b.other)
  why (other_length is l) = absurd (l.none c.missing c.value [] (completes octets c))

bad_tag_of : (octets : List ℕ) (read : Read) → AreOctets octets → (b : IsBadValueTag octets) → raw_at octets ≡ read → raw_at octets ≡ Err BadTag
bad_tag_of octets (Ok x) fits b e = absurd (whole_known octets x.0 x.1 b.tag b.rest (raw_takes octets x.0 x.1 fits e) b.begins b.other)
bad_tag_of octets (Err fault) fits b e = why (raw_fails octets fault fits e) where
  why : Fault octets fault → raw_at octets ≡ Err BadTag
  why (tag_ends is s) = absurd (no_cut octets b.tag b.rest fits b.begins s)
  why (content_ends is c) = absurd (ends_known octets b.tag b.rest c b.begins b.other)
  why (other_tag is o) = e ∙ ap Err is
  why (other_length is l) = absurd (tags_differ octets l.tag b.tag l.rest b.rest l.begins l.known b.begins b.other)

bad_length_of : (octets : List ℕ) (read : Read) → AreOctets octets → (l : IsBadLength octets) → raw_at octets ≡ read → raw_at octets ≡ Err BadLength
bad_length_of octets (Ok x) fits l e =
    let b = raw_takes octets x.0 x.1 fits e in
    absurd (l.none [] x.0 x.1 (record { front = b.front; encodes = b.encodes; parts = append-nil octets ∙ b.parts }))
bad_length_of octets (Err fault) fits l e = why (raw_fails octets fault fits e) where
  why : Fault octets fault → raw_at octets ≡ Err BadLength
  why (tag_ends is s) = absurd (no_cut octets l.tag l.rest fits l.begins s)
  why (content_ends is c) = absurd (l.none c.missing c.value [] (completes octets c))
  why (other_tag is b) = absurd (tags_differ octets l.tag b.tag l.rest b.rest l.begins l.known b.begins b.other)
  why (other_length is o) = e ∙ ap Err is

-- ---- the faults of a value

raw_err : (octets : List ℕ) (fault : ValueFault) → fault ≢ BadText → value_at octets ≡ Err fault → raw_at octets ≡ Err fault
raw_err octets fault other e = elim (bind_err (raw_at octets) judged fault (sym (value_is_judged octets) ∙ e)) [
  | inl here ↦ here
  | inr (x, read, after) ↦ elim (chosen (is_text x.0) (Ok x) (Err BadText) (Err fault) after) [
    | inl fine ↦ absurd (let h = fine.1 in cc)
    | inr bad ↦ absurd (other (let h = bad.1 in cc))
  ]
]

value_err : (octets : List ℕ) (fault : ValueFault) → raw_at octets ≡ Err fault → value_at octets ≡ Err fault
value_err octets fault e = value_is_judged octets ∙ ap (λ (r : Read). r >>= judged) e

short_not_text : Short ≢ BadText
short_not_text e = cc

tag_not_text : BadTag ≢ BadText
tag_not_text e = cc

length_not_text : BadLength ≢ BadText
length_not_text e = cc

pub value_is_short : (octets : List ℕ) → AreOctets octets → (value_at octets ≡ Err Short) ↔ IsShortValue octets
value_is_short octets fits = (λ e. why (raw_fails octets Short fits (raw_err octets Short short_not_text e)), λ s. back s) where
  why : Fault octets Short → IsShortValue octets
  why (tag_ends is s) = inl s
  why (content_ends is c) = inr c
  why (other_tag is b) = absurd cc
  why (other_length is l) = absurd cc

  back : IsShortValue octets → value_at octets ≡ Err Short
  back (inl s) = value_err octets Short (raw_short_tag octets fits s)
  back (inr c) = value_err octets Short (short_of octets (raw_at octets) fits c refl)

pub value_is_bad_tag : (octets : List ℕ) → AreOctets octets → (value_at octets ≡ Err BadTag) ↔ IsBadValueTag octets
value_is_bad_tag octets fits = (λ e. why (raw_fails octets BadTag fits (raw_err octets BadTag tag_not_text e)), λ b. value_err octets BadTag (bad_tag_of octets (raw_at octets) fits b refl)) where
  why : Fault octets BadTag → IsBadValueTag octets
  why (tag_ends is s) = absurd cc
  why (content_ends is c) = absurd cc
  why (other_tag is b) = b
  why (other_length is l) = absurd cc

pub value_is_bad_length : (octets : List ℕ) → AreOctets octets → (value_at octets ≡ Err BadLength) ↔ IsBadLength octets
value_is_bad_length octets fits = (λ e. why (raw_fails octets BadLength fits (raw_err octets BadLength length_not_text e)), λ l. value_err octets BadLength (bad_length_of octets (raw_at octets) fits l refl)) where
  why : Fault octets BadLength → IsBadLength octets
  why (tag_ends is s) = absurd cc
  why (content_ends is c) = absurd cc
  why (other_tag is b) = absurd cc
  why (other_length is l) = l

pub value_is_bad_text : (octets : List ℕ) → AreOctets octets → (value_at octets ≡ Err BadText) ↔ IsBadText octets
value_is_bad_text octets fits = (
  λ e. elim (bind_err (raw_at octets) judged BadText (sym (value_is_judged octets) ∙ e)) [
    | inl here ↦ absurd (why (raw_fails octets BadText fits here))
    | inr (x, read, after) ↦ elim (chosen (is_text x.0) (Ok x) (Err BadText) (Err BadText) after) [
      | inl fine ↦ absurd (let h = fine.1 in cc)
      | inr bad ↦ record { value = x.0; rest = x.1; begins = raw_takes octets x.0 x.1 fits read; other = bad.0 }
    ]
  ],
  λ b. value_is_judged octets ∙ ap (λ (r : Read). r >>= judged) (begins_read octets b.value b.rest b.begins) ∙ ap (λ (t : Bool). cond t (Ok (b.value, b.rest)) (Err BadText)) b.other,
) where
  why : Fault octets BadText → ⊥
  why (tag_ends is s) = cc
  why (content_ends is c) = cc
  why (other_tag is b) = cc
  why (other_length is l) = cc

-- ---- what is read

pub value_found : (octets : List ℕ) (value : Value) (rest : List ℕ) → AreOctets octets → value_at octets ≡ Ok (value, rest) → BeginsWithValue octets value rest × (is_text value ≡ true)
value_found octets value rest fits e =
    let a = bind_ok (raw_at octets) judged (value, rest) (sym (value_is_judged octets) ∙ e) in
    elim (chosen (is_text a.0.0) (Ok a.0) (Err BadText) (Ok (value, rest)) a.2) [
      | inl fine ↦
          let same = ok_is {F = ValueFault} a.0 (value, rest) fine.1 in
          subst (λ (x : Value × List ℕ). BeginsWithValue octets x.0 x.1 × (is_text x.0 ≡ true)) same (raw_takes octets a.0.0 a.0.1 fits a.1, fine.0)
      | inr bad ↦ absurd (let h = bad.1 in cc)
    ]

pub value_only : (octets : List ℕ) (value : Value) (rest : List ℕ) → is_text value ≡ true → BeginsWithValue octets value rest → value_at octets ≡ Ok (value, rest)
value_only octets value rest text b = value_is_judged octets ∙ ap (λ (r : Read). r >>= judged) (begins_read octets value rest b) ∙ ap (λ (t : Bool). cond t (Ok (value, rest)) (Err BadText)) text

-- no encoding is a proper front of another
pub values_are_prefix_free : (a b x y : List ℕ) (v w : Value) → EncodesValue a v → EncodesValue b w → a ++ x ≡ b ++ y → (a ≡ b) × (v ≡ w)
values_are_prefix_free a b x y v w p q e =
    let same = ok_is {F = ValueFault} (v, x) (w, y) (sym (raw_again a v x p) ∙ ap raw_at e ∙ raw_again b w y q) in
    let behind : x ≡ y = ap (λ (r : Value × List ℕ). r.1) same in
    (append_cancel_right a b x (e ∙ ap (λ (o : List ℕ). b ++ o) (sym behind)), ap (λ (r : Value × List ℕ). r.0) same)

header_not_empty : (header : List ℕ) (tag : Tag) → EncodesTag header tag → 1 ≤ length header
header_not_empty header tag s = omega (arith, ap length s.encoded)

not_empty : (front : List ℕ) (value : Value) → EncodesValue front value → 1 ≤ length front
not_empty front value s =
    let t = tag_of_header s.header (layout value).number (length s.content) (layout value).bits s.tagged in
    omega (arith, header_not_empty s.header (application (layout value).number t.count) t.encodes, ap length s.parts, length-append s.header s.content)

-- a list of values has one reading
pub one_reading : {octets : List ℕ} {values : List Value} → EncodeAll octets values → (others : List Value) → EncodeAll octets others → values ≡ others
one_reading no_values others b = nothing_read others [] refl b where
  nothing_read : (values : List Value) (octets : List ℕ) → octets ≡ [] → EncodeAll octets values → [] ≡ values
  nothing_read [] octets none no_values = refl
  nothing_read (value ∷ values) octets none (value_first front rest v vs s parts more) = absurd (omega (arith, not_empty front value s, ap length parts, ap length none, length-append front rest))
one_reading {octets} (value_first front rest value values s parts more) others b = first_read octets others (λ last t. one_reading more last t) refl b where
  first_read : (whole : List ℕ) (others : List Value) → ((last : List Value) → EncodeAll rest last → values ≡ last) → whole ≡ octets → EncodeAll whole others → value ∷ values ≡ others
  first_read whole [] again is no_values = absurd (omega (arith, not_empty front value s, ap length is, ap length parts, length-append front rest))
  first_read whole (other ∷ last) again is (value_first begins behind o os t split later) =
      let here : front ++ rest ≡ begins ++ behind = sym parts ∙ sym is ∙ split in
      let both = values_are_prefix_free front begins rest behind value other s t here in
      let same : rest ≡ behind = append_cancel_left front rest behind (here ∙ ap (λ (x : List ℕ). x ++ behind) (sym both.0)) in
      cc (both.1, again last (subst (λ (x : List ℕ). EncodeAll x last) (sym same) later))
