-- Reading a value: what is read is encoded so, what is encoded so is read, and what is wrong with the octets at a fault.
use Rattle.std.proofs.Common.{◌≡◌, ℕ, true, false, List, [], ◌++◌, length, Result, Ok, Err, refl, sym, ap, subst, ◌∙◌, append_assoc, arith, inl, inr}
use Rattle.std.proofs.lemmas.List.{append-nil}
use Rattle.gw_addr.specs.Reading.{◌>>=◌, AreOctets}
use Rattle.gw_addr.proofs.Reading.{bind_ok, bind_err}
use Rattle.gw_codecs.specs.declared.tags.fault.ValueFault.{ValueFault}
use Rattle.gw_codecs.specs.declared.tags.fault.ValueFault.TheVariants.{Short, BadTag, BadLength}
use Rattle.gw_codecs.specs.declared.tags.datatype.Datatype.{Datatype}
use Rattle.gw_codecs.specs.tags.Tag.{Tag, EncodesTag, IsShortTag}
use Rattle.gw_codecs.specs.tags.Value.{Value, null, boolean, unsigned, signed, real, double, octet_string, character_string, bit_string, enumerated, date, time, object_id, layout, application, EncodesValue, BeginsWithValue, EndsInContent, IsBadValueTag, IsBadLength}
use Rattle.gw_codecs.specs.tags.Reading.{Body, low_bits_at, head_at, body_at, judged, value_at}
use Rattle.gw_codecs.proofs.tags_lemmas.Octets.{behind_octets}
use Rattle.gw_codecs.proofs.tags_lemmas.Faults.{tag_is_short}
use Rattle.gw_codecs.proofs.tags_lemmas.Bodies.{Read, body, kind_number, TakesBody, EndsBody}
use Rattle.gw_codecs.proofs.tags_lemmas.EachKind.{kind_of, kind_number-of, body_takes, body_fails, body_again}
use Rattle.gw_codecs.proofs.tags_lemmas.Heads.{TakesHead, IsSmall, head_takes, head_fails, head_again, header_is, tag_of_header, is_value_kind}

-- a value, whatever its text is
abbrev pub raw_at : List ℕ → Read
raw_at octets = head_at octets >>= λ head. body_at head.0 head.1

bound : (r : Result (Datatype × Body) ValueFault) → (r >>= λ head. body_at head.0 head.1 >>= judged) ≡ ((r >>= λ head. body_at head.0 head.1) >>= judged)
bound (Ok head) = refl
bound (Err fault) = refl

pub value_is_judged : (octets : List ℕ) → value_at octets ≡ (raw_at octets >>= judged)
value_is_judged octets = bound (head_at octets)

-- ---- the length bits that are a value

pub small_bits : (value : Value) → IsSmall (layout value).bits
small_bits null = tt
small_bits (boolean false) = omega arith
small_bits (boolean true) = omega arith
small_bits (unsigned n) = tt
small_bits (signed z) = tt
small_bits (real own) = tt
small_bits (double own) = tt
small_bits (octet_string own) = tt
small_bits (character_string charset own) = tt
small_bits (bit_string unused own) = tt
small_bits (enumerated n) = tt
small_bits (date own) = tt
small_bits (time own) = tt
small_bits (object_id id) = tt

-- ---- what is read is encoded so

joined : (octets : List ℕ) (kind : Datatype) (low count : ℕ) (behind more : List ℕ) (value : Value) (rest : List ℕ) → TakesHead octets kind count behind → low ≡ low_bits_at octets → TakesBody (kind_number kind) low count (behind ++ more) value rest → BeginsWithValue (octets ++ more) value rest
joined octets kind low count behind more value rest h is t = record {
  front = h.front ++ t.content;
  encodes = record {
    header = h.front;
    content = t.content;
    parts = refl;
    tagged = header_is h.front behind (layout value).number count low (length t.content) (layout value).bits (subst (λ (n : ℕ). EncodesTag h.front (application n count)) (sym t.number_is) h.encodes) (sym (is ∙ ap low_bits_at h.parts)) (small_bits value) t.bits;
    encoded = t.is;
  };
  parts = ap (λ (o : List ℕ). o ++ more) h.parts ∙ append_assoc h.front behind more ∙ ap (λ (o : List ℕ). h.front ++ o) t.parts ∙ sym (append_assoc h.front t.content rest);
}

begins_whole : (octets : List ℕ) (value : Value) (rest : List ℕ) → BeginsWithValue (octets ++ []) value rest → BeginsWithValue octets value rest
begins_whole octets value rest b = record { front = b.front; encodes = b.encodes; parts = sym (append-nil octets) ∙ b.parts }

pub raw_takes : (octets : List ℕ) (value : Value) (rest : List ℕ) → AreOctets octets → raw_at octets ≡ Ok (value, rest) → BeginsWithValue octets value rest
raw_takes octets value rest fits e =
    let a = bind_ok (head_at octets) (λ head. body_at head.0 head.1) (value, rest) e in
    let h = head_takes octets a.0.0 a.0.1 fits a.1 in
    let behind_fits = behind_octets h.0.front a.0.1.octets (subst AreOctets h.0.parts fits) in
    let t = body_takes a.0.0 a.0.1.low_bits a.0.1.count a.0.1.octets value rest behind_fits a.2 in
    begins_whole octets value rest (joined octets a.0.0 a.0.1.low_bits a.0.1.count a.0.1.octets [] value rest h.0 h.1 (subst (λ (o : List ℕ). TakesBody (kind_number a.0.0) a.0.1.low_bits a.0.1.count o value rest) (sym (append-nil a.0.1.octets)) t))

-- ---- what is encoded so is read

raw_here : (header : List ℕ) (kind : Datatype) (count : ℕ) (behind : List ℕ) → EncodesTag header (application (kind_number kind) count) → raw_at (header ++ behind) ≡ body_at kind (body (low_bits_at (header ++ behind)) count behind)
raw_here header kind count behind s = ap (λ (r : Result (Datatype × Body) ValueFault). r >>= λ head. body_at head.0 head.1) (head_again header kind count behind s)

pub raw_again : (front : List ℕ) (value : Value) (rest : List ℕ) → EncodesValue front value → raw_at (front ++ rest) ≡ Ok (value, rest)
raw_again front value rest s =
    let t = tag_of_header s.header (layout value).number (length s.content) (layout value).bits s.tagged in
    let behind = s.content ++ rest in
    let own : EncodesTag s.header (application (kind_number (kind_of value)) t.count) = subst (λ (n : ℕ). EncodesTag s.header (application n t.count)) (sym (kind_number-of value)) t.encodes in
    let regrouped : front ++ rest ≡ s.header ++ behind = ap (λ (o : List ℕ). o ++ rest) s.parts ∙ append_assoc s.header s.content rest in
    ap raw_at regrouped ∙ raw_here s.header (kind_of value) t.count behind own
    ∙ body_again value (low_bits_at (s.header ++ behind)) t.count s.content rest s.encoded (t.bits_are behind)

pub begins_read : (octets : List ℕ) (value : Value) (rest : List ℕ) → BeginsWithValue octets value rest → raw_at octets ≡ Ok (value, rest)
begins_read octets value rest b = ap raw_at b.parts ∙ raw_again b.front value rest b.encodes

-- ---- faults that more octets do not cure

-- why nothing is read: the tag ends, the content ends, no value has the tag, or the kind has no such length
pub data Fault (octets : List ℕ) (fault : ValueFault) : Type 0 where
  tag_ends : fault ≡ Short → IsShortTag octets → Fault octets fault
  content_ends : fault ≡ Short → EndsInContent octets → Fault octets fault
  other_tag : fault ≡ BadTag → IsBadValueTag octets → Fault octets fault
  other_length : fault ≡ BadLength → IsBadLength octets → Fault octets fault

content_cut : (octets : List ℕ) (kind : Datatype) (low count : ℕ) (behind : List ℕ) → TakesHead octets kind count behind → low ≡ low_bits_at octets → EndsBody (kind_number kind) low count behind → EndsInContent octets
content_cut octets kind low count behind h is b =
    let j = joined octets kind low count behind b.missing b.value [] h is b.takes in
    record { value = b.value; missing = b.missing; some_missing = b.some_missing; encodes = subst (λ (o : List ℕ). EncodesValue o b.value) (sym (j.parts ∙ append-nil j.front)) j.encodes }

-- the low bits are those of the tag's first octet, whatever follows it
same_low_bits : (front behind more : List ℕ) (tag : Tag) → EncodesTag front tag → low_bits_at (front ++ behind) ≡ low_bits_at (front ++ (behind ++ more))
same_low_bits front behind more tag s = ap (λ (o : List ℕ). low_bits_at (o ++ behind)) s.encoded ∙ sym (ap (λ (o : List ℕ). low_bits_at (o ++ (behind ++ more))) s.encoded)

never_cured : (octets : List ℕ) (kind : Datatype) (low count : ℕ) (behind : List ℕ) → TakesHead octets kind count behind → low ≡ low_bits_at octets → ((more : List ℕ) → body_at kind (body low count (behind ++ more)) ≡ Err BadLength) → (more : List ℕ) (value : Value) (rest : List ℕ) → BeginsWithValue (octets ++ more) value rest → ⊥
never_cured octets kind low count behind h is stays more value rest b =
    let regrouped : octets ++ more ≡ h.front ++ (behind ++ more) = ap (λ (o : List ℕ). o ++ more) h.parts ∙ append_assoc h.front behind more in
    let bits : low_bits_at (h.front ++ (behind ++ more)) ≡ low = sym (is ∙ ap low_bits_at h.parts ∙ same_low_bits h.front behind more _ h.encodes) in
    let read : raw_at (octets ++ more) ≡ Err BadLength = ap raw_at regrouped ∙ raw_here h.front kind count (behind ++ more) h.encodes ∙ ap (λ (l : ℕ). body_at kind (body l count (behind ++ more))) bits ∙ stays more in
    let other = begins_read (octets ++ more) value rest b in
    absurd (clash value rest (sym other ∙ read)) where
      clash : (v : Value) (r : List ℕ) → (let x : Read = Ok (v, r) in x) ≡ Err BadLength → ⊥
      clash v r e = cc

pub raw_fails : (octets : List ℕ) (fault : ValueFault) → AreOctets octets → raw_at octets ≡ Err fault → Fault octets fault
raw_fails octets fault fits e = elim (bind_err (head_at octets) (λ head. body_at head.0 head.1) fault e) [
  | inl here ↦ elim (head_fails octets fault fits here) [
    | inl short ↦ tag_ends short.0 ((tag_is_short octets fits).0 short.1)
    | inr other ↦ other_tag other.0 other.1
  ]
  | inr (head, read, after) ↦
      let h = head_takes octets head.0 head.1 fits read in
      let behind_fits = behind_octets h.0.front head.1.octets (subst AreOctets h.0.parts fits) in
      elim (body_fails head.0 head.1.low_bits head.1.count head.1.octets fault behind_fits after) [
        | inl ends ↦ content_ends ends.0 (content_cut octets head.0 head.1.low_bits head.1.count head.1.octets h.0 h.1 ends.1)
        | inr length ↦ other_length length.0 (record {
          tag = application (kind_number head.0) head.1.count;
          rest = head.1.octets;
          begins = record { front = h.0.front; encodes = h.0.encodes; parts = h.0.parts };
          known = is_value_kind head.0 head.1.count;
          none = never_cured octets head.0 head.1.low_bits head.1.count head.1.octets h.0 h.1 length.1;
        })
      ]
]
