-- Reading the tag of a value: which kind it is, and what follows it.
use Rattle.std.proofs.Common.{◌≡◌, ℕ, zero, suc, ◌<◌, ◌≤◌, Bool, true, false, not, cond, ◌&&◌, ◌||◌, List, ◌++◌, Result, Ok, Err, refl, sym, ap, subst, ◌∙◌, arith, inl, inr, ◌⊎◌}
use Rattle.std.proofs.lemmas.Bool.{cases_lt, lt-ltb, le-ltb, ne_eqb}
use Rattle.gw_addr.specs.Reading.{◌>>=◌, AreOctets}
use Rattle.gw_addr.proofs.Reading.{bind_ok, bind_err, chosen, ok_is}
use Rattle.gw_codecs.specs.declared.tags.tag.Kind.{Kind}
use Rattle.gw_codecs.specs.declared.tags.tag.Kind.TheVariants.{Length, Opening, Closing}
use Rattle.gw_codecs.specs.declared.tags.fault.TagFault.{TagFault}
use Rattle.gw_codecs.specs.declared.tags.fault.TagFault.TheVariants as tags
use Rattle.gw_codecs.specs.declared.tags.fault.ValueFault.{ValueFault}
use Rattle.gw_codecs.specs.declared.tags.fault.ValueFault.TheVariants.{Short as ShortValue, BadTag as BadValueTag}
use Rattle.gw_codecs.specs.declared.tags.datatype.Datatype.{Datatype}
use Rattle.gw_codecs.specs.declared.tags.datatype.Datatype.TheVariants as kinds
use Rattle.gw_codecs.specs.tags.Fault.{fault_of_tag}
use Rattle.gw_codecs.specs.tags.Kind.{is_length}
use Rattle.gw_codecs.specs.tags.Tag.{Tag, is_tag, IsTag, LengthPlace, low_bits, one_octet, two_octets, four_octets, high_of, low_of, EncodesTag, EncodesInLowBits, BeginsWith}
use Rattle.gw_codecs.specs.tags.Value.{application, is_value_tag, IsBadValueTag, LengthBits, length_of_content, value_itself, IsHeader}
use Rattle.gw_codecs.specs.tags.Reading.{Body, tag_at, low_bits_at, of_tag, datatype_of, count_of, head_at}
use Rattle.gw_codecs.proofs.tags_lemmas.Tags.{low_small, low_part, tag_again, known_tag}
use Rattle.gw_codecs.proofs.tags_lemmas.Faults.{fits_kind, tag_takes, tag_is_bad}
use Rattle.gw_codecs.proofs.tags_lemmas.Bodies.{body, kind_number, HasBits}

-- ---- the kind of a tag number

datatype_over : (n : ℕ) → 13 ≤ n → datatype_of n ≡ Err BadValueTag
datatype_over n le = rw (ne_eqb n 0 (λ e. omega arith), ne_eqb n 1 (λ e. omega arith), ne_eqb n 2 (λ e. omega arith), ne_eqb n 3 (λ e. omega arith), ne_eqb n 4 (λ e. omega arith), ne_eqb n 5 (λ e. omega arith), ne_eqb n 6 (λ e. omega arith), ne_eqb n 7 (λ e. omega arith), ne_eqb n 8 (λ e. omega arith), ne_eqb n 9 (λ e. omega arith), ne_eqb n 10 (λ e. omega arith), ne_eqb n 11 (λ e. omega arith), ne_eqb n 12 (λ e. omega arith)) refl

-- the kind of each number below 13
record HasKind (n : ℕ) : Type 0 where
  kind : Datatype
  found : datatype_of n ≡ Ok kind
  number : kind_number kind ≡ n

kind_below : (n : ℕ) → n < 13 → HasKind n
kind_below zero lt = record { kind = kinds.Null; found = refl; number = refl }
kind_below (suc zero) lt = record { kind = kinds.Boolean; found = refl; number = refl }
kind_below (suc (suc zero)) lt = record { kind = kinds.Unsigned; found = refl; number = refl }
kind_below (suc (suc (suc zero))) lt = record { kind = kinds.Signed; found = refl; number = refl }
kind_below (suc (suc (suc (suc zero)))) lt = record { kind = kinds.Real; found = refl; number = refl }
kind_below (suc (suc (suc (suc (suc zero))))) lt = record { kind = kinds.Double; found = refl; number = refl }
kind_below (suc (suc (suc (suc (suc (suc zero)))))) lt = record { kind = kinds.Octets; found = refl; number = refl }
kind_below (suc (suc (suc (suc (suc (suc (suc zero))))))) lt = record { kind = kinds.Text; found = refl; number = refl }
kind_below (suc (suc (suc (suc (suc (suc (suc (suc zero)))))))) lt = record { kind = kinds.Bits; found = refl; number = refl }
kind_below (suc (suc (suc (suc (suc (suc (suc (suc (suc zero))))))))) lt = record { kind = kinds.Enumerated; found = refl; number = refl }
kind_below (suc (suc (suc (suc (suc (suc (suc (suc (suc (suc zero)))))))))) lt = record { kind = kinds.Date; found = refl; number = refl }
kind_below (suc (suc (suc (suc (suc (suc (suc (suc (suc (suc (suc zero))))))))))) lt = record { kind = kinds.Time; found = refl; number = refl }
kind_below (suc (suc (suc (suc (suc (suc (suc (suc (suc (suc (suc (suc zero)))))))))))) lt = record { kind = kinds.Object; found = refl; number = refl }
kind_below (suc (suc (suc (suc (suc (suc (suc (suc (suc (suc (suc (suc (suc n))))))))))))) lt = absurd (omega arith)

datatype_again : (kind : Datatype) → datatype_of (kind_number kind) ≡ Ok kind
datatype_again kinds.Null = refl
datatype_again kinds.Boolean = refl
datatype_again kinds.Unsigned = refl
datatype_again kinds.Signed = refl
datatype_again kinds.Real = refl
datatype_again kinds.Double = refl
datatype_again kinds.Octets = refl
datatype_again kinds.Text = refl
datatype_again kinds.Bits = refl
datatype_again kinds.Enumerated = refl
datatype_again kinds.Date = refl
datatype_again kinds.Time = refl
datatype_again kinds.Object = refl

small_number : (kind : Datatype) → kind_number kind < 13
small_number kinds.Null = omega arith
small_number kinds.Boolean = omega arith
small_number kinds.Unsigned = omega arith
small_number kinds.Signed = omega arith
small_number kinds.Real = omega arith
small_number kinds.Double = omega arith
small_number kinds.Octets = omega arith
small_number kinds.Text = omega arith
small_number kinds.Bits = omega arith
small_number kinds.Enumerated = omega arith
small_number kinds.Date = omega arith
small_number kinds.Time = omega arith
small_number kinds.Object = omega arith

datatype_ok : (n : ℕ) (kind : Datatype) → datatype_of n ≡ Ok kind → kind_number kind ≡ n
datatype_ok n kind e = elim (cases_lt n 13) [
  | inl lt ↦ let h = kind_below n lt in sym (ap kind_number (ok_is {F = ValueFault} h.kind kind (sym h.found ∙ e))) ∙ h.number
  | inr le ↦ absurd (let h = datatype_over n le in cc)
]

datatype_err : (n : ℕ) (fault : ValueFault) → datatype_of n ≡ Err fault → (fault ≡ BadValueTag) × (13 ≤ n)
datatype_err n fault e = elim (cases_lt n 13) [
  | inl lt ↦ absurd (let h = (kind_below n lt).found in cc)
  | inr le ↦ (let h = datatype_over n le in cc, le)
]

-- ---- the tag

of_tag_ok : {A : Type 0} (r : Result A TagFault) (x : A) → of_tag r ≡ Ok x → r ≡ Ok x
of_tag_ok (Ok y) x e = ap Ok (ok_is {F = ValueFault} y x e)
of_tag_ok (Err fault) x e = absurd cc

of_tag_err : {A : Type 0} (r : Result A TagFault) (fault : ValueFault) → of_tag r ≡ Err fault → (t : TagFault) × (r ≡ Err t) × (fault ≡ fault_of_tag t)
of_tag_err (Ok y) fault e = absurd cc
of_tag_err (Err t) fault e = (t, refl, cc)

count_ok : (kind : Kind) (n : ℕ) → count_of kind ≡ Ok n → kind ≡ Length n
count_ok (Length m) n e = ap Length (ok_is {F = ValueFault} m n e)
count_ok Opening n e = absurd cc
count_ok Closing n e = absurd cc

count_err : (kind : Kind) (fault : ValueFault) → count_of kind ≡ Err fault → (fault ≡ BadValueTag) × (is_length kind ≡ false)
count_err (Length m) fault e = absurd cc
count_err Opening fault e = (cc, refl)
count_err Closing fault e = (cc, refl)

-- the value's head, once its tag is read
abbrev pub headed : ℕ → Result (Tag × List ℕ) TagFault → Result (Datatype × Body) ValueFault
headed low r = of_tag r >>= λ header. cond header.0.context (Err BadValueTag) (datatype_of header.0.number) >>= λ kind. count_of header.0.kind >>= λ count. Ok (kind, body low count header.1)

-- what was read of a head
pub record TakesHead (octets : List ℕ) (kind : Datatype) (count : ℕ) (rest : List ℕ) : Type 0 where
  pub front : List ℕ
  pub encodes : EncodesTag front (application (kind_number kind) count)
  pub parts : octets ≡ front ++ rest
  pub whole : tag_at octets ≡ Ok (application (kind_number kind) count, rest)

is_application : (tag : Tag) (number count : ℕ) → number ≡ tag.number → tag.context ≡ false → tag.kind ≡ Length count → tag ≡ application number count
is_application tag number count n c k = rw (n, ← c, ← k) refl

begins_so : (octets : List ℕ) (tag : Tag) (rest : List ℕ) (kind : Datatype) (count : ℕ) → tag ≡ application (kind_number kind) count → tag_at octets ≡ Ok (tag, rest) → BeginsWith octets tag rest → TakesHead octets kind count rest
begins_so octets tag rest kind count is e begins = record {
  front = begins.front;
  encodes = subst (EncodesTag begins.front) is begins.encodes;
  parts = begins.parts;
  whole = e ∙ ap (λ (t : Tag). Ok (t, rest)) is;
}

pub head_takes : (octets : List ℕ) (kind : Datatype) (b : Body) → AreOctets octets → head_at octets ≡ Ok (kind, b) → TakesHead octets kind b.count b.octets × (b.low_bits ≡ low_bits_at octets)
head_takes octets kind b fits e =
    let a = bind_ok (of_tag (tag_at octets)) (λ header. cond header.0.context (Err BadValueTag) (datatype_of header.0.number) >>= λ k. count_of header.0.kind >>= λ n. Ok (k, body (low_bits_at octets) n header.1)) (kind, b) e in
    let d = bind_ok (cond a.0.0.context (Err BadValueTag) (datatype_of a.0.0.number)) (λ k. count_of a.0.0.kind >>= λ n. Ok (k, body (low_bits_at octets) n a.0.1)) (kind, b) a.2 in
    let n = bind_ok (count_of a.0.0.kind) (λ n. Ok (d.0, body (low_bits_at octets) n a.0.1)) (kind, b) d.2 in
    let read : tag_at octets ≡ Ok (a.0.0, a.0.1) = of_tag_ok (tag_at octets) a.0 a.1 in
    elim (chosen a.0.0.context (Err BadValueTag) (datatype_of a.0.0.number) (Ok d.0) d.1) [
      | inl other ↦ absurd (let h = other.1 in cc)
      | inr own ↦
          let is = is_application a.0.0 (kind_number d.0) n.0 (datatype_ok a.0.0.number d.0 own.1) own.0 (count_ok a.0.0.kind n.0 n.1) in
          let made : Datatype × Body = (d.0, body (low_bits_at octets) n.0 a.0.1) in
          subst (λ (x : Datatype × Body). TakesHead octets x.0 x.1.count x.1.octets × (x.1.low_bits ≡ low_bits_at octets)) (ok_is made (kind, b) n.2) (begins_so octets a.0.0 a.0.1 d.0 n.0 is read (tag_takes octets a.0.0 a.0.1 fits read).0, refl)
    ]

-- a tag that isn't one of a value
not_value : (tag : Tag) → IsTag tag → (tag.context ≡ true) ⊎ (13 ≤ tag.number) → is_value_tag tag ≡ false
not_value tag is (inl context) = rw (known_tag tag is, context) refl
not_value tag is (inr le) = rw (le-ltb tag.number 13 le) (and_false (is_tag tag && not tag.context)) where
  and_false : (b : Bool) → (b && false) ≡ false
  and_false true = refl
  and_false false = refl

no_list : (tag : Tag) → IsTag tag → tag.context ≡ false → is_length tag.kind ≡ false → ⊥
no_list tag is context kind =
    let list : (is_length tag.kind || tag.context) ≡ true = is.classed in
    let none : (is_length tag.kind || tag.context) ≡ false = rw (kind, context) refl in
    cc

of_fault : (octets : List ℕ) (fault : ValueFault) → AreOctets octets → ((t : TagFault) × (tag_at octets ≡ Err t) × (fault ≡ fault_of_tag t)) → ((fault ≡ ShortValue) × (tag_at octets ≡ Err tags.Short)) ⊎ ((fault ≡ BadValueTag) × IsBadValueTag octets)
of_fault octets fault fits (tags.Short, read, is) = inl (is, read)
of_fault octets fault fits (tags.BadTag, read, is) = let b = (tag_is_bad octets fits).0 read in inr (is, record { tag = b.tag; rest = b.rest; begins = b.begins; other = rw b.reserved refl })

pub head_fails : (octets : List ℕ) (fault : ValueFault) → AreOctets octets → head_at octets ≡ Err fault → ((fault ≡ ShortValue) × (tag_at octets ≡ Err tags.Short)) ⊎ ((fault ≡ BadValueTag) × IsBadValueTag octets)
head_fails octets fault fits e =
    elim (bind_err (of_tag (tag_at octets)) (λ header. cond header.0.context (Err BadValueTag) (datatype_of header.0.number) >>= λ k. count_of header.0.kind >>= λ n. Ok (k, body (low_bits_at octets) n header.1)) fault e) [
      | inl here ↦ of_fault octets fault fits (of_tag_err (tag_at octets) fault here)
      | inr (header, read, after) ↦
          let whole : tag_at octets ≡ Ok (header.0, header.1) = of_tag_ok (tag_at octets) header read in
          let t = tag_takes octets header.0 header.1 fits whole in
          elim (bind_err (cond header.0.context (Err BadValueTag) (datatype_of header.0.number)) (λ k. count_of header.0.kind >>= λ n. Ok (k, body (low_bits_at octets) n header.1)) fault after) [
            | inl number ↦ elim (chosen header.0.context (Err BadValueTag) (datatype_of header.0.number) (Err fault) number) [
              | inl context ↦ inr (let h = context.1 in cc, record { tag = header.0; rest = header.1; begins = t.0; other = not_value header.0 t.1 (inl context.0) })
              | inr own ↦
                  let d = datatype_err header.0.number fault own.1 in
                  inr (d.0, record { tag = header.0; rest = header.1; begins = t.0; other = not_value header.0 t.1 (inr d.1) })
            ]
            | inr (kind, known, last) ↦ elim (chosen header.0.context (Err BadValueTag) (datatype_of header.0.number) (Ok kind) known) [
              | inl context ↦ absurd (let h = context.1 in cc)
              | inr own ↦ elim (bind_err (count_of header.0.kind) (λ n. Ok (kind, body (low_bits_at octets) n header.1)) fault last) [
                | inl list ↦ absurd (no_list header.0 t.1 own.0 (count_err header.0.kind fault list).1)
                | inr done ↦ absurd (let h = done.2 in cc)
              ]
            ]
          ]
    ]

application_is : (header : List ℕ) (kind : Datatype) (count : ℕ) → EncodesTag header (application (kind_number kind) count) → IsTag (application (kind_number kind) count)
application_is header kind count s = let small = small_number kind in record { numbered = omega arith; classed = refl; length_fits = fits_kind (Length count) s.length_place s.length_room }

-- a head that is encoded so is read
pub head_again : (header : List ℕ) (kind : Datatype) (count : ℕ) (rest : List ℕ) → EncodesTag header (application (kind_number kind) count) → head_at (header ++ rest) ≡ Ok (kind, body (low_bits_at (header ++ rest)) count rest)
head_again header kind count rest s =
    ap (headed (low_bits_at (header ++ rest))) (tag_again header (application (kind_number kind) count) rest (application_is header kind count s) s)
    ∙ ap (λ (r : Result Datatype ValueFault). r >>= λ k. Ok (k, body (low_bits_at (header ++ rest)) count rest)) (datatype_again kind)

-- ---- the low bits

pub low_bits_are : (header : List ℕ) (tag : Tag) (rest : List ℕ) (s : EncodesTag header tag) → low_bits_at (header ++ rest) ≡ low_of tag.kind s.length_place
low_bits_are header tag rest s =
    ap (λ (o : List ℕ). low_bits_at (o ++ rest)) s.encoded
    ∙ low_part (high_of tag.number s.number_place) (low_of tag.kind s.length_place) tag.context (low_small tag.kind s.length_place s.length_room)

in_low_bits : (n m : ℕ) (place : LengthPlace) → low_of (Length n) place ≡ m → m < 2 → (place ≡ low_bits) × (n ≡ m)
in_low_bits n m low_bits e lt = (refl, e)
in_low_bits n m one_octet e lt = absurd (omega arith)
in_low_bits n m two_octets e lt = absurd (omega arith)
in_low_bits n m four_octets e lt = absurd (omega arith)

-- length bits that are a value are 0 or 1
abbrev pub IsSmall : LengthBits → Type 0
IsSmall length_of_content = Unit {0}
IsSmall (value_itself n) = n < 2

pub header_is : (header rest : List ℕ) (number count low len : ℕ) (bits : LengthBits) → EncodesTag header (application number count) → low_bits_at (header ++ rest) ≡ low → IsSmall bits → HasBits bits low count len → IsHeader header number bits len
header_is header rest number count low len length_of_content s is small same = subst (λ (n : ℕ). EncodesTag header (application number n)) same s
header_is header rest number count low len (value_itself n) s is small same =
    let low_is = in_low_bits count n s.length_place (sym (low_bits_are header (application number count) rest s) ∙ is ∙ same) small in
    subst (λ (m : ℕ). EncodesInLowBits header (application number m)) low_is.1 (record { encodes = s; place = low_is.0 })

-- the tag that a header is, and its bits
pub record HasTag (header : List ℕ) (number len : ℕ) (bits : LengthBits) : Type 0 where
  pub count : ℕ
  pub encodes : EncodesTag header (application number count)
  pub bits_are : (rest : List ℕ) → HasBits bits (low_bits_at (header ++ rest)) count len

pub tag_of_header : (header : List ℕ) (number len : ℕ) (bits : LengthBits) → IsHeader header number bits len → HasTag header number len bits
tag_of_header header number len length_of_content s = record { count = len; encodes = s; bits_are = λ rest. refl }
tag_of_header header number len (value_itself n) s = record { count = n; encodes = s.encodes; bits_are = λ rest. low_bits_are header (application number n) rest s.encodes ∙ ap (low_of (Length n)) s.place }

-- the tag of a value is one
pub is_value_kind : (kind : Datatype) (count : ℕ) → is_value_tag (application (kind_number kind) count) ≡ true
is_value_kind kind count =
    let small = small_number kind in
    let below : kind_number kind < 255 = omega arith in
    rw (lt-ltb (kind_number kind) 255 below, lt-ltb (kind_number kind) 13 small) refl
