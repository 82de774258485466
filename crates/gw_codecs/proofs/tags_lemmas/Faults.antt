-- What reading a tag gives, and what is wrong with the octets if it gives a fault.
use Rattle.std.proofs.Common.{◌≡◌, ℕ, true, cond, ltb, ◌||◌, List, [], ◌∷◌, ◌++◌, Result, Ok, Err, refl, sym, ap, subst, ◌∙◌, append_assoc, arith, inl, inr}
use Rattle.std.specs.Prelude.{◌↔◌, IsOkAnd}
use Rattle.std.proofs.lemmas.Bool.{ltb-true}
use Rattle.std.proofs.lemmas.List.{append-nil}
use Rattle.gw_addr.specs.Reading.{AreOctets, Gives}
use Rattle.gw_addr.proofs.Reading.{both_true, bind_ok, bind_err, chosen, ok_is}
use Rattle.gw_codecs.specs.declared.tags.tag.Kind.{Kind}
use Rattle.gw_codecs.specs.declared.tags.tag.Kind.TheVariants.{Length, Opening, Closing}
use Rattle.gw_codecs.specs.declared.tags.fault.TagFault.{TagFault}
use Rattle.gw_codecs.specs.declared.tags.fault.TagFault.TheVariants.{Short, BadTag}
use Rattle.gw_codecs.specs.tags.Kind.{is_length}
use Rattle.gw_codecs.specs.tags.Tag.{Tag, IsTag, is_tag, LengthFits, LengthPlace, low_bits, one_octet, two_octets, four_octets, LengthHasRoom, EncodesTag, BeginsWith, IsBadTag, IsShortTag}
use Rattle.gw_codecs.specs.tags.Reading.{header_at, tag_at}
use Rattle.gw_codecs.proofs.tags_lemmas.Tags.{header_again, tag_again}
use Rattle.gw_codecs.proofs.tags_lemmas.Takes.{header_takes}
use Rattle.gw_codecs.proofs.tags_lemmas.Cut.{header_cut}

pub fits_kind : (kind : Kind) (place : LengthPlace) → LengthHasRoom kind place → LengthFits kind
fits_kind (Length n) low_bits room = omega (arith, room)
fits_kind (Length n) one_octet room = omega (arith, room)
fits_kind (Length n) two_octets room = omega (arith, room)
fits_kind (Length n) four_octets room = room
fits_kind Opening place room = tt
fits_kind Closing place room = tt

pub is_written : (tag : Tag) (front : List ℕ) → EncodesTag front tag → is_tag tag ≡ true → IsTag tag
is_written tag front s e =
    let both = both_true (ltb tag.number 255) (is_length tag.kind || tag.context) e in
    record { numbered = ltb-true _ _ both.0; classed = both.1; length_fits = fits_kind tag.kind s.length_place s.length_room }

-- what was read can be written
pub tag_takes : (octets : List ℕ) (tag : Tag) (rest : List ℕ) → AreOctets octets → tag_at octets ≡ Ok (tag, rest) → BeginsWith octets tag rest × IsTag tag
tag_takes octets tag rest fits e =
    let a = bind_ok (header_at octets) (λ header. cond (is_tag header.0) (Ok header) (Err BadTag)) (tag, rest) e in
    elim (chosen (is_tag a.0.0) (Ok a.0) (Err BadTag) (Ok (tag, rest)) a.2) [
      | inl known ↦
          let both = ok_is a.0 (tag, rest) known.1 in
          let begins = header_takes octets a.0.0 a.0.1 fits a.1 in
          subst (λ (x : Tag × List ℕ). BeginsWith octets x.0 x.1 × IsTag x.0) both (begins, is_written a.0.0 begins.front begins.encodes known.0)
      | inr reserved ↦ absurd (let h = reserved.1 in cc)
    ]

pub begins_again : (octets : List ℕ) (tag : Tag) (rest : List ℕ) → BeginsWith octets tag rest → header_at octets ≡ Ok (tag, rest)
begins_again octets tag rest b = rw b.parts (header_again b.front tag rest b.encodes)

pub nothing_behind : (rest missing : List ℕ) → [] ≡ rest ++ missing → missing ≡ []
nothing_behind [] missing e = sym e
nothing_behind (octet ∷ rest) missing e = absurd cc

-- octets that end within a tag are no whole header
pub cut_is_short : (octets : List ℕ) (read : Result (Tag × List ℕ) TagFault) → AreOctets octets → IsShortTag octets → header_at octets ≡ read → read ≡ Err Short
cut_is_short octets (Err fault) fits c e = ap Err (header_cut octets fault fits e).0
cut_is_short octets (Ok x) fits c e =
    let begins = header_takes octets x.0 x.1 fits e in
    let whole = header_again (octets ++ c.missing) c.tag [] c.encodes in
    let front = header_again begins.front x.0 (x.1 ++ c.missing) begins.encodes in
    let regrouped : (octets ++ c.missing) ++ [] ≡ begins.front ++ (x.1 ++ c.missing) = append-nil (octets ++ c.missing) ∙ ap (λ (o : List ℕ). o ++ c.missing) begins.parts ∙ append_assoc begins.front x.1 c.missing in
    let same = ok_is (c.tag, []) (x.0, x.1 ++ c.missing) (sym whole ∙ ap header_at regrouped ∙ front) in
    absurd (c.some_missing (nothing_behind x.1 c.missing (ap (λ (y : Tag × List ℕ). y.1) same)))

pub tag_is_short : (octets : List ℕ) → AreOctets octets → (tag_at octets ≡ Err Short) ↔ IsShortTag octets
tag_is_short octets fits = (
  λ e. elim (bind_err (header_at octets) (λ header. cond (is_tag header.0) (Ok header) (Err BadTag)) Short e) [
    | inl here ↦ (header_cut octets Short fits here).1
    | inr (header, read, after) ↦ elim (chosen (is_tag header.0) (Ok header) (Err BadTag) (Err Short) after) [
      | inl known ↦ absurd (let h = known.1 in cc)
      | inr reserved ↦ absurd (let h = reserved.1 in cc)
    ]
  ],
  λ c. rw (cut_is_short octets (header_at octets) fits c refl) refl,
)

pub tag_is_bad : (octets : List ℕ) → AreOctets octets → (tag_at octets ≡ Err BadTag) ↔ IsBadTag octets
tag_is_bad octets fits = (
  λ e. elim (bind_err (header_at octets) (λ header. cond (is_tag header.0) (Ok header) (Err BadTag)) BadTag e) [
    | inl here ↦ absurd (let h = (header_cut octets BadTag fits here).0 in cc)
    | inr (header, read, after) ↦ elim (chosen (is_tag header.0) (Ok header) (Err BadTag) (Err BadTag) after) [
      | inl known ↦ absurd (let h = known.1 in cc)
      | inr reserved ↦ record { tag = header.0; rest = header.1; begins = header_takes octets header.0 header.1 fits read; reserved = reserved.0 }
    ]
  ],
  λ b. rw (begins_again octets b.tag b.rest b.begins, b.reserved) refl,
)

-- what is encoded so is read
pub is_read : (octets : List ℕ) (tag : Tag) (rest : List ℕ) → IsTag tag → BeginsWith octets tag rest → tag_at octets ≡ Ok (tag, rest)
is_read octets tag rest is b = rw b.parts (tag_again b.front tag rest is b.encodes)

-- what was read is that of the reading function
pub gives_both : (X Y Z F : Type 0) (first : X → Y) (second : X → Z) (r : Result X F) (reading : Result (Y × Z) F) (y : Y) (z : Z) → Gives (λ x. (first x, second x)) r reading → reading ≡ Ok (y, z) → IsOkAnd r (λ x. (first x ≡ y) × (second x ≡ z))
gives_both X Y Z F first second (Ok x) reading y z given is =
    let both = ok_is (first x, second x) (y, z) (sym given ∙ is) in
    (ap (λ (p : Y × Z). p.0) both, ap (λ (p : Y × Z). p.1) both)
gives_both X Y Z F first second (Err e) reading y z given is = absurd cc
