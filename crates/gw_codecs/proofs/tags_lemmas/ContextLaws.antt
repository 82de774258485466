-- Reading parameters under context tags: what is read is encoded so, and what is encoded so is read.
use Rattle.std.proofs.Common.{◌≡◌, ℕ, ◌<◌, true, false, eqb, ltb, ◌&&◌, List, ◌++◌, length, take, drop, Result, Ok, Err, refl, sym, ap, subst, ◌∙◌, inl, inr, ◌⊎◌}
use Rattle.std.specs.Prelude.{◌↔◌}
use Rattle.std.proofs.lemmas.Bool.{eq-eqb, eqb-true}
use Rattle.gw_addr.specs.Reading.{◌>>=◌, AreOctets, front_at}
use Rattle.gw_addr.proofs.Reading.{bind_ok, bind_err, chosen, ok_is, both_true, front_takes, front_again, guard_err}
use Rattle.gw_codecs.specs.declared.tags.tag.Kind.{Kind}
use Rattle.gw_codecs.specs.declared.tags.tag.Kind.TheVariants.{Length, Opening, Closing}
use Rattle.gw_codecs.specs.declared.tags.fault.TagFault.{TagFault}
use Rattle.gw_codecs.specs.declared.tags.fault.TagFault.TheVariants as tags
use Rattle.gw_codecs.specs.declared.tags.fault.ContextFault.{ContextFault}
use Rattle.gw_codecs.specs.declared.tags.fault.ContextFault.TheVariants.{Short, BadTag, OtherTag}
use Rattle.gw_codecs.specs.tags.Fault.{context_fault}
use Rattle.gw_codecs.specs.tags.Tag.{Tag, IsTag, EncodesTag, BeginsWith, IsBadTag}
use Rattle.gw_codecs.specs.tags.Reading.{tag_at}
use Rattle.gw_codecs.specs.tags.List.{context}
use Rattle.gw_codecs.specs.tags.Context.{BeginsWithContent, BeginsWithOther, is_content}
use Rattle.gw_codecs.specs.tags.ContextReading.{tag_or, content_of, content_at, opening_of, opening_at, closing_of, closing_tag_at}
use Rattle.gw_codecs.proofs.tags_lemmas.Octets.{behind_octets}
use Rattle.gw_codecs.proofs.tags_lemmas.Tags.{tag_again}
use Rattle.gw_codecs.proofs.tags_lemmas.Faults.{fits_kind, tag_takes, tag_is_bad, is_read}
use Rattle.gw_codecs.proofs.tags_lemmas.ListLaws.{is_bracket}

tag_or_ok : (r : Result (Tag × List ℕ) TagFault) (x : Tag × List ℕ) → tag_or r ≡ Ok x → r ≡ Ok x
tag_or_ok (Ok y) x e = ap Ok (ok_is {F = ContextFault} y x e)
tag_or_ok (Err fault) x e = absurd cc

tag_or_err : (r : Result (Tag × List ℕ) TagFault) (fault : ContextFault) → tag_or r ≡ Err fault → (t : TagFault) × (r ≡ Err t) × (fault ≡ context_fault t)
tag_or_err (Ok y) fault e = absurd cc
tag_or_err (Err t) fault e = (t, refl, cc)

-- ---- a content

content_of_found : (number : ℕ) (tag : Tag) (kind : Kind) (octets content rest : List ℕ) → AreOctets octets → content_of number tag kind octets ≡ Ok (content, rest) → (kind ≡ Length (length content)) × (tag.context ≡ true) × (tag.number ≡ number) × (octets ≡ content ++ rest)
content_of_found number tag (Length n) octets content rest fits e = elim (chosen (tag.context && eqb tag.number number) (front_at Short n octets) (Err OtherTag) (Ok (content, rest)) e) [
  | inl own ↦
      let b = both_true tag.context (eqb tag.number number) own.0 in
      let f = front_takes Short n octets content rest fits own.1 in
      (ap Length (sym f.1), b.0, eqb-true _ _ b.1, f.0.parts)
  | inr other ↦ absurd (let h = other.1 in cc)
]
content_of_found number tag Opening octets content rest fits e = absurd cc
content_of_found number tag Closing octets content rest fits e = absurd cc

is_context : (tag : Tag) (number : ℕ) (kind : Kind) → tag.kind ≡ kind → tag.context ≡ true → tag.number ≡ number → tag ≡ context number kind
is_context tag number kind k c n = rw (← n, ← c, ← k) refl

pub content_found : (number : ℕ) (octets content rest : List ℕ) → AreOctets octets → content_at number octets ≡ Ok (content, rest) → BeginsWithContent number octets content rest
content_found number octets content rest fits e =
    let a = bind_ok (tag_or (tag_at octets)) (λ x. content_of number x.0 x.0.kind x.1) (content, rest) e in
    let t = tag_takes octets a.0.0 a.0.1 fits (tag_or_ok (tag_at octets) a.0 a.1) in
    let rest_fits = behind_octets t.0.front a.0.1 (subst AreOctets t.0.parts fits) in
    let c = content_of_found number a.0.0 a.0.0.kind a.0.1 content rest rest_fits a.2 in
    let is = is_context a.0.0 number (Length (length content)) c.0 c.1 c.2 in
    record {
      header = t.0.front;
      encodes = subst (EncodesTag t.0.front) is t.0.encodes;
      parts = t.0.parts ∙ ap (λ (o : List ℕ). t.0.front ++ o) c.3;
    }

context_is : (number : ℕ) (count : ℕ) (header : List ℕ) → number < 255 → EncodesTag header (context number (Length count)) → IsTag (context number (Length count))
context_is number count header small s = record { numbered = small; classed = refl; length_fits = fits_kind (Length count) s.length_place s.length_room }

own_number : (number : ℕ) (content rest : List ℕ) → content_of number (context number (Length (length content))) (Length (length content)) (content ++ rest) ≡ Ok (content, rest)
own_number number content rest = rw (eq-eqb number number refl) (front_again Short content rest)

pub content_only : (number : ℕ) (octets content rest : List ℕ) → number < 255 → BeginsWithContent number octets content rest → content_at number octets ≡ Ok (content, rest)
content_only number octets content rest small b =
    let is = context_is number (length content) b.header small b.encodes in
    let whole = tag_again b.header (context number (Length (length content))) (content ++ rest) is b.encodes in
    ap (content_at number) b.parts
    ∙ ap (λ (r : Result (Tag × List ℕ) TagFault). tag_or r >>= λ x. content_of number x.0 x.0.kind x.1) whole
    ∙ own_number number content rest

content_of_err : (number : ℕ) (tag : Tag) (kind : Kind) (octets : List ℕ) (fault : ContextFault) → tag.kind ≡ kind → content_of number tag kind octets ≡ Err fault → (fault ≡ Short) ⊎ ((fault ≡ OtherTag) × (is_content number tag ≡ false))
content_of_err number tag (Length n) octets fault k e = elim (chosen (tag.context && eqb tag.number number) (front_at Short n octets) (Err OtherTag) (Err fault) e) [
  | inl own ↦ inl (sym (guard_err (ltb (length octets) n) Short fault (take n octets, drop n octets) own.1).1)
  | inr other ↦ inr (let h = other.1 in cc, rw (k, other.0) refl)
]
content_of_err number tag Opening octets fault k e = inr (cc, rw k refl)
content_of_err number tag Closing octets fault k e = inr (cc, rw k refl)

content_of_other : (number : ℕ) (tag : Tag) (kind : Kind) (octets : List ℕ) → tag.kind ≡ kind → is_content number tag ≡ false → content_of number tag kind octets ≡ Err OtherTag
content_of_other number tag (Length n) octets k other =
    let none : (tag.context && eqb tag.number number) ≡ false = rw k at other in
    rw none refl
content_of_other number tag Opening octets k other = refl
content_of_other number tag Closing octets k other = refl

bad_not_other : (t : TagFault) → OtherTag ≡ context_fault t → ⊥
bad_not_other tags.Short e = cc
bad_not_other tags.BadTag e = cc

bad_is : (t : TagFault) → BadTag ≡ context_fault t → t ≡ tags.BadTag
bad_is tags.Short e = absurd cc
bad_is tags.BadTag e = refl

pub content_is_bad : (number : ℕ) (octets : List ℕ) → AreOctets octets → (content_at number octets ≡ Err BadTag) ↔ IsBadTag octets
content_is_bad number octets fits = (
  λ e. elim (bind_err (tag_or (tag_at octets)) (λ x. content_of number x.0 x.0.kind x.1) BadTag e) [
    | inl here ↦ let t = tag_or_err (tag_at octets) BadTag here in (tag_is_bad octets fits).0 (t.1 ∙ ap Err (bad_is t.0 t.2))
    | inr (x, read, after) ↦ elim (content_of_err number x.0 x.0.kind x.1 BadTag refl after) [
      | inl short ↦ absurd cc
      | inr other ↦ absurd (let h = other.0 in cc)
    ]
  ],
  λ b. ap (λ (r : Result (Tag × List ℕ) TagFault). tag_or r >>= λ x. content_of number x.0 x.0.kind x.1) ((tag_is_bad octets fits).1 b),
)

pub content_is_other : (number : ℕ) (octets : List ℕ) → AreOctets octets → (content_at number octets ≡ Err OtherTag) ↔ BeginsWithOther number octets
content_is_other number octets fits = (
  λ e. elim (bind_err (tag_or (tag_at octets)) (λ x. content_of number x.0 x.0.kind x.1) OtherTag e) [
    | inl here ↦ let t = tag_or_err (tag_at octets) OtherTag here in absurd (bad_not_other t.0 t.2)
    | inr (x, read, after) ↦
        let t = tag_takes octets x.0 x.1 fits (tag_or_ok (tag_at octets) x read) in
        elim (content_of_err number x.0 x.0.kind x.1 OtherTag refl after) [
          | inl short ↦ absurd cc
          | inr other ↦ record { tag = x.0; rest = x.1; is_tag = t.1; begins = t.0; other = other.1 }
        ]
  ],
  λ b. ap (λ (r : Result (Tag × List ℕ) TagFault). tag_or r >>= λ x. content_of number x.0 x.0.kind x.1) (is_read octets b.tag b.rest b.is_tag b.begins) ∙ content_of_other number b.tag b.tag.kind b.rest refl b.other,
)

-- ---- an opening and a closing tag

opening_of_found : (number : ℕ) (tag : Tag) (kind : Kind) (octets rest : List ℕ) → opening_of number tag kind octets ≡ Ok rest → (kind ≡ Opening) × (tag.number ≡ number) × (octets ≡ rest)
opening_of_found number tag (Length n) octets rest e = absurd cc
opening_of_found number tag Opening octets rest e = elim (chosen (eqb tag.number number) (Ok octets) (Err OtherTag) (Ok rest) e) [
  | inl own ↦ (refl, eqb-true _ _ own.0, ok_is {F = ContextFault} octets rest own.1)
  | inr other ↦ absurd (let h = other.1 in cc)
]
opening_of_found number tag Closing octets rest e = absurd cc

pub opening_found : (number : ℕ) (octets rest : List ℕ) → AreOctets octets → opening_at number octets ≡ Ok rest → BeginsWith octets (context number Opening) rest
opening_found number octets rest fits e =
    let a = bind_ok (tag_or (tag_at octets)) (λ x. opening_of number x.0 x.0.kind x.1) rest e in
    let t = tag_takes octets a.0.0 a.0.1 fits (tag_or_ok (tag_at octets) a.0 a.1) in
    let o = opening_of_found number a.0.0 a.0.0.kind a.0.1 rest a.2 in
    let is = is_bracket a.0.0 Opening number t.1 o.0 refl o.1 in
    record { front = t.0.front; encodes = subst (EncodesTag t.0.front) is t.0.encodes; parts = t.0.parts ∙ ap (λ (o : List ℕ). t.0.front ++ o) o.2 }

closing_of_found : (number : ℕ) (tag : Tag) (kind : Kind) (octets rest : List ℕ) → closing_of number tag kind octets ≡ Ok rest → (kind ≡ Closing) × (tag.number ≡ number) × (octets ≡ rest)
closing_of_found number tag (Length n) octets rest e = absurd cc
closing_of_found number tag Opening octets rest e = absurd cc
closing_of_found number tag Closing octets rest e = elim (chosen (eqb tag.number number) (Ok octets) (Err OtherTag) (Ok rest) e) [
  | inl own ↦ (refl, eqb-true _ _ own.0, ok_is {F = ContextFault} octets rest own.1)
  | inr other ↦ absurd (let h = other.1 in cc)
]

pub closing_tag_found : (number : ℕ) (octets rest : List ℕ) → AreOctets octets → closing_tag_at number octets ≡ Ok rest → BeginsWith octets (context number Closing) rest
closing_tag_found number octets rest fits e =
    let a = bind_ok (tag_or (tag_at octets)) (λ x. closing_of number x.0 x.0.kind x.1) rest e in
    let t = tag_takes octets a.0.0 a.0.1 fits (tag_or_ok (tag_at octets) a.0 a.1) in
    let o = closing_of_found number a.0.0 a.0.0.kind a.0.1 rest a.2 in
    let is = is_bracket a.0.0 Closing number t.1 o.0 refl o.1 in
    record { front = t.0.front; encodes = subst (EncodesTag t.0.front) is t.0.encodes; parts = t.0.parts ∙ ap (λ (o : List ℕ). t.0.front ++ o) o.2 }

pub opening_only : (number : ℕ) (octets rest : List ℕ) → number < 255 → BeginsWith octets (context number Opening) rest → opening_at number octets ≡ Ok rest
opening_only number octets rest small b =
    let is : IsTag (context number Opening) = record { numbered = small; classed = refl; length_fits = tt } in
    ap (λ (r : Result (Tag × List ℕ) TagFault). tag_or r >>= λ x. opening_of number x.0 x.0.kind x.1) (is_read octets (context number Opening) rest is b) ∙ (rw (eq-eqb number number refl) refl)

pub closing_tag_only : (number : ℕ) (octets rest : List ℕ) → number < 255 → BeginsWith octets (context number Closing) rest → closing_tag_at number octets ≡ Ok rest
closing_tag_only number octets rest small b =
    let is : IsTag (context number Closing) = record { numbered = small; classed = refl; length_fits = tt } in
    ap (λ (r : Result (Tag × List ℕ) TagFault). tag_or r >>= λ x. closing_of number x.0 x.0.kind x.1) (is_read octets (context number Closing) rest is b) ∙ (rw (eq-eqb number number refl) refl)
