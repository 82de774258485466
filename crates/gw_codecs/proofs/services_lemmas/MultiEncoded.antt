-- What is written of a ReadPropertyMultiple that was read is that body.
use Rattle.std.proofs.Common.{◌≡◌, ℕ, zero, suc, ◌<◌, ◌≤◌, ◌^◌, Bool, true, false, leb, List, [], ◌∷◌, ◌++◌, length, Option, Some, None, refl, sym, ap, subst, ◌∙◌, append_assoc, inr, arith}
use Rattle.std.proofs.lemmas.Bool.{leb-true}
use Rattle.std.proofs.lemmas.List.{append-nil}
use Rattle.gw_addr.proofs.Reading.{both_true}
use Rattle.gw_codecs.specs.declared.tags.tag.Kind.TheVariants.{Opening, Closing}
use Rattle.gw_codecs.specs.tags.Tag.{IsTag, BeginsWith, canonical}
use Rattle.gw_codecs.specs.tags.List.{context}
use Rattle.gw_codecs.specs.tags.Context.{in_context, BeginsWithOther}
use Rattle.gw_codecs.specs.tags.Number.{unsigned_encoding}
use Rattle.gw_codecs.specs.tags.Object.{Object, IsObject, object_octets}
use Rattle.gw_codecs.proofs.tags_lemmas.Canonical.{canonical_encodes}
use Rattle.gw_codecs.proofs.tags_lemmas.Numbers.{unsigned_encodes}
use Rattle.gw_codecs.specs.services.Limits.{last_property, last_number}
use Rattle.gw_codecs.specs.services.Parameter.{object, number, Holds, tagged, of_object}
use Rattle.gw_codecs.specs.services.Body.{Begins, IsAbsent}
use Rattle.gw_codecs.specs.services.Read.{number_part}
use Rattle.gw_codecs.specs.services.Multi.{Reference, a_property, an_index, the_object, IsNamed, with_index, whole, IsReference, in_new_list, in_same_list, IsList, last_one, next_object, next_property, head_part, name_part, tail_part, list_ends, reference_part, multi_encoding, most_references, IsMulti}
use Rattle.gw_codecs.proofs.services_lemmas.Encoded.{object_begins, number_begins, other_content}
use Rattle.gw_codecs.proofs.services_lemmas.EncodedBodies.{FitsIndex}

-- ---- brackets

tag_is : (tag : ℕ) → tag < 255 → IsTag (context tag Closing)
tag_is tag small = record { numbered = small; classed = refl; length_fits = tt }

closes : (rest : List ℕ) → BeginsWith (canonical (context 1 Closing) ++ rest) (context 1 Closing) rest
closes rest = record { front = canonical (context 1 Closing); encodes = canonical_encodes (context 1 Closing) (tag_is 1 (omega arith)); parts = refl }

closing_other : (rest : List ℕ) → IsAbsent 1 (canonical (context 1 Closing) ++ rest)
closing_other rest = inr (record { tag = context 1 Closing; rest = rest; is_tag = tag_is 1 (omega arith); begins = closes rest; other = refl })

opens : (rest : List ℕ) → BeginsWith (canonical (context 1 Opening) ++ rest) (context 1 Opening) rest
opens rest = record { front = canonical (context 1 Opening); encodes = canonical_encodes (context 1 Opening) (record { numbered = omega arith; classed = refl; length_fits = tt }); parts = refl }

-- ---- a reference

object_fact : (octets : List ℕ) (id : Object) (rest : List ℕ) → Holds the_object octets (object id) rest → IsObject id
object_fact octets id rest (tagged own begins (of_object x is parts)) = is

property_fact : (octets : List ℕ) (p : ℕ) (rest : List ℕ) → Begins a_property octets (number p) rest → p ≤ last_property
property_fact octets p rest is = leb-true _ _ (both_true (leb 0 p) (leb p last_property) is.allowed).1

index_fact : (octets : List ℕ) (i : ℕ) (rest : List ℕ) → Begins an_index octets (number i) rest → i ≤ last_number
index_fact octets i rest is = leb-true _ _ (both_true (leb 0 i) (leb i last_number) is.allowed).1

record NameFacts (p : ℕ) (i : Option ℕ) : Type 0 where
  pub property : p ≤ last_property
  pub index : FitsIndex i

name_facts : (octets : List ℕ) (p : ℕ) (i : Option ℕ) (rest : List ℕ) → IsNamed octets p i rest → NameFacts p i
name_facts octets p (Some i) rest (with_index middle named index) = record { property = property_fact octets p middle named; index = index_fact middle i rest index }
name_facts octets p None rest (whole named absent) = record { property = property_fact octets p rest named; index = tt }

named_is : (p : ℕ) (i : Option ℕ) (rest : List ℕ) → NameFacts p i → IsAbsent 1 rest → IsNamed (name_part p i ++ rest) p i rest
named_is p None rest facts absent =
    subst (λ (o : List ℕ). IsNamed (o ++ rest) p None rest) (sym (append-nil (in_context 0 (unsigned_encoding p))))
    (whole (number_begins 0 0 last_property p rest (omega arith) (omega (arith, facts.property)) (omega arith) facts.property) absent)
named_is p (Some i) rest facts absent =
    let a = in_context 0 (unsigned_encoding p) in
    let b = in_context 1 (unsigned_encoding i) in
    subst (λ (o : List ℕ). IsNamed o p (Some i) rest) (sym (append_assoc a b rest))
    (with_index (b ++ rest) (number_begins 0 0 last_property p (b ++ rest) (omega arith) (omega (arith, facts.property)) (omega arith) facts.property)
    (number_begins 1 0 last_number i rest (omega arith) (omega (arith, facts.index)) (omega arith) facts.index))

reference_is : (current : Option Object) (octets : List ℕ) (r : Reference) (at rest : List ℕ) → IsReference current octets r at → IsAbsent 1 rest → IsReference current (head_part r.begins r.object ++ (name_part r.property r.index ++ rest)) r rest
reference_is None octets r at rest (in_new_list {p = p} {i = i} id a b is begins named) absent =
    let name = name_part p i ++ rest in
    let head = in_context 0 (object_octets id) in
    let bracket = canonical (context 1 Opening) in
    subst (λ (o : List ℕ). IsReference None o (record { begins = true; object = id; property = p; index = i }) rest) (sym (append_assoc head bracket name))
    (in_new_list id (bracket ++ name) name (object_begins 0 id (bracket ++ name) (omega arith) (object_fact octets id a is.holds)) (opens name)
    (named_is p i rest (name_facts b p i at named) absent))
reference_is (Some id) octets r at rest (in_same_list {p = p} {i = i} named) absent =
    in_same_list (named_is p i rest (name_facts octets p i at named) absent)

-- ---- lists

new_begins : (octets : List ℕ) (r : Reference) (at : List ℕ) → IsReference None octets r at → r.begins ≡ true
new_begins octets r at (in_new_list id a b is begins named) = refl

same_begins : (id : Object) (octets : List ℕ) (r : Reference) (at : List ℕ) → IsReference (Some id) octets r at → r.begins ≡ false
same_begins id octets r at (in_same_list named) = refl

unsigned_short : (n : ℕ) → n < 2 ^ 32 → length (unsigned_encoding n) < 2 ^ 32
unsigned_short n fits = let is = unsigned_encodes n fits in omega (arith, is.most)

ends_none : (left : ℕ) (rest : List ℕ) (others : List Reference) → IsList left None rest others → list_ends others ≡ true
ends_none zero rest others is = elim is [ ]
ends_none (suc left) rest others (last_one r at is good closed) = new_begins rest r at is
ends_none (suc left) rest others (next_object r at behind is good closed later) = new_begins rest r at is
ends_none (suc left) rest others (next_property r at is good later) = new_begins rest r at is

ends_some : (left : ℕ) (id : Object) (rest : List ℕ) (others : List Reference) → IsList left (Some id) rest others → list_ends others ≡ false
ends_some zero id rest others is = elim is [ ]
ends_some (suc left) id rest others (last_one r at is good closed) = same_begins id rest r at is
ends_some (suc left) id rest others (next_object r at behind is good closed later) = same_begins id rest r at is
ends_some (suc left) id rest others (next_property r at is good later) = same_begins id rest r at is

-- a reference of an open list begins with its property
name_absent : (p : ℕ) (i : Option ℕ) (rest : List ℕ) → p ≤ last_property → IsAbsent 1 (name_part p i ++ rest)
name_absent p i rest fits =
    let enc = unsigned_short p (omega (arith, fits)) in
    inr (subst (λ (o : List ℕ). BeginsWithOther 1 o) (sym (append_assoc (in_context 0 (unsigned_encoding p)) (number_part 1 i) rest))
    (other_content 1 0 (unsigned_encoding p) (number_part 1 i ++ rest) (omega arith) enc refl))

regroup : (h n t m : List ℕ) → h ++ (n ++ (t ++ m)) ≡ (h ++ n ++ t) ++ m
regroup h n t m = simp append_assoc

abbrev parts_of : Reference → List ℕ → List ℕ
parts_of r rest = head_part r.begins r.object ++ (name_part r.property r.index ++ rest)

whole_is : (r : Reference) (ends : Bool) (more : List ℕ) → parts_of r (tail_part ends ++ more) ≡ reference_part r ends ++ more
whole_is r ends more = regroup (head_part r.begins r.object) (name_part r.property r.index) (tail_part ends) more

first_absent : (id : Object) (octets : List ℕ) (r : Reference) (at : List ℕ) (others : List Reference) → IsReference (Some id) octets r at → IsAbsent 1 (multi_encoding (r ∷ others))
first_absent id octets r at others (in_same_list {p = p} {i = i} named) =
    let facts = name_facts octets p i at named in
    let tail = tail_part (list_ends others) in
    let more = multi_encoding others in
    subst (λ (o : List ℕ). IsAbsent 1 o) (regroup [] (name_part p i) tail more) (name_absent p i (tail ++ more) facts.property)

list_absent : (left : ℕ) (id : Object) (at : List ℕ) (others : List Reference) → IsList left (Some id) at others → IsAbsent 1 (multi_encoding others)
list_absent zero id at others is = elim is [ ]
list_absent (suc left) id at others (last_one r behind is good closed) = first_absent id at r behind [] is
list_absent (suc left) id at others (next_object {others = more} r behind rest is good closed later) = first_absent id at r behind more is
list_absent (suc left) id at others (next_property {others = more} r behind is good later) = first_absent id at r behind more is

list_is : (left : ℕ) (current : Option Object) (octets : List ℕ) (rs : List Reference) → IsList left current octets rs → IsList left current (multi_encoding rs) rs
list_is zero current octets rs is = elim is [ ]
list_is (suc left) current octets rs (last_one r at is good closed) =
    let behind = canonical (context 1 Closing) ++ [] in
    subst (λ (o : List ℕ). IsList (suc left) current o (r ∷ [])) (whole_is r true [])
    (last_one r behind (reference_is current octets r at behind is (closing_other [])) good (closes []))
list_is (suc left) current octets rs (next_object {others = others} r at rest is good closed later) =
    let more = multi_encoding others in
    let behind = canonical (context 1 Closing) ++ more in
    let ends = ends_none left rest others later in
    subst (λ (o : List ℕ). IsList (suc left) current o (r ∷ others)) (whole_is r true more ∙ ap (λ (e : Bool). reference_part r e ++ more) (sym ends))
    (next_object r behind more (reference_is current octets r at behind is (closing_other more)) good (closes more) (list_is left None rest others later))
list_is (suc left) current octets rs (next_property {others = others} r at is good later) =
    let more = multi_encoding others in
    let ends = ends_some left r.object at others later in
    subst (λ (o : List ℕ). IsList (suc left) current o (r ∷ others)) (whole_is r false more ∙ ap (λ (e : Bool). reference_part r e ++ more) (sym ends))
    (next_property r more (reference_is current octets r at more is (list_absent left r.object at others later)) good (list_is left (Some r.object) at others later))

pub multi_is : (octets : List ℕ) (rs : List Reference) → IsMulti octets rs → IsMulti (multi_encoding rs) rs
multi_is octets rs is = list_is most_references None octets rs is
