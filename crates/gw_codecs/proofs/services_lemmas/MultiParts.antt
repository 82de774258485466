-- One reference of a ReadPropertyMultiple: read exactly where it is, and a fault exactly elsewhere.
use Rattle.std.proofs.Common.{◌≡◌, ℕ, Bool, true, false, List, [], ◌∷◌, Option, Some, None, Result, Ok, Err, refl, sym, ap, subst, ◌∙◌, inl, inr, arith}
use Rattle.gw_addr.specs.Reading.{◌>>=◌, AreOctets}
use Rattle.gw_addr.proofs.Reading.{ok_is, either}
use Rattle.gw_codecs.specs.declared.tags.tag.Kind.{Kind}
use Rattle.gw_codecs.specs.declared.tags.tag.Kind.TheVariants.{Length, Opening, Closing}
use Rattle.gw_codecs.specs.tags.Reading.{tag_at}
use Rattle.gw_codecs.specs.declared.tags.fault.ContextFault.{ContextFault}
use Rattle.gw_codecs.specs.tags.List.{context}
use Rattle.gw_codecs.specs.tags.Tag.{Tag, BeginsWith}
use Rattle.gw_codecs.specs.tags.ContextReading.{tag_or, content_of, closing_of, opening_at, closing_tag_at}
use Rattle.gw_codecs.specs.tags.Object.{Object}
use Rattle.gw_codecs.proofs.tags_lemmas.Octets.{behind_octets}
use Rattle.gw_codecs.proofs.tags_lemmas.ContextLaws.{content_only, opening_found, opening_only, closing_tag_found, closing_tag_only}
use Rattle.gw_codecs.specs.declared.services.fault.BodyFault.{BodyFault}
use Rattle.gw_codecs.specs.declared.services.fault.BodyFault.TheVariants.{InvalidTag, Missing, OutOfRange, TooMany, Inconsistent, Memory}
use Rattle.gw_codecs.specs.services.Limits.{last_property, last_number}
use Rattle.gw_codecs.specs.services.Parameter.{Content, object, number, Shape, a_number, Parameter, Holds, tagged}
use Rattle.gw_codecs.specs.services.Body.{Begins, IsAbsent, IsWrong}
use Rattle.gw_codecs.specs.services.Reading.{or_invalid, object_at, number_at, number_maybe_at}
use Rattle.gw_codecs.specs.services.Multi.{Reference, a_property, an_index, the_object, IsNamed, with_index, whole, IsReference, in_new_list, in_same_list, IsClosed, IsWrongOpening, nothing_opens, something_else, IsBadName, at_property, at_index, IsBadReference, at_object, at_opening, empty_list, at_first, at_next}
use Rattle.gw_codecs.specs.services.MultiReading.{reference, opened_at, named_at, first_at, reference_at}
use Rattle.gw_codecs.proofs.services_lemmas.Parameters.{Found, FoundMaybe, must_at, may_at, some_of, MustBe, wrong, right, must_be, is_absent, is_there, may_be, must_again, wrong_again, rest_fits, not_both}
use Rattle.gw_codecs.proofs.services_lemmas.Steps.{makes, makes_maybe, must_object, must_number, may_number}

-- ---- one parameter by its own reading

abbrev Typed : Type 0 → Type 0
Typed A = Result (A × List ℕ) BodyFault

typed_ok : {A : Type 0} (make : A → Content) (tells : (a b : A) → make a ≡ make b → a ≡ b) (r : Typed A) (a : A) (rest : List ℕ) → (r >>= makes make) ≡ Ok (make a, rest) → r ≡ Ok (a, rest)
typed_ok make tells (Ok (x, os)) a rest e =
    let same : (make x, os) ≡ (make a, rest) = ok_is {F = BodyFault} _ _ e in
    let first : x ≡ a = tells x a (ap (λ (p : Found). p.0) same) in
    let second : os ≡ rest = ap (λ (p : Found). p.1) same in
    cc
typed_ok make tells (Err fault) a rest e = absurd cc

typed_err : {A : Type 0} (make : A → Content) (r : Typed A) (fault : BodyFault) → (r >>= makes make) ≡ Err fault → r ≡ Err fault
typed_err make (Ok x) fault e = absurd cc
typed_err make (Err other) fault e = cc

made_of : {A : Type 0} (make : A → Content) (r : Typed A) (held : Content) (rest : List ℕ) → (r >>= makes make) ≡ Ok (held, rest) → (a : A) × (held ≡ make a) × (r ≡ Ok (a, rest))
made_of make (Ok x) held rest e =
    let same : (make x.0, x.1) ≡ (held, rest) = ok_is {F = BodyFault} _ _ e in
    let second : x.1 ≡ rest = ap (λ (p : Found). p.1) same in
    (x.0, sym (ap (λ (p : Found). p.0) same), ap (λ (o : List ℕ). Ok (x.0, o)) second)
made_of make (Err fault) held rest e = absurd cc

-- what is read where a parameter is due, or what is wrong there
data TypedBe {A : Type 0} (make : A → Content) (p : Parameter) (octets : List ℕ) (r : Typed A) : Type 0 where
  t_wrong : (fault : BodyFault) → IsWrong fault p octets → r ≡ Err fault → TypedBe make p octets r
  t_right : (a : A) (rest : List ℕ) → Begins p octets (make a) rest → r ≡ Ok (a, rest) → TypedBe make p octets r

typed_be : {A : Type 0} (make : A → Content) (p : Parameter) (octets : List ℕ) (r : Typed A) → must_at p octets ≡ (r >>= makes make) → MustBe p octets → TypedBe make p octets r
typed_be make p octets r is (wrong fault bad reads) = t_wrong fault bad (typed_err make r fault (sym is ∙ reads))
typed_be make p octets r is (right held rest good reads) =
    let m = made_of make r held rest (sym is ∙ reads) in
    t_right m.0 rest (subst (λ (h : Content). Begins p octets h rest) m.1 good) m.2

tells_object : (a b : Object) → object a ≡ object b → a ≡ b
tells_object a b e = cc

tells_number : (a b : ℕ) → number a ≡ number b → a ≡ b
tells_number a b e = cc

object_be : (octets : List ℕ) → AreOctets octets → TypedBe object the_object octets (object_at 0 octets)
object_be octets fits = typed_be object the_object octets (object_at 0 octets) (must_object 0 octets) (must_be the_object octets refl fits)

property_be : (octets : List ℕ) → AreOctets octets → TypedBe number a_property octets (number_at 0 0 last_property octets)
property_be octets fits = typed_be number a_property octets (number_at 0 0 last_property octets) (must_number 0 0 last_property octets) (must_be a_property octets refl fits)

object_again : (octets : List ℕ) (id : Object) (rest : List ℕ) → AreOctets octets → Begins the_object octets (object id) rest → object_at 0 octets ≡ Ok (id, rest)
object_again octets id rest fits is = typed_ok object tells_object (object_at 0 octets) id rest (sym (must_object 0 octets) ∙ must_again the_object octets (object id) rest refl fits is)

object_wrong : (octets : List ℕ) (fault : BodyFault) → AreOctets octets → IsWrong fault the_object octets → object_at 0 octets ≡ Err fault
object_wrong octets fault fits is = typed_err object (object_at 0 octets) fault (sym (must_object 0 octets) ∙ wrong_again fault the_object octets refl fits is)

property_again : (octets : List ℕ) (n : ℕ) (rest : List ℕ) → AreOctets octets → Begins a_property octets (number n) rest → number_at 0 0 last_property octets ≡ Ok (n, rest)
property_again octets n rest fits is = typed_ok number tells_number (number_at 0 0 last_property octets) n rest (sym (must_number 0 0 last_property octets) ∙ must_again a_property octets (number n) rest refl fits is)

property_wrong : (octets : List ℕ) (fault : BodyFault) → AreOctets octets → IsWrong fault a_property octets → number_at 0 0 last_property octets ≡ Err fault
property_wrong octets fault fits is = typed_err number (number_at 0 0 last_property octets) fault (sym (must_number 0 0 last_property octets) ∙ wrong_again fault a_property octets refl fits is)

-- ---- an index

abbrev MaybeIndex : Type 0
MaybeIndex = Result (Option ℕ × List ℕ) BodyFault

abbrev index_read : List ℕ → MaybeIndex
index_read octets = number_maybe_at 1 0 last_number octets

no_content : Option Content
no_content = None

abbrev some_content : Content → Option Content
some_content held = Some held

not_some : (n : ℕ) → no_content ≡ some_content (number n) → ⊥
unfolding no_content
not_some n e = cc

number_is : (m n : ℕ) → some_content (number m) ≡ some_content (number n) → m ≡ n
number_is m n e = cc

maybe_none : (r : MaybeIndex) (rest : List ℕ) → (r >>= makes_maybe number) ≡ Ok (None, rest) → r ≡ Ok (None, rest)
unfolding no_content
maybe_none (Ok (None, x)) rest e =
    let same : (no_content, x) ≡ (no_content, rest) = ok_is {F = BodyFault} _ _ e in
    let second : x ≡ rest = ap (λ (p : FoundMaybe). p.1) same in
    cc
maybe_none (Ok (Some n, x)) rest e =
    let same : (Some (number n), x) ≡ (no_content, rest) = ok_is {F = BodyFault} _ _ e in
    absurd (not_some n (sym (ap (λ (p : FoundMaybe). p.0) same)))
maybe_none (Err fault) rest e = absurd cc

maybe_some : (r : MaybeIndex) (n : ℕ) (rest : List ℕ) → (r >>= makes_maybe number) ≡ Ok (Some (number n), rest) → r ≡ Ok (Some n, rest)
unfolding no_content
maybe_some (Ok (None, x)) n rest e =
    let same : (no_content, x) ≡ (Some (number n), rest) = ok_is {F = BodyFault} _ _ e in
    absurd (not_some n (ap (λ (p : FoundMaybe). p.0) same))
maybe_some (Ok (Some m, x)) n rest e =
    let same : (some_content (number m), x) ≡ (some_content (number n), rest) = ok_is {F = BodyFault} _ _ e in
    let first = number_is m n (ap (λ (p : FoundMaybe). p.0) same) in
    let second : x ≡ rest = ap (λ (p : FoundMaybe). p.1) same in
    cc
maybe_some (Err fault) n rest e = absurd cc

maybe_err : (r : MaybeIndex) (fault : BodyFault) → (r >>= makes_maybe number) ≡ Err fault → r ≡ Err fault
maybe_err (Ok (None, x)) fault e = absurd cc
maybe_err (Ok (Some m, x)) fault e = absurd cc
maybe_err (Err other) fault e = cc

data IndexBe (octets : List ℕ) : Type 0 where
  i_absent : IsAbsent 1 octets → index_read octets ≡ Ok (None, octets) → IndexBe octets
  i_wrong : (IsAbsent 1 octets → ⊥) → (fault : BodyFault) → IsWrong fault an_index octets → index_read octets ≡ Err fault → IndexBe octets
  i_right : (n : ℕ) (rest : List ℕ) → Begins an_index octets (number n) rest → index_read octets ≡ Ok (Some n, rest) → IndexBe octets

abbrev index_shape : Shape
index_shape = a_number 0 last_number

index_there : (octets : List ℕ) → (IsAbsent 1 octets → ⊥) → may_at 1 index_shape octets ≡ (must_at an_index octets >>= some_of) → TypedBe number an_index octets (number_at 1 0 last_number octets) → IndexBe octets
index_there octets present is (t_wrong fault bad reads) =
    let must : must_at an_index octets ≡ Err fault = must_number 1 0 last_number octets ∙ ap (λ (r : Typed ℕ). r >>= makes number) reads in
    i_wrong present fault bad (maybe_err (index_read octets) fault (sym (may_number 1 0 last_number octets) ∙ is ∙ ap (λ (r : Result Found BodyFault). r >>= some_of) must))
index_there octets present is (t_right n rest good reads) =
    let must : must_at an_index octets ≡ Ok (number n, rest) = must_number 1 0 last_number octets ∙ ap (λ (r : Typed ℕ). r >>= makes number) reads in
    i_right n rest good (maybe_some (index_read octets) n rest (sym (may_number 1 0 last_number octets) ∙ is ∙ ap (λ (r : Result Found BodyFault). r >>= some_of) must))

index_be : (octets : List ℕ) → AreOctets octets → IndexBe octets
index_be octets fits = elim (may_be 1 index_shape octets fits) [
  | is_absent absent e ↦ i_absent absent (maybe_none (index_read octets) octets (sym (may_number 1 0 last_number octets) ∙ e))
  | is_there present e ↦ index_there octets present e (typed_be number an_index octets (number_at 1 0 last_number octets) (must_number 1 0 last_number octets) (must_be an_index octets refl fits))
]

index_again : (octets : List ℕ) (n : ℕ) (rest : List ℕ) → AreOctets octets → Begins an_index octets (number n) rest → index_read octets ≡ Ok (Some n, rest)
index_again octets n rest fits is = elim (may_be 1 index_shape octets fits) [
  | is_absent absent e ↦ absurd (not_both 1 index_shape octets (number n) rest refl fits is absent)
  | is_there present e ↦ maybe_some (index_read octets) n rest (sym (may_number 1 0 last_number octets) ∙ e ∙ ap (λ (r : Result Found BodyFault). r >>= some_of) (must_again an_index octets (number n) rest refl fits is))
]

index_absent : (octets : List ℕ) → AreOctets octets → IsAbsent 1 octets → index_read octets ≡ Ok (None, octets)
index_absent octets fits absent = elim (index_be octets fits) [
  | i_absent other e ↦ e
  | i_wrong present fault bad e ↦ absurd (present absent)
  | i_right n rest good e ↦ absurd (not_both 1 index_shape octets (number n) rest refl fits good absent)
]

index_wrong : (octets : List ℕ) (fault : BodyFault) → AreOctets octets → (IsAbsent 1 octets → ⊥) → IsWrong fault an_index octets → index_read octets ≡ Err fault
index_wrong octets fault fits present is = elim (may_be 1 index_shape octets fits) [
  | is_absent absent e ↦ absurd (present absent)
  | is_there other e ↦ maybe_err (index_read octets) fault (sym (may_number 1 0 last_number octets) ∙ e ∙ ap (λ (r : Result Found BodyFault). r >>= some_of) (wrong_again fault an_index octets refl fits is))
]

-- ---- a property and its index

abbrev Named : Type 0
Named = Result (Reference × List ℕ) BodyFault

abbrev with_name : Bool → Object → ℕ → Option ℕ × List ℕ → Named
with_name begins id p i = Ok (reference begins id p i.0, i.1)

abbrev with_property : Bool → Object → ℕ × List ℕ → Named
with_property begins id p = index_read p.1 >>= with_name begins id p.0

pub named_again : (begins : Bool) (id : Object) (octets : List ℕ) (p : ℕ) (i : Option ℕ) (rest : List ℕ) → AreOctets octets → IsNamed octets p i rest → named_at begins id octets ≡ Ok (reference begins id p i, rest)
named_again begins id octets p (Some i) rest fits (with_index middle named index) =
    ap (λ (r : Typed ℕ). r >>= with_property begins id) (property_again octets p middle fits named)
    ∙ ap (λ (r : MaybeIndex). r >>= with_name begins id p) (index_again middle i rest (rest_fits a_property octets (number p) middle fits named.holds) index)
named_again begins id octets p None rest fits (whole named absent) =
    ap (λ (r : Typed ℕ). r >>= with_property begins id) (property_again octets p rest fits named)
    ∙ ap (λ (r : MaybeIndex). r >>= with_name begins id p) (index_absent rest (rest_fits a_property octets (number p) rest fits named.holds) absent)

pub bad_name_again : (begins : Bool) (id : Object) (octets : List ℕ) (fault : BodyFault) → AreOctets octets → IsBadName fault octets → named_at begins id octets ≡ Err fault
bad_name_again begins id octets fault fits (at_property is) =
    ap (λ (r : Typed ℕ). r >>= with_property begins id) (property_wrong octets fault fits is)
bad_name_again begins id octets fault fits (at_index p rest named present is) =
    ap (λ (r : Typed ℕ). r >>= with_property begins id) (property_again octets p rest fits named)
    ∙ ap (λ (r : MaybeIndex). r >>= with_name begins id p) (index_wrong rest fault (rest_fits a_property octets (number p) rest fits named.holds) present is)

pub named_fits : (octets : List ℕ) (p : ℕ) (i : Option ℕ) (rest : List ℕ) → AreOctets octets → IsNamed octets p i rest → AreOctets rest
named_fits octets p (Some i) rest fits (with_index middle named index) = rest_fits an_index middle (number i) rest (rest_fits a_property octets (number p) middle fits named.holds) index.holds
named_fits octets p None rest fits (whole named absent) = rest_fits a_property octets (number p) rest fits named.holds

data NameBe (octets : List ℕ) : Type 0 where
  n_right : (p : ℕ) (i : Option ℕ) (rest : List ℕ) → IsNamed octets p i rest → NameBe octets
  n_wrong : (fault : BodyFault) → IsBadName fault octets → NameBe octets

name_behind : (octets : List ℕ) (p : ℕ) (rest : List ℕ) → Begins a_property octets (number p) rest → IndexBe rest → NameBe octets
name_behind octets p rest named (i_absent absent e) = n_right p None rest (whole named absent)
name_behind octets p rest named (i_wrong present fault bad e) = n_wrong fault (at_index p rest named present bad)
name_behind octets p rest named (i_right n behind good e) = n_right p (Some n) behind (with_index rest named good)

name_be : (octets : List ℕ) → AreOctets octets → NameBe octets
name_be octets fits = elim (property_be octets fits) [
  | t_wrong fault bad e ↦ n_wrong fault (at_property bad)
  | t_right p rest named e ↦ name_behind octets p rest named (index_be rest (rest_fits a_property octets (number p) rest fits named.holds))
]

-- ---- opening and closing tags

abbrev Opened : Type 0
Opened = Result (List ℕ) ContextFault

opened_again : (octets inner : List ℕ) → BeginsWith octets (context 1 Opening) inner → opened_at octets ≡ Ok inner
opened_again [] inner is = absurd (let read = opening_only 1 [] inner (omega arith) is in cc)
opened_again (o ∷ os) inner is = ap (λ (r : Opened). or_invalid r) (opening_only 1 (o ∷ os) inner (omega arith) is)

wrong_opening_again : (octets : List ℕ) (fault : BodyFault) → AreOctets octets → IsWrongOpening fault octets → opened_at octets ≡ Err fault
wrong_opening_again [] Missing fits (nothing_opens empty) = refl
wrong_opening_again (o ∷ os) Missing fits (nothing_opens empty) = absurd cc
wrong_opening_again [] InvalidTag fits (something_else some none) = absurd (some refl)
wrong_opening_again (o ∷ os) InvalidTag fits (something_else some none) = elim (either (opening_at 1 (o ∷ os))) [
  | inl (inner, e) ↦ absurd (none inner (opening_found 1 (o ∷ os) inner fits e))
  | inr (fault, e) ↦ ap (λ (r : Opened). or_invalid r) e
]
wrong_opening_again octets OutOfRange fits is = elim is [ ]
wrong_opening_again octets TooMany fits is = elim is [ ]
wrong_opening_again octets Inconsistent fits is = elim is [ ]
wrong_opening_again octets Memory fits is = elim is [ ]

data OpeningBe (octets : List ℕ) : Type 0 where
  o_right : (inner : List ℕ) → BeginsWith octets (context 1 Opening) inner → OpeningBe octets
  o_wrong : (fault : BodyFault) → IsWrongOpening fault octets → OpeningBe octets

opening_be : (octets : List ℕ) → AreOctets octets → OpeningBe octets
opening_be [] fits = o_wrong Missing (nothing_opens refl)
opening_be (o ∷ os) fits = elim (either (opening_at 1 (o ∷ os))) [
  | inl (inner, e) ↦ o_right inner (opening_found 1 (o ∷ os) inner fits e)
  | inr (fault, e) ↦ o_wrong InvalidTag (something_else (λ empty. let never = empty in cc) (λ rest begins. let read = opening_only 1 (o ∷ os) rest (omega arith) begins in cc))
]

pub closed_again : (octets rest : List ℕ) → BeginsWith octets (context 1 Closing) rest → closing_tag_at 1 octets ≡ Ok rest
closed_again octets rest is = closing_tag_only 1 octets rest (omega arith) is

-- whether a list is closed here
pub data ClosedBe (octets : List ℕ) : Type 0 where
  c_closed : (rest : List ℕ) → BeginsWith octets (context 1 Closing) rest → closing_tag_at 1 octets ≡ Ok rest → ClosedBe octets
  c_not : (IsClosed octets → ⊥) → (fault : ContextFault) → closing_tag_at 1 octets ≡ Err fault → ClosedBe octets

pub closed_be : (octets : List ℕ) → AreOctets octets → ClosedBe octets
closed_be octets fits = elim (either (closing_tag_at 1 octets)) [
  | inl (rest, e) ↦ c_closed rest (closing_tag_found 1 octets rest fits e) e
  | inr (fault, e) ↦ c_not (λ closed. let read = closed_again octets closed.0 closed.1 in cc) fault e
]

-- ---- a reference

abbrev at_inner : Object → List ℕ → Named
at_inner id inner = first_at id inner (closing_tag_at 1 inner)

abbrev at_id : Object × List ℕ → Named
at_id id = opened_at id.1 >>= at_inner id.0

first_named : (id : Object) (inner : List ℕ) → AreOctets inner → (IsClosed inner → ⊥) → at_inner id inner ≡ named_at true id inner
first_named id inner fits open_list = elim (closed_be inner fits) [
  | c_closed rest closed e ↦ absurd (open_list (rest, closed))
  | c_not other fault e ↦ ap (first_at id inner) e
]

front_fits : (octets : List ℕ) (id : Object) (a : List ℕ) → AreOctets octets → Begins the_object octets (object id) a → AreOctets a
front_fits octets id a fits is = rest_fits the_object octets (object id) a fits is.holds

inner_fits : (a b : List ℕ) → AreOctets a → BeginsWith a (context 1 Opening) b → AreOctets b
inner_fits a b fits is = behind_octets is.front b (subst AreOctets is.parts fits)

-- a content isn't a closing tag
not_closing : (tag : Tag) (kind : Kind) (octets : List ℕ) (c : List ℕ × List ℕ) (rest : List ℕ) → content_of 0 tag kind octets ≡ Ok c → closing_of 1 tag kind octets ≡ Ok rest → ⊥
not_closing tag (Length n) octets c rest e f = cc
not_closing tag Opening octets c rest e f = cc
not_closing tag Closing octets c rest e f = cc

not_both_tags : (t : Result (Tag × List ℕ) ContextFault) (c : List ℕ × List ℕ) (rest : List ℕ) → (t >>= λ x. content_of 0 x.0 x.0.kind x.1) ≡ Ok c → (t >>= λ x. closing_of 1 x.0 x.0.kind x.1) ≡ Ok rest → ⊥
not_both_tags (Ok x) c rest e f = not_closing x.0 x.0.kind x.1 c rest e f
not_both_tags (Err fault) c rest e f = cc

begins_not_closed : (octets : List ℕ) (held : Content) (rest : List ℕ) → Holds a_property octets held rest → IsClosed octets → ⊥
begins_not_closed octets held rest (tagged own begins is) closed =
    not_both_tags (tag_or (tag_at octets)) (own, rest) closed.0 (content_only 0 octets own rest (omega arith) begins) (closed_again octets closed.0 closed.1)

-- a name isn't a closing tag
name_not_closed : (octets : List ℕ) (p : ℕ) (i : Option ℕ) (rest : List ℕ) → AreOctets octets → IsNamed octets p i rest → IsClosed octets → ⊥
name_not_closed octets p (Some i) rest fits (with_index middle named index) closed = begins_not_closed octets (number p) middle named.holds closed
name_not_closed octets p None rest fits (whole named absent) closed = begins_not_closed octets (number p) rest named.holds closed

pub reference_again : (current : Option Object) (octets : List ℕ) (r : Reference) (rest : List ℕ) → AreOctets octets → IsReference current octets r rest → reference_at current octets ≡ Ok (r, rest)
reference_again None octets r rest fits (in_new_list {p = p} {i = i} id a b is opens named) =
    let fits_a = front_fits octets id a fits is in
    let fits_b = inner_fits a b fits_a opens in
    ap (λ (x : Typed Object). x >>= at_id) (object_again octets id a fits is)
    ∙ ap (λ (x : Result (List ℕ) BodyFault). x >>= at_inner id) (opened_again a b opens)
    ∙ first_named id b fits_b (name_not_closed b p i rest fits_b named)
    ∙ named_again true id b p i rest fits_b named
reference_again (Some id) octets r rest fits (in_same_list {p = p} {i = i} named) = named_again false id octets p i rest fits named

pub bad_reference_again : (fault : BodyFault) (current : Option Object) (octets : List ℕ) → AreOctets octets → IsBadReference fault current octets → reference_at current octets ≡ Err fault
bad_reference_again fault None octets fits (at_object is) = ap (λ (x : Typed Object). x >>= at_id) (object_wrong octets fault fits is)
bad_reference_again fault None octets fits (at_opening id rest is bad) =
    ap (λ (x : Typed Object). x >>= at_id) (object_again octets id rest fits is)
    ∙ ap (λ (x : Result (List ℕ) BodyFault). x >>= at_inner id) (wrong_opening_again rest fault (front_fits octets id rest fits is) bad)
bad_reference_again fault None octets fits (empty_list id a b is opens closed missing) =
    ap (λ (x : Typed Object). x >>= at_id) (object_again octets id a fits is)
    ∙ ap (λ (x : Result (List ℕ) BodyFault). x >>= at_inner id) (opened_again a b opens)
    ∙ ap (first_at id b) (closed_again b closed.0 closed.1)
    ∙ ap Err (sym missing)
bad_reference_again fault None octets fits (at_first id a b is opens open_list bad) =
    let fits_a = front_fits octets id a fits is in
    let fits_b = inner_fits a b fits_a opens in
    ap (λ (x : Typed Object). x >>= at_id) (object_again octets id a fits is)
    ∙ ap (λ (x : Result (List ℕ) BodyFault). x >>= at_inner id) (opened_again a b opens)
    ∙ first_named id b fits_b open_list
    ∙ bad_name_again true id b fault fits_b bad
bad_reference_again fault (Some id) octets fits (at_next bad) = bad_name_again false id octets fault fits bad

pub reference_fits : (current : Option Object) (octets : List ℕ) (r : Reference) (rest : List ℕ) → AreOctets octets → IsReference current octets r rest → AreOctets rest
reference_fits None octets r rest fits (in_new_list {p = p} {i = i} id a b is opens named) = named_fits b p i rest (inner_fits a b (front_fits octets id a fits is) opens) named
reference_fits (Some id) octets r rest fits (in_same_list {p = p} {i = i} named) = named_fits octets p i rest fits named

-- what is where a reference is due
pub data ReferenceBe (current : Option Object) (octets : List ℕ) : Type 0 where
  r_right : (r : Reference) (rest : List ℕ) → IsReference current octets r rest → ReferenceBe current octets
  r_wrong : (fault : BodyFault) → IsBadReference fault current octets → ReferenceBe current octets

first_in : (octets : List ℕ) (id : Object) (a b : List ℕ) → Begins the_object octets (object id) a → BeginsWith a (context 1 Opening) b → ClosedBe b → NameBe b → ReferenceBe None octets
first_in octets id a b is opens (c_closed rest closed e) name = r_wrong Missing (empty_list id a b is opens (rest, closed) refl)
first_in octets id a b is opens (c_not open_list fault e) (n_right p i rest named) = r_right (reference true id p i) rest (in_new_list id a b is opens named)
first_in octets id a b is opens (c_not open_list fault e) (n_wrong bad named) = r_wrong bad (at_first id a b is opens open_list named)

first_open : (octets : List ℕ) (id : Object) (a : List ℕ) → AreOctets a → Begins the_object octets (object id) a → OpeningBe a → ReferenceBe None octets
first_open octets id a fits is (o_wrong fault bad) = r_wrong fault (at_opening id a is bad)
first_open octets id a fits is (o_right b opens) =
    let fits_b = inner_fits a b fits opens in
    first_in octets id a b is opens (closed_be b fits_b) (name_be b fits_b)

pub reference_be : (current : Option Object) (octets : List ℕ) → AreOctets octets → ReferenceBe current octets
reference_be None octets fits = elim (object_be octets fits) [
  | t_wrong fault bad e ↦ r_wrong fault (at_object bad)
  | t_right id a is e ↦ let fits_a = front_fits octets id a fits is in first_open octets id a fits_a is (opening_be a fits_a)
]
reference_be (Some id) octets fits = elim (name_be octets fits) [
  | n_right p i rest named ↦ r_right (reference false id p i) rest (in_same_list named)
  | n_wrong fault bad ↦ r_wrong fault (at_next bad)
]

-- a list that goes on isn't closed there
pub reference_not_closed : (id : Object) (octets : List ℕ) (r : Reference) (rest : List ℕ) → AreOctets octets → IsReference (Some id) octets r rest → IsClosed octets → ⊥
reference_not_closed id octets r rest fits (in_same_list {p = p} {i = i} named) closed = name_not_closed octets p i rest fits named closed
