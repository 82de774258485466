-- What is where a parameter is due: read exactly if it is the parameter, and else exactly a fault.
use Rattle.std.proofs.Common.{◌≡◌, ◌≢◌, ℕ, ◌<◌, Bool, true, false, ltb, List, [], ◌∷◌, ◌++◌, Option, Some, None, Result, Ok, Err, refl, sym, ap, subst, ◌∙◌, inl, inr, ◌⊎◌}
use Rattle.std.specs.Option.{ok_or}
use Rattle.std.proofs.lemmas.Bool.{ltb-true}
use Rattle.gw_addr.specs.Reading.{◌>>=◌, AreOctets}
use Rattle.gw_addr.proofs.Reading.{AreOctets-rest, ok_is, either}
use Rattle.gw_codecs.specs.declared.tags.tag.Kind.TheVariants.{Opening}
use Rattle.gw_codecs.specs.declared.tags.fault.ContextFault.{ContextFault}
use Rattle.gw_codecs.specs.declared.tags.fault.ContextFault.TheVariants as tags
use Rattle.gw_codecs.specs.declared.tags.fault.ValueFault.{ValueFault}
use Rattle.gw_codecs.specs.tags.List.{context, EndsList}
use Rattle.gw_codecs.specs.tags.Tag.{BeginsWith}
use Rattle.gw_codecs.specs.tags.Context.{BeginsWithContent}
use Rattle.gw_codecs.specs.tags.ContextReading.{content_at, opening_at}
use Rattle.gw_codecs.specs.tags.Walk.{list_at}
use Rattle.gw_codecs.specs.tags.Reading.{value_at}
use Rattle.gw_codecs.specs.tags.Object.{Object}
use Rattle.gw_codecs.specs.tags.Value.{Value, null, boolean, unsigned, signed, real, double, octet_string, character_string, bit_string, enumerated, date, time, object_id, BeginsWithValue, IsValue}
use Rattle.gw_codecs.proofs.tags_lemmas.Octets.{behind_octets, none as no_octets, one_more}
use Rattle.gw_codecs.proofs.tags_lemmas.ContextLaws.{content_found, content_only, content_is_other, opening_found, opening_only}
use Rattle.gw_codecs.proofs.tags_lemmas.ListLaws.{list_found, list_only}
use Rattle.gw_codecs.proofs.tags_lemmas.ValueFaults.{value_found, value_only}
use Rattle.gw_codecs.proofs.tags_lemmas.Written.{value_within}
use Rattle.gw_codecs.specs.declared.services.fault.BodyFault.{BodyFault}
use Rattle.gw_codecs.specs.declared.services.fault.BodyFault.TheVariants.{InvalidTag, Missing, OutOfRange, TooMany, Inconsistent, Memory}
use Rattle.gw_codecs.specs.services.Parameter.{Content, object, number, values, text, Shape, Parameter, under, between, plain_object, plain_unsigned, plain_enumerated, plain_text, IsContentOf, Holds, tagged, enclosed, an_object_value, an_unsigned_value, an_enumerated_value, a_text_value, in_range, allows}
use Rattle.gw_codecs.specs.services.Body.{Begins, IsAbsent, IsWrong, body_ends, something_else, outside_its_range}
use Rattle.gw_codecs.specs.services.Reading.{or_invalid, or_invalid_value, due_at, given_at, values_at, value_of_kind_at, number_of_kind_at, object_value, unsigned_value, enumerated_value, text_value}
use Rattle.gw_codecs.proofs.services_lemmas.Contents.{interpret, content_none, content_past, content_is, interpreted, one_content, either_bool}

abbrev pub Found : Type 0
Found = Content × List ℕ

-- a content, and what follows it
abbrev pub content_of : Shape → List ℕ × List ℕ → Result Found BodyFault
content_of shape c = interpret shape c.0 >>= λ held. Ok (held, c.1)

-- what a parameter that has to be there holds
abbrev pub must_at : Parameter → List ℕ → Result Found BodyFault
must_at (under tag shape) octets = due_at tag octets >>= content_of shape
must_at (between tag) octets = values_at tag octets >>= λ x. Ok (values x.0, x.1)
must_at plain_object octets = value_of_kind_at object_value octets >>= λ x. Ok (object x.0, x.1)
must_at (plain_unsigned least most) octets = number_of_kind_at unsigned_value least most octets >>= λ x. Ok (number x.0, x.1)
must_at (plain_enumerated least most) octets = number_of_kind_at enumerated_value least most octets >>= λ x. Ok (number x.0, x.1)
must_at plain_text octets = value_of_kind_at text_value octets >>= λ x. Ok (text x.0.0 x.0.1, x.1)

-- the number of its context tag is one that a tag can have
abbrev pub is_small : Parameter → Bool
is_small (under tag shape) = ltb tag 255
is_small (between tag) = ltb tag 255
is_small _ = true

-- what octets are where the parameter is due
pub data Due (p : Parameter) (octets : List ℕ) : Type 0 where
  ends : octets ≡ [] → must_at p octets ≡ Err Missing → Due p octets
  other : octets ≢ [] → ((held : Content) (rest : List ℕ) → Holds p octets held rest → ⊥) → must_at p octets ≡ Err InvalidTag → Due p octets
  past : (held : Content) (rest : List ℕ) → Holds p octets held rest → allows p held ≡ false → must_at p octets ≡ Err OutOfRange → Due p octets
  there : (held : Content) (rest : List ℕ) → Holds p octets held rest → allows p held ≡ true → must_at p octets ≡ Ok (held, rest) → Due p octets

some_octets : (o : ℕ) (os : List ℕ) → (o ∷ os) ≢ []
some_octets o os e = cc

-- ---- a content under a context tag

no_content : (tag : ℕ) (shape : Shape) (octets : List ℕ) (fault : ContextFault) → tag < 255 → content_at tag octets ≡ Err fault → (held : Content) (rest : List ℕ) → Holds (under tag shape) octets held rest → ⊥
no_content tag shape octets fault small e held rest (tagged own begins is) = let read = content_only tag octets own rest small begins in cc

no_shape : (tag : ℕ) (shape : Shape) (octets : List ℕ) (c : List ℕ × List ℕ) → tag < 255 → content_at tag octets ≡ Ok c → ((held : Content) → IsContentOf shape c.0 held → ⊥) → (held : Content) (rest : List ℕ) → Holds (under tag shape) octets held rest → ⊥
no_shape tag shape octets c small e refused held rest (tagged own begins is) =
    let same : (own, rest) ≡ c = ok_is {F = ContextFault} _ c (sym (content_only tag octets own rest small begins) ∙ e) in
    let content : own ≡ c.0 = ap (λ (p : List ℕ × List ℕ). p.0) same in
    refused held (subst (λ (o : List ℕ). IsContentOf shape o held) content is)

own_fits : (tag : ℕ) (octets own rest : List ℕ) → AreOctets octets → BeginsWithContent tag octets own rest → AreOctets (own ++ rest)
own_fits tag octets own rest fits begins = behind_octets begins.header (own ++ rest) (subst AreOctets begins.parts fits)

front_fits : (xs ys : List ℕ) → AreOctets (xs ++ ys) → AreOctets xs
front_fits [] ys fits = no_octets
front_fits (x ∷ xs) ys fits = one_more x xs (fits 0) (front_fits xs ys (AreOctets-rest x (xs ++ ys) fits))

due_content : (tag : ℕ) (shape : Shape) (o : ℕ) (os : List ℕ) (c : List ℕ × List ℕ) → AreOctets (o ∷ os) → tag < 255 → content_at tag (o ∷ os) ≡ Ok c → Due (under tag shape) (o ∷ os)
due_content tag shape o os c fits small e =
    let octets = o ∷ os in
    let begins = content_found tag octets c.0 c.1 fits e in
    let read : must_at (under tag shape) octets ≡ content_of shape c = ap (λ (r : Result (List ℕ × List ℕ) ContextFault). or_invalid r >>= content_of shape) e in
    elim (interpreted shape c.0 (front_fits c.0 c.1 (own_fits tag octets c.0 c.1 fits begins))) [
      | content_none refused is ↦ other (some_octets o os) (no_shape tag shape octets c small e refused) (read ∙ rw is refl)
      | content_past held is never reads ↦ past held c.1 (tagged c.0 begins is) never (read ∙ rw reads refl)
      | content_is held is inside reads ↦ there held c.1 (tagged c.0 begins is) inside (read ∙ rw reads refl)
    ]

due_under : (tag : ℕ) (shape : Shape) (octets : List ℕ) → AreOctets octets → tag < 255 → Due (under tag shape) octets
due_under tag shape [] fits small = ends refl refl
due_under tag shape (o ∷ os) fits small = elim (either (content_at tag (o ∷ os))) [
  | inl (c, e) ↦ due_content tag shape o os c fits small e
  | inr (fault, e) ↦
      other (some_octets o os) (no_content tag shape (o ∷ os) fault small e)
      (ap (λ (r : Result (List ℕ × List ℕ) ContextFault). or_invalid r >>= content_of shape) e)
]

-- ---- values between tags

no_opening : (tag : ℕ) (octets : List ℕ) (fault : ContextFault) → tag < 255 → opening_at tag octets ≡ Err fault → (held : Content) (rest : List ℕ) → Holds (between tag) octets held rest → ⊥
no_opening tag octets fault small e held rest (enclosed inner begins is) = let read = opening_only tag octets inner small begins in cc

no_list : (tag : ℕ) (octets inner : List ℕ) → tag < 255 → opening_at tag octets ≡ Ok inner → list_at tag inner ≡ None → (held : Content) (rest : List ℕ) → Holds (between tag) octets held rest → ⊥
no_list tag octets inner small e lacks held rest (enclosed {own = own} at begins is) =
    let same : at ≡ inner = ok_is {F = ContextFault} at inner (sym (opening_only tag octets at small begins) ∙ e) in
    let read : list_at tag inner ≡ Some (own, rest) = ap (list_at tag) (sym same) ∙ list_only tag at own rest is in
    cc

either_option : {A : Type 0} (r : Option A) → ((x : A) × (r ≡ Some x)) ⊎ (r ≡ None)
either_option (Some x) = inl (x, refl)
either_option None = inr refl

abbrev listed : ℕ → List ℕ → Result Found BodyFault
listed tag inner = ok_or (list_at tag inner) InvalidTag >>= λ x. Ok (values x.0, x.1)

due_inner : (tag : ℕ) (o : ℕ) (os inner : List ℕ) → AreOctets (o ∷ os) → tag < 255 → opening_at tag (o ∷ os) ≡ Ok inner → Due (between tag) (o ∷ os)
due_inner tag o os inner fits small e =
    let octets = o ∷ os in
    let begins = opening_found tag octets inner fits e in
    let inner_fits = behind_octets begins.front inner (subst AreOctets begins.parts fits) in
    let read : must_at (between tag) octets ≡ listed tag inner = ap (λ (r : Result (List ℕ) ContextFault). (or_invalid r >>= λ i. ok_or (list_at tag i) InvalidTag) >>= λ x. Ok (values x.0, x.1)) e in
    elim (either_option (list_at tag inner)) [
      | inl (x, is) ↦ there (values x.0) x.1 (enclosed inner begins (list_found tag inner x.0 x.1 inner_fits is)) refl (read ∙ rw is refl)
      | inr lacks ↦ other (some_octets o os) (no_list tag octets inner small e lacks) (read ∙ rw lacks refl)
    ]

due_between : (tag : ℕ) (octets : List ℕ) → AreOctets octets → tag < 255 → Due (between tag) octets
due_between tag [] fits small = ends refl refl
due_between tag (o ∷ os) fits small = elim (either (opening_at tag (o ∷ os))) [
  | inl (inner, e) ↦ due_inner tag o os inner fits small e
  | inr (fault, e) ↦
      other (some_octets o os) (no_opening tag (o ∷ os) fault small e)
      (ap (λ (r : Result (List ℕ) ContextFault). (or_invalid r >>= λ i. ok_or (list_at tag i) InvalidTag) >>= λ x. Ok (values x.0, x.1)) e)
]

-- ---- application values of one kind

data Kinded {A : Type 0} (kind : Value → Option A) (make : A → Value) (octets : List ℕ) : Type 0 where
  kind_ends : octets ≡ [] → value_of_kind_at kind octets ≡ Err Missing → Kinded kind make octets
  kind_other : octets ≢ [] → ((a : A) (rest : List ℕ) → IsValue (make a) → BeginsWithValue octets (make a) rest → ⊥) → value_of_kind_at kind octets ≡ Err InvalidTag → Kinded kind make octets
  kind_there : (a : A) (rest : List ℕ) → IsValue (make a) → BeginsWithValue octets (make a) rest → value_of_kind_at kind octets ≡ Ok (a, rest) → Kinded kind make octets

abbrev Valued : Type 0
Valued = Result (Value × List ℕ) ValueFault

abbrev kind_of : {A : Type 0} → (Value → Option A) → Value × List ℕ → Result (A × List ℕ) BodyFault
kind_of kind x = ok_or (kind x.0) InvalidTag >>= λ own. Ok (own, x.1)

module _ {A : Type 0} (kind : Value → Option A) (make : A → Value) (to : (v : Value) (a : A) → kind v ≡ Some a → v ≡ make a) (from : (a : A) → kind (make a) ≡ Some a) where
  no_value : (octets : List ℕ) (fault : ValueFault) → value_at octets ≡ Err fault → (a : A) (rest : List ℕ) → IsValue (make a) → BeginsWithValue octets (make a) rest → ⊥
  no_value octets fault e a rest is begins = let read = value_only octets (make a) rest is.text begins in cc

  no_kind : (octets : List ℕ) (v : Value) (behind : List ℕ) → value_at octets ≡ Ok (v, behind) → kind v ≡ None → (a : A) (rest : List ℕ) → IsValue (make a) → BeginsWithValue octets (make a) rest → ⊥
  no_kind octets v behind e lacks a rest is begins =
      let same : (make a, rest) ≡ (v, behind) = ok_is {F = ValueFault} _ _ (sym (value_only octets (make a) rest is.text begins) ∙ e) in
      let value : make a ≡ v = ap (λ (p : Value × List ℕ). p.0) same in
      let of_kind : kind v ≡ Some a = ap kind (sym value) ∙ from a in
      cc

  kinded : (octets : List ℕ) → AreOctets octets → Kinded kind make octets
  kinded [] fits = kind_ends refl refl
  kinded (o ∷ os) fits = elim (either (value_at (o ∷ os))) [
    | inr (fault, e) ↦ kind_other (some_octets o os) (no_value (o ∷ os) fault e) (ap (λ (r : Valued). or_invalid_value r >>= kind_of kind) e)
    | inl (x, e) ↦
        let read : value_of_kind_at kind (o ∷ os) ≡ kind_of kind x = ap (λ (r : Valued). or_invalid_value r >>= kind_of kind) e in
        elim (either_option (kind x.0)) [
          | inr lacks ↦ kind_other (some_octets o os) (no_kind (o ∷ os) x.0 x.1 e lacks) (read ∙ rw lacks refl)
          | inl (a, is) ↦
              let stands = value_found (o ∷ os) x.0 x.1 fits e in
              let value = to x.0 a is in
              let valid = value_within (o ∷ os) x.0 x.1 stands.0 stands.1 in
              kind_there a x.1 (subst IsValue value valid) (subst (λ (v : Value). BeginsWithValue (o ∷ os) v x.1) value stands.0) (read ∙ rw is refl)
        ]
  ]

to_object : (v : Value) (a : Object) → object_value v ≡ Some a → v ≡ object_id a
to_object (object_id id) a e = cc
to_object null a e = absurd cc
to_object (boolean b) a e = absurd cc
to_object (unsigned n) a e = absurd cc
to_object (signed z) a e = absurd cc
to_object (real own) a e = absurd cc
to_object (double own) a e = absurd cc
to_object (octet_string own) a e = absurd cc
to_object (character_string charset own) a e = absurd cc
to_object (bit_string unused own) a e = absurd cc
to_object (enumerated n) a e = absurd cc
to_object (date own) a e = absurd cc
to_object (time own) a e = absurd cc

to_unsigned : (v : Value) (a : ℕ) → unsigned_value v ≡ Some a → v ≡ unsigned a
to_unsigned (unsigned n) a e = cc
to_unsigned null a e = absurd cc
to_unsigned (boolean b) a e = absurd cc
to_unsigned (object_id id) a e = absurd cc
to_unsigned (signed z) a e = absurd cc
to_unsigned (real own) a e = absurd cc
to_unsigned (double own) a e = absurd cc
to_unsigned (octet_string own) a e = absurd cc
to_unsigned (character_string charset own) a e = absurd cc
to_unsigned (bit_string unused own) a e = absurd cc
to_unsigned (enumerated n) a e = absurd cc
to_unsigned (date own) a e = absurd cc
to_unsigned (time own) a e = absurd cc

to_enumerated : (v : Value) (a : ℕ) → enumerated_value v ≡ Some a → v ≡ enumerated a
to_enumerated (enumerated n) a e = cc
to_enumerated null a e = absurd cc
to_enumerated (boolean b) a e = absurd cc
to_enumerated (unsigned n) a e = absurd cc
to_enumerated (object_id id) a e = absurd cc
to_enumerated (signed z) a e = absurd cc
to_enumerated (real own) a e = absurd cc
to_enumerated (double own) a e = absurd cc
to_enumerated (octet_string own) a e = absurd cc
to_enumerated (character_string charset own) a e = absurd cc
to_enumerated (bit_string unused own) a e = absurd cc
to_enumerated (date own) a e = absurd cc
to_enumerated (time own) a e = absurd cc

abbrev text_of : ℕ × List ℕ → Value
text_of t = character_string t.0 t.1

to_text : (v : Value) (a : ℕ × List ℕ) → text_value v ≡ Some a → v ≡ text_of a
to_text (character_string charset own) a e = cc
to_text null a e = absurd cc
to_text (boolean b) a e = absurd cc
to_text (unsigned n) a e = absurd cc
to_text (object_id id) a e = absurd cc
to_text (signed z) a e = absurd cc
to_text (real own) a e = absurd cc
to_text (double own) a e = absurd cc
to_text (octet_string own) a e = absurd cc
to_text (bit_string unused own) a e = absurd cc
to_text (enumerated n) a e = absurd cc
to_text (date own) a e = absurd cc
to_text (time own) a e = absurd cc

no_object_value : (octets : List ℕ) → ((a : Object) (rest : List ℕ) → IsValue (object_id a) → BeginsWithValue octets (object_id a) rest → ⊥) → (held : Content) (rest : List ℕ) → Holds plain_object octets held rest → ⊥
no_object_value octets refused held rest (an_object_value id is begins) = refused id rest is begins

due_object : (octets : List ℕ) → AreOctets octets → Due plain_object octets
due_object octets fits = elim (kinded object_value object_id to_object (λ a. refl) octets fits) [
  | kind_ends empty reads ↦ ends empty (rw reads refl)
  | kind_other some refused reads ↦ other some (no_object_value octets refused) (rw reads refl)
  | kind_there a rest is begins reads ↦ there (object a) rest (an_object_value a is begins) refl (rw reads refl)
]

no_text_value : (octets : List ℕ) → ((a : ℕ × List ℕ) (rest : List ℕ) → IsValue (text_of a) → BeginsWithValue octets (text_of a) rest → ⊥) → (held : Content) (rest : List ℕ) → Holds plain_text octets held rest → ⊥
no_text_value octets refused held rest (a_text_value charset own is begins) = refused (charset, own) rest is begins

due_text : (octets : List ℕ) → AreOctets octets → Due plain_text octets
due_text octets fits = elim (kinded text_value text_of to_text (λ a. refl) octets fits) [
  | kind_ends empty reads ↦ ends empty (rw reads refl)
  | kind_other some refused reads ↦ other some (no_text_value octets refused) (rw reads refl)
  | kind_there a rest is begins reads ↦ there (text a.0 a.1) rest (a_text_value a.0 a.1 is begins) refl (rw reads refl)
]

no_unsigned_value : (least most : ℕ) (octets : List ℕ) → ((a : ℕ) (rest : List ℕ) → IsValue (unsigned a) → BeginsWithValue octets (unsigned a) rest → ⊥) → (held : Content) (rest : List ℕ) → Holds (plain_unsigned least most) octets held rest → ⊥
no_unsigned_value least most octets refused held rest (an_unsigned_value n is begins) = refused n rest is begins

due_unsigned : (least most : ℕ) (octets : List ℕ) → AreOctets octets → Due (plain_unsigned least most) octets
due_unsigned least most octets fits = elim (kinded unsigned_value unsigned to_unsigned (λ a. refl) octets fits) [
  | kind_ends empty reads ↦ ends empty (rw reads refl)
  | kind_other some refused reads ↦ other some (no_unsigned_value least most octets refused) (rw reads refl)
  | kind_there a rest is begins reads ↦ elim (either_bool (in_range least most a)) [
    | inl inside ↦ there (number a) rest (an_unsigned_value a is begins) inside (rw (reads, inside) refl)
    | inr never ↦ past (number a) rest (an_unsigned_value a is begins) never (rw (reads, never) refl)
  ]
]

no_enumerated_value : (least most : ℕ) (octets : List ℕ) → ((a : ℕ) (rest : List ℕ) → IsValue (enumerated a) → BeginsWithValue octets (enumerated a) rest → ⊥) → (held : Content) (rest : List ℕ) → Holds (plain_enumerated least most) octets held rest → ⊥
no_enumerated_value least most octets refused held rest (an_enumerated_value n is begins) = refused n rest is begins

due_enumerated : (least most : ℕ) (octets : List ℕ) → AreOctets octets → Due (plain_enumerated least most) octets
due_enumerated least most octets fits = elim (kinded enumerated_value enumerated to_enumerated (λ a. refl) octets fits) [
  | kind_ends empty reads ↦ ends empty (rw reads refl)
  | kind_other some refused reads ↦ other some (no_enumerated_value least most octets refused) (rw reads refl)
  | kind_there a rest is begins reads ↦ elim (either_bool (in_range least most a)) [
    | inl inside ↦ there (number a) rest (an_enumerated_value a is begins) inside (rw (reads, inside) refl)
    | inr never ↦ past (number a) rest (an_enumerated_value a is begins) never (rw (reads, never) refl)
  ]
]

pub due : (p : Parameter) (octets : List ℕ) → is_small p ≡ true → AreOctets octets → Due p octets
due (under tag shape) octets small fits = due_under tag shape octets fits (ltb-true _ _ small)
due (between tag) octets small fits = due_between tag octets fits (ltb-true _ _ small)
due plain_object octets small fits = due_object octets fits
due (plain_unsigned least most) octets small fits = due_unsigned least most octets fits
due (plain_enumerated least most) octets small fits = due_enumerated least most octets fits
due plain_text octets small fits = due_text octets fits

-- ---- one reading

content_once : (tag : ℕ) (octets a r b s : List ℕ) → tag < 255 → BeginsWithContent tag octets a r → BeginsWithContent tag octets b s → (a ≡ b) × (r ≡ s)
content_once tag octets a r b s small x y =
    let same : (a, r) ≡ (b, s) = ok_is {F = ContextFault} _ _ (sym (content_only tag octets a r small x) ∙ content_only tag octets b s small y) in
    (ap (λ (p : List ℕ × List ℕ). p.0) same, ap (λ (p : List ℕ × List ℕ). p.1) same)

abbrev some_pair : List ℕ × List ℕ → Option (List ℕ × List ℕ)
some_pair x = Some x

some_is : (x y : List ℕ × List ℕ) → some_pair x ≡ some_pair y → x ≡ y
some_is x y e = cc

values_once : (tag : ℕ) (octets a r b s i j : List ℕ) → tag < 255 → BeginsWith octets (context tag Opening) i → EndsList tag i a r → BeginsWith octets (context tag Opening) j → EndsList tag j b s → (a ≡ b) × (r ≡ s)
values_once tag octets a r b s i j small x xs y ys =
    let inner : i ≡ j = ok_is {F = ContextFault} i j (sym (opening_only tag octets i small x) ∙ opening_only tag octets j small y) in
    let same : (a, r) ≡ (b, s) = some_is _ _ (sym (list_only tag i a r xs) ∙ ap (list_at tag) inner ∙ list_only tag j b s ys) in
    (ap (λ (p : List ℕ × List ℕ). p.0) same, ap (λ (p : List ℕ × List ℕ). p.1) same)

value_once : (octets r s : List ℕ) (v w : Value) → IsValue v → IsValue w → BeginsWithValue octets v r → BeginsWithValue octets w s → (v ≡ w) × (r ≡ s)
value_once octets r s v w is_v is_w x y =
    let same : (v, r) ≡ (w, s) = ok_is {F = ValueFault} _ _ (sym (value_only octets v r is_v.text x) ∙ value_only octets w s is_w.text y) in
    (ap (λ (p : Value × List ℕ). p.0) same, ap (λ (p : Value × List ℕ). p.1) same)

abbrev Same : Content → Content → List ℕ → List ℕ → Type 0
Same a b r s = (a ≡ b) × (r ≡ s)

once : (p : Parameter) (octets : List ℕ) (a b : Content) (r s : List ℕ) → is_small p ≡ true → Holds p octets a r → Holds p octets b s → Same a b r s
once (under tag shape) octets a b r s small (tagged own begins is) (tagged own' begins' is') =
    let same = content_once tag octets own r own' s (ltb-true _ _ small) begins begins' in
    (one_content shape own' a b (subst (λ (o : List ℕ). IsContentOf shape o a) same.0 is) is', same.1)
once (between tag) octets a b r s small (enclosed {own = own} i begins is) (enclosed {own = own'} j begins' is') =
    let same = values_once tag octets own r own' s i j (ltb-true _ _ small) begins is begins' is' in
    (ap values same.0, same.1)
once plain_object octets a b r s small (an_object_value x is begins) (an_object_value y is' begins') =
    let same = value_once octets r s (object_id x) (object_id y) is is' begins begins' in
    (ap object (let e = same.0 in cc), same.1)
once (plain_unsigned least most) octets a b r s small (an_unsigned_value x is begins) (an_unsigned_value y is' begins') =
    let same = value_once octets r s (unsigned x) (unsigned y) is is' begins begins' in
    (ap number (let e = same.0 in cc), same.1)
once (plain_enumerated least most) octets a b r s small (an_enumerated_value x is begins) (an_enumerated_value y is' begins') =
    let same = value_once octets r s (enumerated x) (enumerated y) is is' begins begins' in
    (ap number (let e = same.0 in cc), same.1)
once plain_text octets a b r s small (a_text_value x o is begins) (a_text_value y o' is' begins') =
    let same = value_once octets r s (character_string x o) (character_string y o') is is' begins begins' in
    ((let e = same.0 in cc), same.1)

-- ---- octets follow it

pub rest_fits : (p : Parameter) (octets : List ℕ) (held : Content) (rest : List ℕ) → AreOctets octets → Holds p octets held rest → AreOctets rest
rest_fits (under tag shape) octets held rest fits (tagged own begins is) =
    behind_octets own rest (own_fits tag octets own rest fits begins)
rest_fits (between tag) octets held rest fits (enclosed {own = own} inner begins is) =
    let inner_fits = behind_octets begins.front inner (subst AreOctets begins.parts fits) in
    behind_octets is.closing rest (behind_octets own (is.closing ++ rest) (subst AreOctets is.parts inner_fits))
rest_fits plain_object octets held rest fits (an_object_value id is begins) = behind_octets begins.front rest (subst AreOctets begins.parts fits)
rest_fits (plain_unsigned least most) octets held rest fits (an_unsigned_value n is begins) = behind_octets begins.front rest (subst AreOctets begins.parts fits)
rest_fits (plain_enumerated least most) octets held rest fits (an_enumerated_value n is begins) = behind_octets begins.front rest (subst AreOctets begins.parts fits)
rest_fits plain_text octets held rest fits (a_text_value charset own is begins) = behind_octets begins.front rest (subst AreOctets begins.parts fits)

-- ---- what is there is read

-- no parameter is where the body ends
not_empty : (p : Parameter) (held : Content) (rest : List ℕ) → is_small p ≡ true → Holds p [] held rest → ⊥
not_empty (under tag shape) held rest small (tagged own begins is) = let read = content_only tag [] own rest (ltb-true _ _ small) begins in cc
not_empty (between tag) held rest small (enclosed inner begins is) = let read = opening_only tag [] inner (ltb-true _ _ small) begins in cc
not_empty plain_object held rest small (an_object_value id is begins) = let read = value_only [] (object_id id) rest is.text begins in cc
not_empty (plain_unsigned least most) held rest small (an_unsigned_value n is begins) = let read = value_only [] (unsigned n) rest is.text begins in cc
not_empty (plain_enumerated least most) held rest small (an_enumerated_value n is begins) = let read = value_only [] (enumerated n) rest is.text begins in cc
not_empty plain_text held rest small (a_text_value charset own is begins) = let read = value_only [] (character_string charset own) rest is.text begins in cc

pub there_again : (p : Parameter) (octets : List ℕ) (held : Content) (rest : List ℕ) → is_small p ≡ true → AreOctets octets → Holds p octets held rest → allows p held ≡ true → must_at p octets ≡ Ok (held, rest)
there_again p octets held rest small fits holds allowed = elim (due p octets small fits) [
  | ends empty reads ↦ absurd (not_empty p held rest small (subst (λ (o : List ℕ). Holds p o held rest) empty holds))
  | other some refused reads ↦ absurd (refused held rest holds)
  | past x r found never reads ↦ absurd (let same = (once p octets x held r rest small found holds).0 in let inside = allowed in cc)
  | there x r found inside reads ↦
      let same = once p octets x held r rest small found holds in
      reads ∙ ap Ok (let e = same.0 in let f = same.1 in cc)
]

pub must_again : (p : Parameter) (octets : List ℕ) (held : Content) (rest : List ℕ) → is_small p ≡ true → AreOctets octets → Begins p octets held rest → must_at p octets ≡ Ok (held, rest)
must_again p octets held rest small fits is = there_again p octets held rest small fits is.holds is.allowed

past_again : (p : Parameter) (octets : List ℕ) (held : Content) (rest : List ℕ) → is_small p ≡ true → AreOctets octets → Holds p octets held rest → allows p held ≡ false → must_at p octets ≡ Err OutOfRange
past_again p octets held rest small fits holds refused = elim (due p octets small fits) [
  | ends empty reads ↦ absurd (not_empty p held rest small (subst (λ (o : List ℕ). Holds p o held rest) empty holds))
  | other some none reads ↦ absurd (none held rest holds)
  | past x r found never reads ↦ reads
  | there x r found inside reads ↦ absurd (let same = (once p octets x held r rest small found holds).0 in let outside = refused in cc)
]

other_again : (p : Parameter) (octets : List ℕ) → is_small p ≡ true → AreOctets octets → octets ≢ [] → ((held : Content) (rest : List ℕ) → Holds p octets held rest → ⊥) → must_at p octets ≡ Err InvalidTag
other_again p octets small fits some none = elim (due p octets small fits) [
  | ends empty reads ↦ absurd (some empty)
  | other more refused reads ↦ reads
  | past x r found never reads ↦ absurd (none x r found)
  | there x r found inside reads ↦ absurd (none x r found)
]

ends_again : (p : Parameter) (octets : List ℕ) → is_small p ≡ true → AreOctets octets → octets ≡ [] → must_at p octets ≡ Err Missing
ends_again p octets small fits empty = elim (due p octets small fits) [
  | ends none reads ↦ reads
  | other some refused reads ↦ absurd (some empty)
  | past x r found never reads ↦ absurd (not_empty p x r small (subst (λ (o : List ℕ). Holds p o x r) empty found))
  | there x r found inside reads ↦ absurd (not_empty p x r small (subst (λ (o : List ℕ). Holds p o x r) empty found))
]

pub wrong_again : (fault : BodyFault) (p : Parameter) (octets : List ℕ) → is_small p ≡ true → AreOctets octets → IsWrong fault p octets → must_at p octets ≡ Err fault
wrong_again Missing p octets small fits (body_ends empty) = ends_again p octets small fits empty
wrong_again InvalidTag p octets small fits (something_else some none) = other_again p octets small fits some none
wrong_again OutOfRange p octets small fits (outside_its_range held rest holds refused) = past_again p octets held rest small fits holds refused
wrong_again TooMany p octets small fits is = elim is [ ]
wrong_again Inconsistent p octets small fits is = elim is [ ]
wrong_again Memory p octets small fits is = elim is [ ]

-- what is read where a parameter is due, or what is wrong there
pub data MustBe (p : Parameter) (octets : List ℕ) : Type 0 where
  wrong : (fault : BodyFault) → IsWrong fault p octets → must_at p octets ≡ Err fault → MustBe p octets
  right : (held : Content) (rest : List ℕ) → Begins p octets held rest → must_at p octets ≡ Ok (held, rest) → MustBe p octets

pub must_be : (p : Parameter) (octets : List ℕ) → is_small p ≡ true → AreOctets octets → MustBe p octets
must_be p octets small fits = elim (due p octets small fits) [
  | ends empty reads ↦ wrong Missing (body_ends empty) reads
  | other some refused reads ↦ wrong InvalidTag (something_else some refused) reads
  | past x r found never reads ↦ wrong OutOfRange (outside_its_range x r found never) reads
  | there x r found inside reads ↦ right x r (record { holds = found; allowed = inside }) reads
]

-- ---- parameters that may be there

abbrev pub FoundMaybe : Type 0
FoundMaybe = Option Content × List ℕ

abbrev pub given_content : Shape → List ℕ → Option (List ℕ × List ℕ) → Result FoundMaybe BodyFault
given_content shape octets None = Ok (None, octets)
given_content shape octets (Some c) = interpret shape c.0 >>= λ held. Ok (Some held, c.1)

abbrev pub may_at : ℕ → Shape → List ℕ → Result FoundMaybe BodyFault
may_at tag shape octets = given_at tag octets >>= given_content shape octets

abbrev pub some_of : Found → Result FoundMaybe BodyFault
some_of x = Ok (Some x.0, x.1)

pub data MayBe (tag : ℕ) (shape : Shape) (octets : List ℕ) : Type 0 where
  is_absent : IsAbsent tag octets → may_at tag shape octets ≡ Ok (None, octets) → MayBe tag shape octets
  is_there : (IsAbsent tag octets → ⊥) → may_at tag shape octets ≡ (must_at (under tag shape) octets >>= some_of) → MayBe tag shape octets

abbrev ContentRead : Type 0
ContentRead = Result (List ℕ × List ℕ) ContextFault

not_absent : (tag : ℕ) (o : ℕ) (os : List ℕ) → AreOctets (o ∷ os) → (content_at tag (o ∷ os) ≡ Err tags.OtherTag → ⊥) → IsAbsent tag (o ∷ os) → ⊥
not_absent tag o os fits never (inl empty) = some_octets o os empty
not_absent tag o os fits never (inr begins) = never ((content_is_other tag (o ∷ os) fits).1 begins)

there_same : (shape : Shape) (octets : List ℕ) (c : List ℕ × List ℕ) → given_content shape octets (Some c) ≡ (content_of shape c >>= some_of)
there_same shape octets c = elim (either (interpret shape c.0)) [
  | inl (held, e) ↦ rw e refl
  | inr (fault, e) ↦ rw e refl
]

may_read : (tag : ℕ) (shape : Shape) (o : ℕ) (os : List ℕ) (r : ContentRead) → AreOctets (o ∷ os) → content_at tag (o ∷ os) ≡ r → MayBe tag shape (o ∷ os)
may_read tag shape o os (Ok c) fits e =
    is_there (not_absent tag o os fits (λ never. let read = e in cc)) (rw e (there_same shape (o ∷ os) c))
may_read tag shape o os (Err tags.Short) fits e = is_there (not_absent tag o os fits (λ never. let read = e in cc)) (rw e refl)
may_read tag shape o os (Err tags.BadTag) fits e = is_there (not_absent tag o os fits (λ never. let read = e in cc)) (rw e refl)
may_read tag shape o os (Err tags.OtherTag) fits e = is_absent (inr ((content_is_other tag (o ∷ os) fits).0 e)) (rw e refl)

pub may_be : (tag : ℕ) (shape : Shape) (octets : List ℕ) → AreOctets octets → MayBe tag shape octets
may_be tag shape [] fits = is_absent (inl refl) refl
may_be tag shape (o ∷ os) fits = may_read tag shape o os (content_at tag (o ∷ os)) fits refl

not_other : (tag : ℕ) (shape : Shape) (octets : List ℕ) (held : Content) (rest : List ℕ) → ltb tag 255 ≡ true → Holds (under tag shape) octets held rest → content_at tag octets ≡ Err tags.OtherTag → ⊥
not_other tag shape octets held rest small (tagged own begins is) e = let read = content_only tag octets own rest (ltb-true _ _ small) begins in cc

-- what is there isn't absent
pub not_both : (tag : ℕ) (shape : Shape) (octets : List ℕ) (held : Content) (rest : List ℕ) → ltb tag 255 ≡ true → AreOctets octets → Begins (under tag shape) octets held rest → IsAbsent tag octets → ⊥
not_both tag shape octets held rest small fits is (inl empty) = not_empty (under tag shape) held rest small (subst (λ (o : List ℕ). Holds (under tag shape) o held rest) empty is.holds)
not_both tag shape octets held rest small fits is (inr begins) = not_other tag shape octets held rest small is.holds ((content_is_other tag octets fits).1 begins)
