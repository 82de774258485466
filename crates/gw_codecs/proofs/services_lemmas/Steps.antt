-- The steps by which a body is read as fields of its own are those by which it is read as contents.
use Rattle.std.proofs.Common.{◌≡◌, ℕ, List, [], ◌∷◌, Option, Some, None, Result, Ok, Err, refl, ap, ◌∙◌}
use Rattle.std.specs.Option.{option_map}
use Rattle.gw_addr.specs.Reading.{◌>>=◌}
use Rattle.gw_codecs.specs.declared.services.fault.BodyFault.{BodyFault}
use Rattle.gw_codecs.specs.services.Parameter.{Content, object, number, text, Shape, an_object, a_number, a_text, Parameter, under}
use Rattle.gw_codecs.specs.services.Body.{Body, done, must, may}
use Rattle.gw_codecs.specs.services.Reading.{due_at, given_at, object_in, number_in, text_in, object_at, number_at, text_at, number_given, number_maybe_at, object_given, object_maybe_at, ended}
use Rattle.gw_codecs.specs.services.Read.{number_held}
use Rattle.gw_codecs.proofs.services_lemmas.Parameters.{Found, FoundMaybe, must_at, may_at, given_content}
use Rattle.gw_codecs.proofs.services_lemmas.Bodies.{Contents, body_at, more, behind_may}

abbrev Pair : Type 0
Pair = List ℕ × List ℕ

-- ---- parameters by their own reading

-- a content that is made of what is read
abbrev pub makes : {A : Type 0} → (A → Content) → A × List ℕ → Result Found BodyFault
makes make x = Ok (make x.0, x.1)

abbrev pub makes_maybe : {A : Type 0} → (A → Content) → Option A × List ℕ → Result FoundMaybe BodyFault
makes_maybe make x = Ok (option_map make x.0, x.1)

inner : {A : Type 0} (i : Result A BodyFault) (make : A → Content) (rest : List ℕ) → ((i >>= λ a. Ok (make a)) >>= λ held. Ok (held, rest)) ≡ ((i >>= λ a. Ok (a, rest)) >>= makes make)
inner (Ok a) make rest = refl
inner (Err fault) make rest = refl

tagged_is : {A : Type 0} (r : Result Pair BodyFault) (read : List ℕ → Result A BodyFault) (make : A → Content) → (r >>= λ c. (read c.0 >>= λ a. Ok (make a)) >>= λ held. Ok (held, c.1)) ≡ ((r >>= λ c. read c.0 >>= λ a. Ok (a, c.1)) >>= makes make)
tagged_is (Ok c) read make = inner (read c.0) make c.1
tagged_is (Err fault) read make = refl

pub must_object : (tag : ℕ) (octets : List ℕ) → must_at (under tag an_object) octets ≡ (object_at tag octets >>= makes object)
must_object tag octets = tagged_is (due_at tag octets) object_in object

pub must_number : (tag least most : ℕ) (octets : List ℕ) → must_at (under tag (a_number least most)) octets ≡ (number_at tag least most octets >>= makes number)
must_number tag least most octets = tagged_is (due_at tag octets) (number_in least most) number

abbrev pub text_made : ℕ × List ℕ → Content
text_made t = text t.0 t.1

pub must_text : (tag : ℕ) (octets : List ℕ) → must_at (under tag a_text) octets ≡ (text_at tag octets >>= makes text_made)
must_text tag octets = tagged_is (due_at tag octets) text_in text_made

inner_maybe : {A : Type 0} (i : Result A BodyFault) (make : A → Content) (rest : List ℕ) → ((i >>= λ a. Ok (make a)) >>= λ held. Ok (Some held, rest)) ≡ ((i >>= λ a. Ok (Some a, rest)) >>= makes_maybe make)
inner_maybe (Ok a) make rest = refl
inner_maybe (Err fault) make rest = refl

number_maybe_is : (r : Result (Option Pair) BodyFault) (least most : ℕ) (octets : List ℕ) → (r >>= given_content (a_number least most) octets) ≡ ((r >>= number_given least most octets) >>= makes_maybe number)
number_maybe_is (Ok None) least most octets = refl
number_maybe_is (Ok (Some c)) least most octets = inner_maybe (number_in least most c.0) number c.1
number_maybe_is (Err fault) least most octets = refl

pub may_number : (tag least most : ℕ) (octets : List ℕ) → may_at tag (a_number least most) octets ≡ (number_maybe_at tag least most octets >>= makes_maybe number)
may_number tag least most octets = number_maybe_is (given_at tag octets) least most octets

object_maybe_is : (r : Result (Option Pair) BodyFault) (octets : List ℕ) → (r >>= given_content an_object octets) ≡ ((r >>= object_given octets) >>= makes_maybe object)
object_maybe_is (Ok None) octets = refl
object_maybe_is (Ok (Some c)) octets = inner_maybe (object_in c.0) object c.1
object_maybe_is (Err fault) octets = refl

pub may_object : (tag : ℕ) (octets : List ℕ) → may_at tag an_object octets ≡ (object_maybe_at tag octets >>= makes_maybe object)
may_object tag octets = object_maybe_is (given_at tag octets) octets

-- ---- what contents say of the fields

pub tells_number : (a b : Option ℕ) → number_held a ≡ number_held b → a ≡ b
tells_number None None e = refl
tells_number None (Some n) e = absurd cc
tells_number (Some n) None e = absurd cc
tells_number (Some n) (Some m) e = cc

-- ---- steps

pub bind_assoc : {A B C : Type 0} (r : Result A BodyFault) (f : A → Result B BodyFault) (g : B → Result C BodyFault) → ((r >>= f) >>= g) ≡ (r >>= λ x. f x >>= g)
bind_assoc (Ok x) f g = refl
bind_assoc (Err fault) f g = refl

-- contents that are put together with those before them
abbrev pub joined : (Contents → Contents) → Result Contents BodyFault → Result Contents BodyFault
joined join r = r >>= λ held. Ok (join held)

abbrev pub held_of : {D : Type 0} → (D → Contents) → Result D BodyFault → Result Contents BodyFault
held_of held r = r >>= λ d. Ok (held d)

one_more : (r : Result Contents BodyFault) (first : Content) (join : Contents → Contents) → joined join (r >>= more first) ≡ joined (λ held. join (first ∷ held)) r
one_more (Ok held) first join = refl
one_more (Err fault) first join = refl

module _ {A D : Type 0} (held : D → Contents) (make : A → Content) (join : Contents → Contents) where
  must_then : (body : Body) (r : Result (A × List ℕ) BodyFault) (next : A × List ℕ → Result D BodyFault)
      → ((x : A × List ℕ) → joined (λ others. join (make x.0 ∷ others)) (body_at body x.1) ≡ held_of held (next x))
      → joined join ((r >>= makes make) >>= λ x. body_at body x.1 >>= more x.0) ≡ held_of held (r >>= next)
  must_then body (Ok x) next later = one_more (body_at body x.1) (make x.0) join ∙ later x
  must_then body (Err fault) next later = refl

  pub must_step : (p : Parameter) (body : Body) (octets : List ℕ) (r : Result (A × List ℕ) BodyFault) (next : A × List ℕ → Result D BodyFault)
      → must_at p octets ≡ (r >>= makes make)
      → ((x : A × List ℕ) → joined (λ others. join (make x.0 ∷ others)) (body_at body x.1) ≡ held_of held (next x))
      → joined join (body_at (must p body) octets) ≡ held_of held (r >>= next)
  must_step p body octets r next is later =
      ap (λ (m : Result Found BodyFault). joined join (m >>= λ x. body_at body x.1 >>= more x.0)) is ∙ must_then body r next later

  may_then : (behind without : Body) (r : Result (Option A × List ℕ) BodyFault) (next : Option A × List ℕ → Result D BodyFault)
      → ((a : A) (rest : List ℕ) → joined (λ others. join (make a ∷ others)) (body_at behind rest) ≡ held_of held (next (Some a, rest)))
      → ((rest : List ℕ) → joined join (body_at without rest) ≡ held_of held (next (None, rest)))
      → joined join ((r >>= makes_maybe make) >>= behind_may behind without) ≡ held_of held (r >>= next)
  may_then behind without (Ok (Some a, rest)) next some other = one_more (body_at behind rest) (make a) join ∙ some a rest
  may_then behind without (Ok (None, rest)) next some other = other rest
  may_then behind without (Err fault) next some other = refl

  pub may_step : (tag : ℕ) (shape : Shape) (behind without : Body) (octets : List ℕ) (r : Result (Option A × List ℕ) BodyFault) (next : Option A × List ℕ → Result D BodyFault)
      → may_at tag shape octets ≡ (r >>= makes_maybe make)
      → ((a : A) (rest : List ℕ) → joined (λ others. join (make a ∷ others)) (body_at behind rest) ≡ held_of held (next (Some a, rest)))
      → ((rest : List ℕ) → joined join (body_at without rest) ≡ held_of held (next (None, rest)))
      → joined join (body_at (may tag shape behind without) octets) ≡ held_of held (r >>= next)
  may_step tag shape behind without octets r next is some other =
      ap (λ (m : Result FoundMaybe BodyFault). joined join (m >>= behind_may behind without)) is ∙ may_then behind without r next some other

pub done_step : {D : Type 0} (held : D → Contents) (join : Contents → Contents) (d : D) (octets : List ℕ) → join [] ≡ held d → joined join (body_at done octets) ≡ held_of held (ended d octets)
done_step held join d [] is = ap Ok is
done_step held join d (o ∷ os) is = refl

pub all_contents : (r : Result Contents BodyFault) → r ≡ joined (λ held. held) r
all_contents (Ok held) = refl
all_contents (Err fault) = refl
