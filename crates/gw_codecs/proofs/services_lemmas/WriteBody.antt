-- The body of WriteProperty.
use Rattle.std.proofs.Common.{◌≡◌, ◌↔◌, ℕ, List, ◌∷◌, ◌++◌, Option, Some, None, Result, Ok, Err, refl, ◌∙◌}
use Rattle.gw_addr.specs.Reading.{◌>>=◌, AreOctets}
use Rattle.gw_codecs.specs.tags.Object.{Object}
use Rattle.gw_codecs.specs.declared.services.fault.BodyFault.{BodyFault}
use Rattle.gw_codecs.specs.services.Limits.{last_property, last_number, last_priority}
use Rattle.gw_codecs.specs.services.Parameter.{object, number, values, an_object, a_number, under, between}
use Rattle.gw_codecs.specs.services.Body.{Body, done, must, may, HasFault}
use Rattle.gw_codecs.specs.services.Reading.{object_at, number_at, number_maybe_at, values_at, ended}
use Rattle.gw_codecs.specs.services.Read.{number_held}
use Rattle.gw_codecs.specs.services.Write.{Write, write_body, write_held, IsWrite, write_at}
use Rattle.gw_codecs.proofs.services_lemmas.Bodies.{Contents, body_at, Reads, service_takes, service_again, service_faults}
use Rattle.gw_codecs.proofs.services_lemmas.Steps.{must_object, must_number, may_number, joined, held_of, must_step, may_step, done_step, all_contents, tells_number}

-- what is to come
abbrev priority_body : Body
priority_body = may 4 (a_number 1 last_priority) done done

abbrev value_body : Body
value_body = must (between 3) priority_body

abbrev index_body : Body
index_body = may 2 (a_number 0 last_number) value_body value_body

abbrev property_body : Body
property_body = must (under 1 (a_number 0 last_property)) index_body

abbrev made : Object → ℕ → Option ℕ → List ℕ → Option ℕ → Write
made o p i v q = record { object = o; property = p; index = i; value = v; priority = q }

-- how it is read
abbrev priority_next : Object → ℕ → Option ℕ → List ℕ → List ℕ → Result Write BodyFault
priority_next o p i v octets = number_maybe_at 4 1 last_priority octets >>= λ q. ended (made o p i v q.0) q.1

abbrev value_next : Object → ℕ → Option ℕ → List ℕ → Result Write BodyFault
value_next o p i octets = values_at 3 octets >>= λ v. priority_next o p i v.0 v.1

abbrev index_next : Object → ℕ → List ℕ → Result Write BodyFault
index_next o p octets = number_maybe_at 2 0 last_number octets >>= λ i. value_next o p i.0 i.1

abbrev property_next : Object → List ℕ → Result Write BodyFault
property_next o octets = number_at 1 0 last_property octets >>= λ p. index_next o p.0 p.1

-- the contents up to the index
abbrev to_index : Object → ℕ → Option ℕ → Contents → Contents
to_index o p i others = object o ∷ number p ∷ (number_held i ++ others)

priority_reads : (o : Object) (p : ℕ) (i : Option ℕ) (v octets : List ℕ) → joined (λ others. to_index o p i (values v ∷ others)) (body_at priority_body octets) ≡ held_of write_held (priority_next o p i v octets)
priority_reads o p i v octets =
    may_step write_held number (λ others. to_index o p i (values v ∷ others)) 4 (a_number 1 last_priority) done done octets
    (number_maybe_at 4 1 last_priority octets) (λ q. ended (made o p i v q.0) q.1)
    (may_number 4 1 last_priority octets)
    (λ n rest. done_step write_held (λ others. to_index o p i (values v ∷ number n ∷ others)) (made o p i v (Some n)) rest refl)
    (λ rest. done_step write_held (λ others. to_index o p i (values v ∷ others)) (made o p i v None) rest refl)

value_reads : (o : Object) (p : ℕ) (i : Option ℕ) (octets : List ℕ) → joined (to_index o p i) (body_at value_body octets) ≡ held_of write_held (value_next o p i octets)
value_reads o p i octets =
    must_step write_held values (to_index o p i) (between 3) priority_body octets
    (values_at 3 octets) (λ v. priority_next o p i v.0 v.1) refl
    (λ x. priority_reads o p i x.0 x.1)

index_reads : (o : Object) (p : ℕ) (octets : List ℕ) → joined (λ others. object o ∷ number p ∷ others) (body_at index_body octets) ≡ held_of write_held (index_next o p octets)
index_reads o p octets =
    may_step write_held number (λ others. object o ∷ number p ∷ others) 2 (a_number 0 last_number) value_body value_body octets
    (number_maybe_at 2 0 last_number octets) (λ i. value_next o p i.0 i.1)
    (may_number 2 0 last_number octets)
    (λ n rest. value_reads o p (Some n) rest)
    (λ rest. value_reads o p None rest)

property_reads : (o : Object) (octets : List ℕ) → joined (λ others. object o ∷ others) (body_at property_body octets) ≡ held_of write_held (property_next o octets)
property_reads o octets =
    must_step write_held number (λ others. object o ∷ others) (under 1 (a_number 0 last_property)) index_body octets
    (number_at 1 0 last_property octets) (λ p. index_next o p.0 p.1)
    (must_number 1 0 last_property octets)
    (λ x. index_reads o x.0 x.1)

reads : Reads write_body write_held write_at
reads octets =
    all_contents (body_at write_body octets)
    ∙ must_step write_held object (λ others. others) (under 0 an_object) property_body octets
    (object_at 0 octets) (λ id. property_next id.0 id.1)
    (must_object 0 octets)
    (λ x. property_reads x.0 x.1)

record SameTail (i j : Option ℕ) (v u : List ℕ) (q k : Option ℕ) : Type 0 where
  pub index : i ≡ j
  pub value : v ≡ u
  pub priority : q ≡ k

tells_tail : (i j : Option ℕ) (v u : List ℕ) (q k : Option ℕ) → number_held i ++ values v ∷ number_held q ≡ number_held j ++ values u ∷ number_held k → SameTail i j v u q k
tells_tail None None v u q k e = record { index = refl; value = cc; priority = tells_number q k cc }
tells_tail None (Some m) v u q k e = absurd cc
tells_tail (Some n) None v u q k e = absurd cc
tells_tail (Some n) (Some m) v u q k e = record { index = cc; value = cc; priority = tells_number q k cc }

same_made : (o o' : Object) (p p' : ℕ) (i j : Option ℕ) (v u : List ℕ) (q k : Option ℕ) → o ≡ o' → p ≡ p' → i ≡ j → v ≡ u → q ≡ k → made o p i v q ≡ made o' p' j u k
same_made o o' p p' i j v u q k same_object same_property same_index same_value same_priority = cc

tells : (r s : Write) → write_held r ≡ write_held s → r ≡ s
tells r s e =
    let same_object : r.object ≡ s.object = cc in
    let same_property : r.property ≡ s.property = cc in
    let others : number_held r.index ++ values r.value ∷ number_held r.priority ≡ number_held s.index ++ values s.value ∷ number_held s.priority = cc in
    let tail = tells_tail r.index s.index r.value s.value r.priority s.priority others in
    same_made r.object s.object r.property s.property r.index s.index r.value s.value r.priority s.priority same_object same_property tail.index tail.value tail.priority

pub write_takes : (octets : List ℕ) (r : Write) → AreOctets octets → write_at octets ≡ Ok r → IsWrite octets r
write_takes = service_takes write_body write_held write_at refl reads tells

pub write_again : (octets : List ℕ) (r : Write) → AreOctets octets → IsWrite octets r → write_at octets ≡ Ok r
write_again = service_again write_body write_held write_at refl reads tells

pub write_faults : (octets : List ℕ) (fault : BodyFault) → AreOctets octets → (write_at octets ≡ Err fault) ↔ HasFault fault write_body octets
write_faults = service_faults write_body write_held write_at refl reads tells
