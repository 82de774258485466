-- The body of ReadProperty.
use Rattle.std.proofs.Common.{◌≡◌, ◌↔◌, ℕ, List, ◌∷◌, Option, Some, None, Result, Ok, Err, refl, ◌∙◌}
use Rattle.gw_addr.specs.Reading.{◌>>=◌, AreOctets}
use Rattle.gw_codecs.specs.declared.services.fault.BodyFault.{BodyFault}
use Rattle.gw_codecs.specs.services.Limits.{last_property, last_number}
use Rattle.gw_codecs.specs.services.Parameter.{object, number, an_object, a_number, under}
use Rattle.gw_codecs.specs.services.Body.{Body, done, must, may, HasFault}
use Rattle.gw_codecs.specs.tags.Object.{Object}
use Rattle.gw_codecs.specs.services.Reading.{object_at, number_at, number_maybe_at, ended}
use Rattle.gw_codecs.specs.services.Read.{Read, read_body, read_held, number_held, IsRead, read_at}
use Rattle.gw_codecs.proofs.services_lemmas.Bodies.{body_at, Reads, service_takes, service_again, service_faults}
use Rattle.gw_codecs.proofs.services_lemmas.Steps.{must_object, must_number, may_number, joined, held_of, must_step, may_step, done_step, all_contents, tells_number}

-- what is to come
abbrev index_body : Body
index_body = may 2 (a_number 0 last_number) done done

abbrev property_body : Body
property_body = must (under 1 (a_number 0 last_property)) index_body

abbrev made : Object → ℕ → Option ℕ → Read
made o p index = record { object = o; property = p; index = index }

-- how it is read
abbrev index_next : Object → ℕ → List ℕ → Result Read BodyFault
index_next o p octets = number_maybe_at 2 0 last_number octets >>= λ index. ended (made o p index.0) index.1

abbrev property_next : Object → List ℕ → Result Read BodyFault
property_next o octets = number_at 1 0 last_property octets >>= λ property. index_next o property.0 property.1

-- the index, and the end
index_reads : (o : Object) (p : ℕ) (octets : List ℕ) → joined (λ others. object o ∷ number p ∷ others) (body_at index_body octets) ≡ held_of read_held (index_next o p octets)
index_reads o p octets =
    may_step read_held number (λ others. object o ∷ number p ∷ others) 2 (a_number 0 last_number) done done octets
    (number_maybe_at 2 0 last_number octets) (λ index. ended (made o p index.0) index.1)
    (may_number 2 0 last_number octets)
    (λ n rest. done_step read_held (λ others. object o ∷ number p ∷ number n ∷ others) (made o p (Some n)) rest refl)
    (λ rest. done_step read_held (λ others. object o ∷ number p ∷ others) (made o p None) rest refl)

property_reads : (o : Object) (octets : List ℕ) → joined (λ others. object o ∷ others) (body_at property_body octets) ≡ held_of read_held (property_next o octets)
property_reads o octets =
    must_step read_held number (λ others. object o ∷ others) (under 1 (a_number 0 last_property)) index_body octets
    (number_at 1 0 last_property octets) (λ property. index_next o property.0 property.1)
    (must_number 1 0 last_property octets)
    (λ x. index_reads o x.0 x.1)

reads : Reads read_body read_held read_at
reads octets =
    all_contents (body_at read_body octets)
    ∙ must_step read_held object (λ others. others) (under 0 an_object) property_body octets
    (object_at 0 octets) (λ id. property_next id.0 id.1)
    (must_object 0 octets)
    (λ x. property_reads x.0 x.1)

same_made : (o o' : Object) (p p' : ℕ) (i i' : Option ℕ) → o ≡ o' → p ≡ p' → i ≡ i' → made o p i ≡ made o' p' i'
same_made o o' p p' i i' same_object same_property same_index = cc

tells : (r s : Read) → read_held r ≡ read_held s → r ≡ s
tells r s e =
    let same_object : r.object ≡ s.object = cc in
    let same_property : r.property ≡ s.property = cc in
    let others : number_held r.index ≡ number_held s.index = cc in
    same_made r.object s.object r.property s.property r.index s.index same_object same_property (tells_number r.index s.index others)

pub read_takes : (octets : List ℕ) (r : Read) → AreOctets octets → read_at octets ≡ Ok r → IsRead octets r
read_takes = service_takes read_body read_held read_at refl reads tells

pub read_again : (octets : List ℕ) (r : Read) → AreOctets octets → IsRead octets r → read_at octets ≡ Ok r
read_again = service_again read_body read_held read_at refl reads tells

pub read_faults : (octets : List ℕ) (fault : BodyFault) → AreOctets octets → (read_at octets ≡ Err fault) ↔ HasFault fault read_body octets
read_faults = service_faults read_body read_held read_at refl reads tells
