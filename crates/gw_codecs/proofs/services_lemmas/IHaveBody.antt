-- The body of I-Have.
use Rattle.std.proofs.Common.{◌≡◌, ◌↔◌, ℕ, List, ◌∷◌, Result, Ok, Err, refl, ◌∙◌}
use Rattle.gw_addr.specs.Reading.{◌>>=◌, AreOctets}
use Rattle.gw_codecs.specs.tags.Object.{Object}
use Rattle.gw_codecs.specs.declared.services.fault.BodyFault.{BodyFault}
use Rattle.gw_codecs.specs.services.Parameter.{object, plain_object, plain_text}
use Rattle.gw_codecs.specs.services.Body.{Body, done, must, HasFault}
use Rattle.gw_codecs.specs.services.Reading.{value_of_kind_at, object_value, text_value, ended}
use Rattle.gw_codecs.specs.services.IHave.{IHave, i_have_body, i_have_held, IsIHave, i_have_at}
use Rattle.gw_codecs.proofs.services_lemmas.Bodies.{body_at, Reads, service_takes, service_again, service_faults}
use Rattle.gw_codecs.proofs.services_lemmas.Steps.{text_made, joined, held_of, must_step, done_step, all_contents}

abbrev name_body : Body
name_body = must plain_text done

abbrev object_body : Body
object_body = must plain_object name_body

abbrev made : Object → Object → ℕ → List ℕ → IHave
made d o c n = record { device = d; object = o; charset = c; name = n }

abbrev name_next : Object → Object → List ℕ → Result IHave BodyFault
name_next d o octets = value_of_kind_at text_value octets >>= λ n. ended (made d o n.0.0 n.0.1) n.1

abbrev object_next : Object → List ℕ → Result IHave BodyFault
object_next d octets = value_of_kind_at object_value octets >>= λ o. name_next d o.0 o.1

name_reads : (d o : Object) (octets : List ℕ) → joined (λ others. object d ∷ object o ∷ others) (body_at name_body octets) ≡ held_of i_have_held (name_next d o octets)
name_reads d o octets =
    must_step i_have_held text_made (λ others. object d ∷ object o ∷ others) plain_text done octets
    (value_of_kind_at text_value octets) (λ n. ended (made d o n.0.0 n.0.1) n.1) refl
    (λ x. done_step i_have_held (λ others. object d ∷ object o ∷ text_made x.0 ∷ others) (made d o x.0.0 x.0.1) x.1 refl)

object_reads : (d : Object) (octets : List ℕ) → joined (λ others. object d ∷ others) (body_at object_body octets) ≡ held_of i_have_held (object_next d octets)
object_reads d octets =
    must_step i_have_held object (λ others. object d ∷ others) plain_object name_body octets
    (value_of_kind_at object_value octets) (λ o. name_next d o.0 o.1) refl
    (λ x. name_reads d x.0 x.1)

reads : Reads i_have_body i_have_held i_have_at
reads octets =
    all_contents (body_at i_have_body octets)
    ∙ must_step i_have_held object (λ others. others) plain_object object_body octets
    (value_of_kind_at object_value octets) (λ d. object_next d.0 d.1) refl
    (λ x. object_reads x.0 x.1)

same_made : (d e o p : Object) (b c : ℕ) (n m : List ℕ) → d ≡ e → o ≡ p → b ≡ c → n ≡ m → made d o b n ≡ made e p c m
same_made d e o p b c n m same_device same_object same_set same_name = cc

tells : (r s : IHave) → i_have_held r ≡ i_have_held s → r ≡ s
tells r s e =
    let device : r.device ≡ s.device = cc in
    let id : r.object ≡ s.object = cc in
    let set : r.charset ≡ s.charset = cc in
    let name : r.name ≡ s.name = cc in
    same_made r.device s.device r.object s.object r.charset s.charset r.name s.name device id set name

pub i_have_takes : (octets : List ℕ) (r : IHave) → AreOctets octets → i_have_at octets ≡ Ok r → IsIHave octets r
i_have_takes = service_takes i_have_body i_have_held i_have_at refl reads tells

pub i_have_again : (octets : List ℕ) (r : IHave) → AreOctets octets → IsIHave octets r → i_have_at octets ≡ Ok r
i_have_again = service_again i_have_body i_have_held i_have_at refl reads tells

pub i_have_faults : (octets : List ℕ) (fault : BodyFault) → AreOctets octets → (i_have_at octets ≡ Err fault) ↔ HasFault fault i_have_body octets
i_have_faults = service_faults i_have_body i_have_held i_have_at refl reads tells
