-- The body of I-Am.
use Rattle.std.proofs.Common.{◌≡◌, ◌↔◌, ℕ, List, ◌∷◌, Result, Ok, Err, refl, ◌∙◌}
use Rattle.gw_addr.specs.Reading.{◌>>=◌, AreOctets}
use Rattle.gw_codecs.specs.tags.Object.{Object}
use Rattle.gw_codecs.specs.declared.services.fault.BodyFault.{BodyFault}
use Rattle.gw_codecs.specs.services.Limits.{last_short_number, last_segmentation}
use Rattle.gw_codecs.specs.services.Parameter.{object, number, plain_object, plain_unsigned, plain_enumerated}
use Rattle.gw_codecs.specs.services.Body.{Body, done, must, HasFault}
use Rattle.gw_codecs.specs.services.Reading.{value_of_kind_at, number_of_kind_at, object_value, unsigned_value, enumerated_value, ended}
use Rattle.gw_codecs.specs.services.IAm.{IAm, i_am_body, i_am_held, IsIAm, i_am_at}
use Rattle.gw_codecs.proofs.services_lemmas.Bodies.{body_at, Reads, service_takes, service_again, service_faults}
use Rattle.gw_codecs.proofs.services_lemmas.Steps.{joined, held_of, must_step, done_step, all_contents}

abbrev vendor_body : Body
vendor_body = must (plain_unsigned 0 last_short_number) done

abbrev segmentation_body : Body
segmentation_body = must (plain_enumerated 0 last_segmentation) vendor_body

abbrev max_body : Body
max_body = must (plain_unsigned 0 last_short_number) segmentation_body

abbrev made : Object → ℕ → ℕ → ℕ → IAm
made d m s v = record { device = d; max_apdu = m; segmentation = s; vendor = v }

abbrev vendor_next : Object → ℕ → ℕ → List ℕ → Result IAm BodyFault
vendor_next d m s octets = number_of_kind_at unsigned_value 0 last_short_number octets >>= λ v. ended (made d m s v.0) v.1

abbrev segmentation_next : Object → ℕ → List ℕ → Result IAm BodyFault
segmentation_next d m octets = number_of_kind_at enumerated_value 0 last_segmentation octets >>= λ s. vendor_next d m s.0 s.1

abbrev max_next : Object → List ℕ → Result IAm BodyFault
max_next d octets = number_of_kind_at unsigned_value 0 last_short_number octets >>= λ m. segmentation_next d m.0 m.1

vendor_reads : (d : Object) (m s : ℕ) (octets : List ℕ) → joined (λ others. object d ∷ number m ∷ number s ∷ others) (body_at vendor_body octets) ≡ held_of i_am_held (vendor_next d m s octets)
vendor_reads d m s octets =
    must_step i_am_held number (λ others. object d ∷ number m ∷ number s ∷ others) (plain_unsigned 0 last_short_number) done octets
    (number_of_kind_at unsigned_value 0 last_short_number octets) (λ v. ended (made d m s v.0) v.1) refl
    (λ x. done_step i_am_held (λ others. object d ∷ number m ∷ number s ∷ number x.0 ∷ others) (made d m s x.0) x.1 refl)

segmentation_reads : (d : Object) (m : ℕ) (octets : List ℕ) → joined (λ others. object d ∷ number m ∷ others) (body_at segmentation_body octets) ≡ held_of i_am_held (segmentation_next d m octets)
segmentation_reads d m octets =
    must_step i_am_held number (λ others. object d ∷ number m ∷ others) (plain_enumerated 0 last_segmentation) vendor_body octets
    (number_of_kind_at enumerated_value 0 last_segmentation octets) (λ s. vendor_next d m s.0 s.1) refl
    (λ x. vendor_reads d m x.0 x.1)

max_reads : (d : Object) (octets : List ℕ) → joined (λ others. object d ∷ others) (body_at max_body octets) ≡ held_of i_am_held (max_next d octets)
max_reads d octets =
    must_step i_am_held number (λ others. object d ∷ others) (plain_unsigned 0 last_short_number) segmentation_body octets
    (number_of_kind_at unsigned_value 0 last_short_number octets) (λ m. segmentation_next d m.0 m.1) refl
    (λ x. segmentation_reads d x.0 x.1)

reads : Reads i_am_body i_am_held i_am_at
reads octets =
    all_contents (body_at i_am_body octets)
    ∙ must_step i_am_held object (λ others. others) plain_object max_body octets
    (value_of_kind_at object_value octets) (λ d. max_next d.0 d.1) refl
    (λ x. max_reads x.0 x.1)

same_made : (d e : Object) (m n s t v w : ℕ) → d ≡ e → m ≡ n → s ≡ t → v ≡ w → made d m s v ≡ made e n t w
same_made d e m n s t v w same_device same_max same_segmentation same_vendor = cc

tells : (r s : IAm) → i_am_held r ≡ i_am_held s → r ≡ s
tells r s e =
    let device : r.device ≡ s.device = cc in
    let max : r.max_apdu ≡ s.max_apdu = cc in
    let segmentation : r.segmentation ≡ s.segmentation = cc in
    let vendor : r.vendor ≡ s.vendor = cc in
    same_made r.device s.device r.max_apdu s.max_apdu r.segmentation s.segmentation r.vendor s.vendor device max segmentation vendor

pub i_am_takes : (octets : List ℕ) (r : IAm) → AreOctets octets → i_am_at octets ≡ Ok r → IsIAm octets r
i_am_takes = service_takes i_am_body i_am_held i_am_at refl reads tells

pub i_am_again : (octets : List ℕ) (r : IAm) → AreOctets octets → IsIAm octets r → i_am_at octets ≡ Ok r
i_am_again = service_again i_am_body i_am_held i_am_at refl reads tells

pub i_am_faults : (octets : List ℕ) (fault : BodyFault) → AreOctets octets → (i_am_at octets ≡ Err fault) ↔ HasFault fault i_am_body octets
i_am_faults = service_faults i_am_body i_am_held i_am_at refl reads tells
