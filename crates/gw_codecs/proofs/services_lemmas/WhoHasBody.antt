-- The body of Who-Has.
use Rattle.std.proofs.Common.{◌≡◌, ◌↔◌, ℕ, List, ◌∷◌, ◌++◌, Option, Some, None, Ok, Err, refl, sym, ap, ◌∙◌}
use Rattle.gw_addr.specs.Reading.{AreOctets}
use Rattle.gw_codecs.specs.declared.services.fault.BodyFault.{BodyFault}
use Rattle.gw_codecs.specs.services.Parameter.{object, number, an_object, a_text, under}
use Rattle.gw_codecs.specs.services.Body.{done, must, HasFault}
use Rattle.gw_codecs.specs.services.Reading.{object_maybe_at, text_at, ended}
use Rattle.gw_codecs.specs.services.WhoIs.{Limits, limits_held}
use Rattle.gw_codecs.specs.services.WhoHas.{Sought, the_object, the_name, sought_body, who_has_body, WhoHas, sought_held, who_has_held, IsWhoHas, asked_for, object_or_name, sought_at, who_has_at}
use Rattle.gw_codecs.proofs.services_lemmas.Bodies.{Contents, body_at, Reads, service_takes, service_again, service_faults}
use Rattle.gw_codecs.proofs.services_lemmas.Steps.{text_made, must_text, may_object, joined, held_of, must_step, may_step, done_step, all_contents}
use Rattle.gw_codecs.proofs.services_lemmas.WhoIsBody.{limits_read, same_ends}

name_reads : (l : Option Limits) (octets : List ℕ) → joined (λ others. limits_held l ++ others) (body_at (must (under 3 a_text) done) octets) ≡ held_of who_has_held (object_or_name l None octets)
name_reads l octets =
    must_step who_has_held text_made (λ others. limits_held l ++ others) (under 3 a_text) done octets
    (text_at 3 octets) (λ name. ended (asked_for l (the_name name.0.0 name.0.1)) name.1)
    (must_text 3 octets)
    (λ x. done_step who_has_held (λ others. limits_held l ++ text_made x.0 ∷ others) (asked_for l (the_name x.0.0 x.0.1)) x.1 refl)

sought_reads : (l : Option Limits) (octets : List ℕ) → joined (λ others. limits_held l ++ others) (body_at sought_body octets) ≡ held_of who_has_held (sought_at l octets)
sought_reads l octets =
    may_step who_has_held object (λ others. limits_held l ++ others) 2 an_object done (must (under 3 a_text) done) octets
    (object_maybe_at 2 octets) (λ id. object_or_name l id.0 id.1)
    (may_object 2 octets)
    (λ id rest. done_step who_has_held (λ others. limits_held l ++ object id ∷ others) (asked_for l (the_object id)) rest refl)
    (λ rest. name_reads l rest)

reads : Reads who_has_body who_has_held who_has_at
reads octets =
    all_contents (body_at who_has_body octets)
    ∙ limits_read who_has_held sought_body (λ l. sought_at l.0 l.1) sought_reads octets

tells_sought : (s t : Sought) → sought_held s ≡ sought_held t → s ≡ t
tells_sought (the_object a) (the_object b) e = cc
tells_sought (the_object a) (the_name c o) e = absurd cc
tells_sought (the_name c o) (the_object a) e = absurd cc
tells_sought (the_name c o) (the_name d p) e = cc

record SameAsked (l m : Option Limits) (s t : Sought) : Type 0 where
  pub limits : l ≡ m
  pub sought : s ≡ t

no_number : (s : Sought) (n : ℕ) (others : Contents) → sought_held s ≡ number n ∷ others → ⊥
no_number (the_object a) n others e = cc
no_number (the_name c o) n others e = cc

tells_asked : (l m : Option Limits) (s t : Sought) → limits_held l ++ sought_held s ≡ limits_held m ++ sought_held t → SameAsked l m s t
tells_asked None None s t e = record { limits = refl; sought = tells_sought s t e }
tells_asked None (Some m) s t e = absurd (no_number s m.low (number m.high ∷ sought_held t) e)
tells_asked (Some l) None s t e = absurd (no_number t l.low (number l.high ∷ sought_held s) (sym e))
tells_asked (Some l) (Some m) s t e =
    let low : l.low ≡ m.low = cc in
    let high : l.high ≡ m.high = cc in
    let others : sought_held s ≡ sought_held t = cc in
    record { limits = ap Some (same_ends l m low high); sought = tells_sought s t others }

same_made : (l m : Option Limits) (s t : Sought) → l ≡ m → s ≡ t → asked_for l s ≡ asked_for m t
same_made l m s t limits sought = cc

tells : (r s : WhoHas) → who_has_held r ≡ who_has_held s → r ≡ s
tells r s e =
    let same = tells_asked r.limits s.limits r.sought s.sought e in
    same_made r.limits s.limits r.sought s.sought same.limits same.sought

pub who_has_takes : (octets : List ℕ) (r : WhoHas) → AreOctets octets → who_has_at octets ≡ Ok r → IsWhoHas octets r
who_has_takes = service_takes who_has_body who_has_held who_has_at refl reads tells

pub who_has_again : (octets : List ℕ) (r : WhoHas) → AreOctets octets → IsWhoHas octets r → who_has_at octets ≡ Ok r
who_has_again = service_again who_has_body who_has_held who_has_at refl reads tells

pub who_has_faults : (octets : List ℕ) (fault : BodyFault) → AreOctets octets → (who_has_at octets ≡ Err fault) ↔ HasFault fault who_has_body octets
who_has_faults = service_faults who_has_body who_has_held who_has_at refl reads tells
