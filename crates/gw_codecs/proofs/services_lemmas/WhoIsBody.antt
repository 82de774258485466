-- The body of Who-Is, and the limits of Who-Has.
use Rattle.std.proofs.Common.{◌≡◌, ◌↔◌, ℕ, List, ◌∷◌, ◌++◌, Option, Some, None, Result, Ok, Err, refl, sym, ap, ◌∙◌}
use Rattle.gw_addr.specs.Reading.{◌>>=◌, AreOctets}
use Rattle.gw_codecs.specs.declared.services.fault.BodyFault.{BodyFault}
use Rattle.gw_codecs.specs.services.Limits.{last_instance}
use Rattle.gw_codecs.specs.services.Parameter.{number, under}
use Rattle.gw_codecs.specs.services.Body.{Body, done, must, HasFault}
use Rattle.gw_codecs.specs.services.Reading.{number_at, number_maybe_at, ended}
use Rattle.gw_codecs.specs.services.WhoIs.{an_instance, limits_then, Limits, WhoIs, limits_held, who_is_body, who_is_held, IsWhoIs, high_at, limits_at, who_is_at}
use Rattle.gw_codecs.proofs.services_lemmas.Bodies.{Contents, body_at, Reads, service_takes, service_again, service_faults}
use Rattle.gw_codecs.proofs.services_lemmas.Steps.{must_number, may_number, joined, held_of, must_step, may_step, done_step, all_contents, bind_assoc}

abbrev pub of_ends : ℕ → ℕ → Limits
of_ends low high = record { low = low; high = high }

abbrev MaybeLimits : Type 0
MaybeLimits = Option Limits × List ℕ

abbrev with_high : ℕ → ℕ × List ℕ → Result MaybeLimits BodyFault
with_high low high = Ok (Some (of_ends low high.0), high.1)

-- limits, and what follows them
module _ {D : Type 0} (held : D → Contents) (rest : Body) (next : MaybeLimits → Result D BodyFault)
    (later : (l : Option Limits) (octets : List ℕ) → joined (λ others. limits_held l ++ others) (body_at rest octets) ≡ held_of held (next (l, octets))) where
  high_reads : (low : ℕ) (octets : List ℕ) → joined (λ others. number low ∷ others) (body_at (must (under 1 an_instance) rest) octets) ≡ held_of held (high_at (Some low) octets >>= next)
  high_reads low octets =
      must_step held number (λ others. number low ∷ others) (under 1 an_instance) rest octets
      (number_at 1 0 last_instance octets) (λ high. next (Some (of_ends low high.0), high.1))
      (must_number 1 0 last_instance octets)
      (λ x. later (Some (of_ends low x.0)) x.1)
      ∙ ap (held_of held) (sym (bind_assoc (number_at 1 0 last_instance octets) (with_high low) next))

  pub limits_read : (octets : List ℕ) → joined (λ others. others) (body_at (limits_then rest) octets) ≡ held_of held (limits_at octets >>= next)
  limits_read octets =
      may_step held number (λ others. others) 0 an_instance (must (under 1 an_instance) rest) rest octets
      (number_maybe_at 0 0 last_instance octets) (λ low. high_at low.0 low.1 >>= next)
      (may_number 0 0 last_instance octets)
      (λ low behind. high_reads low behind)
      (λ behind. later None behind)
      ∙ ap (held_of held) (sym (bind_assoc (number_maybe_at 0 0 last_instance octets) (λ low. high_at low.0 low.1) next))

abbrev made : Option Limits → WhoIs
made limits = record { limits = limits }

end_reads : (l : Option Limits) (octets : List ℕ) → joined (λ others. limits_held l ++ others) (body_at done octets) ≡ held_of who_is_held (ended (made l) octets)
end_reads None octets = done_step who_is_held (λ others. others) (made None) octets refl
end_reads (Some l) octets = done_step who_is_held (λ others. limits_held (Some l) ++ others) (made (Some l)) octets refl

reads : Reads who_is_body who_is_held who_is_at
reads octets =
    all_contents (body_at who_is_body octets)
    ∙ limits_read who_is_held done (λ l. ended (made l.0) l.1) end_reads octets

same : (a b c d : ℕ) → a ≡ b → c ≡ d → of_ends a c ≡ of_ends b d
same a b c d low high = cc

pub same_ends : (l m : Limits) → l.low ≡ m.low → l.high ≡ m.high → l ≡ m
same_ends l m low high = same l.low m.low l.high m.high low high

tells_limits : (a b : Option Limits) → limits_held a ≡ limits_held b → a ≡ b
tells_limits None None e = refl
tells_limits None (Some m) e = absurd cc
tells_limits (Some l) None e = absurd cc
tells_limits (Some l) (Some m) e =
    let low : l.low ≡ m.low = cc in
    let high : l.high ≡ m.high = cc in
    ap Some (same_ends l m low high)

tells : (r s : WhoIs) → who_is_held r ≡ who_is_held s → r ≡ s
tells r s e = ap made (tells_limits r.limits s.limits e)

pub who_is_takes : (octets : List ℕ) (r : WhoIs) → AreOctets octets → who_is_at octets ≡ Ok r → IsWhoIs octets r
who_is_takes = service_takes who_is_body who_is_held who_is_at refl reads tells

pub who_is_again : (octets : List ℕ) (r : WhoIs) → AreOctets octets → IsWhoIs octets r → who_is_at octets ≡ Ok r
who_is_again = service_again who_is_body who_is_held who_is_at refl reads tells

pub who_is_faults : (octets : List ℕ) (fault : BodyFault) → AreOctets octets → (who_is_at octets ≡ Err fault) ↔ HasFault fault who_is_body octets
who_is_faults = service_faults who_is_body who_is_held who_is_at refl reads tells
