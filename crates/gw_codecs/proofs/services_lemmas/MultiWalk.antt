-- A body that is read a reference at a time is read as it is at once.
use Rattle.std.proofs.Common.{◌≡◌, refl, ap, ℕ, zero, suc, ◌-◌, Bool, true, false, List, [], ◌∷◌, Option, Result, Ok, Err, arith}
use Rattle.std.specs.Prelude.{if◌then◌else◌}
use Rattle.gw_addr.specs.Reading.{◌>>=◌}
use Rattle.gw_codecs.specs.tags.Object.{Object}
use Rattle.gw_codecs.specs.declared.services.fault.BodyFault.{BodyFault}
use Rattle.gw_codecs.specs.declared.services.fault.BodyFault.TheVariants.{TooMany, Inconsistent}
use Rattle.gw_codecs.specs.services.Multi.{Reference, is_consistent}
use Rattle.gw_codecs.specs.services.MultiReading.{Next, and_more, finished, judged, more_at, next_at, reference_at, references_at, step_at, walked}

pub walk : (left : ℕ) (current : Option Object) (octets : List ℕ) → references_at left current octets ≡ walked left (step_at left current octets)
unfolding references_at
walk zero current octets = by (reference_at current octets)
  where
    by : (read : Result (Reference × List ℕ) BodyFault)
        → ◌≡◌ {A = Result (List Reference) BodyFault} (read >>= λ r. Err TooMany) (walked zero (read >>= λ r. judged zero r))
    by (Ok r) = refl
    by (Err fault) = refl
walk (suc left) current octets = by (reference_at current octets)
  where
    less : left ≡ suc left - 1
    less = omega arith

    behind : (r : Reference) (b : Bool) (next : Next) → ◌≡◌ {A = Result (List Reference) BodyFault}
        (if b then elim next [
          | finished ↦ Ok (r ∷ [])
          | more_at place rest ↦ and_more r (references_at left place rest)
        ] else Err Inconsistent)
        (walked (suc left) (if b then Ok (r, next) else Err Inconsistent))
    behind r false next = refl
    behind r true finished = refl
    behind r true (more_at place rest) = ap (λ (n : ℕ). and_more r (references_at n place rest)) less

    by : (read : Result (Reference × List ℕ) BodyFault) → ◌≡◌ {A = Result (List Reference) BodyFault}
        (read >>= λ r. if is_consistent r.0 then elim (next_at r.0.object r.1) [
          | finished ↦ Ok (r.0 ∷ [])
          | more_at place rest ↦ and_more r.0 (references_at left place rest)
        ] else Err Inconsistent)
        (walked (suc left) (read >>= λ r. judged (suc left) r))
    by (Ok r) = behind r.0 (is_consistent r.0) (next_at r.0.object r.1)
    by (Err fault) = refl
