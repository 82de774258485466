-- A body is read exactly where the octets are one, and each fault exactly where its own condition holds.
use Rattle.std.proofs.Common.{◌≡◌, ◌≢◌, ◌↔◌, ℕ, Bool, true, ◌&&◌, ltb, List, [], ◌∷◌, Some, None, Result, Ok, Err, refl, sym, ap, subst, ◌∙◌, inl, inr}
use Rattle.gw_addr.specs.Reading.{◌>>=◌, AreOctets}
use Rattle.gw_addr.proofs.Reading.{both_true, ok_is, either}
use Rattle.gw_codecs.specs.declared.services.fault.BodyFault.{BodyFault}
use Rattle.gw_codecs.specs.declared.services.fault.BodyFault.TheVariants.{TooMany}
use Rattle.gw_codecs.specs.services.Parameter.{Content, Shape, Parameter, under}
use Rattle.gw_codecs.specs.services.Body.{Body, done, must, may, Begins, IsAbsent, IsBody, nothing_more, required, given, left_out, HasFault, octets_behind, at_required, behind_required, at_given, behind_given, behind_absent}
use Rattle.gw_codecs.specs.services.Reading.{ended}
use Rattle.gw_codecs.proofs.services_lemmas.Parameters.{Found, FoundMaybe, must_at, may_at, some_of, is_small, MustBe, wrong, right, must_be, is_absent, is_there, may_be, must_again, wrong_again, rest_fits, not_both}

abbrev pub Contents : Type 0
Contents = List Content

abbrev pub more : Content → Contents → Result Contents BodyFault
more held others = Ok (held ∷ others)

-- the contents of the octets as this body
abbrev pub body_at : Body → List ℕ → Result Contents BodyFault
body_at done octets = ended [] octets
body_at (must p body) octets = must_at p octets >>= λ x. body_at body x.1 >>= more x.0
body_at (may tag shape behind without) octets = may_at tag shape octets >>= λ x. elim x.0 [
  | None ↦ body_at without x.1
  | Some held ↦ body_at behind x.1 >>= more held
]

abbrev behind_must : Body → Found → Result Contents BodyFault
behind_must body x = body_at body x.1 >>= more x.0

abbrev pub are_small : Body → Bool
are_small done = true
are_small (must p body) = is_small p && are_small body
are_small (may tag shape behind without) = ltb tag 255 && (are_small behind && are_small without)

-- what octets are
pub data Outcome (body : Body) (octets : List ℕ) : Type 0 where
  is_body : (held : Contents) → IsBody body octets held → body_at body octets ≡ Ok held → Outcome body octets
  is_faulty : (fault : BodyFault) → HasFault fault body octets → body_at body octets ≡ Err fault → Outcome body octets

-- ---- a parameter that must be there

must_ok : (p : Parameter) (body : Body) (octets : List ℕ) (x : Found) → must_at p octets ≡ Ok x → body_at (must p body) octets ≡ (body_at body x.1 >>= more x.0)
must_ok p body octets x e = ap (λ (r : Result Found BodyFault). r >>= behind_must body) e

must_err : (p : Parameter) (body : Body) (octets : List ℕ) (fault : BodyFault) → must_at p octets ≡ Err fault → body_at (must p body) octets ≡ Err fault
must_err p body octets fault e = ap (λ (r : Result Found BodyFault). r >>= behind_must body) e

then_ok : (r : Result Contents BodyFault) (held : Content) (others : Contents) → r ≡ Ok others → (r >>= more held) ≡ Ok (held ∷ others)
then_ok r held others e = ap (λ (x : Result Contents BodyFault). x >>= more held) e

then_err : (r : Result Contents BodyFault) (held : Content) (fault : BodyFault) → r ≡ Err fault → (r >>= more held) ≡ Err fault
then_err r held fault e = ap (λ (x : Result Contents BodyFault). x >>= more held) e

-- ---- a parameter that may be there

abbrev pub behind_may : Body → Body → FoundMaybe → Result Contents BodyFault
behind_may behind without x = elim x.0 [
  | None ↦ body_at without x.1
  | Some held ↦ body_at behind x.1 >>= more held
]

may_absent : (tag : ℕ) (shape : Shape) (behind without : Body) (octets : List ℕ) → may_at tag shape octets ≡ Ok (None, octets) → body_at (may tag shape behind without) octets ≡ body_at without octets
may_absent tag shape behind without octets e = ap (λ (r : Result FoundMaybe BodyFault). r >>= behind_may behind without) e

may_there : (tag : ℕ) (shape : Shape) (behind without : Body) (octets : List ℕ) (r : Result Found BodyFault) → may_at tag shape octets ≡ (must_at (under tag shape) octets >>= some_of) → must_at (under tag shape) octets ≡ r → body_at (may tag shape behind without) octets ≡ (r >>= behind_must behind)
may_there tag shape behind without octets (Ok x) e is = ap (λ (m : Result FoundMaybe BodyFault). m >>= behind_may behind without) (e ∙ ap (λ (m : Result Found BodyFault). m >>= some_of) is)
may_there tag shape behind without octets (Err fault) e is = ap (λ (m : Result FoundMaybe BodyFault). m >>= behind_may behind without) (e ∙ ap (λ (m : Result Found BodyFault). m >>= some_of) is)

-- ---- each body

outcome_must : (p : Parameter) (body : Body) (octets : List ℕ) → MustBe p octets → ((held : Content) (rest : List ℕ) → Begins p octets held rest → Outcome body rest) → Outcome (must p body) octets
outcome_must p body octets (wrong fault is reads) later = is_faulty fault (at_required is) (must_err p body octets fault reads)
outcome_must p body octets (right held rest is reads) later = elim (later held rest is) [
  | is_body others more_is more_reads ↦ is_body (held ∷ others) (required held rest is more_is) (must_ok p body octets (held, rest) reads ∙ then_ok (body_at body rest) held others more_reads)
  | is_faulty fault more_is more_reads ↦ is_faulty fault (behind_required held rest is more_is) (must_ok p body octets (held, rest) reads ∙ then_err (body_at body rest) held fault more_reads)
]

outcome_there : (tag : ℕ) (shape : Shape) (behind without : Body) (octets : List ℕ) → (IsAbsent tag octets → ⊥) → may_at tag shape octets ≡ (must_at (under tag shape) octets >>= some_of) → MustBe (under tag shape) octets → ((held : Content) (rest : List ℕ) → Begins (under tag shape) octets held rest → Outcome behind rest) → Outcome (may tag shape behind without) octets
outcome_there tag shape behind without octets present e (wrong fault is reads) later =
    is_faulty fault (at_given present is) (may_there tag shape behind without octets (Err fault) e reads)
outcome_there tag shape behind without octets present e (right held rest is reads) later =
    let read = may_there tag shape behind without octets (Ok (held, rest)) e reads in
    elim (later held rest is) [
      | is_body others more_is more_reads ↦ is_body (held ∷ others) (given held rest is more_is) (read ∙ then_ok (body_at behind rest) held others more_reads)
      | is_faulty fault more_is more_reads ↦ is_faulty fault (behind_given held rest is more_is) (read ∙ then_err (body_at behind rest) held fault more_reads)
    ]

outcome_absent : (tag : ℕ) (shape : Shape) (behind without : Body) (octets : List ℕ) → IsAbsent tag octets → may_at tag shape octets ≡ Ok (None, octets) → Outcome without octets → Outcome (may tag shape behind without) octets
outcome_absent tag shape behind without octets absent e (is_body held is reads) =
    is_body held (left_out absent is) (may_absent tag shape behind without octets e ∙ reads)
outcome_absent tag shape behind without octets absent e (is_faulty fault is reads) =
    is_faulty fault (behind_absent absent is) (may_absent tag shape behind without octets e ∙ reads)

outcome_done : (octets : List ℕ) → Outcome done octets
outcome_done [] = is_body [] nothing_more refl
outcome_done (o ∷ os) = is_faulty TooMany (octets_behind refl (λ e. let never = e in cc)) refl

pub outcome : (body : Body) (octets : List ℕ) → are_small body ≡ true → AreOctets octets → Outcome body octets
outcome done octets small fits = outcome_done octets
outcome (must p body) octets small fits =
    let both = both_true (is_small p) (are_small body) small in
    outcome_must p body octets (must_be p octets both.0 fits) (λ held rest is. outcome body rest both.1 (rest_fits p octets held rest fits is.holds))
outcome (may tag shape behind without) octets small fits =
    let both = both_true (ltb tag 255) (are_small behind && are_small without) small in
    let others = both_true (are_small behind) (are_small without) both.1 in
    elim (may_be tag shape octets fits) [
      | is_absent absent e ↦ outcome_absent tag shape behind without octets absent e (outcome without octets others.1 fits)
      | is_there present e ↦ outcome_there tag shape behind without octets present e (must_be (under tag shape) octets both.0 fits) (λ held rest is. outcome behind rest others.0 (rest_fits (under tag shape) octets held rest fits is.holds))
    ]

-- ---- what the octets are is read

abbrev failed : BodyFault → Result Contents BodyFault
failed fault = Err fault

err_is : (a b : BodyFault) → failed a ≡ failed b → a ≡ b
err_is a b e = cc

absent_again : (tag : ℕ) (shape : Shape) (octets : List ℕ) → AreOctets octets → IsAbsent tag octets → may_at tag shape octets ≡ Ok (None, octets)
absent_again tag shape octets fits absent = elim (may_be tag shape octets fits) [
  | is_absent other e ↦ e
  | is_there present e ↦ absurd (present absent)
]

-- what a parameter that may be there is read as, where it begins
begins_again : (tag : ℕ) (shape : Shape) (octets : List ℕ) (held : Content) (rest : List ℕ) → AreOctets octets → ltb tag 255 ≡ true → Begins (under tag shape) octets held rest → may_at tag shape octets ≡ (must_at (under tag shape) octets >>= some_of)
begins_again tag shape octets held rest fits small is = elim (may_be tag shape octets fits) [
  | is_absent absent e ↦ absurd (not_both tag shape octets held rest small fits is absent)
  | is_there present e ↦ e
]

body_again : (body : Body) (octets : List ℕ) (held : Contents) → are_small body ≡ true → AreOctets octets → IsBody body octets held → body_at body octets ≡ Ok held
body_again done octets held small fits nothing_more = refl
body_again (must p body) octets held small fits (required {others = others} first rest is later) =
    let both = both_true (is_small p) (are_small body) small in
    must_ok p body octets (first, rest) (must_again p octets first rest both.0 fits is)
    ∙ then_ok (body_at body rest) first others (body_again body rest others both.1 (rest_fits p octets first rest fits is.holds) later)
body_again (may tag shape behind without) octets held small fits (given {others = others} first rest is later) =
    let both = both_true (ltb tag 255) (are_small behind && are_small without) small in
    let others_small = both_true (are_small behind) (are_small without) both.1 in
    may_there tag shape behind without octets (Ok (first, rest)) (begins_again tag shape octets first rest fits both.0 is) (must_again (under tag shape) octets first rest both.0 fits is)
    ∙ then_ok (body_at behind rest) first others (body_again behind rest others others_small.0 (rest_fits (under tag shape) octets first rest fits is.holds) later)
body_again (may tag shape behind without) octets held small fits (left_out absent later) =
    let both = both_true (ltb tag 255) (are_small behind && are_small without) small in
    let others_small = both_true (are_small behind) (are_small without) both.1 in
    may_absent tag shape behind without octets (absent_again tag shape octets fits absent) ∙ body_again without octets held others_small.1 fits later

present_again : (tag : ℕ) (shape : Shape) (octets : List ℕ) → AreOctets octets → (IsAbsent tag octets → ⊥) → may_at tag shape octets ≡ (must_at (under tag shape) octets >>= some_of)
present_again tag shape octets fits present = elim (may_be tag shape octets fits) [
  | is_absent absent e ↦ absurd (present absent)
  | is_there other e ↦ e
]

behind_done : (octets : List ℕ) → octets ≢ [] → body_at done octets ≡ Err TooMany
behind_done [] some = absurd (some refl)
behind_done (o ∷ os) some = refl

fault_again : (fault : BodyFault) (body : Body) (octets : List ℕ) → are_small body ≡ true → AreOctets octets → HasFault fault body octets → body_at body octets ≡ Err fault
fault_again fault done octets small fits (octets_behind is some) = behind_done octets some ∙ ap Err (sym is)
fault_again fault (must p body) octets small fits (at_required is) =
    must_err p body octets fault (wrong_again fault p octets (both_true (is_small p) (are_small body) small).0 fits is)
fault_again fault (must p body) octets small fits (behind_required held rest is later) =
    let both = both_true (is_small p) (are_small body) small in
    must_ok p body octets (held, rest) (must_again p octets held rest both.0 fits is)
    ∙ then_err (body_at body rest) held fault (fault_again fault body rest both.1 (rest_fits p octets held rest fits is.holds) later)
fault_again fault (may tag shape behind without) octets small fits (at_given present is) =
    let both = both_true (ltb tag 255) (are_small behind && are_small without) small in
    may_there tag shape behind without octets (Err fault) (present_again tag shape octets fits present) (wrong_again fault (under tag shape) octets both.0 fits is)
fault_again fault (may tag shape behind without) octets small fits (behind_given held rest is later) =
    let both = both_true (ltb tag 255) (are_small behind && are_small without) small in
    let others_small = both_true (are_small behind) (are_small without) both.1 in
    may_there tag shape behind without octets (Ok (held, rest)) (begins_again tag shape octets held rest fits both.0 is) (must_again (under tag shape) octets held rest both.0 fits is)
    ∙ then_err (body_at behind rest) held fault (fault_again fault behind rest others_small.0 (rest_fits (under tag shape) octets held rest fits is.holds) later)
fault_again fault (may tag shape behind without) octets small fits (behind_absent absent later) =
    let both = both_true (ltb tag 255) (are_small behind && are_small without) small in
    let others_small = both_true (are_small behind) (are_small without) both.1 in
    may_absent tag shape behind without octets (absent_again tag shape octets fits absent) ∙ fault_again fault without octets others_small.1 fits later

-- ---- the body of a service with fields of its own

-- what is read as fields of its own is read as the contents that these hold
abbrev pub Reads : {R : Type 0} → Body → (R → Contents) → (List ℕ → Result R BodyFault) → Type 0
Reads body held reading = (octets : List ℕ) → body_at body octets ≡ (reading octets >>= λ r. Ok (held r))

module _ {R : Type 0} (body : Body) (held : R → Contents) (reading : List ℕ → Result R BodyFault) (small : are_small body ≡ true) (reads : Reads body held reading) (tells : (r s : R) → held r ≡ held s → r ≡ s) where
  read_ok : (octets : List ℕ) (r : R) → reading octets ≡ Ok r → body_at body octets ≡ Ok (held r)
  read_ok octets r e = reads octets ∙ ap (λ (x : Result R BodyFault). x >>= λ r. Ok (held r)) e

  read_err : (octets : List ℕ) (fault : BodyFault) → reading octets ≡ Err fault → body_at body octets ≡ Err fault
  read_err octets fault e = reads octets ∙ ap (λ (x : Result R BodyFault). x >>= λ r. Ok (held r)) e

  pub service_takes : (octets : List ℕ) (r : R) → AreOctets octets → reading octets ≡ Ok r → IsBody body octets (held r)
  service_takes octets r fits e = elim (outcome body octets small fits) [
    | is_body contents is e2 ↦ subst (IsBody body octets) (ok_is {F = BodyFault} contents (held r) (sym e2 ∙ read_ok octets r e)) is
    | is_faulty fault is e2 ↦ absurd (let e3 = read_ok octets r e in cc)
  ]

  pub service_again : (octets : List ℕ) (r : R) → AreOctets octets → IsBody body octets (held r) → reading octets ≡ Ok r
  service_again octets r fits is =
      let read = body_again body octets (held r) small fits is in
      elim (either (reading octets)) [
        | inl (s, e) ↦ e ∙ ap Ok (tells s r (ok_is {F = BodyFault} (held s) (held r) (sym (read_ok octets s e) ∙ read)))
        | inr (fault, e) ↦ absurd (let never = read_err octets fault e in cc)
      ]

  pub service_faults : (octets : List ℕ) (fault : BodyFault) → AreOctets octets → (reading octets ≡ Err fault) ↔ HasFault fault body octets
  service_faults octets fault fits = (
    λ e. elim (outcome body octets small fits) [
      | is_body contents is e2 ↦ absurd (let e3 = read_err octets fault e in cc)
      | is_faulty other is e2 ↦ subst (λ (f : BodyFault). HasFault f body octets) (err_is other fault (sym e2 ∙ read_err octets fault e)) is
    ],
    λ is. let read = fault_again fault body octets small fits is in
        elim (either (reading octets)) [
          | inl (s, e) ↦ absurd (let never = read_ok octets s e in cc)
          | inr (other, e) ↦ e ∙ ap Err (err_is other fault (sym (read_err octets other e) ∙ read))
        ],
  )
