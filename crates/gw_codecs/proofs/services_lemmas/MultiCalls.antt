-- What decoding a ReadPropertyMultiple answers, where memory may be refused.
use Rattle.std.proofs.Common.{◌≡◌, ◌≢◌, ℕ, false, List, [], ◌∷◌, Option, Some, None, Result, Ok, Err, refl, sym, ap, subst, ◌∙◌, inl, inr, ◌⊎◌}
use Rattle.std.specs.Prelude.{IfOk, MatchResult}
use Rattle.gw_addr.specs.Reading.{◌>>=◌, AreOctets}
use Rattle.gw_addr.proofs.Reading.{ok_is}
use Rattle.gw_codecs.specs.declared.services.fault.BodyFault.{BodyFault}
use Rattle.gw_codecs.specs.declared.services.fault.BodyFault.TheVariants.{InvalidTag, Missing, OutOfRange, TooMany, Inconsistent, Memory}
use Rattle.gw_codecs.specs.declared.services.multi_req.MultiReq.{MultiReq}
use Rattle.gw_codecs.specs.tags.Object.{Object}
use Rattle.gw_codecs.specs.services.Parameter.{Parameter}
use Rattle.gw_codecs.specs.services.Body.{IsWrong}
use Rattle.gw_codecs.specs.services.Multi.{Reference, AreNamed, IsMulti, HasMultiFault, HasReference, most_references, is_consistent, a_property, an_index, the_object, IsWrongOpening, IsBadName, at_property, at_index, IsBadReference, at_object, at_opening, empty_list, at_first, at_next}
use Rattle.gw_codecs.specs.services.MultiView.{multi_view}
use Rattle.gw_codecs.proofs.services_lemmas.MultiEncoded.{multi_is}
use Rattle.gw_codecs.specs.services.MultiReading.{multi_at, reference_at, references_at, step_at, judged, walked, finished, more_at, behind_these}
use Rattle.gw_codecs.proofs.services_lemmas.MultiWalk.{walk}
use Rattle.gw_codecs.proofs.services_lemmas.Contents.{either_bool}
use Rattle.gw_codecs.proofs.services_lemmas.MultiParts.{reference_be, r_wrong, r_right, reference_again, bad_reference_again}
use Rattle.gw_codecs.proofs.services_lemmas.MultiBody.{Refs, multi_takes, multi_again, multi_faults, multi_fault_again}

memory_or : (fault : BodyFault) → (fault ≡ Memory) ⊎ (fault ≢ Memory)
memory_or InvalidTag = inr (λ e. cc)
memory_or Missing = inr (λ e. cc)
memory_or OutOfRange = inr (λ e. cc)
memory_or TooMany = inr (λ e. cc)
memory_or Inconsistent = inr (λ e. cc)
memory_or Memory = inl refl

abbrev Called : Type 0
Called = Result MultiReq BodyFault

abbrev called_err : BodyFault → Called
called_err fault = Err fault

abbrev Read : Called → List ℕ → Type 0
Read r octets = IfOk r (λ m. multi_at octets ≡ Ok (multi_view m))

abbrev Failed : Called → List ℕ → Type 0
Failed r octets = (fault : BodyFault) → r ≡ Err fault → fault ≢ Memory → multi_at octets ≡ Err fault

pub call_found : (r : Called) (octets : List ℕ) → AreOctets octets → Read r octets → IfOk r (λ m. IsMulti octets (multi_view m))
call_found (Ok m) octets fits read = multi_takes octets (multi_view m) fits read
call_found (Err fault) octets fits read = tt

abbrev given : List Reference → Refs
given rs = Ok rs

abbrev failed : BodyFault → Refs
failed fault = Err fault

never_both : (rs : List Reference) (fault : BodyFault) (r : Refs) → r ≡ given rs → r ≡ failed fault → ⊥
never_both rs fault r e f = let both = sym e ∙ f in cc

pub call_only : (r : Called) (octets : List ℕ) (rs : List Reference) → AreOctets octets → Read r octets → Failed r octets → IsMulti octets rs → MatchResult r (λ m. multi_view m ≡ rs) (λ fault. fault ≡ Memory)
call_only (Ok m) octets rs fits read err is = ok_is {F = BodyFault} (multi_view m) rs (sym read ∙ multi_again octets rs fits is)
call_only (Err fault) octets rs fits read err is = elim (memory_or fault) [
  | inl memory ↦ memory
  | inr other ↦ absurd (never_both rs fault (multi_at octets) (multi_again octets rs fits is) (err fault refl other))
]

pub call_faults : (octets : List ℕ) (fault : BodyFault) → AreOctets octets → multi_at octets ≡ Err fault → HasMultiFault fault octets
call_faults octets fault fits e = multi_faults octets fault fits e

failed_is : (a b : BodyFault) (r : Refs) → r ≡ failed a → r ≡ failed b → a ≡ b
failed_is a b r e f = let both = sym e ∙ f in cc

pub call_told : (r : Called) (octets : List ℕ) (fault : BodyFault) → AreOctets octets → Read r octets → Failed r octets → HasMultiFault fault octets → (r ≡ Err fault) ⊎ (r ≡ Err Memory)
call_told (Ok m) octets fault fits read err is = absurd (never_both (multi_view m) fault (multi_at octets) read (multi_fault_again octets fault fits is))
call_told (Err other) octets fault fits read err is = elim (memory_or other) [
  | inl memory ↦ inr (ap called_err memory)
  | inr some ↦ inl (ap called_err (failed_is other fault (multi_at octets) (err other refl some) (multi_fault_again octets fault fits is)))
]

-- ---- where memory is wanted

never_wrong : (p : Parameter) (octets : List ℕ) → IsWrong Memory p octets → ⊥
never_wrong p octets is = elim is [ ]

never_wrong_opening : (octets : List ℕ) → IsWrongOpening Memory octets → ⊥
never_wrong_opening octets is = elim is [ ]

never_bad_name : (octets : List ℕ) → IsBadName Memory octets → ⊥
never_bad_name octets (at_property is) = never_wrong a_property octets is
never_bad_name octets (at_index p rest named present is) = never_wrong an_index rest is

never_bad : (current : Option Object) (octets : List ℕ) → IsBadReference Memory current octets → ⊥
never_bad None octets (at_object is) = never_wrong the_object octets is
never_bad None octets (at_opening id rest begins is) = never_wrong_opening rest is
never_bad None octets (empty_list id a b begins opens closed e) = cc
never_bad None octets (at_first id a b begins opens unclosed is) = never_bad_name b is
never_bad (Some id) octets (at_next is) = never_bad_name octets is

abbrev Refused : Called → List ℕ → Type 0
Refused r octets = (fault : BodyFault) → step_at most_references None octets ≡ Err fault → r ≡ Err fault

called_is : (a b : BodyFault) (r : Called) → r ≡ called_err a → r ≡ called_err b → a ≡ b
called_is a b r e f = let both = sym e ∙ f in cc

step_err : (octets : List ℕ) (fault : BodyFault) → reference_at None octets ≡ Err fault → step_at most_references None octets ≡ Err fault
step_err octets fault e = ap (λ (r : Result (Reference × List ℕ) BodyFault). r >>= judged most_references) e

step_set : (octets : List ℕ) (r : Reference) (at : List ℕ) → reference_at None octets ≡ Ok (r, at) → is_consistent r ≡ false → step_at most_references None octets ≡ Err Inconsistent
step_set octets r at e bad = ap (λ (x : Result (Reference × List ℕ) BodyFault). x >>= judged most_references) e ∙ rw bad refl

pub call_memory : (r : Called) (octets : List ℕ) → AreOctets octets → Refused r octets → r ≡ Err Memory → HasReference octets
call_memory r octets fits refused memory = elim (reference_be None octets fits) [
  | r_wrong fault bad ↦
      let same = called_is fault Memory r (refused fault (step_err octets fault (bad_reference_again fault None octets fits bad))) memory in
      absurd (never_bad None octets (subst (λ (f : BodyFault). IsBadReference f None octets) same bad))
  | r_right first at is ↦ elim (either_bool (is_consistent first)) [
    | inl good ↦ (first, (at, (is, good)))
    | inr bad ↦ absurd (let same = called_is Inconsistent Memory r (refused Inconsistent (step_set octets first at (reference_again None octets first at fits is) bad)) memory in cc)
  ]
]

-- ---- what is read after the first reference

pub first_refused : (octets : List ℕ) (fault : BodyFault) → step_at most_references None octets ≡ Err fault → multi_at octets ≡ Err fault
first_refused octets fault e = walk most_references None octets ∙ ap (walked most_references) e

pub first_alone : (octets : List ℕ) (r : Reference) → step_at most_references None octets ≡ Ok (r, finished) → multi_at octets ≡ Ok (r ∷ [])
first_alone octets r e = walk most_references None octets ∙ ap (walked most_references) e

pub first_and_more : (octets : List ℕ) (r : Reference) (place : Option Object) (rest : List ℕ) → step_at most_references None octets ≡ Ok (r, more_at place rest)
    → multi_at octets ≡ behind_these (r ∷ []) (references_at 127 place rest)
first_and_more octets r place rest e = walk most_references None octets ∙ ap (walked most_references) e

pub read_named : (octets : List ℕ) (rs : List Reference) → AreOctets octets → multi_at octets ≡ Ok rs → AreNamed rs
read_named octets rs fits e = multi_is octets rs (multi_takes octets rs fits e)
