-- The body of ReadPropertyMultiple.
use Rattle.std.proofs.Common.{◌≡◌, ◌≢◌, ℕ, zero, suc, ◌-◌, ◌++◌, map, append_assoc, arith, true, false, cond, List, [], ◌∷◌, Option, Some, None, Result, Ok, Err, refl, sym, ap, subst, ◌∙◌, inl, inr}
use Rattle.gw_addr.specs.Reading.{◌>>=◌, AreOctets}
use Rattle.gw_addr.proofs.Reading.{ok_is}
use Rattle.gw_codecs.specs.declared.tags.tag.Kind.TheVariants.{Closing}
use Rattle.gw_codecs.specs.tags.List.{context}
use Rattle.gw_codecs.specs.tags.Tag.{BeginsWith}
use Rattle.gw_codecs.specs.tags.ContextReading.{closing_tag_at}
use Rattle.gw_codecs.specs.tags.Object.{Object}
use Rattle.gw_codecs.proofs.tags_lemmas.Octets.{behind_octets}
use Rattle.gw_codecs.specs.declared.services.fault.BodyFault.{BodyFault}
use Rattle.gw_codecs.specs.declared.services.fault.BodyFault.TheVariants.{TooMany, Inconsistent}
use Rattle.std.proofs.lemmas.List.{map-append}
use Rattle.gw_codecs.specs.declared.services.reference.Reference.{Reference as RustReference}
use Rattle.gw_codecs.specs.services.Multi.{Reference, reference_view, most_references, is_consistent, IsReference, IsClosed, IsList, last_one, next_object, next_property, IsBadMulti, in_reference, one_too_many, set_with_index, behind_list, behind_reference, IsMulti, HasMultiFault}
use Rattle.gw_codecs.specs.services.MultiReading.{reference_at, Next, finished, more_at, behind_closing, next_of, next_at, and_more, references_at, behind_these, multi_at}
use Rattle.gw_codecs.proofs.services_lemmas.Contents.{either_bool}
use Rattle.gw_codecs.proofs.services_lemmas.MultiParts.{reference_again, bad_reference_again, reference_fits, r_right, r_wrong, reference_be, c_closed, c_not, closed_be, closed_again, reference_not_closed}

abbrev pub Refs : Type 0
Refs = Result (List Reference) BodyFault

abbrev failed_many : Reference × List ℕ → Refs
failed_many r = Err TooMany

abbrev given : List Reference → Refs
given rs = Ok rs

abbrev pub goes_on : ℕ → Reference → Next → Refs
goes_on left r next = elim next [
  | finished ↦ Ok (r ∷ [])
  | more_at place rest ↦ and_more r (references_at left place rest)
]

abbrev judged : ℕ → Reference × List ℕ → Refs
judged left r = cond (is_consistent r.0) (goes_on left r.0 (next_at r.0.object r.1)) (Err Inconsistent)

abbrev Referred : Type 0
Referred = Result (Reference × List ℕ) BodyFault

-- ---- steps

too_many_step : (current : Option Object) (octets : List ℕ) (x : Reference × List ℕ) → reference_at current octets ≡ Ok x → references_at zero current octets ≡ Err TooMany
unfolding references_at
too_many_step current octets x e = ap (λ (r : Referred). r >>= λ y. failed_many y) e

bad_step : (fault : BodyFault) (left : ℕ) (current : Option Object) (octets : List ℕ) → reference_at current octets ≡ Err fault → references_at left current octets ≡ Err fault
unfolding references_at
bad_step fault zero current octets e = ap (λ (r : Referred). r >>= λ y. failed_many y) e
bad_step fault (suc left) current octets e = ap (λ (r : Referred). r >>= judged left) e

good_step : (left : ℕ) (current : Option Object) (octets : List ℕ) (r : Reference) (at : List ℕ) → reference_at current octets ≡ Ok (r, at) → is_consistent r ≡ true → references_at (suc left) current octets ≡ goes_on left r (next_at r.object at)
unfolding references_at
good_step left current octets r at e good = ap (λ (x : Referred). x >>= judged left) e ∙ rw good refl

set_step : (left : ℕ) (current : Option Object) (octets : List ℕ) (r : Reference) (at : List ℕ) → reference_at current octets ≡ Ok (r, at) → is_consistent r ≡ false → references_at (suc left) current octets ≡ Err Inconsistent
unfolding references_at
set_step left current octets r at e bad = ap (λ (x : Referred). x >>= judged left) e ∙ rw bad refl

closed_next : (id : Object) (at rest : List ℕ) → closing_tag_at 1 at ≡ Ok rest → next_at id at ≡ behind_closing rest
closed_next id at rest e = ap (next_of id at) e

open_next : (id : Object) (at : List ℕ) → AreOctets at → (IsClosed at → ⊥) → next_at id at ≡ more_at (Some id) at
open_next id at fits none = elim (closed_be at fits) [
  | c_closed rest closed e ↦ absurd (none (rest, closed))
  | c_not other fault e ↦ ap (next_of id at) e
]

closing_fits : (at rest : List ℕ) → AreOctets at → BeginsWith at (context 1 Closing) rest → AreOctets rest
closing_fits at rest fits is = behind_octets is.front rest (subst AreOctets is.parts fits)

more_behind : (rest : List ℕ) → rest ≢ [] → behind_closing rest ≡ more_at None rest
more_behind [] some = absurd (some refl)
more_behind (o ∷ os) some = refl

and_ok : (r : Reference) (others : List Reference) (x : Refs) → x ≡ Ok others → and_more r x ≡ Ok (r ∷ others)
and_ok r others x e = ap (and_more r) e

pub and_err : (r : Reference) (fault : BodyFault) (x : Refs) → x ≡ Err fault → and_more r x ≡ Err fault
and_err r fault x e = ap (and_more r) e

-- ---- what the code appends

abbrev unit_err : BodyFault → Result (Unit {0}) BodyFault
unit_err fault = Err fault

unit_err_is : (a b : BodyFault) → unit_err a ≡ unit_err b → a ≡ b
unit_err_is a b e = cc

pub bad_again : (left : ℕ) (current : Option Object) (octets : List ℕ) (a fault : BodyFault) → reference_at current octets ≡ Err a → unit_err a ≡ unit_err fault → references_at left current octets ≡ Err fault
bad_again left current octets a fault e same = bad_step a left current octets e ∙ ap Err (unit_err_is a fault same)

pub many_again : (left : ℕ) (current : Option Object) (octets : List ℕ) (x : Reference × List ℕ) (fault : BodyFault) → left ≡ 0 → reference_at current octets ≡ Ok x → unit_err TooMany ≡ unit_err fault → references_at left current octets ≡ Err fault
many_again left current octets x fault none e same =
    ap (λ (n : ℕ). references_at n current octets) none ∙ too_many_step current octets x e ∙ ap Err (unit_err_is TooMany fault same)

one_less : (left : ℕ) → (left ≡ 0 → ⊥) → left ≡ suc (left - 1)
one_less zero some = absurd (some refl)
one_less (suc n) some = omega arith

pub set_again : (left : ℕ) (current : Option Object) (octets : List ℕ) (r : Reference) (at : List ℕ) (fault : BodyFault) → (left ≡ 0 → ⊥) → reference_at current octets ≡ Ok (r, at) → is_consistent r ≡ false → unit_err Inconsistent ≡ unit_err fault → references_at left current octets ≡ Err fault
set_again left current octets r at fault some e bad same =
    ap (λ (n : ℕ). references_at n current octets) (one_less left some) ∙ set_step (left - 1) current octets r at e bad ∙ ap Err (unit_err_is Inconsistent fault same)

pub good_again : (left : ℕ) (current : Option Object) (octets : List ℕ) (r : Reference) (at : List ℕ) (next : Next) → (left ≡ 0 → ⊥) → reference_at current octets ≡ Ok (r, at) → is_consistent r ≡ true → next_at r.object at ≡ next → references_at left current octets ≡ goes_on (left - 1) r next
good_again left current octets r at next some e good is =
    ap (λ (n : ℕ). references_at n current octets) (one_less left some) ∙ good_step (left - 1) current octets r at e good ∙ ap (goes_on (left - 1) r) is

pub shifted : (before : List Reference) (r : Reference) (x : Refs) → behind_these before (and_more r x) ≡ behind_these (before ++ r ∷ []) x
shifted before r (Ok rs) = ap Ok (sym (append_assoc before (r ∷ []) rs))
shifted before r (Err fault) = refl

pub pushed : (old new : List RustReference) (x : RustReference) → new ≡ old ++ x ∷ [] → map reference_view new ≡ map reference_view old ++ reference_view x ∷ []
pushed old new x e = ap (map reference_view) e ∙ map-append reference_view old (x ∷ [])

-- ---- what is there is read

-- a list has a first reference
list_first : (left : ℕ) (current : Option Object) (octets : List ℕ) (rs : List Reference) → IsList left current octets rs → (r : Reference) × (at : List ℕ) × IsReference current octets r at
list_first zero current octets rs is = elim is [ ]
list_first (suc left) current octets rs (last_one r at is good closed) = (r, at, is)
list_first (suc left) current octets rs (next_object r at rest is good closed later) = (r, at, is)
list_first (suc left) current octets rs (next_property r at is good later) = (r, at, is)

list_some : (left : ℕ) (rest : List ℕ) (others : List Reference) → IsList left None rest others → AreOctets rest → rest ≢ []
list_some left rest others is fits empty =
    let first = list_first left None rest others is in
    let read : reference_at None [] ≡ Ok (first.0, first.1) = ap (reference_at None) (sym empty) ∙ reference_again None rest first.0 first.1 fits first.2 in
    cc

list_not_closed : (left : ℕ) (id : Object) (at : List ℕ) (others : List Reference) → AreOctets at → IsList left (Some id) at others → IsClosed at → ⊥
list_not_closed left id at others fits is closed =
    let first = list_first left (Some id) at others is in
    reference_not_closed id at first.0 first.1 fits first.2 closed

list_again : (left : ℕ) (current : Option Object) (octets : List ℕ) (rs : List Reference) → AreOctets octets → IsList left current octets rs → references_at left current octets ≡ Ok rs
list_again zero current octets rs fits is = elim is [ ]
list_again (suc left) current octets rs fits (last_one r at is good closed) =
    good_step left current octets r at (reference_again current octets r at fits is) good
    ∙ ap (goes_on left r) (closed_next r.object at [] (closed_again at [] closed))
list_again (suc left) current octets rs fits (next_object {others = others} r at rest is good closed later) =
    let fits_at = reference_fits current octets r at fits is in
    let fits_rest = closing_fits at rest fits_at closed in
    good_step left current octets r at (reference_again current octets r at fits is) good
    ∙ ap (goes_on left r) (closed_next r.object at rest (closed_again at rest closed) ∙ more_behind rest (list_some left rest others later fits_rest))
    ∙ and_ok r others (references_at left None rest) (list_again left None rest others fits_rest later)
list_again (suc left) current octets rs fits (next_property {others = others} r at is good later) =
    let fits_at = reference_fits current octets r at fits is in
    good_step left current octets r at (reference_again current octets r at fits is) good
    ∙ ap (goes_on left r) (open_next r.object at fits_at (list_not_closed left r.object at others fits_at later))
    ∙ and_ok r others (references_at left (Some r.object) at) (list_again left (Some r.object) at others fits_at later)

fault_again : (fault : BodyFault) (left : ℕ) (current : Option Object) (octets : List ℕ) → AreOctets octets → IsBadMulti fault left current octets → references_at left current octets ≡ Err fault
fault_again fault left current octets fits (in_reference bad) = bad_step fault left current octets (bad_reference_again fault current octets fits bad)
fault_again fault zero current octets fits (one_too_many r rest is many) =
    too_many_step current octets (r, rest) (reference_again current octets r rest fits is) ∙ ap Err (sym many)
fault_again fault (suc left) current octets fits (set_with_index r rest is bad inconsistent) =
    set_step left current octets r rest (reference_again current octets r rest fits is) bad ∙ ap Err (sym inconsistent)
fault_again fault (suc left) current octets fits (behind_list r at rest is good closed some later) =
    let fits_at = reference_fits current octets r at fits is in
    let fits_rest = closing_fits at rest fits_at closed in
    good_step left current octets r at (reference_again current octets r at fits is) good
    ∙ ap (goes_on left r) (closed_next r.object at rest (closed_again at rest closed) ∙ more_behind rest some)
    ∙ and_err r fault (references_at left None rest) (fault_again fault left None rest fits_rest later)
fault_again fault (suc left) current octets fits (behind_reference r at is good open_list later) =
    let fits_at = reference_fits current octets r at fits is in
    good_step left current octets r at (reference_again current octets r at fits is) good
    ∙ ap (goes_on left r) (open_next r.object at fits_at open_list)
    ∙ and_err r fault (references_at left (Some r.object) at) (fault_again fault left (Some r.object) at fits_at later)

-- ---- what is read is there

data Outcome (left : ℕ) (current : Option Object) (octets : List ℕ) : Type 0 where
  listed : (rs : List Reference) → IsList left current octets rs → Outcome left current octets
  faulty : (fault : BodyFault) → IsBadMulti fault left current octets → Outcome left current octets

-- every place, with at most so many references to come
abbrev Outcomes : ℕ → Type 0
Outcomes left = (current : Option Object) (octets : List ℕ) → AreOctets octets → Outcome left current octets

behind_closed : (left : ℕ) (current : Option Object) (octets : List ℕ) (r : Reference) (at rest : List ℕ) → IsReference current octets r at → is_consistent r ≡ true → BeginsWith at (context 1 Closing) rest → AreOctets rest → Outcomes left → Outcome (suc left) current octets
behind_closed left current octets r at [] is good closed fits later = listed (r ∷ []) (last_one r at is good closed)
behind_closed left current octets r at (o ∷ os) is good closed fits later = elim (later None (o ∷ os) fits) [
  | listed others more ↦ listed (r ∷ others) (next_object r at (o ∷ os) is good closed more)
  | faulty fault more ↦ faulty fault (behind_list r at (o ∷ os) is good closed (λ empty. let never = empty in cc) more)
]

behind_good : (left : ℕ) (current : Option Object) (octets : List ℕ) (r : Reference) (at : List ℕ) → IsReference current octets r at → is_consistent r ≡ true → AreOctets at → Outcomes left → Outcome (suc left) current octets
behind_good left current octets r at is good fits later = elim (closed_be at fits) [
  | c_closed rest closed e ↦ behind_closed left current octets r at rest is good closed (closing_fits at rest fits closed) later
  | c_not open_list fault e ↦ elim (later (Some r.object) at fits) [
    | listed others more ↦ listed (r ∷ others) (next_property r at is good more)
    | faulty other more ↦ faulty other (behind_reference r at is good open_list more)
  ]
]

outcome_more : (left : ℕ) → Outcomes left → Outcomes (suc left)
outcome_more left later current octets fits = elim (reference_be current octets fits) [
  | r_wrong fault bad ↦ faulty fault (in_reference bad)
  | r_right r at is ↦ elim (either_bool (is_consistent r)) [
    | inl good ↦ behind_good left current octets r at is good (reference_fits current octets r at fits is) later
    | inr bad ↦ faulty Inconsistent (set_with_index r at is bad refl)
  ]
]

outcome_none : Outcomes zero
outcome_none current octets fits = elim (reference_be current octets fits) [
  | r_wrong fault bad ↦ faulty fault (in_reference bad)
  | r_right r at is ↦ faulty TooMany (one_too_many r at is refl)
]

outcomes : (left : ℕ) → Outcomes left
outcomes zero = outcome_none
outcomes (suc left) = outcome_more left (outcomes left)

-- ---- the body

refs_is : (a b : List Reference) → given a ≡ given b → a ≡ b
refs_is a b e = ok_is {F = BodyFault} a b e

abbrev failed : BodyFault → Refs
failed fault = Err fault

err_is : (a b : BodyFault) → failed a ≡ failed b → a ≡ b
err_is a b e = cc

pub multi_takes : (octets : List ℕ) (rs : List Reference) → AreOctets octets → multi_at octets ≡ Ok rs → IsMulti octets rs
multi_takes octets rs fits e = elim (outcomes most_references None octets fits) [
  | listed others is ↦ subst (IsMulti octets) (refs_is others rs (sym (list_again most_references None octets others fits is) ∙ e)) is
  | faulty fault is ↦ absurd (let never = fault_again fault most_references None octets fits is in cc)
]

pub multi_again : (octets : List ℕ) (rs : List Reference) → AreOctets octets → IsMulti octets rs → multi_at octets ≡ Ok rs
multi_again octets rs fits is = list_again most_references None octets rs fits is

pub multi_faults : (octets : List ℕ) (fault : BodyFault) → AreOctets octets → multi_at octets ≡ Err fault → HasMultiFault fault octets
multi_faults octets fault fits e = elim (outcomes most_references None octets fits) [
  | listed others is ↦ absurd (let never = list_again most_references None octets others fits is in cc)
  | faulty other is ↦ subst (λ (f : BodyFault). HasMultiFault f octets) (err_is other fault (sym (fault_again other most_references None octets fits is) ∙ e)) is
]

pub multi_fault_again : (octets : List ℕ) (fault : BodyFault) → AreOctets octets → HasMultiFault fault octets → multi_at octets ≡ Err fault
multi_fault_again octets fault fits is = fault_again fault most_references None octets fits is
