-- A fault of a call that its caller passes on by `?`.
use Rattle.std.proofs.Common.{◌≡◌, ◌∙◌, Result, Ok, Err, sym, ap, subst}
use Rattle.std.specs.Prelude.{IsErr, IsErrOf, OnErr}
use Rattle.std.specs.Result.{IsErrAnd}

-- the result is this fault
abbrev pub Passes : {T E : Type 0} → E → Result T E → Type 0
Passes fault r = IsErr r × IsErrAnd r (λ f. f ≡ fault)

-- what holds of the fault holds of the result
pub passes_on : {T E : Type 0} (P : Result T E → Type 0) (fault : E) (r : Result T E) → Passes fault r → P (Err fault) → P r
passes_on P fault (Ok x) passes h = absurd passes.1
passes_on P fault (Err f) passes h = subst (λ g. P (Err g)) (sym passes.1) h

-- a fault of the caller is that of the call
pub passed_as : {S T E : Type 0} (fault other : E) (r : Result T E) → Passes fault r → IsErrOf r other
    → IsErrOf {T = S} {E = E} (Err fault) other
passed_as fault other (Ok x) passes e = absurd passes.1
passed_as fault other (Err f) passes e =
    let same : f ≡ other = cc in
    ap Err (sym passes.1 ∙ same)

-- what holds at any fault
pub on_err : {T E P : Type 0} (r : Result T E) → P → OnErr r P
on_err (Ok x) h = tt
on_err (Err f) h = h
