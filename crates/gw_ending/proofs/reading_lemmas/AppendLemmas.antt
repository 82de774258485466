-- What a write has appended, and what two have.
use Rattle.std.proofs.Common.{◌≡◌, ◌++◌, sym, subst, rules, ℕ, List, [], Result, Ok, Err, Option, OnOk, OnErr}
use Rattle.std.specs.Io.KnownBytes.{Appends}
use Rattle.gw_notices.proofs.AppendLemmas.{appends_two}
use Rattle.gw_ending.specs.reading.Printing.{AppendsFront}

pub nothing_behind : (text : List ℕ) → text ++ [] ≡ text
nothing_behind text = search rules

-- a write has appended a front of its text, whether it went through or not
pub front_written : {T E : Type 0} (r : Result T E) (held holds : Option (List ℕ)) (text note : List ℕ) → text ≡ note →
    OnOk r (Appends held holds text) → OnErr r (AppendsFront held holds text) → AppendsFront held holds note
front_written (Ok done) held holds text note same whole front = record {
  front = note;
  unwritten = [];
  parts = sym (nothing_behind note);
  appends = subst (λ (t : List ℕ). Appends held holds t) same whole;
}
front_written (Err failed) held holds text note same whole front = subst (λ (t : List ℕ). AppendsFront held holds t) same front

-- the last of two writes ends well only if it appends its text
pub two_writes : {T E : Type 0} (r : Result T E) (a b c : Option (List ℕ)) (x y : List ℕ) → Appends a b x → OnOk r (Appends b c y)
    → OnOk r (Appends a c (x ++ y))
two_writes (Ok done) a b c x y first second = appends_two a b c x y first second
two_writes (Err failed) a b c x y first second = tt
