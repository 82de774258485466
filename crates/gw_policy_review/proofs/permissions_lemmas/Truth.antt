-- Two answers that are true of the same.
use Rattle.std.proofs.Common.{◌≡◌, ◌↔◌, Bool, true, false, refl, sym}

pub same_truth : {P : Type 0} (one two : Bool) → (one ≡ true) ↔ P → (two ≡ true) ↔ P → one ≡ two
same_truth true true first second = refl
same_truth true false first second = sym (second.1 (first.0 refl))
same_truth false true first second = first.1 (second.0 refl)
same_truth false false first second = refl
