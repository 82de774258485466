-- Texts that are appended to what is known.
use Rattle.std.proofs.Common.{◌∙◌, ◌++◌, ap, append_assoc, List, [], ℕ, Option, Some, None, OnOk, Result, Ok, Err, rules}
use Rattle.std.specs.Io.KnownBytes.{Appends}

-- nothing is appended if nothing is reported
pub appends_nothing : (held : Option (List ℕ)) → Appends held held []
appends_nothing None = tt
appends_nothing (Some held) = search rules

-- two texts that are appended are appended as one
pub appends_two : (a b c : Option (List ℕ)) (x y : List ℕ) → Appends a b x → Appends b c y → Appends a c (x ++ y)
appends_two None b c x y first second = tt
appends_two (Some a) None c x y first second = absurd first
appends_two (Some a) (Some b) None x y first second = absurd second
appends_two (Some a) (Some b) (Some c) x y first second = second ∙ ap (λ (t : List ℕ). t ++ y) first ∙ append_assoc a x y

-- the last of two writes ends well only if both texts are appended
pub two_writes : {T E : Type 0} (r : Result T E) (a b c : Option (List ℕ)) (x y : List ℕ) → Appends a b x → OnOk r (Appends b c y)
    → OnOk r (Appends a c (x ++ y))
two_writes (Ok done) a b c x y first second = appends_two a b c x y first second
two_writes (Err failed) a b c x y first second = tt
