-- Texts that are appended one after the other.
use Rattle.std.proofs.Common.{◌≡◌, ◌∙◌, ◌++◌, ℕ, List, Result, Ok, Err, OnOk, ap, append_assoc}

-- two texts that are appended, each of two parts, are appended as one
pub two_more : {T E : Type 0} (r : Result T E) (a b c x y z w : List ℕ) → b ≡ (a ++ x) ++ y → OnOk r (c ≡ (b ++ z) ++ w) →
    OnOk r (c ≡ a ++ (((x ++ y) ++ z) ++ w))
two_more (Ok done) a b c x y z w first second =
    second ∙ ap (λ (t : List ℕ). (t ++ z) ++ w) (first ∙ append_assoc a x y) ∙ ap (λ (t : List ℕ). t ++ w) (append_assoc a (x ++ y) z)
    ∙ append_assoc a ((x ++ y) ++ z) w
two_more (Err failed) a b c x y z w first second = tt
