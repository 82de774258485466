-- Texts that are appended one after the other are appended as one.
use Rattle.std.proofs.Common.{◌≡◌, ◌∙◌, ◌++◌, ℕ, List, Result, Ok, Err, OnOk, ap, append_assoc}

pub three : {T E : Type 0} (r : Result T E) (a b c d x y z : List ℕ) → b ≡ a ++ x → c ≡ b ++ y → OnOk r (d ≡ c ++ z) → OnOk r (d ≡ a ++ ((x ++ y) ++ z))
three (Ok done) a b c d x y z first second third =
    third ∙ ap (λ (t : List ℕ). t ++ z) (second ∙ ap (λ (t : List ℕ). t ++ y) first ∙ append_assoc a x y) ∙ append_assoc a (x ++ y) z
three (Err failed) a b c d x y z first second third = tt

pub five : {T E : Type 0} (r : Result T E) (a b c d e f x y z v w : List ℕ) → b ≡ a ++ x → c ≡ b ++ y → d ≡ c ++ z → e ≡ d ++ v
    → OnOk r (f ≡ e ++ w) → OnOk r (f ≡ a ++ ((((x ++ y) ++ z) ++ v) ++ w))
five r a b c d e f x y z v w first second third fourth fifth =
    three r a d e f ((x ++ y) ++ z) v w
    (third ∙ ap (λ (t : List ℕ). t ++ z) (second ∙ ap (λ (t : List ℕ). t ++ y) first ∙ append_assoc a x y) ∙ append_assoc a (x ++ y) z)
    fourth fifth
