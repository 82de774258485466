-- Texts that are appended one after the other are appended as one.
use Rattle.std.proofs.Common.{◌≡◌, ◌∙◌, ◌++◌, ℕ, List, Result, Ok, Err, OnOk, ap, append_assoc}

pub two : {T E : Type 0} (r : Result T E) (a b c x y : List ℕ) → b ≡ a ++ x → OnOk r (c ≡ b ++ y) → OnOk r (c ≡ a ++ (x ++ y))
two (Ok done) a b c x y first second = second ∙ ap (λ (t : List ℕ). t ++ y) first ∙ append_assoc a x y
two (Err failed) a b c x y first second = tt

pub three : {T E : Type 0} (r : Result T E) (a b c d x y z : List ℕ) → b ≡ a ++ x → c ≡ b ++ y → OnOk r (d ≡ c ++ z)
    → OnOk r (d ≡ a ++ (x ++ (y ++ z)))
three r a b c d x y z first second third = two r a b d x (y ++ z) first (two r b c d y z second third)

pub four : {T E : Type 0} (r : Result T E) (a b c d e x y z w : List ℕ) → b ≡ a ++ x → c ≡ b ++ y → d ≡ c ++ z → OnOk r (e ≡ d ++ w)
    → OnOk r (e ≡ a ++ (x ++ (y ++ (z ++ w))))
four r a b c d e x y z w first second third fourth = two r a b e x (y ++ (z ++ w)) first (three r b c d e y z w second third fourth)
