-- Texts that are appended one after the other are appended as one.
use Rattle.std.proofs.Common.{◌≡◌, ◌∙◌, ◌++◌, ℕ, List, Result, Ok, Err, OnOk, ap, append_assoc}

pub two : {T E : Type 0} (r : Result T E) (a b c x y : List ℕ) → b ≡ a ++ x → OnOk r (c ≡ b ++ y) → OnOk r (c ≡ a ++ (x ++ y))
two (Ok done) a b c x y first second = second ∙ ap (λ (t : List ℕ). t ++ y) first ∙ append_assoc a x y
two (Err failed) a b c x y first second = tt

pub joined : (a b c x y : List ℕ) → b ≡ a ++ x → c ≡ b ++ y → c ≡ a ++ (x ++ y)
joined a b c x y first second = second ∙ ap (λ (t : List ℕ). t ++ y) first ∙ append_assoc a x y

pub five : {T E : Type 0} (r : Result T E) (a b c d e f x y z v w : List ℕ) → b ≡ a ++ x → c ≡ b ++ y → d ≡ c ++ z → e ≡ d ++ v
    → OnOk r (f ≡ e ++ w) → OnOk r (f ≡ a ++ ((((x ++ y) ++ z) ++ v) ++ w))
five r a b c d e f x y z v w first second third fourth fifth =
    two r a e f (((x ++ y) ++ z) ++ v) w
    (joined a d e ((x ++ y) ++ z) v (joined a c d (x ++ y) z (joined a b c x y first second) third) fourth) fifth
