-- Texts that are appended one after the other are appended as one.
use Rattle.std.proofs.Common.{◌≡◌, ◌∙◌, ◌++◌, ℕ, List, Result, Ok, Err, OnOk, ap, append_assoc}

-- two texts, and one more
pub joined : {T E : Type 0} (r : Result T E) (a b c x y : List ℕ) → b ≡ a ++ x → OnOk r (c ≡ b ++ y) → OnOk r (c ≡ a ++ (x ++ y))
joined (Ok done) a b c x y first second = second ∙ ap (λ (t : List ℕ). t ++ y) first ∙ append_assoc a x y
joined (Err failed) a b c x y first second = tt

pub three : {T E : Type 0} (r : Result T E) (a b c d x y z : List ℕ) → b ≡ a ++ x → c ≡ b ++ y → OnOk r (d ≡ c ++ z)
    → OnOk r (d ≡ a ++ (x ++ (y ++ z)))
three r a b c d x y z first second third = joined r a b d x (y ++ z) first (joined r b c d y z second third)

pub four : {T E : Type 0} (r : Result T E) (a b c d e x y z w : List ℕ) → b ≡ a ++ x → c ≡ b ++ y → d ≡ c ++ z → OnOk r (e ≡ d ++ w)
    → OnOk r (e ≡ a ++ (x ++ (y ++ (z ++ w))))
four r a b c d e x y z w first second third fourth =
    joined r a b e x (y ++ (z ++ w)) first (three r b c d e y z w second third fourth)

pub five : {T E : Type 0} (r : Result T E) (a b c d e f x y z w v : List ℕ) → b ≡ a ++ x → c ≡ b ++ y → d ≡ c ++ z → e ≡ d ++ w
    → OnOk r (f ≡ e ++ v) → OnOk r (f ≡ a ++ (x ++ (y ++ (z ++ (w ++ v)))))
five r a b c d e f x y z w v first second third fourth fifth =
    joined r a b f x (y ++ (z ++ (w ++ v))) first (four r b c d e f y z w v second third fourth fifth)

-- a text and a number after it, as one piece
pub pair : (a b x y : List ℕ) → b ≡ (a ++ x) ++ y → b ≡ a ++ (x ++ y)
pair a b x y first = first ∙ append_assoc a x y
