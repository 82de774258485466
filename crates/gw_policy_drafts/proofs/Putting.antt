-- Texts that are appended one after the other.
use Rattle.std.proofs.Common.{◌≡◌, ◌∙◌, ℕ, List, ◌++◌, ap, append_assoc, Result, Ok, Err}
use Rattle.std.specs.Prelude.{OnOk}

pub two_put : (x y z a b : List ℕ) → y ≡ x ++ a → z ≡ y ++ b → z ≡ x ++ (a ++ b)
two_put x y z a b e f = f ∙ ap (λ (t : List ℕ). t ++ b) e ∙ append_assoc x a b

pub three_put : (x y z u a b c : List ℕ) → y ≡ x ++ a → z ≡ y ++ b → u ≡ z ++ c → u ≡ x ++ (a ++ (b ++ c))
three_put x y z u a b c e f g = two_put x y u a (b ++ c) e (two_put y z u b c f g)

pub four_put : (x y z u v a b c d : List ℕ) → y ≡ x ++ a → z ≡ y ++ b → u ≡ z ++ c → v ≡ u ++ d → v ≡ x ++ (a ++ (b ++ (c ++ d)))
four_put x y z u v a b c d e f g h = two_put x y v a (b ++ (c ++ d)) e (three_put y z u v b c d f g h)

pub five_put : (x y z u v w a b c d o : List ℕ) → y ≡ x ++ a → z ≡ y ++ b → u ≡ z ++ c → v ≡ u ++ d → w ≡ v ++ o
    → w ≡ x ++ (a ++ (b ++ (c ++ (d ++ o))))
five_put x y z u v w a b c d o e f g h i = two_put x y w a (b ++ (c ++ (d ++ o))) e (four_put y z u v w b c d o f g h i)

-- the same where the last was tried
pub two_tried : {T E : Type 0} (r : Result T E) (x y z a b : List ℕ) → y ≡ x ++ a → OnOk r (z ≡ y ++ b) → OnOk r (z ≡ x ++ (a ++ b))
two_tried (Ok done) x y z a b e f = two_put x y z a b e f
two_tried (Err failed) x y z a b e f = tt

pub three_tried : {T E : Type 0} (r : Result T E) (x y z u a b c : List ℕ) → y ≡ x ++ a → z ≡ y ++ b → OnOk r (u ≡ z ++ c)
    → OnOk r (u ≡ x ++ (a ++ (b ++ c)))
three_tried r x y z u a b c e f g = two_tried r x y u a (b ++ c) e (two_tried r y z u b c f g)

pub four_tried : {T E : Type 0} (r : Result T E) (x y z u v a b c d : List ℕ) → y ≡ x ++ a → z ≡ y ++ b → u ≡ z ++ c → OnOk r (v ≡ u ++ d)
    → OnOk r (v ≡ x ++ (a ++ (b ++ (c ++ d))))
four_tried r x y z u v a b c d e f g h = two_tried r x y v a (b ++ (c ++ d)) e (three_tried r y z u v b c d f g h)
