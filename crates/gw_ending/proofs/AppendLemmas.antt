-- What several writes one after the other append.
use Rattle.std.proofs.Common.{◌≡◌, ◌∙◌, ◌++◌, ap, append_assoc, sym, ℕ, List, Result, Ok, Err, Option, Some, None, OnOk}
use Rattle.std.specs.Io.KnownBytes.{Appends}
use Rattle.gw_notices.proofs.AppendLemmas.{appends_two}

-- three texts that are appended are appended as one
pub appends_three : (a b c d : Option (List ℕ)) (x y z : List ℕ) → Appends a b x → Appends b c y → Appends c d z → Appends a d (x ++ (y ++ z))
appends_three None b c d x y z first second third = tt
appends_three (Some a) None c d x y z first second third = absurd first
appends_three (Some a) (Some b) None d x y z first second third = absurd second
appends_three (Some a) (Some b) (Some c) None x y z first second third = absurd third
appends_three (Some a) (Some b) (Some c) (Some d) x y z first second third =
    third ∙ ap (λ (t : List ℕ). t ++ z) (second ∙ ap (λ (t : List ℕ). t ++ y) first ∙ append_assoc a x y) ∙ append_assoc a (x ++ y) z
    ∙ ap (λ (t : List ℕ). a ++ t) (append_assoc x y z)

-- the last of three writes ends well only where it appends its text
pub three_writes : {T E : Type 0} (r : Result T E) (a b c d : Option (List ℕ)) (x y z : List ℕ) → Appends a b x → Appends b c y → OnOk r (Appends c d z) → OnOk r (Appends a d (x ++ (y ++ z)))
three_writes (Ok done) a b c d x y z first second third = appends_three a b c d x y z first second third
three_writes (Err failed) a b c d x y z first second third = tt

-- a line of four parts and its end
pub line_joined : (a b c d e : List ℕ) → (a ++ (b ++ c)) ++ (d ++ e) ≡ (a ++ b ++ c ++ d) ++ e
line_joined a b c d e = sym (ap (λ (t : List ℕ). t ++ (d ++ e)) (append_assoc a b c)) ∙ sym (append_assoc (a ++ b ++ c) d e)

-- the last of four writes ends well only if it appends its text
pub four_writes : {T E : Type 0} (r : Result T E) (a b c d e : Option (List ℕ)) (w x y z : List ℕ) → Appends a b w → Appends b c x → Appends c d y
    → OnOk r (Appends d e z) → OnOk r (Appends a e ((w ++ (x ++ y)) ++ z))
four_writes (Ok done) a b c d e w x y z first second third fourth =
    appends_two a d e (w ++ (x ++ y)) z (appends_three a b c d w x y first second third) fourth
four_writes (Err failed) a b c d e w x y z first second third fourth = tt
