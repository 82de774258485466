-- The first of a list that passes a test.
use Rattle.std.proofs.Common.{◌≡◌, ◌∙◌, refl, ap, ap₂, Bool, true, false, not, ◌&&◌, ◌||◌, List, [], ◌∷◌, ◌++◌, Some}
use Rattle.std.specs.Prelude.{find, is_some, if◌then◌else◌}
use Rattle.std.specs.List.{list_any}
use Rattle.std.proofs.lemmas.Bool.{and_parts, or_parts}
use Rattle.gw_state_words.specs.takeover.Findings.{absence_of}
use Rattle.gw_state_words.specs.takeover.Laws.{FirstsAreFound, is_first}

not_true : (b : Bool) → not b ≡ true → b ≡ false
not_true true e = absurd cc
not_true false e = refl

found : {A : Type 0} (test : A → Bool) (before after : List A) (s : A) → test s ≡ true → list_any test before ≡ false
    → find test (before ++ s ∷ after) ≡ Some s
found test [] after s is none = ap (λ (b : Bool). if b then Some s else find test after) is
found test (x ∷ before) after s is none =
    let parts = or_parts (test x) (list_any test before) none in
    ap (λ (b : Bool). if b then Some x else find test (before ++ s ∷ after)) parts.0 ∙ found test before after s is parts.1

pub firsts_are_found : (A : Type 0) → FirstsAreFound A
firsts_are_found A test before after s e =
    let parts = and_parts (test s) (not (list_any test before)) e in
    found test before after s parts.0 (not_true (list_any test before) parts.1)

any_same : {A : Type 0} (p q : A → Bool) → ((x : A) → p x ≡ q x) → (xs : List A) → list_any p xs ≡ list_any q xs
any_same p q same [] = refl
any_same p q same (x ∷ xs) = ap₂ (λ (a b : Bool). a || b) (same x) (any_same p q same xs)

settled : (r any : Bool) → (not r || (any && not r)) ≡ not r
settled true true = refl
settled true false = refl
settled false true = refl
settled false false = refl

-- where all that find it find alike, one finds it first exactly if one finds it and none before it is found
pub firsts : {A B : Type 0} (test : A → B → Bool) (alike : B → Bool) (before : List B) (s : B)
    → ((x : A) (y : B) → test x s ≡ true → test x y ≡ alike y) → (xs : List A)
    → list_any (λ x. is_first (test x) before s) xs ≡ (list_any (λ x. test x s) xs && not (list_any alike before))
firsts test alike before s same [] = refl
firsts test alike before s same (x ∷ xs) =
    by (test x s) (list_any (λ y. is_first (test y) before s) xs) (list_any (λ y. test y s) xs) refl (firsts test alike before s same xs)
  where
    by : (b later rest : Bool) → test x s ≡ b → later ≡ (rest && not (list_any alike before))
        → ((b && not (list_any (test x) before)) || later) ≡ ((b || rest) && not (list_any alike before))
    by true later rest e ih =
        ap₂ (λ (r l : Bool). not r || l) (any_same (test x) alike (λ y. same x y e) before) ih ∙ settled (list_any alike before) rest
    by false later rest e ih = ih

-- nothing is taken over exactly if it isn't configured or appears before
pub absent : (configured repeated : Bool) → is_some (absence_of configured repeated) ≡ not (configured && not repeated)
absent true true = refl
absent true false = refl
absent false true = refl
absent false false = refl
