-- What a search in a list finds.
use Rattle.std.proofs.Common.{◌≡◌, Bool, true, false, cond, List, [], ◌∷◌, map, Option, Some, None, option_map, refl, sym, ap, subst, ◌∙◌}
use Rattle.std.specs.List.{All, Contains, find}
use Rattle.std.proofs.lemmas.List.Elements.{All-cons, All-contains_itself, All-head, All-nil, All-tail, Contains-append_right}

-- the first element and the others
head_contained : {X : Type 0} (x : X) (xs : List X) → Contains (x ∷ xs) x
head_contained x xs = All-head (Contains (x ∷ xs)) x xs (All-contains_itself (x ∷ xs))

-- what is found passes the test, and is an element
passes_head : {X : Type 0} (test : X → Bool) (y x : X) (rest : Option X) → (rest ≡ Some x → test x ≡ true) → (b : Bool) → test y ≡ b → cond b (Some y) rest ≡ Some x → test x ≡ true
passes_head test y x rest later true t e = let same : y ≡ x = cc in ap test (sym same) ∙ t
passes_head test y x rest later false t e = later e

pub found_passes : {X : Type 0} (test : X → Bool) (xs : List X) (x : X) → find test xs ≡ Some x → test x ≡ true
found_passes test [] x e = absurd cc
found_passes test (y ∷ ys) x e = passes_head test y x (find test ys) (found_passes test ys x) (test y) refl e

contained_head : {X : Type 0} (y x : X) (ys : List X) (rest : Option X) → (rest ≡ Some x → Contains ys x) → (b : Bool) → cond b (Some y) rest ≡ Some x → Contains (y ∷ ys) x
contained_head y x ys rest later true e = let same : y ≡ x = cc in subst (Contains (y ∷ ys)) same (head_contained y ys)
contained_head y x ys rest later false e = Contains-append_right (y ∷ []) ys x (later e)

pub found_contained : {X : Type 0} (test : X → Bool) (xs : List X) (x : X) → find test xs ≡ Some x → Contains xs x
found_contained test [] x e = absurd cc
found_contained test (y ∷ ys) x e = contained_head y x ys (find test ys) (found_contained test ys x) (test y) e

-- nothing is found exactly if no element passes
fails_head : {X : Type 0} (test : X → Bool) (y : X) (ys : List X) (rest : Option X) → (rest ≡ None → All (λ x. test x ≡ false) ys) → (b : Bool) → test y ≡ b → cond b (Some y) rest ≡ None → All (λ x. test x ≡ false) (y ∷ ys)
fails_head test y ys rest later true t e = absurd cc
fails_head test y ys rest later false t e = All-cons (λ x. test x ≡ false) y ys t (later e)

pub none_passes : {X : Type 0} (test : X → Bool) (xs : List X) → find test xs ≡ None → All (λ x. test x ≡ false) xs
none_passes test [] e = All-nil (λ x. test x ≡ false)
none_passes test (y ∷ ys) e = fails_head test y ys (find test ys) (none_passes test ys) (test y) refl e

pub none_found : {X : Type 0} (test : X → Bool) (xs : List X) → All (λ x. test x ≡ false) xs → find test xs ≡ None
none_found test [] fails = refl
none_found test (y ∷ ys) fails =
    ap (λ (b : Bool). cond b (Some y) (find test ys)) (All-head (λ x. test x ≡ false) y ys fails)
    ∙ none_found test ys (All-tail (λ x. test x ≡ false) y ys fails)

-- a search among what a list is mapped to
mapped_head : {A B : Type 0} (f : A → B) (a : A) (b : Bool) (rest : Option B) (others : Option A) → rest ≡ option_map f others → cond b (Some (f a)) rest ≡ option_map f (cond b (Some a) others)
mapped_head f a true rest others e = refl
mapped_head f a false rest others e = e

pub found_mapped : {A B : Type 0} (f : A → B) (test : B → Bool) (xs : List A) → find test (map f xs) ≡ option_map f (find (λ x. test (f x)) xs)
found_mapped f test [] = refl
found_mapped f test (x ∷ xs) = mapped_head f x (test (f x)) (find test (map f xs)) (find (λ y. test (f y)) xs) (found_mapped f test xs)
