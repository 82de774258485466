-- What is found by a key of which no two are one.
use Rattle.std.proofs.Common.{◌≡◌, ◌∙◌, ap, Bool, true, false, cond, List, [], ◌∷◌, ◌++◌, Some}
use Rattle.std.specs.Prelude.{find}
use Rattle.std.specs.List.{AllByRecursion}

module _ {X S : Type 0} (is : X → S → Bool) where
  -- none of these is that of an item
  abbrev pub Apart : X → List S → Type 0
  Apart x saved = AllByRecursion (λ s. is x s ≡ false) saved

  abbrev pub AllApart : List X → List S → Type 0
  AllApart xs saved = AllByRecursion (λ x. Apart x saved) xs

  -- what is found after others
  pub find_after : (x : X) (before : List S) (s : S) (later : List S) → Apart x before → is x s ≡ true
      → find (is x) (before ++ s ∷ later) ≡ Some s
  find_after x [] s later apart here = ap (λ b. cond b (Some s) (find (is x) later)) here
  find_after x (t ∷ before) s later apart here =
      ap (λ b. cond b (Some t) (find (is x) (before ++ s ∷ later))) apart.0 ∙ find_after x before s later apart.1 here

  apart_push : (x : X) (before : List S) (s : S) → Apart x before → is x s ≡ false → Apart x (before ++ s ∷ [])
  apart_push x [] s apart ne = (ne, tt)
  apart_push x (t ∷ before) s apart ne = (apart.0, apart_push x before s apart.1 ne)

  pub all_push : (xs : List X) (before : List S) (s : S) → AllApart xs before → AllByRecursion (λ x. is x s ≡ false) xs
      → AllApart xs (before ++ s ∷ [])
  all_push [] before s apart ne = tt
  all_push (x ∷ xs) before s apart ne = (apart_push x before s apart.0 ne.0, all_push xs before s apart.1 ne.1)

  pub apart_none : (xs : List X) → AllApart xs []
  apart_none [] = tt
  apart_none (x ∷ xs) = (tt, apart_none xs)
