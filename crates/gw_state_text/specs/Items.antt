-- Items in order, each of which fits those before it.
use Rattle.std.specs.Prelude.{ℕ, ◌≤◌, List, [], ◌∷◌, ◌++◌, length, ⊤}

-- each item fits those before it
unfoldable pub AllFit : {A : Type 0} → (List A → A → Type 0) → List A → List A → Type 0
AllFit Fits before [] = ⊤
AllFit Fits before (item ∷ items) = Fits before item × AllFit Fits (before ++ item ∷ []) items

-- items of which there can be so many
pub record AreItems {A : Type 0} (Fits : List A → A → Type 0) (most : ℕ) (items : List A) : Type 0 where
  pub few : length items ≤ most
  pub fit : AllFit Fits [] items
