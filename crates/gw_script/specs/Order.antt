-- Texts of the items of a list, one after the other, each by its number.
use Rattle.std.specs.Prelude.{ℕ, ◌+◌, List, [], ◌∷◌, ◌++◌}

-- the texts of items in their order, which are numbered on from this number
unfoldable pub in_order : {A : Type 0} → (ℕ → A → List ℕ) → ℕ → List A → List ℕ
in_order text number [] = []
in_order text number (item ∷ items) = text number item ++ in_order text (number + 1) items
