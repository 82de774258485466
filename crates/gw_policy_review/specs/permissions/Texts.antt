-- Texts of which is said when they are made.
use Rattle.std.specs.Prelude.{◌≡◌, ℕ, ◌+◌, List, [], ◌∷◌, ◌++◌}

-- a text of which this holds follows what a buffer held
abbrev pub Appends : (List ℕ → Type 0) → List ℕ → List ℕ → Type 0
Appends Is old new = (text : List ℕ) × Is text × (new ≡ old ++ text)

-- the texts of items in their order, which are numbered on from this number, one after the other, each made with steps of those that are
-- left: so many before, and after
abbrev pub AreInTurn : {A : Type 0} → (ℕ → A → (left rest : ℕ) → List ℕ → Type 0) → ℕ → List A → (left rest : ℕ) → List ℕ → Type 0
AreInTurn Is number [] left rest text = (rest ≡ left) × (text ≡ [])
AreInTurn Is number (item ∷ items) left rest text =
    (between : ℕ) × (first others : List ℕ) × Is number item left between first
    × AreInTurn Is (number + 1) items between rest others × (text ≡ first ++ others)
