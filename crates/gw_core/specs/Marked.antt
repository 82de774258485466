-- A list without the items that are marked.
use Rattle.std.specs.Prelude.{Bool, true, false, List, [], ◌∷◌}

-- The items of a list but those that are marked. One without a mark stays.
abbrev pub kept : {A : Type 0} → List Bool → List A → List A
kept marks [] = []
kept [] (x ∷ xs) = x ∷ kept [] xs
kept (true ∷ marks) (x ∷ xs) = kept marks xs
kept (false ∷ marks) (x ∷ xs) = x ∷ kept marks xs
