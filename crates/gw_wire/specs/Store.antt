-- What a store holds.
use Rattle.std.specs.Prelude.{◌≡◌, ℕ, List, Option, Some, None, ⊤}

-- it holds this text, if it reports what it holds
abbrev pub Holds : Option (List ℕ) → List ℕ → Type 0
Holds None text = ⊤
Holds (Some held) text = held ≡ text
