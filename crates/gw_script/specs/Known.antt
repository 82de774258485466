-- What is said where the octets of a reader and of a writer are known.
use Rattle.std.specs.Prelude.{◌≡◌, ℕ, ◌+◌, ◌≤◌, List, length, Option, Some, IsSomeAnd}

-- Where the octets of the reader and those that the writer holds are known, they are so known afterwards, and this is
-- said of what was left to read, of what was written before and of what is written then.
abbrev pub OnKnown : Option (List ℕ) → Option (List ℕ) → Option (List ℕ) → (List ℕ → List ℕ → List ℕ → Type 0) → Type 0
OnKnown read held holds said =
    (log before : List ℕ) → read ≡ Some log → held ≡ Some before → IsSomeAnd holds (said log before)

-- what is left is at least one octet shorter than the text
abbrev pub IsShorter : List ℕ → Option (List ℕ) → Type 0
IsShorter text left = (rest : List ℕ) × (left ≡ Some rest) × (length rest + 1 ≤ length text)
