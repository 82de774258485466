-- Texts of numbers, and what no text of an address has.
use Rattle.std.specs.Prelude.{◌≢◌, ℕ, ◌<◌, List, ◌∷◌, ◌++◌, length, slice_index}
use Rattle.std.specs.Fmt.{decimal}

-- the character is nowhere in the text
abbrev pub Lacks : ℕ → List ℕ → Type 0
Lacks c text = (i : ℕ) → i < length text → slice_index text i ≢ c

-- four octets as they are written, `a.b.c.d`
unfoldable pub four_text : List ℕ → List ℕ
four_text octets =
    decimal (slice_index octets 0)
    ++ 46 ∷ (decimal (slice_index octets 1)
    ++ 46 ∷ (decimal (slice_index octets 2)
    ++ 46 ∷ decimal (slice_index octets 3)))
