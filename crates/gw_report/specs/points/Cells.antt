-- Cells of a table of separated values (RFC 4180), with semicolons between them.
use Rattle.std.specs.Prelude.{ℕ, nat_eq, Bool, false, ◌==◌, ◌||◌, if◌then◌else◌, List, [], ◌∷◌, ◌++◌}
use Rattle.std.specs.List.{flat_map, list_any, starts_with}

-- a line of the table: its cells
abbrev pub Row : Type 0
Row = List (List ℕ)

-- an octet is one of these
abbrev pub is_one_of : List ℕ → ℕ → Bool
is_one_of marks octet = list_any (λ mark. octet == mark) marks

-- the octets that only a quoted cell can have: a semicolon, a quote and the two of a line's end
abbrev pub marks : List ℕ
marks = 59 ∷ 34 ∷ 13 ∷ 10 ∷ []

abbrev pub is_marked : List ℕ → Bool
is_marked cell = list_any (is_one_of marks) cell

-- between quotes a quote is written twice
abbrev pub doubled : ℕ → List ℕ
doubled octet = if octet == 34 then 34 ∷ 34 ∷ [] else octet ∷ []

abbrev pub quoted : List ℕ → List ℕ
quoted cell = 34 ∷ (flat_map doubled cell ++ 34 ∷ [])

-- a cell, between quotes if it has to be
unfoldable pub cell_text : List ℕ → List ℕ
cell_text cell = if is_marked cell then quoted cell else cell

abbrev pub next_text : List ℕ → List ℕ
next_text cell = 59 ∷ cell_text cell

-- a line with the two octets at its end
abbrev pub row_text : Row → List ℕ
row_text [] = 13 ∷ 10 ∷ []
row_text (cell ∷ cells) = cell_text cell ++ (flat_map next_text cells ++ 13 ∷ 10 ∷ [])

-- A spreadsheet takes a text for a formula that begins with `=`, `+`, `-`, `@`, a tab, a line feed or a carriage return. An
-- apostrophe in front keeps it a text. A text that begins with an apostrophe gets one too, so that each text is found again.
abbrev pub risks : List ℕ
risks = 61 ∷ 43 ∷ 45 ∷ 64 ∷ 9 ∷ 10 ∷ 13 ∷ 39 ∷ []

-- The four signs are taken so in full width, too: U+FF1D, U+FF0B, U+FF0D and U+FF20, of three octets each (UTF-8).
abbrev pub wide_risks : List (List ℕ)
wide_risks = (239 ∷ 188 ∷ 157 ∷ []) ∷ (239 ∷ 188 ∷ 139 ∷ []) ∷ (239 ∷ 188 ∷ 141 ∷ []) ∷ (239 ∷ 188 ∷ 160 ∷ []) ∷ []

abbrev pub begins_wide : List ℕ → Bool
begins_wide text = list_any (λ sign. starts_with nat_eq text sign) wide_risks

-- a spreadsheet may take the text for a formula
unfoldable pub is_risky : List ℕ → Bool
is_risky [] = false
is_risky (octet ∷ text) = is_one_of risks octet || begins_wide (octet ∷ text)

unfoldable pub guarded : List ℕ → List ℕ
guarded text = if is_risky text then 39 ∷ text else text

-- the text without an apostrophe in front
unfoldable pub unguarded : List ℕ → List ℕ
unguarded [] = []
unguarded (octet ∷ text) = if octet == 39 then text else octet ∷ text
