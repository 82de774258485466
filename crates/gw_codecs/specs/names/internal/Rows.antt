-- A row of a table as the code has it.
use Rattle.std.specs.Prelude.{ℕ, List}
use Rattle.std.specs.Borrow.{Bor}

-- a row that a name is lent from
abbrev pub plain : ℕ × Bor (List ℕ) → ℕ × List ℕ
plain row = (row.0, row.1.now)
