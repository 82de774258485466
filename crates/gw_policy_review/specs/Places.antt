-- Where the text of a configuration has the table that a rule of the list comes from, and the words of that place. `tables` are the
-- positions, from 0, of the tables of the rules in their order; `lines` are the lines on which the tables of the text begin, in their
-- order, or none if they aren't known.
use Rattle.std.specs.Prelude.{◌≡◌, ◌≤◌, ℕ, ◌+◌, ◌-◌, ◌==◌, ◌&&◌, Bool, false, true, nat_lt, if◌then◌else◌, List, [], ◌++◌, codes, decimal}
use Rattle.std.specs.Prelude.{Option, Some, None, option_map, slice_get}
use Rattle.gw_configuration.specs.Configuration.{are_counted}

-- the number, from 1, of the table of the rule of this number
abbrev pub table_of : (tables : List ℕ) → (number : ℕ) → Option ℕ
table_of tables number = option_map (λ table. table + 1) (slice_get tables (number - 1))

-- the line on which the table of this number begins
abbrev pub line_of : (lines : List ℕ) → (table : ℕ) → Option ℕ
line_of lines table = slice_get lines (table - 1)

unfoldable pub line_words : Option ℕ → List ℕ
line_words None = codes ")"
line_words (Some line) = codes ", line " ++ (decimal line ++ codes ")")

-- ` (table 3, line 41)`
unfoldable pub table_words : (table : ℕ) → Option ℕ → List ℕ
table_words table line = codes " (table " ++ (decimal table ++ line_words line)

-- that of the table of a rule, unless its number is the rule's own
abbrev pub words_beside : (lines : List ℕ) → (number : ℕ) → Option ℕ → List ℕ
words_beside lines number None = []
words_beside lines number (Some table) = if table == number then [] else table_words table (line_of lines table)

abbrev pub place_words : (tables lines : List ℕ) → (number : ℕ) → List ℕ
place_words tables lines number = words_beside lines number (table_of tables number)

-- The rule of this number is for the way or for the answers of another one: the rule before it is of the same table.
abbrev pub has_same : Option ℕ → Option ℕ → Bool
has_same (Some table) (Some other) = table == other
has_same _ _ = false

abbrev pub is_derived : (tables : List ℕ) → (number : ℕ) → Bool
is_derived tables number = nat_lt 1 number && has_same (table_of tables (number - 1)) (table_of tables number)

-- law: where each table is the rule of its own number, no place is named
abbrev pub PlacesAreLeftOut : Type 0
PlacesAreLeftOut = (tables lines : List ℕ) (number : ℕ) → 1 ≤ number → are_counted 0 tables ≡ true → place_words tables lines number ≡ []
