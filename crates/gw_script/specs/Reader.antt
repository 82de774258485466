-- What a line reader keeps of a text, and what it says of the text's first line.
use Rattle.std.specs.Prelude.{◌≡◌, ℕ, ◌+◌, ◌≤◌, ◌<◌, ◌⊎◌, List, [], ◌∷◌, ◌++◌, length, take, drop, Option, Some, None}
use Rattle.std.specs.Prelude.{⊤}
use Rattle.gw_addr.specs.Text.{Lacks}
use Rattle.gw_script.specs.declared.reader.NextLine.{NextLine}
use Rattle.gw_script.specs.declared.reader.NextLine.TheVariants.{Line, Long, End}
use Rattle.gw_script.specs.Script.{lines_of}

-- the octets that came and weren't consumed yet, and how many calls of a source there were
pub record Reading : Type 0 where
  pub unread : List ℕ
  pub calls : ℕ

-- the text's first line has more than 4096 octets
pub record BeginsLong (text : List ℕ) : Type 0 where
  pub line : List ℕ
  pub others : List (List ℕ)
  pub over : 4096 < length line
  pub lines : lines_of text ≡ line ∷ others

-- a line that is unread has at most 4096 octets, and is there whole; with its line feed it has at least one
abbrev pub IsWithin : List ℕ → NextLine → Type 0
IsWithin unread (Line len span) = (len ≤ 4096) × (len ≤ length unread) × (1 ≤ span) × (span ≤ length unread)
IsWithin unread Long = ⊤
IsWithin unread End = ⊤

-- what is said of the text that is unread and what comes after it
abbrev pub IsNextLine : List ℕ → List ℕ → NextLine → Type 0
IsNextLine unread rest (Line len span) =
    lines_of (unread ++ rest) ≡ take len unread ∷ lines_of (drop span unread ++ rest)
IsNextLine unread rest Long = BeginsLong (unread ++ rest)
IsNextLine unread rest End = lines_of (unread ++ rest) ≡ []

-- what is unread shows what comes first: it has a line feed, or more than 4096 octets
abbrev pub IsAtHand : List ℕ → Type 0
IsAtHand unread = (¬ (Lacks 10 unread)) ⊎ (4096 < length unread)

-- each call more is an octet less that a source has left, where it is known
abbrev pub IsGiven : ℕ → Option (List ℕ) → ℕ → Option (List ℕ) → Type 0
IsGiven calls None more new = ⊤
IsGiven calls (Some xs) more None = ⊥
IsGiven calls (Some xs) more (Some ys) = more + length ys ≤ calls + length xs

-- the calls went on by at most one for each octet that a source gave, and one, where it is known what it had left
abbrev pub IsPaid : ℕ → Option (List ℕ) → ℕ → Option (List ℕ) → Type 0
IsPaid calls None more new = ⊤
IsPaid calls (Some xs) more None = ⊥
IsPaid calls (Some xs) more (Some ys) = more + length ys ≤ calls + length xs + 1
