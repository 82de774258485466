-- The last line of a log that shows a denial.
use Rattle.std.specs.Prelude.{◌≡◌, ◌≢◌, ◌⊎◌, ℕ, ◌==◌, if◌then◌else◌, List, [], ◌∷◌, ◌++◌, Option, Some, None}
use Rattle.std.specs.Fmt.{decimal}
use Rattle.gw_addr.specs.Text.{Lacks}
use Rattle.gw_audit.specs.Entry.{IsLineOf}
use Rattle.gw_audit.specs.declared.denial.Denial.{Denial}
use Rattle.gw_audit.specs.internal.Reading.{or_else}
use Rattle.gw_log_words.specs.Fields.{fields_of, is_denial}

-- an octet in front of the first of some lines, if there is one
abbrev pub in_front : ℕ → List (List ℕ) → List (List ℕ)
in_front c [] = []
in_front c (line ∷ lines) = (c ∷ line) ∷ lines

-- The whole lines of a text, without their line feeds. What follows the last line feed is none.
unfoldable pub whole_lines : List ℕ → List (List ℕ)
whole_lines [] = []
whole_lines (c ∷ text) = if c == 10 then [] ∷ whole_lines text else in_front c (whole_lines text)

-- the own fields of the last of some lines that shows a denial, whatever is in front of them in that line
unfoldable pub last_shown : List (List ℕ) → Option (List ℕ)
last_shown [] = None
last_shown (line ∷ lines) = or_else (last_shown lines) (fields_of is_denial line)

-- the same of the whole lines of a text
abbrev pub last_denial : List ℕ → Option (List ℕ)
last_denial text = last_shown (whole_lines text)

-- a line begins after this text: it is empty, or ends in a line feed
abbrev pub BeginsLine : List ℕ → Type 0
BeginsLine text = (text ≡ []) ⊎ ((lines : List ℕ) × (text ≡ lines ++ 10 ∷ []))

-- Of the whole lines of a text this denial is shown last: a line's own fields are its line, and no whole line after that shows one.
pub record ShowsLast (text : List ℕ) (d : Denial) : Type 0 where
  pub before : List ℕ
  pub line : List ℕ
  pub fields : List ℕ
  pub after : List ℕ
  pub parts : text ≡ before ++ (line ++ 10 ∷ after)
  pub begins : BeginsLine before
  pub whole : Lacks 10 line
  pub shows : fields_of is_denial line ≡ Some fields
  pub spelled : IsLineOf fields d
  pub last : last_denial after ≡ None

-- What a text shows last is found, whatever comes before it and whatever follows that shows no denial, as notes.
abbrev pub FindsLast : Type 0
FindsLast = (text : List ℕ) (d : Denial) → ShowsLast text d → (fields : List ℕ) × (last_denial text ≡ Some fields) × IsLineOf fields d

-- A word that is no number hides nothing in a line: with it in front, as a stamp is, a line has the same own fields.
abbrev pub HidesNothing : Type 0
HidesNothing = (word line : List ℕ) → Lacks 32 word → ((n : ℕ) → word ≢ decimal n)
    → fields_of is_denial (word ++ 32 ∷ line) ≡ fields_of is_denial line
