-- The line that says where a fault of a configuration is.
use Rattle.std.specs.Prelude.{◌≡◌, ◌≢◌, ℕ, ◌<◌, ◌≤◌, ◌==◌, not, nat_lt, if◌then◌else◌, List, ◌++◌}
use Rattle.std.specs.Prelude.{[], ◌∷◌, Bool, false, drop, nat_eq}
use Rattle.std.specs.Cmp.Lexicographic.{pointwise}
use Rattle.std.specs.Prelude.{length, map, codes, count_by, reverse, take, Option, Some, None, Ok, Err}
use Rattle.std.specs.List.{take_while}
use Rattle.std.specs.Str.{IsUtf8}
use Rattle.toml.specs.Data.{Members, no_members}
use Rattle.gw_configuration.specs.declared.fault.ConfigFault.{ConfigFault}
use Rattle.gw_configuration.specs.declared.fault.ConfigFault.TheVariants.{TooMany}
use Rattle.gw_configuration.specs.Configuration.{Configuration}
use Rattle.gw_configuration.specs.Shown.{shown}
use Rattle.gw_configuration.specs.Located.{Find, Located, Read, numbered, without_place}
use Rattle.gw_policy_text.specs.Document.{document, located_configuration}
use Rattle.gw_policy_text.specs.faults.Place.{place_words, value_at}
use Rattle.gw_policy_text.specs.faults.FaultWords.{fault_words}
use Rattle.gw_policy_text.specs.faults.Wanted.{wanted_words}

-- what a text as a whole lacks

-- the line and the column, both from 1, of what follows this front of a text
abbrev pub position_words : List ℕ → List ℕ
position_words front =
    numbered (codes ", line ") (count_by (λ c. c == 10) front)
    ++ numbered (codes ", column ") (length (take_while (λ c. not (c == 10)) (reverse front)))

-- what to write in the place of what is there twice: a table, which begins with a bracket, or a key
abbrev pub is_bracket : List ℕ → Bool
is_bracket (c ∷ rest) = c == 91
is_bracket [] = false

abbrev pub help_words : (reason rest : List ℕ) → List ℕ
help_words reason rest =
    if not (pointwise nat_eq reason (codes "duplicate key")) then []
    else if is_bracket rest
    then codes "; of several tables each is in double brackets, as [[rule]], and what is of a port, as [[port.peer]], comes after its [[port]]"
    else codes "; each key is given once in a table"

-- no document: the place up to which it was read, a reason in words of the reader, and what to write if a key is there twice
pub record IsNoDocument (text words : List ℕ) : Type 0 where
  pub place : ℕ
  pub within : place ≤ length text
  pub reason : List ℕ
  pub fault_named :
      words ≡ codes "is no TOML document" ++ position_words (take place text) ++ codes ": " ++ reason ++ help_words reason (drop place text)

-- it is too long, isn't UTF-8, or is no document
pub record IsTextWanted (text words : List ℕ) : Type 0 where
  pub long : 1048576 < length text → words ≡ codes "at most 1048576 octets"
  pub no_text : length text ≤ 1048576 → ¬ (IsUtf8 text) → words ≡ codes "is no TOML document, since it isn't UTF-8"
  pub no_document : length text ≤ 1048576 → IsUtf8 text → IsNoDocument text words

-- the line

-- the tables of a text that isn't too long
abbrev pub tables_in : List ℕ → Read Members
tables_in text = if nat_lt 1048576 (length text) then Err TooMany else document text

-- the tables of a text, none where it has none
abbrev pub tables_or : Read Members → Members
tables_or (Ok top) = top
tables_or (Err fault) = no_members

-- the words that end the line: what is wanted there, or what a text without tables lacks
abbrev pub IsWanted : List ℕ → Read Members → Located → List ℕ → Type 0
IsWanted text (Ok top) located words = words ≡ wanted_words located top
IsWanted text (Err fault) located words = IsTextWanted text words

-- the line of a fault that was found in these tables of a text: its place, what is reported first of it, and what is wanted there
pub record IsExplanation (text : List ℕ) (found : Find Configuration) (top : Members) (Wanted : Located → List ℕ → Type 0)
    (fault : ConfigFault) (line : List ℕ) : Type 0 where
  pub located : Located
  pub first : found ≡ Err located
  pub same : located.fault ≡ fault
  pub last : List ℕ
  pub wanted : Wanted located last
  pub words : line ≡ shown (place_words located top text ++ fault_words fault (value_at located top) ++ last)

-- the line of this fault, or none where the first fault that was found isn't this one
abbrev pub Explains : (text : List ℕ) → Find Configuration → Members → (Located → List ℕ → Type 0) → ConfigFault → Option (List ℕ)
    → Type 0
Explains text found top Wanted fault (Some line) = IsExplanation text found top Wanted fault line
Explains text found top Wanted fault None = without_place found ≢ Err fault

-- the line that explains this fault of a text, or none where it isn't the first of the text
abbrev pub ExplainsText : List ℕ → ConfigFault → Option (List ℕ) → Type 0
ExplainsText text fault line =
    Explains text (located_configuration text) (tables_or (tables_in text)) (IsWanted text (tables_in text)) fault line
