-- What becomes of a log whose lines may have something in front of their own fields.
use Rattle.std.specs.Prelude.{◌≡◌, ℕ, ◌-◌, List, [], ◌∷◌, ◌++◌, length, take, Option, Some, None, Result}
use Rattle.gw_log_words.specs.Translation.{IsTranslatedAs, RefusesNone}
use Rattle.gw_log_words.specs.declared.moment.Moment.{Moment}
use Rattle.gw_script.specs.Lines.{LeavesLines}
use Rattle.gw_script.specs.declared.lines.LinesFault.{LinesFault}
use Rattle.gw_log_words.specs.Fields.{fields_of, is_denial, says_allow}

-- these own fields after what is in front of them, which says whether the ask was allowed
abbrev pub IsTranslatedBehind : Option Moment → (front fields text : List ℕ) → Type 0
IsTranslatedBehind start front fields text =
    (translated : List ℕ) × IsTranslatedAs start (says_allow front) fields translated × (text ≡ front ++ translated)

-- A line with these own fields: what is in front of them, and the words of the denial whose line they are, or of what was
-- allowed. One without such fields is passed on as it is.
abbrev pub IsTranslationOf : Option Moment → List ℕ → Option (List ℕ) → List ℕ → Type 0
IsTranslationOf start line None text = text ≡ line ++ 10 ∷ []
IsTranslationOf start line (Some fields) text = IsTranslatedBehind start (take (length line - length fields) line) fields text

-- what becomes of a line, with a line feed after it
abbrev pub IsTranslatedAfterFront : Option Moment → List ℕ → List ℕ → Type 0
IsTranslatedAfterFront start line text = IsTranslationOf start line (fields_of is_denial line) text

-- what the writing leaves, by its outcome; only a line of more than 4096 octets ends it
abbrev pub LeavesTranslated : Option Moment → Result (Unit {0}) LinesFault → (log before after : List ℕ) → Type 0
LeavesTranslated start = LeavesLines (IsTranslatedAfterFront start) RefusesNone
