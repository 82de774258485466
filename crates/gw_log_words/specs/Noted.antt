-- A log with notes between its lines: a note is a line that begins with `#`, as no line of a denial does.
use Rattle.std.specs.Prelude.{◌≡◌, ℕ, ◌<◌, ◌==◌, Bool, true, false, if◌then◌else◌, List, [], ◌∷◌, ◌++◌, length, take, slice_index, codes, Option, Some, None}
use Rattle.std.specs.Io.KnownBytes.{Appends, Keeps}
use Rattle.gw_addr.specs.Text.{Lacks}
use Rattle.gw_log_words.specs.declared.noted.Place.{Place}
use Rattle.gw_log_words.specs.declared.noted.Place.TheVariants.{Begin, Note, Line}

-- where the octet after this one comes
abbrev pub place_after : Place → ℕ → Place
place_after Begin c = if c == 35 then Note else (if c == 10 then Begin else Line)
place_after Note c = if c == 10 then Begin else Note
place_after Line c = if c == 10 then Begin else Line

-- ---- what is left if the notes are taken away

-- an octet, if it isn't one of a note
abbrev pub octet_without : Place → ℕ → List ℕ
octet_without Begin c = if c == 35 then [] else c ∷ []
octet_without Note c = []
octet_without Line c = c ∷ []

-- a text without its notes; at first it comes at this place
unfoldable pub without_notes : Place → List ℕ → List ℕ
without_notes place [] = []
without_notes place (c ∷ text) = octet_without place c ++ without_notes (place_after place c) text

-- where what comes after a text comes
unfoldable pub place_at : Place → List ℕ → Place
place_at place [] = place
place_at place (c ∷ text) = place_at (place_after place c) text

abbrev pub is_same : Place → Place → Bool
is_same Begin Begin = true
is_same Note Note = true
is_same Line Line = true
is_same _ _ = false

-- What a log with notes holds: what its file holds, without the notes; known if that ends as the log knows.
abbrev pub held_without_notes : Place → Option (List ℕ) → Option (List ℕ)
held_without_notes place None = None
held_without_notes place (Some text) = if is_same place (place_at Begin text) then Some (without_notes Begin text) else None

-- ---- a note

-- what of a text is before its first line feed
pub record IsBeforeLineFeed (text part : List ℕ) : Type 0 where
  pub lacks : Lacks 10 part
  pub front : part ≡ take (length part) text
  pub ends : length part < length text → slice_index text (length part) ≡ 10

-- the line of a note
abbrev pub note_line : List ℕ → List ℕ
note_line part = 35 ∷ 32 ∷ (part ++ 10 ∷ [])

-- what ends a note that was written in part
abbrev pub ending : Place → List ℕ
ending Begin = []
ending Note = 10 ∷ []
ending Line = []

-- A note of a text is written at this place, after the end of one that was written in part: it is one line, which begins with `# `.
abbrev pub IsNoted : Place → (held : Option (List ℕ)) → List ℕ → (holds : Option (List ℕ)) → Type 0
IsNoted place held text holds = (part : List ℕ) × IsBeforeLineFeed text part × Appends held holds (ending place ++ note_line part)

-- ---- a new file

-- the note of a log that goes on in a new file, if it does
abbrev pub IsNotedAnew : (anew : Bool) → (held holds : Option (List ℕ)) → Type 0
IsNotedAnew true held holds = IsNoted Begin held (codes "log began anew") holds
IsNotedAnew false held holds = Keeps held holds

-- Before a line the log is asked whether it began anew, and if it did it gets that note.
pub record IsAskedAnew {S : Type 0} (held : S → Option (List ℕ)) (BeginsAnew : S → Bool → S → Type 0) (before after : S)
    : Type 0 where
  pub asked : S
  pub anew : Bool
  pub begins : BeginsAnew before anew asked
  pub noted : IsNotedAnew anew (held asked) (held after)

-- ---- a place

-- an octet at this place begins a note
abbrev pub begins_note : Place → ℕ → Bool
begins_note Begin c = c == 35
begins_note Note c = false
begins_note Line c = false
