-- A log whose lines begin with the time at which they came.
use Rattle.std.specs.Prelude.{◌≡◌, ◌≢◌, ℕ, ◌+◌, ◌*◌, ◌<◌, ◌==◌, pos, Bool, true, false, not, if◌then◌else◌, List, [], ◌∷◌, ◌++◌, length, slice_index, codes, Option, Some, None}
use Rattle.std.specs.Option.{option_map_or}
use Rattle.std.specs.Io.KnownBytes.{Appends}
use Rattle.gw_log_words.specs.declared.moment.Moment.{Moment}
use Rattle.gw_log_words.specs.Moment.{moment_text}
use Rattle.jiff_core.specs.DateTime.{civil_nanos}
use Rattle.toml_datetime.specs.declared.datetime.Offset.TheVariants.{Z}

-- `2026-11-27T08:00:00Z`, or `-` if the time isn't known
abbrev pub stamp_word : Option Moment → List ℕ
stamp_word at = option_map_or moment_text at (codes "-")

-- and a space
abbrev pub stamp_text : Option Moment → List ℕ
stamp_text at = stamp_word at ++ 32 ∷ []

-- ---- what is left if the stamps are taken away

-- A text without the first word of each line, and the space after it; at first it is in such a word or in what follows it.
unfoldable pub without_stamps : (in_stamp : Bool) → List ℕ → List ℕ
without_stamps in_stamp [] = []
without_stamps true (c ∷ text) = without_stamps (not (c == 32)) text
without_stamps false (c ∷ text) = c ∷ without_stamps (c == 10) text

-- whether a text ends in the first word of a line
unfoldable pub ends_in_stamp : (in_stamp : Bool) → List ℕ → Bool
ends_in_stamp in_stamp [] = in_stamp
ends_in_stamp true (c ∷ text) = ends_in_stamp (not (c == 32)) text
ends_in_stamp false (c ∷ text) = ends_in_stamp (c == 10) text

-- a text ends so
abbrev pub ends_so : (in_stamp : Bool) → List ℕ → Bool
ends_so true text = ends_in_stamp true text
ends_so false text = not (ends_in_stamp true text)

-- What a stamped log holds: what its file holds, without the stamps; known if that ends as the log knows, in a stamp or not.
abbrev pub held_without : (in_stamp : Bool) → Option (List ℕ) → Option (List ℕ)
held_without in_stamp None = None
held_without in_stamp (Some text) = if ends_so in_stamp text then Some (without_stamps true text) else None

-- ---- a write

-- a line feed is nowhere but at the end
abbrev pub EndsAtMost : List ℕ → Type 0
EndsAtMost piece = (i : ℕ) → i + 1 < length piece → slice_index piece i ≢ 10

-- the stamp of a line that begins: what the clock may show; and nothing within a line
abbrev pub IsStamp : (Shows : Option Moment → Type 0) → (begins : Bool) → List ℕ → Type 0
IsStamp Shows true stamp = (at : Option Moment) × Shows at × (stamp ≡ stamp_text at)
IsStamp Shows false stamp = stamp ≡ []

-- a piece was written, after the stamp of the line if it begins there
pub record IsWrittenStamped (Shows : Option Moment → Type 0) (begins : Bool) (held holds : Option (List ℕ)) (piece : List ℕ)
    : Type 0 where
  pub stamp : List ℕ
  pub is : IsStamp Shows begins stamp
  pub written : Appends held holds (stamp ++ piece)

-- ---- a new file

-- its log is asked whether it began anew only where a line begins
abbrev pub BeginsIf : (Begins : Bool → Type 0) → (in_stamp anew : Bool) → Type 0
BeginsIf Begins true anew = Begins anew
BeginsIf Begins false anew = anew ≡ false

-- ---- the moment of the stamp

-- the moment so many seconds after 1970-01-01T00:00:00Z, by a clock of UTC
pub record IsSecondsLater (seconds : ℕ) (m : Moment) : Type 0 where
  pub nanoseconds : civil_nanos m.local ≡ pos (seconds * 1000000000)
  pub offset : m.offset ≡ Z
