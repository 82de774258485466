-- A log beside the log: its lines are written, or lost and counted.
use Rattle.std.specs.Prelude.{◌≡◌, ◌⊎◌, ℕ, ◌+◌, ◌-◌, ◌^◌, Bool, true, false, min, if◌then◌else◌, List, [], ◌∷◌, ◌++◌, length, Option}
use Rattle.std.specs.Io.KnownBytes.{Appends}
use Rattle.gw_watchers.specs.Records.{Line, last_number, lines_of}
use Rattle.gw_watchers.specs.declared.beside.Beside.{Beside}
use Rattle.gw_watchers.specs.declared.writing.RecordOutcome.{RecordOutcome}

-- ---- the lines of records

-- before the first record
abbrev pub start : ℕ → RecordOutcome
start last = record { last = last; count = 0; is_whole = true }

-- The lines of these records are made, unless a growth is refused.
pub record IsPut (due : List Line) (before : RecordOutcome) (old new : List ℕ) (after : RecordOutcome) : Type 0 where
  pub last : after.last ≡ last_number before.last due
  pub count : after.count ≡ before.count + length due
  pub whole : after.is_whole ≡ true → (before.is_whole ≡ true) × (new ≡ old ++ lines_of due)

-- ---- in the log

-- what ends a line that may be cut
abbrev pub ended : Bool → List ℕ
ended cut = if cut then 10 ∷ [] else []

-- the text is written whole
pub record IsWritten {C S : Type 0} (held : S → Option (List ℕ)) (due : List ℕ) (b c : Beside C S) : Type 0 where
  pub text : Appends (held b.sink) (held c.sink) due
  pub lost : c.lost ≡ b.lost
  pub cut : c.is_cut ≡ false

-- so many records are lost, and a front of the text is written
pub record IsLost {C S : Type 0} (held : S → Option (List ℕ)) (due : List ℕ) (count : ℕ) (b c : Beside C S) : Type 0 where
  pub front : List ℕ
  pub rest : List ℕ
  pub parts : due ≡ front ++ rest
  pub text : Appends (held b.sink) (held c.sink) front
  pub lost : c.lost ≡ min (b.lost + count) (2 ^ 64 - 1)
  pub cut : c.is_cut ≡ true

-- the text of so many records is written or lost
pub record IsEnded {C S : Type 0} (held : S → Option (List ℕ)) (due : List ℕ) (last count : ℕ) (b c : Beside C S) : Type 0 where
  pub choice : c.choice ≡ b.choice
  pub number : c.number ≡ last
  pub text : IsWritten held due b c ⊎ IsLost held due count b c

-- Records are written, a line each after the end of a cut line; or they are lost. If there is none, nothing is done.
abbrev pub IsRecorded : {C S : Type 0} → (S → Option (List ℕ)) → List Line → Beside C S → Beside C S → Type 0
IsRecorded held [] b c = c ≡ b
IsRecorded held (line ∷ due) b c =
    IsEnded held (ended b.is_cut ++ lines_of (line ∷ due)) (last_number b.number (line ∷ due)) (length (line ∷ due)) b c
