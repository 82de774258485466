-- Where the fault of a configuration is, reported before the line of the fault.
use Rattle.std.specs.Prelude.{◌≡◌, ◌⊎◌, ℕ, List, [], ◌++◌, codes, Result, Ok}
use Rattle.gw_configuration.specs.Shown.{shown}
use Rattle.gw_configuration.specs.declared.fault.ConfigFault.{ConfigFault}
use Rattle.gw_ending.specs.declared.fault.Fault.{Fault}
use Rattle.gw_ending.specs.reading.Configured.{IsExplainedBy}

-- where this fault of a text is: the name of the file that has the text, and the line that explains the fault
pub record IsPlaceIn (file text : List ℕ) (f : ConfigFault) (place : List ℕ) : Type 0 where
  pub note : List ℕ
  pub explains : IsExplainedBy text f note
  pub parts : place ≡ shown file ++ (codes ": " ++ note)

-- where it is in a text that the file gave, or nothing
abbrev pub PlaceText : (Reads : List ℕ → Result (List ℕ) Fault → Type 0) → (file : List ℕ) → ConfigFault → (place : List ℕ) → Type 0
PlaceText Reads file f place = (place ≡ []) ⊎ ((text : List ℕ) × Reads file (Ok text) × IsPlaceIn file text f place)

-- that is reported
abbrev pub ReportsPlace : (Reads : List ℕ → Result (List ℕ) Fault → Type 0) → (file : List ℕ) → ConfigFault
    → (Adds : List ℕ → Type 0) → Type 0
ReportsPlace Reads file f Adds = (place : List ℕ) × PlaceText Reads file f place × Adds place
