-- What `check --json`, `compare --json` and `objects --csv` print, over the definitions of `gw_json` and `gw_report::points`.
use Rattle.std.specs.Prelude.{◌≡◌, ◌⊎◌, ⊤, ℕ, if◌then◌else◌, List, [], ◌++◌, length, Option, Some, None, Result, Ok, Err}
use Rattle.std.specs.List.{flat_map}
use Rattle.std.specs.Str.{IsUtf8}
use Rattle.gw_policy_review.specs.comparison.Comparison.{AreResults, judged_by}
use Rattle.gw_policy_review.specs.comparison.PartLines.{details as details_of}
use Rattle.gw_policy_review.specs.comparison.Parts.{AreDifferences, name_line}
use Rattle.gw_policy_review.specs.declared.comparison.comparison.Compared.{Compared}
use Rattle.gw_policy_review.specs.declared.comparison.parts.Part.{Part}
use Rattle.gw_configuration.specs.Configuration.{Configuration}
use Rattle.gw_configuration.specs.declared.fault.ConfigFault.{ConfigFault}
use Rattle.gw_policy_text.specs.faults.Explanation.{ExplainsText}
use Rattle.gw_json.specs.Check.{checked_value, fault_value}
use Rattle.gw_json.specs.Comparison.{differences_value}
use Rattle.gw_json.specs.Document.{line_of}
use Rattle.gw_json.specs.Results.{results_lines}
use Rattle.gw_json.specs.Unheld.{unheld_value}
use Rattle.gw_ask_sets.specs.declared.assertions.judging.Judged.{Judged}
use Rattle.gw_ask_sets.specs.regions.Pairs.{Findings}
use Rattle.gw_ask_sets.specs.regions.Regions.{Region}
use Rattle.gw_ask_sets.specs.declared.regions.comparison.Found.{Found}
use Rattle.gw_ending.specs.reading.Assertions.{do_hold}
use Rattle.gw_ending.specs.declared.fault.Fault.{Fault}
use Rattle.gw_ending.specs.declared.fault.Fault.TheVariants as fault
use Rattle.gw_ending.specs.declared.reading.printing.Said.{Said}
use Rattle.gw_tools.specs.Asserting.{SaysAssertions}
use Rattle.gw_tools.specs.Checked.{SaysJudged, SaysOfText}

-- a text that was made, or memory was refused for it
abbrev pub IsMade : List ℕ → Result (List ℕ) Fault → Type 0
IsMade text (Ok made) = made ≡ text
IsMade text (Err f) = f ≡ fault.Memory

-- ---- `check`

-- the line of a configuration whose assertions were judged so: what it has, or which of them don't hold
abbrev pub judged_line : Configuration → List Judged → List ℕ
judged_line c judged = if do_hold judged then line_of (checked_value c) else line_of (unheld_value c judged)

-- what explains a fault of a text, if something is said
abbrev pub IsSaid : List ℕ → ConfigFault → Option (List ℕ) → Type 0
IsSaid text f None = ⊤
IsSaid text f (Some line) = ExplainsText text f (Some line)

-- the line of a fault of a text, or nothing if memory was refused
abbrev pub IsFaultLine : List ℕ → ConfigFault → List ℕ → Type 0
IsFaultLine text f line =
    (line ≡ []) ⊎ ((explanation : Option (List ℕ)) × IsSaid text f explanation × (line ≡ line_of (fault_value f explanation)))

-- What is printed of a fault: that line if it is one of the text that was read.
abbrev pub FaultLine : Result (List ℕ) Fault → Fault → List ℕ → Type 0
FaultLine (Ok text) (fault.Configuration f) line = IsFaultLine text f line
FaultLine _ _ line = line ≡ []

-- what is said of a configuration
abbrev pub SaysConfigInJson : Configuration → Result Said Fault → Type 0
SaysConfigInJson c said = SaysJudged (λ judged line. line ≡ judged_line c judged) c said

-- and of a text that was read, or of why none was
abbrev pub SaysCheckedInJson : Result (List ℕ) Fault → Result Said Fault → Type 0
SaysCheckedInJson text said = SaysOfText SaysConfigInJson (FaultLine text) text said

-- ---- `compare`

-- a text, if it is UTF-8
abbrev pub IsTextOf : List ℕ → Option (List ℕ) → Type 0
IsTextOf octets None = IsUtf8 octets → ⊥
IsTextOf octets (Some text) = text ≡ octets

-- The line of the parts in which two configurations differ, and of what is said of their assertions.
pub record IsPartsLine (old new : Configuration) (differ : List Part) (line : List ℕ) : Type 0 where
  pub names : Option (List ℕ)
  pub are_names : IsTextOf (flat_map name_line differ) names
  pub details : Option (List ℕ)
  pub are_details : IsTextOf (details_of old new differ) details
  pub said : List ℕ
  pub is_said : SaysAssertions old new said
  pub asserts : Option (List ℕ)
  pub are_asserts : IsTextOf said asserts
  pub is : line ≡ line_of (differences_value names details asserts)

-- That line, and the lines of what is found of what the old and the new rules decide otherwise: regions, pairs of rules where a region
-- is left, at most so many of each, and a last one with the steps in which that was found.
pub record AreComparisonLines (old new : Configuration) (most : ℕ) (made : Compared) (text : List ℕ) : Type 0 where
  pub differ : List Part
  pub are_differences : AreDifferences old new differ
  pub ahead : List ℕ
  pub is_ahead : IsPartsLine old new differ ahead
  pub found : List Found
  pub left : List Region
  pub steps : ℕ
  pub pairs : Option Findings
  pub results : AreResults old new found left steps pairs
  pub verdict : made ≡ judged_by (length differ) (length found) (length left) pairs
  pub lines : text ≡ ahead ++ results_lines old.rules new.rules most steps found pairs
