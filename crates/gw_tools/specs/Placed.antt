-- A configuration that was read, with the lines of its text on which the tables of its rules begin.
use Rattle.std.specs.Prelude.{◌≡◌, ℕ, List, [], Result, Ok, Err}
use Rattle.gw_policy_text.specs.Lines.{table_lines}
use Rattle.gw_ending.specs.declared.fault.Fault.{Fault}
use Rattle.gw_ending.specs.reading.Configured.{IsConfigurationOf}
use Rattle.gw_tools.specs.declared.placed.Placed.{Placed}

-- the text of what was read, or nothing
abbrev pub octets_or : Result (List ℕ) Fault → List ℕ
octets_or (Ok octets) = octets
octets_or (Err f) = []

-- that of a text that was read, or why there is none
abbrev pub IsPlaced : Result (List ℕ) Fault → Result Placed Fault → Type 0
IsPlaced text (Ok p) = IsConfigurationOf text (Ok p.config) × (p.lines.items ≡ table_lines p.config.written (octets_or text))
IsPlaced text (Err f) = IsConfigurationOf text (Err f)

-- that of the file of this name, which gave what `Reads` says
abbrev pub IsPlacedIn : (Reads : List ℕ → Result (List ℕ) Fault → Type 0) → List ℕ → Result Placed Fault → Type 0
IsPlacedIn Reads name p = (text : Result (List ℕ) Fault) × Reads name text × IsPlaced text p
