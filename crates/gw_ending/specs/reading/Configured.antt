-- The configuration that a command runs under, and what `check` says of one.
use Rattle.std.specs.Prelude.{◌≡◌, ◌≢◌, ◌⊎◌, ⊤, ℕ, ◌==◌, if◌then◌else◌, Bool, true, IsTrue, List, [], ◌∷◌, ◌++◌, length, Option, Some, None}
use Rattle.std.specs.Prelude.{Result, Ok, Err, codes, decimal}
use Rattle.std.specs.List.{list_all}
use Rattle.gw_policy_text.specs.faults.Explanation.{ExplainsText}
use Rattle.gw_configuration.specs.Configuration.{Configuration}
use Rattle.gw_configuration.specs.Shown.{is_printed}
use Rattle.gw_policy_text.specs.Document.{configuration}
use Rattle.gw_configuration.specs.declared.fault.ConfigFault.{ConfigFault}
use Rattle.gw_configuration.specs.declared.fault.ConfigFault.TheVariants.{Memory}
use Rattle.gw_policy_text.specs.declared.setting.TheConstants.{SETTING}
use Rattle.gw_ending.specs.declared.fault.Fault.{Fault}
use Rattle.gw_ending.specs.declared.fault.Fault.TheVariants as fault

-- The configuration of a text that was read, its first fault, or why none was read. Memory may run out at any text.
abbrev pub IsConfigurationOf : Result (List ℕ) Fault → Result Configuration Fault → Type 0
IsConfigurationOf (Ok text) (Ok c) = configuration text ≡ Ok c
IsConfigurationOf (Ok text) (Err (fault.Configuration f)) = (configuration text ≡ Err f) × (f ≢ Memory)
IsConfigurationOf (Ok text) (Err fault.Memory) = ⊤
IsConfigurationOf (Ok text) (Err _) = ⊥
IsConfigurationOf (Err f) c = c ≡ Err f

-- That of the file of this name, which gave what `Reads` says, or the built-in one where no file is named.
abbrev pub IsConfigured : (Reads : List ℕ → Result (List ℕ) Fault → Type 0) → Option (List ℕ)
    → Result Configuration Fault → Type 0
IsConfigured Reads None c = IsConfigurationOf (Ok SETTING.now) c
IsConfigured Reads (Some name) c = (text : Result (List ℕ) Fault) × Reads name text × IsConfigurationOf text c

-- how many assertions there are, if there are any
abbrev pub asserts_text : ℕ → List ℕ
asserts_text count = if count == 0 then [] else codes " " ++ decimal count ++ codes " asserts"

-- what `check` prints of a configuration whose assertions hold: its rules are counted as they are written
abbrev pub summary : Configuration → List ℕ
summary c =
    codes "ok " ++ decimal (length c.ports) ++ codes " ports " ++ decimal (length c.objects) ++ codes " objects "
    ++ decimal c.written ++ codes " rules" ++ asserts_text (length c.assertions) ++ codes "\n"

-- the line that explains this fault of a text, with no control character but its line feed
pub record IsExplainedBy (text : List ℕ) (f : ConfigFault) (note : List ℕ) : Type 0 where
  pub line : List ℕ
  pub explains : ExplainsText text f (Some line)
  pub printed : IsTrue (list_all is_printed line)
  pub parts : note ≡ line ++ 10 ∷ []

-- What is said of a fault before its line: where that of the text is which was read for a configuration, where that
-- is asked for and can be said.
abbrev pub FaultNote : Bool → Result (List ℕ) Fault → Fault → List ℕ → Type 0
FaultNote true (Ok text) (fault.Configuration f) note = (note ≡ []) ⊎ IsExplainedBy text f note
FaultNote _ _ _ note = note ≡ []
