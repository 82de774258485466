-- What `check` says of a configuration: what it has, and what of it can't be meant or is surely lacking. With `--explain` that is also
-- who may do what under it, with `--lint` also which rules never decide.
use Rattle.std.specs.Prelude.{◌≡◌, ℕ, Bool, true, false, List, [], ◌++◌, Result, Ok, Err}
use Rattle.gw_ask_sets.specs.assertions.Judging.{AreJudged}
use Rattle.gw_ask_sets.specs.declared.assertions.judging.Judged.{Judged}
use Rattle.gw_ask_sets.specs.declared.assertions.judging.TheConstants.{JUDGING_STEPS}
use Rattle.gw_configuration.specs.Configuration.{Configuration}
use Rattle.gw_ending.specs.declared.fault.Fault.{Fault}
use Rattle.gw_ending.specs.declared.reading.printing.Said.{Said}
use Rattle.gw_ending.specs.reading.Assertions.{judged_text, outcome_of_judged}
use Rattle.gw_ending.specs.reading.Configured.{FaultNote, IsConfigurationOf}
use Rattle.gw_policy_review.specs.lint.Lint.{AppendsLint}
use Rattle.gw_policy_review.specs.permissions.Permissions.{ArePermissions}
use Rattle.gw_policy_review.specs.warnings.Oversights.{oversights_text}
use Rattle.gw_policy_review.specs.warnings.Warnings.{warnings_text}
use Rattle.gw_policy_text.specs.Lines.{table_lines}
use Rattle.gw_tools.specs.Placed.{octets_or}
use Rattle.gw_tools.specs.Saying.{IsMemory, Says, SaysFault}

-- who may do what, if that is asked for; the tables of the rules begin on these lines of the text
abbrev pub SaysPermissions : (explains : Bool) → Configuration → (lines : List ℕ) → List ℕ → Type 0
SaysPermissions true c lines text = ArePermissions c lines text
SaysPermissions false c lines text = text ≡ []

-- A text says of a configuration whose assertions were judged so: what it has, or the lines of those that don't hold; who may do what,
-- if that is asked for; and the warnings.
pub record IsExplained (explains : Bool) (c : Configuration) (lines : List ℕ) (judged : List Judged) (text : List ℕ) : Type 0 where
  pub said : List ℕ
  pub is_said : SaysPermissions explains c lines said
  pub shown : text ≡ judged_text c judged ++ (said ++ (warnings_text c ++ oversights_text c lines))

-- A text is what `check` prints of it: that, and after it a lint where that is asked for.
abbrev pub IsChecked : (explains lints : Bool) → Configuration → (lines : List ℕ) → List Judged → List ℕ → Type 0
IsChecked explains true c lines judged text =
    (front : List ℕ) × IsExplained explains c lines judged front × AppendsLint c lines explains front text
IsChecked explains false c lines judged text = IsExplained explains c lines judged text

-- ---- what is said of a text that was read

-- A text of which this is true by how the assertions of a configuration are judged: unless each of them holds, the command ends with
-- `Broken`.
abbrev pub SaysJudged : (Is : List Judged → List ℕ → Type 0) → Configuration → Result Said Fault → Type 0
SaysJudged Is c said =
    Says (λ text ends. (judged : List Judged) × AreJudged c JUDGING_STEPS judged × Is judged text × (ends ≡ outcome_of_judged judged))
    IsMemory said

-- what is said of the configuration of a text, or noted of why there is none
abbrev pub SaysOrNotes : (Says : Configuration → Result Said Fault → Type 0) → (IsNote : Fault → List ℕ → Type 0)
    → Result Configuration Fault → Result Said Fault → Type 0
SaysOrNotes Says IsNote (Ok c) said = Says c said
SaysOrNotes Says IsNote (Err f) said = SaysFault (IsNote f) f said

abbrev pub SaysOfText : (Says : Configuration → Result Said Fault → Type 0) → (IsNote : Fault → List ℕ → Type 0)
    → Result (List ℕ) Fault → Result Said Fault → Type 0
SaysOfText Says IsNote text said = (c : Result Configuration Fault) × IsConfigurationOf text c × SaysOrNotes Says IsNote c said

-- what `check` says of a configuration, by the lines of its text on which the tables of its rules begin
abbrev pub SaysConfig : (explains lints : Bool) → (text : List ℕ) → Configuration → Result Said Fault → Type 0
SaysConfig explains lints text c said = SaysJudged (IsChecked explains lints c (table_lines c.written text)) c said

-- what it says of a text that was read, or of why none was
abbrev pub SaysChecked : (explains lints : Bool) → Result (List ℕ) Fault → Result Said Fault → Type 0
SaysChecked explains lints text said = SaysOfText (SaysConfig explains lints (octets_or text)) (FaultNote true text) text said
