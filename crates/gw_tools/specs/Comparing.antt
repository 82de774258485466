-- What `compare` prints of two configurations, as text and as JSON, and what it reports while it works, over the definitions of
-- `gw_policy_review::comparison`.
use Rattle.std.specs.Prelude.{◌≡◌, ◌<◌, ⊤, ℕ, Bool, true, false, List, [], ◌∷◌, ◌++◌, length, Result, Ok, Err, codes, decimal}
use Rattle.std.specs.List.{flat_map}
use Rattle.gw_ask_sets.specs.regions.Regions.{Region}
use Rattle.gw_ask_sets.specs.regions.Steps.{IsReached, stage}
use Rattle.gw_ask_sets.specs.regions.Tidying.{all_tidied}
use Rattle.gw_ask_sets.specs.declared.regions.comparison.Found.{Found}
use Rattle.gw_policy_review.specs.comparison.Asks.{asks_of}
use Rattle.gw_policy_review.specs.comparison.Comparing.{steps_text}
use Rattle.gw_policy_review.specs.comparison.Comparison.{IsComparisonText, Manner}
use Rattle.gw_policy_review.specs.declared.comparison.comparison.Compared.{Compared}
use Rattle.gw_policy_review.specs.declared.comparison.comparison.Compared.TheVariants as compared
use Rattle.gw_configuration.specs.Configuration.{Configuration}
use Rattle.gw_tools.specs.Asserting.{SaysAssertions}
use Rattle.gw_tools.specs.Json.{AreComparisonLines}
use Rattle.gw_ending.specs.declared.fault.Fault.{Fault}
use Rattle.gw_ending.specs.declared.fault.Fault.TheVariants as fault
use Rattle.gw_ending.specs.declared.reading.printing.Said.{Said}
use Rattle.gw_tools.specs.Saying.{IsMemory, Says}
use Rattle.gw_tools.specs.declared.comparing.Layout.{Layout}
use Rattle.gw_tools.specs.declared.comparing.Layout.TheVariants as layout
use Rattle.gw_tools.specs.declared.comparing.Limits.{Limits}
use Rattle.gw_tools.specs.declared.placed.Placed.{Placed}

-- how far a comparison is: `bacgwctl: compared 4096 of 65536 steps, 12 found`
abbrev pub progress_line : ℕ × ℕ → List ℕ
progress_line p =
    (codes "bacgwctl: compared " ++ (decimal p.0 ++ codes " of 65536 steps, ")) ++ ([] ++ (decimal p.1 ++ codes " found\n"))

-- A comparison of the two gets so far: in so many steps it finds so many regions.
abbrev pub IsPassed : (old new : Configuration) → (steps count : ℕ) → Type 0
IsPassed old new steps count =
    (found : List Found) × (left : List Region)
    × IsReached (asks_of old new) (all_tidied old.rules) (all_tidied new.rules) steps (stage found left) × (count ≡ length found)

-- it gets so far at each of these, with more steps than at the one before
abbrev pub ArePassed : (old new : Configuration) → (steps : ℕ) → List (ℕ × ℕ) → Type 0
ArePassed old new steps [] = ⊤
ArePassed old new steps (at ∷ more) = (steps < at.0) × IsPassed old new at.0 at.1 × ArePassed old new at.0 more

-- lines of how far a comparison of the two is, one after the other
abbrev pub AreProgress : (old new : Configuration) → List ℕ → Type 0
AreProgress old new said = (lines : List (ℕ × ℕ)) × ArePassed old new 0 lines × (said ≡ flat_map progress_line lines)

-- what is reported if two are to be compared: these lines, and nothing if one wasn't read
abbrev pub ReportsProgress : (old new : Result Placed Fault) → List ℕ → Type 0
ReportsProgress (Ok old) (Ok new) said = AreProgress old.config new.config said
ReportsProgress (Ok old) (Err f) said = said ≡ []
ReportsProgress (Err f) new said = said ≡ []

-- a comparison, and after it how many steps it took if that is asked for
abbrev pub IsWithSteps : (steps : Bool) → (used : ℕ) → (lines text : List ℕ) → Type 0
IsWithSteps false used lines text = text ≡ lines
IsWithSteps true used lines text = text ≡ lines ++ steps_text used

-- what is printed of two configurations in this manner, behind this text: the steps are those in which the comparison got there
abbrev pub IsComparedBehind : (steps : Bool) → Manner → (front : List ℕ) → (old new : Configuration) → Compared → List ℕ → Type 0
IsComparedBehind steps how front old new made text =
    (lines : List ℕ) × (is : IsComparisonText old new how made lines) × IsWithSteps steps is.steps (front ++ lines) text

-- how two are printed as text, in so many lines at most
abbrev pub manner_within : (most : ℕ) → (old new : Placed) → Manner
manner_within most old new = record { most = most; old_lines = old.lines.items; new_lines = new.lines.items }

-- what is printed of the two as text: first what is said of their assertions
abbrev pub IsComparedAsText : (most : ℕ) → (steps : Bool) → (old new : Placed) → Compared → List ℕ → Type 0
IsComparedAsText most steps old new made text =
    (front : List ℕ) × SaysAssertions old.config new.config front
    × IsComparedBehind steps (manner_within most old new) front old.config new.config made text

-- what is printed of the two in this layout
abbrev pub IsComparedAs : Layout → (most : ℕ) → (old new : Placed) → Compared → List ℕ → Type 0
IsComparedAs (layout.Text steps) most old new made text = IsComparedAsText most steps old new made text
IsComparedAs layout.Json most old new made text = AreComparisonLines old.config new.config most made text

-- and within these limits
abbrev pub IsCompared : Limits → (old new : Placed) → Compared → List ℕ → Type 0
IsCompared limits old new made text = IsComparedAs limits.layout limits.most old new made text

-- how a comparison ends
abbrev pub outcome_of_comparison : Compared → Result (Unit {0}) Fault
outcome_of_comparison compared.Alike = Ok tt
outcome_of_comparison compared.OtherParts = Err fault.OtherParts
outcome_of_comparison compared.Different = Err fault.Different
outcome_of_comparison compared.Paired = Err fault.Different
outcome_of_comparison compared.Unfinished = Err fault.Different

-- what is said of a comparison of which this is true: it says how the command ends; or memory ran out
abbrev pub SaysCompared : (Is : Compared → List ℕ → Type 0) → Result Said Fault → Type 0
SaysCompared Is said =
    Says (λ text ends. (made : Compared) × Is made text × (ends ≡ outcome_of_comparison made)) IsMemory said
