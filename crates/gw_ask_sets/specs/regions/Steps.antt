-- Steps of a comparison: each takes up the last region that is left.
use Rattle.std.specs.Prelude.{◌≡◌, ◌⊎◌, ℕ, zero, suc, ◌+◌, Bool, true, false, not, ◌&&◌, List, [], ◌∷◌, ◌++◌, Some, slice_get}
use Rattle.gw_rules.specs.Ask.{Ask}
use Rattle.gw_rules.specs.Fields.{value_of}
use Rattle.gw_rules.specs.Rule.{each_field, ranges_of}
use Rattle.gw_rules.specs.declared.field.TheConstants.FieldName.{ALL}
use Rattle.gw_rules.specs.declared.rule.Rule.{Rule}
use Rattle.gw_ask_sets.specs.regions.Comparing.{IsDecided, differs}
use Rattle.gw_ask_sets.specs.regions.Coverage.{covers, meets}
use Rattle.gw_ask_sets.specs.regions.Regions.{Region, inside, lies, lies_in_one, pieces}
use Rattle.gw_ask_sets.specs.declared.regions.comparison.Found.{Found}

-- how far a comparison is: what it found, and the regions that it hasn't looked at
pub record Stage : Type 0 where
  pub found : List Found
  pub left : List Region

abbrev pub stage : List Found → List Region → Stage
stage found left = record { found = found; left = left }

-- ---- what becomes of a region

-- a rule may match some asks of a region, and isn't seen to match all of them
abbrev pub divides : Rule → Region → Bool
divides rule region =
    each_field (λ field. meets (value_of field region) (ranges_of field rule))
    && not (each_field (λ field. covers (value_of field region) (ranges_of field rule)))

-- a rule is one of these
abbrev pub IsRuleOf : List Rule → Rule → Type 0
IsRuleOf rules rule = (place : ℕ) × (slice_get rules place ≡ Some rule)

-- no ask of the shapes that lies in a region is decided otherwise: it is dropped
abbrev pub IsIdle : List Region → List Rule → List Rule → Region → Type 0
IsIdle shapes old new region =
    (ask : Ask) → lies_in_one shapes ask ≡ true → lies region ask ≡ true → differs old new ask ≡ false

-- each ask of a region is decided otherwise, as is said of it, and one of them is an ask of the shapes: it is found
pub record IsFoundIn (shapes : List Region) (old new : List Rule) (region : Region) (f : Found) : Type 0 where
  pub whole : f.region ≡ region
  pub verdicts : (ask : Ask) → lies f.region ask ≡ true → IsDecided old new f ask
  pub example : (lies f.region f.ask && lies_in_one shapes f.ask) ≡ true

-- one of the rules of the two divides a region: all its parts go back
pub record IsDivided (old new : List Rule) (region : Region) (back : List Region) : Type 0 where
  pub rule : Rule
  pub policy : IsRuleOf old rule ⊎ IsRuleOf new rule
  pub dividing : divides rule region ≡ true
  pub parts : back ≡ pieces ALL rule region ++ inside ALL rule region ∷ []

-- what of a region is found, and what of it goes back
abbrev pub Becomes : List Region → List Rule → List Rule → Region → List Found → List Region → Type 0
Becomes shapes old new region more back =
    (IsIdle shapes old new region × (more ≡ []) × (back ≡ []))
    ⊎ (((f : Found) × IsFoundIn shapes old new region f × (more ≡ f ∷ []) × (back ≡ []))
    ⊎ (IsDivided old new region back × (more ≡ [])))

-- ---- steps

-- what a region becomes goes to what is found and left
pub record IsSettled (shapes : List Region) (old new : List Rule) (region : Region) (before after : Stage) : Type 0 where
  pub more : List Found
  pub back : List Region
  pub becomes : Becomes shapes old new region more back
  pub found : after.found ≡ before.found ++ more
  pub left : after.left ≡ before.left ++ back

-- a step takes up the last region that is left
pub record IsStep (shapes : List Region) (old new : List Rule) (before after : Stage) : Type 0 where
  pub rest : List Region
  pub region : Region
  pub taken : before.left ≡ rest ++ region ∷ []
  pub settled : IsSettled shapes old new region (stage before.found rest) after

-- so many steps, one after the other
abbrev pub AreSteps : List Region → List Rule → List Rule → ℕ → Stage → Stage → Type 0
AreSteps shapes old new zero before after = after ≡ before
AreSteps shapes old new (suc count) before after =
    (between : Stage) × AreSteps shapes old new count before between × IsStep shapes old new between after

-- a comparison begins with nothing found, and one region, which has each ask of the shapes
pub record IsBeginning (shapes : List Region) (s : Stage) : Type 0 where
  pub region : Region
  pub all : (ask : Ask) → lies_in_one shapes ask ≡ true → lies region ask ≡ true
  pub found : s.found ≡ []
  pub left : s.left ≡ region ∷ []

-- a comparison of two policies gets so far in so many steps
pub record IsReached (shapes : List Region) (old new : List Rule) (steps : ℕ) (s : Stage) : Type 0 where
  pub start : Stage
  pub beginning : IsBeginning shapes start
  pub made : AreSteps shapes old new steps start s

-- it gets from one stage to another, and the number of steps grows by exactly those that are made
pub record IsCounted (shapes : List Region) (old new : List Rule) (before after : Stage) (steps more : ℕ) : Type 0 where
  pub count : ℕ
  pub counted : more ≡ steps + count
  pub made : AreSteps shapes old new count before after
