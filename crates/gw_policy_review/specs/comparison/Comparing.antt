-- A comparison of two configurations that goes on in portions.
use Rattle.std.specs.Prelude.{ℕ, ◌+◌, ◌*◌, Bool, ◌||◌, ◌==◌, nat_le, List, ◌∷◌, [], ◌++◌, length, codes, decimal}
use Rattle.gw_configuration.specs.Configuration.{Configuration}
use Rattle.gw_ask_sets.specs.regions.Comparing.{IsComparison}
use Rattle.gw_ask_sets.specs.regions.Ranges.{lesser}
use Rattle.gw_ask_sets.specs.regions.Regions.{Region}
use Rattle.gw_ask_sets.specs.regions.Steps.{IsReached, stage}
use Rattle.gw_ask_sets.specs.regions.Tidying.{all_tidied}
use Rattle.gw_ask_sets.specs.declared.regions.comparison.Found.{Found}
use Rattle.gw_policy_review.specs.comparison.Asks.{asks_of}

-- how far it is: what it found, what it hasn't looked at, and how many steps it used
pub record Progress : Type 0 where
  pub old_one : Configuration
  pub new_one : Configuration
  pub found : List Found
  pub left : List Region
  pub steps : ℕ

-- what it found, and what is left, is right of the rules of the two, over all asks that a gateway of either may raise, and was
-- reached in so many steps, by the rules with their ranges in order
pub record IsUnderWay (p : Progress) : Type 0 where
  pub is_right : IsComparison (asks_of p.old_one p.new_one) p.old_one.rules p.new_one.rules p.found p.left
  pub reached : IsReached (asks_of p.old_one p.new_one) (all_tidied p.old_one.rules) (all_tidied p.new_one.rules) p.steps
      (stage p.found p.left)

-- how many steps are made of two lists of so many rules: 4,096, and 60 for each rule, up to 512 of a list, so at most 65,536
abbrev pub most_steps : (old new : ℕ) → ℕ
most_steps old new = 4096 + 60 * (lesser 512 old + lesser 512 new)

abbrev pub steps_for : (old new : Configuration) → ℕ
steps_for old new = most_steps (length old.rules) (length new.rules)

-- nothing is left, or all steps are used
abbrev pub is_finished : Progress → Bool
is_finished p = (length p.left == 0) || nat_le (steps_for p.old_one p.new_one) p.steps

-- `44 of 65536 steps were used`
abbrev pub steps_text : ℕ → List ℕ
steps_text steps = decimal steps ++ (codes " of 65536 steps were used" ++ 10 ∷ [])
