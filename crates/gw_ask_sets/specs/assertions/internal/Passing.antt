-- Asks that rules in order decide as an assertion says, as far as these were looked at.
use Rattle.std.specs.Prelude.{◌≡◌, ℕ, Bool, true, false, not, List}
use Rattle.gw_rules.specs.Ask.{Ask}
use Rattle.gw_rules.specs.Rule.{matches}
use Rattle.gw_rules.specs.declared.rule.Rule.{Rule}
use Rattle.gw_ask_sets.specs.regions.Deciding.{decided}
use Rattle.gw_ask_sets.specs.regions.Regions.{Region, lies_in_one}
use Rattle.gw_ask_sets.specs.regions.Unmatched.{AreUsedUp, is_matched}

-- Of the rules that were passed none is the first to say this of an ask of the regions; those of them that say the other
-- thing match each of these asks that any of them matches.
pub record IsPassed (says : Bool) (regions : List Region) (opposed passed : List Rule) : Type 0 where
  pub same : (ask : Ask) → lies_in_one regions ask ≡ true → is_matched opposed ask ≡ is_matched passed ask
  pub otherwise : (ask : Ask) → lies_in_one regions ask ≡ true → decided passed (not says) ask ≡ not says

-- an ask of the regions that none of the rules before one matches, but this one does
pub record IsReached (says : Bool) (regions : List Region) (passed : List Rule) (rule : Rule) (ask : Ask) : Type 0 where
  pub there : lies_in_one regions ask ≡ true
  pub before : is_matched passed ask ≡ false
  pub matching : matches rule ask ≡ true
  pub saying : rule.allow ≡ says

-- A search among asks of the regions, for one that some rules don't match, has used up its steps. These match none of them
-- that none of the rules in question matches.
pub record IsVain (all : List Region) (passed : List Rule) (steps : ℕ) : Type 0 where
  pub regions : List Region
  pub rules : List Rule
  pub within : (ask : Ask) → lies_in_one regions ask ≡ true → lies_in_one all ask ≡ true
  pub matched : (ask : Ask) → lies_in_one regions ask ≡ true → is_matched rules ask ≡ true → is_matched passed ask ≡ true
  pub used : AreUsedUp rules steps regions
