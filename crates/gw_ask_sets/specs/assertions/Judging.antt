-- What is found of an assertion.
use Rattle.std.specs.Prelude.{◌≡◌, ⊤, ℕ, Bool, true, false, not, List, [], ◌∷◌, Option}
use Rattle.gw_configuration.specs.Assertion.{is_meant}
use Rattle.gw_configuration.specs.Configuration.{Configuration}
use Rattle.gw_configuration.specs.declared.assertion.Assertion.{Assertion}
use Rattle.gw_rules.specs.Ask.{Ask}
use Rattle.gw_rules.specs.RuleList.{allows, first}
use Rattle.gw_rules.specs.declared.rule.Rule.{Rule}
use Rattle.gw_ask_sets.specs.assertions.Asserted.{LiesInAsserted}
use Rattle.gw_ask_sets.specs.declared.assertions.judging.Judged.{Judged}
use Rattle.gw_ask_sets.specs.declared.assertions.judging.Judged.TheVariants.{Holds, Broken, Empty, Unknown}
use Rattle.gw_ask_sets.specs.regions.Regions.{Region, lies_in_one}
use Rattle.gw_ask_sets.specs.regions.Unmatched.{AreUsedUp, is_matched}

-- an ask that an assertion of a configuration speaks of
abbrev pub IsMeantIn : Configuration → Assertion → Ask → Type 0
IsMeantIn c a ask = LiesInAsserted c ask × (is_meant a ask ≡ true)

-- some ask is meant, and each is decided as the assertion says
pub record IsHeld (c : Configuration) (a : Assertion) : Type 0 where
  pub ask : Ask
  pub one : IsMeantIn c a ask
  pub each : (ask : Ask) → IsMeantIn c a ask → allows c.rules ask ≡ a.is_allowed

-- an ask is meant that is decided otherwise, and its first rule is the one of the number, or none
pub record IsBroken (c : Configuration) (a : Assertion) (ask : Ask) (number : Option ℕ) (is_allowed : Bool) : Type 0 where
  pub one : IsMeantIn c a ask
  pub decider : first c.rules ask ≡ number
  pub decided : allows c.rules ask ≡ is_allowed
  pub otherwise : is_allowed ≡ not a.is_allowed

-- no ask is meant
abbrev pub IsEmpty : Configuration → Assertion → Type 0
IsEmpty c a = (ask : Ask) → LiesInAsserted c ask → is_meant a ask ≡ false

-- a search among asks that are meant, for one that rules of the policy don't match, has used up its steps
pub record IsUnfinished (c : Configuration) (a : Assertion) (steps : ℕ) : Type 0 where
  pub regions : List Region
  pub rules : List Rule
  pub meant : (ask : Ask) → lies_in_one regions ask ≡ true → IsMeantIn c a ask
  pub passed : (ask : Ask) → lies_in_one regions ask ≡ true → is_matched rules ask ≡ true → is_matched c.rules ask ≡ true
  pub used : AreUsedUp rules steps regions

-- what is said of an assertion is right, where each search is given so many steps
abbrev pub IsJudged : Configuration → ℕ → Assertion → Judged → Type 0
IsJudged c steps a Holds = IsHeld c a
IsJudged c steps a (Broken ask number is_allowed) = IsBroken c a ask number is_allowed
IsJudged c steps a Empty = IsEmpty c a
IsJudged c steps a Unknown = IsUnfinished c a steps

-- of each of them, in order
abbrev pub AreEachJudged : Configuration → ℕ → List Assertion → List Judged → Type 0
AreEachJudged c steps [] [] = ⊤
AreEachJudged c steps (a ∷ assertions) (j ∷ judged) = IsJudged c steps a j × AreEachJudged c steps assertions judged
AreEachJudged c steps _ _ = ⊥

-- of all assertions of a configuration
abbrev pub AreJudged : Configuration → ℕ → List Judged → Type 0
AreJudged c steps judged = AreEachJudged c steps c.assertions judged
