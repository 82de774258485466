-- Rules that no ask of some shapes reaches.
use Rattle.std.specs.Prelude.{◌≡◌, ◌⊎◌, ⊤, ℕ, ◌-◌, ◌&&◌, List, Some, map, take}
use Rattle.gw_ask_sets.specs.regions.Regions.{Region, lies_in_one}
use Rattle.gw_ask_sets.specs.regions.Unmatched.{EndsWith}
use Rattle.gw_ask_sets.specs.declared.regions.unmatched.Unmatched.{Unmatched}
use Rattle.gw_ask_sets.specs.declared.regions.unmatched.Unmatched.TheVariants as unmatched
use Rattle.gw_ask_sets.specs.declared.shapes.search.Outcome.{Outcome}
use Rattle.gw_ask_sets.specs.declared.shapes.search.Outcome.TheVariants as outcome
use Rattle.gw_rules.specs.Ask.{Ask}
use Rattle.gw_rules.specs.Rule.{matches}
use Rattle.gw_rules.specs.RuleList.{HasNumber, first}
use Rattle.gw_rules.specs.declared.rule.Rule.{Rule}
use Rattle.gw_ask_sets.specs.shapes.Regions.{region_of}
use Rattle.gw_ask_sets.specs.shapes.Shape.{LiesInOne, Shape}

-- no ask of these shapes has the rule of this number as its first
abbrev pub IsNeverFirst : List Shape → List Rule → ℕ → Type 0
IsNeverFirst shapes rules number = (ask : Ask) → LiesInOne shapes ask → first rules ask ≡ Some number → ⊥

-- an ask of these shapes has it as its first
abbrev pub IsFirstFor : List Shape → List Rule → ℕ → Ask → Type 0
IsFirstFor shapes rules number ask = LiesInOne shapes ask × (first rules ask ≡ Some number)

-- ---- the steps of a search

-- some regions have the asks of the shapes that the rule matches
abbrev pub AreMatched : List Shape → Rule → List Region → Type 0
AreMatched shapes rule regions =
    (ask : Ask) → lies_in_one regions ask ≡ (lies_in_one (map region_of shapes) ask && matches rule ask)

-- how the search among these asks ends, of which this is said of the rule
abbrev pub unmatched_of : Outcome → Unmatched
unmatched_of (outcome.Decides ask) = unmatched.Found ask
unmatched_of outcome.Never = unmatched.Nothing
unmatched_of outcome.Unknown = unmatched.Unknown

-- A search that is given so many steps makes so many of them: it takes up the asks of the shapes that the rule of this number
-- matches, and looks for one that none of the rules before it matches.
pub record IsMade (shapes : List Shape) (rules : List Rule) (number given count : ℕ) (found : Outcome) : Type 0 where
  pub rule : Rule
  pub numbered : HasNumber rules number rule
  pub regions : List Region
  pub matched : AreMatched shapes rule regions
  pub ended : EndsWith (take (number - 1) rules) regions given count (unmatched_of found)

-- there is no rule of this number, and none is made
pub record IsSpared (rules : List Rule) (number count : ℕ) (found : Outcome) : Type 0 where
  pub no_rule : (rule : Rule) → HasNumber rules number rule → ⊥
  pub counted : count ≡ 0
  pub never : found ≡ outcome.Never

-- the search for an ask that the rule of this number decides
abbrev pub IsSought : List Shape → List Rule → (number given count : ℕ) → Outcome → Type 0
IsSought shapes rules number given count found =
    IsMade shapes rules number given count found ⊎ IsSpared rules number count found

-- what it says of the rule
abbrev pub IsFound : List Shape → List Rule → ℕ → Outcome → Type 0
IsFound shapes rules number outcome.Never = IsNeverFirst shapes rules number
IsFound shapes rules number (outcome.Decides ask) = IsFirstFor shapes rules number ask
IsFound shapes rules number outcome.Unknown = ⊤

-- all steps that it was given were made, and an ask is left that isn't looked at
abbrev pub IsUsedUp : List Shape → List Rule → (number given : ℕ) → Type 0
IsUsedUp shapes rules number given = IsMade shapes rules number given given outcome.Unknown
