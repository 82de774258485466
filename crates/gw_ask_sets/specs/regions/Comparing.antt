-- What two policies decide otherwise, and what a comparison finds of it.
use Rattle.std.specs.Prelude.{◌≡◌, ℕ, ◌+◌, Bool, true, false, not, ◌&&◌, ◌||◌, ◌==◌, if◌then◌else◌, List, [], ◌∷◌, drop, Some, slice_get}
use Rattle.std.specs.List.{AllByRecursion, list_any}
use Rattle.std.specs.Option.{option_map_or}
use Rattle.gw_rules.specs.Ask.{Ask}
use Rattle.gw_rules.specs.Rule.{matches}
use Rattle.gw_rules.specs.RuleList.{allows, first}
use Rattle.gw_rules.specs.declared.rule.Rule.{Rule}
use Rattle.gw_ask_sets.specs.regions.Regions.{Region, lies, lies_in_one}
use Rattle.gw_ask_sets.specs.declared.regions.comparison.Found.{Found}

-- two answers aren't the same
abbrev pub unlike : Bool → Bool → Bool
unlike a b = if a then not b else b

-- one policy allows an ask, and the other one denies it
abbrev pub differs : List Rule → List Rule → Ask → Bool
differs old new ask = unlike (allows old ask) (allows new ask)

-- an ask lies in one of the regions that were found
abbrev pub is_found : List Found → Ask → Bool
is_found found ask = list_any (λ f. lies f.region ask) found

-- the two decide each ask of a region alike
abbrev pub AreAlike : List Rule → List Rule → Region → Type 0
AreAlike old new region = (ask : Ask) → lies region ask ≡ true → differs old new ask ≡ false

-- the new one says this of each ask of a region, and the old one says the other thing
abbrev pub AreUnlike : List Rule → List Rule → Region → Bool → Type 0
AreUnlike old new region says =
    (ask : Ask) → lies region ask ≡ true → (allows old ask ≡ not says) × (allows new ask ≡ says)

-- the number of the rule that decides an ask, counted from 1: 0 is the default, which denies what no rule matches
abbrev pub decider : List Rule → Ask → ℕ
decider rules ask = option_map_or (λ number. number) (first rules ask) 0

-- a number is one of these
abbrev pub is_one_of : List ℕ → ℕ → Bool
is_one_of numbers number = list_any (λ n. n == number) numbers

-- the rule that decides an ask of a region is one of these
abbrev pub AreDeciders : List Rule → Region → List ℕ → Type 0
AreDeciders rules region numbers =
    (ask : Ask) → lies region ask ≡ true → is_one_of numbers (decider rules ask) ≡ true

-- the number of the first of these rules that matches, if so many are in front of them, or else 0
abbrev pub number_from : ℕ → List Rule → Ask → ℕ
number_from place [] ask = 0
number_from place (rule ∷ rules) ask = if matches rule ask then place + 1 else number_from (place + 1) rules ask

-- the first rule from a place on that matches an ask of a region is one of these
abbrev pub DecideFrom : List Rule → Region → ℕ → List ℕ → Type 0
DecideFrom rules region place numbers =
    (ask : Ask) → lies region ask ≡ true → is_one_of numbers (number_from place (drop place rules) ask) ≡ true

-- two policies decide an ask as is said of a region that was found, by the rules that are named
pub record IsDecided (old new : List Rule) (f : Found) (ask : Ask) : Type 0 where
  pub by_old : allows old ask ≡ not f.allows
  pub by_new : allows new ask ≡ f.allows
  pub old_rule : is_one_of f.old_rules.items (decider old ask) ≡ true
  pub new_rule : is_one_of f.new_rules.items (decider new ask) ≡ true

-- What is found of the asks of some shapes that two policies decide otherwise. What is said of a region holds for
-- each of its asks that passes a test.
pub record IsFoundFor
    (test : Ask → Bool) (shapes : List Region) (old new : List Rule) (found : List Found) (left : List Region) : Type 0 where
  -- an ask of the shapes is decided otherwise where it is found, and perhaps in what is left
  pub exact : (ask : Ask) → lies_in_one shapes ask ≡ true
      → differs old new ask ≡ (is_found found ask || (lies_in_one left ask && differs old new ask))
  -- each ask of a region that was found is decided as that says
  pub verdicts : AllByRecursion (λ f. (ask : Ask) → test ask ≡ true → lies f.region ask ≡ true → IsDecided old new f ask) found
  -- and it has an ask of the shapes
  pub asks : AllByRecursion (λ f. (lies f.region f.ask && lies_in_one shapes f.ask) ≡ true) found

-- of a comparison: what is said of a region holds for each of its asks
abbrev pub IsComparison : List Region → List Rule → List Rule → List Found → List Region → Type 0
IsComparison shapes old new found left = IsFoundFor (λ ask. true) shapes old new found left

-- of a summary: what is said of a region holds for each of its asks that lies in a shape
abbrev pub IsSummary : List Region → List Rule → List Rule → List Found → List Region → Type 0
IsSummary shapes old new found left = IsFoundFor (lies_in_one shapes) shapes old new found left

-- a region that was found has an ask of the shapes: the new policy says this of it, and the old one the other thing
pub record WasDecided (shapes : List Region) (old new : List Rule) (f : Found) : Type 0 where
  pub there : lies f.region f.ask ≡ true
  pub in_shape : lies_in_one shapes f.ask ≡ true
  pub by_old : allows old f.ask ≡ not f.allows
  pub by_new : allows new f.ask ≡ f.allows
  pub old_rule : is_one_of f.old_rules.items (decider old f.ask) ≡ true
  pub new_rule : is_one_of f.new_rules.items (decider new f.ask) ≡ true

-- the rules at two places match the same asks and say the same
pub record AreSame (old : List Rule) (a : ℕ) (new : List Rule) (b : ℕ) : Type 0 where
  pub one : Rule
  pub two : Rule
  pub there : slice_get old a ≡ Some one
  pub here : slice_get new b ≡ Some two
  pub matching : (ask : Ask) → matches one ask ≡ matches two ask
  pub saying : one.allow ≡ two.allow
