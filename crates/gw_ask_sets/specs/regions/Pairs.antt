-- Pairs of rules that decide an ask otherwise, the one in the old policy and the other one in the new: which are tried, what is
-- looked for, and what is known of them.
use Rattle.std.specs.Prelude.{◌≡◌, ℕ, zero, suc, ◌+◌, ◌-◌, ◌≤◌, Bool, true, false, not, ◌&&◌, ◌||◌, ◌==◌, if◌then◌else◌, List, [], ◌∷◌, ◌++◌, length, take, slice_get}
use Rattle.std.specs.List.{AllByRecursion, list_any}
use Rattle.std.specs.Option.{option_map_or}
use Rattle.gw_rules.specs.Ask.{Ask}
use Rattle.gw_rules.specs.Rule.{matches}
use Rattle.gw_rules.specs.RuleList.{allows}
use Rattle.gw_rules.specs.declared.rule.Rule.{Rule}
use Rattle.gw_ask_sets.specs.regions.Comparing.{decider, differs, unlike}
use Rattle.gw_ask_sets.specs.regions.Ranges.{lesser}
use Rattle.gw_ask_sets.specs.regions.Regions.{Region, lies_in_one}
use Rattle.gw_ask_sets.specs.regions.Unmatched.{EndsWith, is_matched}
use Rattle.gw_ask_sets.specs.declared.regions.pairs.Pair.{Pair}
use Rattle.gw_ask_sets.specs.declared.regions.pairs.ShownPair.{ShownPair}
use Rattle.gw_ask_sets.specs.declared.regions.unmatched.Unmatched.{Unmatched}
use Rattle.gw_ask_sets.specs.declared.regions.unmatched.Unmatched.TheVariants as unmatched

-- ---- in words

-- a pair is that of these numbers
abbrev pub is_pair : (old new : ℕ) → Pair → Bool
is_pair old new pair = (pair.old == old) && (pair.new == new)

-- the rules of these numbers are one of the pairs
abbrev pub is_shown : List ShownPair → (old new : ℕ) → Bool
is_shown found old new = list_any (λ shown. is_pair old new shown.pair) found

abbrev pub is_given_up : List Pair → (old new : ℕ) → Bool
is_given_up pairs old new = list_any (is_pair old new) pairs

-- the two rules of a pair decide its ask, which lies in a shape: the new one says this of it, and the old one the other thing
pub record IsDecidedBy (shapes : List Region) (old new : List Rule) (shown : ShownPair) : Type 0 where
  pub in_shape : lies_in_one shapes shown.ask ≡ true
  pub old_rule : decider old shown.ask ≡ shown.pair.old
  pub new_rule : decider new shown.ask ≡ shown.pair.new
  pub by_old : allows old shown.ask ≡ not shown.pair.allows
  pub by_new : allows new shown.ask ≡ shown.pair.allows

-- What is known of the pairs of two policies, over the asks of some shapes.
pub record ArePairs (shapes : List Region) (old new : List Rule) (found : List ShownPair) (given_up : List Pair) : Type 0 where
  -- an ask of the shapes is decided otherwise exactly if the two rules that decide it are a pair that was found, or perhaps if
  -- they are one that was given up
  pub exact : (ask : Ask) → lies_in_one shapes ask ≡ true → differs old new ask
      ≡ (is_shown found (decider old ask) (decider new ask) || (is_given_up given_up (decider old ask) (decider new ask) && differs old new ask))
  -- each pair that was found has an ask
  pub asks : AllByRecursion (λ shown. IsDecidedBy shapes old new shown) found

-- ---- which pairs are tried

-- Places of rules are counted from 0; that after all rules is the default's, which matches every ask, and denies it.

-- what the rule at a place says
abbrev pub says_at : List Rule → ℕ → Bool
says_at rules place = option_map_or (λ rule. rule.allow) (slice_get rules place) false

-- it matches an ask
abbrev pub is_by : List Rule → ℕ → Ask → Bool
is_by rules place ask = option_map_or (λ rule. matches rule ask) (slice_get rules place) true

-- its number: that of the default is 0
abbrev pub number_at : List Rule → ℕ → ℕ
number_at rules place = option_map_or (λ rule. place + 1) (slice_get rules place) 0

-- the places of a rule of the old policy, and of one of the new
abbrev pub Places : Type 0
Places = ℕ × ℕ

-- those of a rule with the one at a place, if that says this
abbrev pub cell : List Rule → Bool → (old new : ℕ) → List Places
cell rules says old new = if unlike (says_at rules new) says then [] else (old, new) ∷ []

-- with those at the first so many places
abbrev pub cells : List Rule → Bool → (old count : ℕ) → List Places
cells rules says old zero = []
cells rules says old (suc new) = cells rules says old new ++ cell rules says old new

-- those of the old rule at a place, if that says the other thing, and of the first so many
abbrev pub cells_of : List Rule → List Rule → Bool → ℕ → List Places
cells_of old new says place = if unlike (says_at old place) says then cells new says place (length new + 1) else []

abbrev pub all_cells : List Rule → List Rule → Bool → (count : ℕ) → List Places
all_cells old new says zero = []
all_cells old new says (suc place) = all_cells old new says place ++ cells_of old new says place

-- the pairs that say the opposite: first those of which the new rule allows
abbrev pub pairs_to_try : List Rule → List Rule → List Places
pairs_to_try old new = all_cells old new true (length old + 1) ++ all_cells old new false (length old + 1)

-- ---- what is known

pub record Findings : Type 0 where
  pub found : List ShownPair
  pub given_up : List Pair
  pub steps : ℕ

abbrev pub findings : List ShownPair → List Pair → ℕ → Findings
findings found given_up steps = record { found = found; given_up = given_up; steps = steps }

-- how many steps the next search is given: 16,384, or what is left of 262,144
abbrev pub steps_given : (used : ℕ) → ℕ
steps_given used = lesser 16384 (262144 - used)

-- an ask of a pair is found, there is none, or the pair is given up
abbrev pub Adds : Pair → Unmatched → Findings → Findings → Type 0
Adds pair (unmatched.Found ask) before after =
    (after.found ≡ before.found ++ record { pair = pair; ask = ask } ∷ []) × (after.given_up ≡ before.given_up)
Adds pair unmatched.Nothing before after = (after.found ≡ before.found) × (after.given_up ≡ before.given_up)
Adds pair unmatched.Unknown before after = (after.found ≡ before.found) × (after.given_up ≡ before.given_up ++ pair ∷ [])

-- a search for an ask of some regions that none of some rules matches, for a pair: its steps are added, and how it ends
pub record IsSearched (rules : List Rule) (regions : List Region) (pair : Pair) (before after : Findings) : Type 0 where
  pub outcome : Unmatched
  pub count : ℕ
  pub ended : EndsWith rules regions (steps_given before.steps) count outcome
  pub counted : after.steps ≡ before.steps + count
  pub known : Adds pair outcome before after

-- The two rules at these places are tried: an ask of the shapes is searched for that both match, and no rule before either.
pub record IsTried (shapes : List Region) (old new : List Rule) (at : Places) (before after : Findings) : Type 0 where
  pub old_one : at.0 ≤ length old
  pub new_one : at.1 ≤ length new
  pub otherwise : says_at old at.0 ≡ not (says_at new at.1)
  pub rules : List Rule
  pub in_front : (ask : Ask) → is_matched rules ask ≡ (is_matched (take at.0 old) ask || is_matched (take at.1 new) ask)
  pub regions : List Region
  pub matched : (ask : Ask) → lies_in_one regions ask ≡ ((lies_in_one shapes ask && is_by old at.0 ask) && is_by new at.1 ask)
  pub pair : Pair
  pub is : pair ≡ record { old = number_at old at.0; new = number_at new at.1; allows = says_at new at.1 }
  pub searched : IsSearched rules regions pair before after

-- one after the other
abbrev pub AreTried : List Region → List Rule → List Rule → List Places → Findings → Findings → Type 0
AreTried shapes old new [] before after = after ≡ before
AreTried shapes old new (at ∷ more) before after =
    (between : Findings) × IsTried shapes old new at before between × AreTried shapes old new more between after

-- each pair that says the opposite was tried once, in order, and this is known then
abbrev pub AreSought : List Region → List Rule → List Rule → Findings → Type 0
AreSought shapes old new known = AreTried shapes old new (pairs_to_try old new) (findings [] [] 0) known
