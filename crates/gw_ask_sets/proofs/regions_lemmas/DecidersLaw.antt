-- The rule that decides an ask of a region is one of those that may match there, up to the first that matches all.
use Rattle.std.proofs.Common.{◌≡◌, ◌∙◌, sym, ap, refl, ℕ, ◌+◌, ◌<◌, arith, Bool, true, false, cond, ◌||◌, ◌==◌, List, [], ◌∷◌, ◌++◌, length, drop, get_or, Option, Some}
use Rattle.std.specs.Prelude.{if◌then◌else◌}
use Rattle.std.specs.List.{position_from}
use Rattle.std.specs.Option.{option_map, option_map_or}
use Rattle.std.proofs.lemmas.Bool.{eq-eqb, or_left, or_right}
use Rattle.std.proofs.lemmas.Iterator.Adapters.{position_from-zero}
use Rattle.std.proofs.lemmas.List.{drop_all}
use Rattle.std.specs.List.Sorted.{IsPermutation}
use Rattle.std.proofs.lemmas.List.Folds.{list_any-append}
use Rattle.std.proofs.lemmas.List.Sorted.{list_any-IsPermutation}
use Rattle.gw_rules.specs.Ask.{Ask}
use Rattle.gw_rules.specs.Rule.{matches}
use Rattle.gw_rules.specs.RuleList.{first}
use Rattle.gw_rules.specs.declared.rule.Rule.{Rule}
use Rattle.gw_ask_sets.specs.regions.Comparing.{AreDeciders, DecideFrom, decider, is_one_of, number_from}
use Rattle.gw_ask_sets.specs.regions.Regions.{Region, lies}
use Rattle.gw_ask_sets.proofs.regions_lemmas.DecidingLaw.{next}

from : (place : ℕ) (rules : List Rule) (ask : Ask)
    → option_map_or (λ n. n) (option_map (λ p. p + 1) (position_from (λ r. matches r ask) place rules)) 0 ≡ number_from place rules ask
from place [] ask = refl
from place (rule ∷ rules) ask = by (from (place + 1) rules ask) (matches rule ask)
  where
    by : option_map_or (λ n. n) (option_map (λ p. p + 1) (position_from (λ r. matches r ask) (place + 1) rules)) 0 ≡ number_from (place + 1) rules ask
        → (b : Bool) → option_map_or (λ n. n) (option_map (λ p. p + 1) (cond b (Some place) (position_from (λ r. matches r ask) (place + 1) rules))) 0
        ≡ (if b then place + 1 else number_from (place + 1) rules ask)
    by e true = refl
    by e false = e

pub decider_from : (rules : List Rule) (ask : Ask) → decider rules ask ≡ number_from 0 rules ask
unfolding first
decider_from rules ask =
    ap (λ (o : Option ℕ). option_map_or (λ n. n) (option_map (λ p. p + 1) o) 0) (position_from-zero (λ r. matches r ask) rules)
    ∙ from 0 rules ask

-- the number of the rule at the place, if it matches
here : (rules : List Rule) (place : ℕ) (rule : Rule) (ask : Ask) → place < length rules → rule ≡ get_or rules place rule
    → number_from place (drop place rules) ask ≡ (if matches rule ask then place + 1 else number_from (place + 1) (drop (place + 1) rules) ask)
here rules place rule ask within is = ap (λ (rs : List Rule). number_from place rs ask) (next rules place rule within is)

-- one that matches nothing there
pub decider_apart : (rules : List Rule) (region : Region) (place : ℕ) (rule : Rule) (numbers : List ℕ) → place < length rules → rule ≡ get_or rules place rule
    → ((ask : Ask) → lies region ask ≡ true → matches rule ask ≡ false) → DecideFrom rules region (place + 1) numbers → DecideFrom rules region place numbers
decider_apart rules region place rule numbers within is apart later ask there =
    ap (is_one_of numbers)
    (here rules place rule ask within is ∙ ap (λ b. if b then place + 1 else number_from (place + 1) (drop (place + 1) rules) ask) (apart ask there))
    ∙ later ask there

-- one that matches all
pub decider_whole : (rules : List Rule) (region : Region) (place : ℕ) (rule : Rule) → place < length rules → rule ≡ get_or rules place rule
    → ((ask : Ask) → lies region ask ≡ true → matches rule ask ≡ true) → DecideFrom rules region place ((place + 1) ∷ [])
decider_whole rules region place rule within is whole ask there =
    ap (is_one_of ((place + 1) ∷ []))
    (here rules place rule ask within is ∙ ap (λ b. if b then place + 1 else number_from (place + 1) (drop (place + 1) rules) ask) (whole ask there))
    ∙ or_left (place + 1 == place + 1) false (eq-eqb (place + 1) (place + 1) refl)

-- any other
pub decider_more : (rules : List Rule) (region : Region) (place : ℕ) (rule : Rule) (numbers : List ℕ) → place < length rules → rule ≡ get_or rules place rule
    → DecideFrom rules region (place + 1) numbers → DecideFrom rules region place (numbers ++ (place + 1) ∷ [])
decider_more rules region place rule numbers within is later ask there =
    ap (is_one_of (numbers ++ (place + 1) ∷ [])) (here rules place rule ask within is) ∙ by (matches rule ask)
  where
    by : (b : Bool) → is_one_of (numbers ++ (place + 1) ∷ []) (if b then place + 1 else number_from (place + 1) (drop (place + 1) rules) ask) ≡ true
    by true =
        list_any-append (λ m. m == (place + 1)) numbers ((place + 1) ∷ [])
        ∙ or_right (is_one_of numbers (place + 1)) ((place + 1 == place + 1) || false)
        (or_left (place + 1 == place + 1) false (eq-eqb (place + 1) (place + 1) refl))
    by false =
        let n = number_from (place + 1) (drop (place + 1) rules) ask in
        list_any-append (λ m. m == n) numbers ((place + 1) ∷ [])
        ∙ or_left (is_one_of numbers n) ((place + 1 == n) || false) (later ask there)

-- at first the default alone
pub default_alone : (rules : List Rule) (region : Region) → DecideFrom rules region (length rules) (0 ∷ [])
default_alone rules region ask there =
    ap (λ (rs : List Rule). is_one_of (0 ∷ []) (number_from (length rules) rs ask)) (drop_all (length rules) rules (omega arith))

-- at last all are taken
pub deciders_taken : (rules : List Rule) (region : Region) (place : ℕ) (numbers all : List ℕ) → place ≡ 0 → IsPermutation numbers all
    → DecideFrom rules region place numbers → AreDeciders rules region all
deciders_taken rules region place numbers all e moved made ask there =
    sym (list_any-IsPermutation (λ m. m == decider rules ask) numbers all moved)
    ∙ ap (is_one_of numbers) (decider_from rules ask ∙ sym (ap (λ n. number_from n (drop n rules) ask) e))
    ∙ made ask there
