-- Rules that match nothing of a region, all of it, or say what is said anyway may be left out.
use Rattle.std.proofs.Common.{◌≡◌, ◌∙◌, sym, ap, refl, subst, ℕ, ◌+◌, ◌<◌, Bool, true, false, List, [], ◌∷◌, ◌++◌, length, drop, get_or, Option, Some, arith}
use Rattle.std.specs.Prelude.{if◌then◌else◌, reverse, slice_get}
use Rattle.std.specs.Option.{option_to_list}
use Rattle.std.proofs.lemmas.List.{drop_all, drop_more, reverse-append}
use Rattle.std.proofs.lemmas.Option.{slice_get-get_or}
use Rattle.gw_rules.specs.Ask.{Ask}
use Rattle.gw_rules.specs.Rule.{matches}
use Rattle.gw_rules.specs.declared.rule.Rule.{Rule}
use Rattle.gw_ask_sets.proofs.regions_lemmas.AllowsLaw.{decided_allows}
use Rattle.gw_ask_sets.specs.regions.Regions.{Region, lies}
use Rattle.gw_ask_sets.specs.regions.Deciding.{AllowsIn, DecidesIn, decided, rules_at}

-- the rule at a place, and those after it
pub next : (rules : List Rule) (place : ℕ) (rule : Rule) → place < length rules → rule ≡ get_or rules place rule → drop place rules ≡ rule ∷ drop (place + 1) rules
next rules place rule within is = drop_more rules place rule within ∙ ap (λ (r : Rule). r ∷ drop (place + 1) rules) (sym is)

-- one that matches nothing there
pub taken_apart : (rules : List Rule) (region : Region) (place : ℕ) (rule : Rule) (places : List ℕ) (otherwise : Bool) → place < length rules → rule ≡ get_or rules place rule
    → ((ask : Ask) → lies region ask ≡ true → matches rule ask ≡ false) → DecidesIn rules region (place + 1) places otherwise → DecidesIn rules region place places otherwise
taken_apart rules region place rule places otherwise within is apart later ask there =
    ap (λ (rs : List Rule). decided rs false ask) (next rules place rule within is)
    ∙ ap (λ b. if b then rule.allow else decided (drop (place + 1) rules) false ask) (apart ask there)
    ∙ later ask there

-- one that matches all
pub taken_whole : (rules : List Rule) (region : Region) (place : ℕ) (rule : Rule) → place < length rules → rule ≡ get_or rules place rule
    → ((ask : Ask) → lies region ask ≡ true → matches rule ask ≡ true) → DecidesIn rules region place [] rule.allow
taken_whole rules region place rule within is whole ask there =
    ap (λ (rs : List Rule). decided rs false ask) (next rules place rule within is)
    ∙ ap (λ b. if b then rule.allow else decided (drop (place + 1) rules) false ask) (whole ask there)

-- one that says what is said anyway
pub taken_idle : (rules : List Rule) (region : Region) (place : ℕ) (rule : Rule) → place < length rules → rule ≡ get_or rules place rule
    → DecidesIn rules region (place + 1) [] rule.allow → DecidesIn rules region place [] rule.allow
taken_idle rules region place rule within is later ask there =
    ap (λ (rs : List Rule). decided rs false ask) (next rules place rule within is)
    ∙ ap (λ b. if matches rule ask then rule.allow else b) (later ask there)
    ∙ both (matches rule ask)
  where
    both : (c : Bool) → (if c then rule.allow else rule.allow) ≡ rule.allow
    both true = refl
    both false = refl

pushed : (rules : List Rule) (place : ℕ) (rule : Rule) (places : List ℕ) → place < length rules → rule ≡ get_or rules place rule
    → rules_at rules (reverse (places ++ place ∷ [])) ≡ rule ∷ rules_at rules (reverse places)
pushed rules place rule places within is =
    let at : slice_get rules place ≡ Some rule = slice_get-get_or rules place rule within ∙ ap Some (sym is) in
    ap (rules_at rules) (reverse-append places (place ∷ []))
    ∙ ap (λ (o : Option Rule). option_to_list o ++ rules_at rules (reverse places)) at

-- any other
pub taken : (rules : List Rule) (region : Region) (place : ℕ) (rule : Rule) (places : List ℕ) (otherwise : Bool) → place < length rules → rule ≡ get_or rules place rule
    → DecidesIn rules region (place + 1) places otherwise → DecidesIn rules region place (places ++ place ∷ []) otherwise
taken rules region place rule places otherwise within is later ask there =
    ap (λ (rs : List Rule). decided rs false ask) (next rules place rule within is)
    ∙ ap (λ b. if matches rule ask then rule.allow else b) (later ask there)
    ∙ sym (ap (λ (rs : List Rule). decided rs otherwise ask) (pushed rules place rule places within is))

-- at first no rule is left
pub none_taken : (rules : List Rule) (region : Region) → DecidesIn rules region (length rules) [] false
none_taken rules region ask there = ap (λ (rs : List Rule). decided rs false ask) (drop_all (length rules) rules (omega arith))

-- at last all are taken
pub all_taken : (rules : List Rule) (region : Region) (place : ℕ) (places : List ℕ) (otherwise : Bool) → place ≡ 0
    → DecidesIn rules region place places otherwise → AllowsIn rules region places otherwise
all_taken rules region place places otherwise e made ask there =
    sym (decided_allows rules ask) ∙ sym (ap (λ n. decided (drop n rules) false ask) e) ∙ made ask there

-- one that is left out, since no other is left and it says what is said anyway
pub left_idle : (rules : List Rule) (region : Region) (place : ℕ) (rule : Rule) (places : List ℕ) (otherwise : Bool) → place < length rules → rule ≡ get_or rules place rule
    → length places ≡ 0 → otherwise ≡ rule.allow → DecidesIn rules region (place + 1) places otherwise → DecidesIn rules region place places otherwise
left_idle rules region place rule [] otherwise within is none same later =
    subst (λ (b : Bool). DecidesIn rules region place [] b) (sym same)
    (taken_idle rules region place rule within is (subst (λ (b : Bool). DecidesIn rules region (place + 1) [] b) same later))
left_idle rules region place rule (x ∷ places) otherwise within is none same later = absurd (omega (arith, none))
