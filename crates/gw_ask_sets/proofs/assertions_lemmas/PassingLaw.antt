-- What rules in order decide of asks that some of them match.
use Rattle.std.proofs.Common.{◌≡◌, ◌∙◌, sym, ap, refl, subst, ℕ, ◌+◌, ◌<◌, add-one, drop, get_or, length, take, Bool, true, false, ◌&&◌, ◌||◌, List, [], ◌∷◌, ◌++◌}
use Rattle.std.specs.Prelude.{not, if◌then◌else◌}
use Rattle.std.proofs.lemmas.Bool.{and_from, and_parts, both_ways, false_from_ne_true, or_parts}
use Rattle.std.proofs.Math.Seq.{take-suc}
use Rattle.std.proofs.lemmas.List.{take-append-drop}
use Rattle.std.proofs.lemmas.List.Folds.{list_any-append}
use Rattle.gw_rules.specs.Ask.{Ask}
use Rattle.gw_rules.specs.Rule.{matches}
use Rattle.gw_rules.specs.RuleList.{allows}
use Rattle.gw_rules.specs.declared.rule.Rule.{Rule}
use Rattle.gw_ask_sets.specs.assertions.internal.Passing.{IsPassed, IsReached, IsVain}
use Rattle.gw_ask_sets.specs.regions.Comparing.{unlike}
use Rattle.gw_ask_sets.specs.regions.Deciding.{decided}
use Rattle.gw_ask_sets.specs.regions.Regions.{Region, lies_in_one}
use Rattle.gw_ask_sets.specs.regions.Unmatched.{AreAllMatched, AreUsedUp, IsUnmatched, is_matched}
use Rattle.gw_ask_sets.proofs.regions_lemmas.AllowsLaw.{decided_allows}
use Rattle.gw_ask_sets.proofs.regions_lemmas.Growing.{next_item}
use Rattle.gw_ask_sets.proofs.regions_lemmas.RangeLaw.{or_none}

-- ---- rules in front of others

more : (rules : List Rule) (rule : Rule) (ask : Ask) → is_matched (rules ++ rule ∷ []) ask ≡ (is_matched rules ask || matches rule ask)
more rules rule ask =
    list_any-append (λ r. matches r ask) rules (rule ∷ []) ∙ ap (λ b. is_matched rules ask || b) (or_none (matches rule ask))

-- those that match nothing decide nothing
pub behind : (rules rest : List Rule) (otherwise : Bool) (ask : Ask) → is_matched rules ask ≡ false
    → decided (rules ++ rest) otherwise ask ≡ decided rest otherwise ask
behind [] rest otherwise ask none = refl
behind (rule ∷ rules) rest otherwise ask none =
    let parts = or_parts (matches rule ask) (is_matched rules ask) none in
    ap (λ b. if b then rule.allow else decided (rules ++ rest) otherwise ask) parts.0 ∙ behind rules rest otherwise ask parts.1

none_decide : (rules : List Rule) (otherwise : Bool) (ask : Ask) → is_matched rules ask ≡ false → decided rules otherwise ask ≡ otherwise
none_decide [] otherwise ask none = refl
none_decide (rule ∷ rules) otherwise ask none =
    let parts = or_parts (matches rule ask) (is_matched rules ask) none in
    ap (λ b. if b then rule.allow else decided rules otherwise ask) parts.0 ∙ none_decide rules otherwise ask parts.1

-- where one of them matches, what comes behind decides nothing
in_front : (rules rest : List Rule) (a b : Bool) (ask : Ask) → is_matched rules ask ≡ true → decided (rules ++ rest) a ask ≡ decided rules b ask
in_front [] rest a b ask some = absurd cc
in_front (rule ∷ rules) rest a b ask some = by (matches rule ask) some (λ later. in_front rules rest a b ask later)
  where
    by : (m : Bool) → (m || is_matched rules ask) ≡ true
        → (is_matched rules ask ≡ true → decided (rules ++ rest) a ask ≡ decided rules b ask)
        → (if m then rule.allow else decided (rules ++ rest) a ask) ≡ (if m then rule.allow else decided rules b ask)
    by true some later = refl
    by false some later = later some

freely : (rules : List Rule) (a b : Bool) (ask : Ask) → is_matched rules ask ≡ true → decided rules a ask ≡ decided rules b ask
freely [] a b ask some = absurd cc
freely (rule ∷ rules) a b ask some = by (matches rule ask) some (λ later. freely rules a b ask later)
  where
    by : (m : Bool) → (m || is_matched rules ask) ≡ true → (is_matched rules ask ≡ true → decided rules a ask ≡ decided rules b ask)
        → (if m then rule.allow else decided rules a ask) ≡ (if m then rule.allow else decided rules b ask)
    by true some later = refl
    by false some later = later some

-- ---- one rule more

pub passed_none : (says : Bool) (regions : List Region) → IsPassed says regions [] []
passed_none says regions = record { same = λ ask lies. refl; otherwise = λ ask lies. refl }

-- what is decided with one rule more, where that decides as the others, if it is the first
next : (passed : List Rule) (rule : Rule) (otherwise : Bool) (ask : Ask) → decided passed otherwise ask ≡ otherwise
    → (is_matched passed ask ≡ false → (if matches rule ask then rule.allow else otherwise) ≡ otherwise)
    → decided (passed ++ rule ∷ []) otherwise ask ≡ otherwise
next passed rule otherwise ask was first = by (is_matched passed ask) refl
  where
    by : (m : Bool) → is_matched passed ask ≡ m → decided (passed ++ rule ∷ []) otherwise ask ≡ otherwise
    by true some = in_front passed (rule ∷ []) otherwise otherwise ask some ∙ was
    by false none = behind passed (rule ∷ []) otherwise ask none ∙ first none

-- it matches nothing
pub passed_apart : (says : Bool) (regions : List Region) (opposed passed : List Rule) (rule : Rule)
    → ((ask : Ask) → lies_in_one regions ask ≡ true → matches rule ask ≡ false)
    → IsPassed says regions opposed passed → IsPassed says regions opposed (passed ++ rule ∷ [])
passed_apart says regions opposed passed rule none is = record {
  same = λ ask lies.
      is.same ask lies ∙ sym (more passed rule ask ∙ ap (λ b. is_matched passed ask || b) (none ask lies) ∙ or_none (is_matched passed ask));
  otherwise = λ ask lies.
      next passed rule (not says) ask (is.otherwise ask lies)
      (λ first. ap (λ b. if b then rule.allow else not says) (none ask lies));
}

other : (a says : Bool) → (a ≡ says → ⊥) → a ≡ not says
other true true differ = absurd (differ refl)
other true false differ = refl
other false true differ = refl
other false false differ = absurd (differ refl)

-- it says the other thing
pub passed_opposed : (says : Bool) (regions : List Region) (opposed passed next_opposed : List Rule) (rule tidy : Rule)
    → ((ask : Ask) → matches tidy ask ≡ matches rule ask) → tidy.allow ≡ rule.allow → (tidy.allow ≡ says → ⊥)
    → next_opposed ≡ opposed ++ tidy ∷ []
    → IsPassed says regions opposed passed → IsPassed says regions next_opposed (passed ++ rule ∷ [])
passed_opposed says regions opposed passed next_opposed rule tidy alike allows_alike differ grown is = record {
  same = λ ask lies.
      ap (λ (rules : List Rule). is_matched rules ask) grown ∙ more opposed tidy ask
      ∙ ap (λ b. b || matches tidy ask) (is.same ask lies) ∙ ap (λ b. is_matched passed ask || b) (alike ask) ∙ sym (more passed rule ask);
  otherwise = λ ask lies.
      next passed rule (not says) ask (is.otherwise ask lies)
      (λ first. either (matches rule ask) rule.allow (not says) (sym allows_alike ∙ other tidy.allow says differ));
}
  where
    either : (m a b : Bool) → a ≡ b → (if m then a else b) ≡ b
    either true a b e = e
    either false a b e = refl

-- it says this, and others match each ask that it matches
pub passed_searched : (says : Bool) (regions found : List Region) (opposed passed : List Rule) (rule tidy : Rule)
    → ((ask : Ask) → matches tidy ask ≡ matches rule ask)
    → ((ask : Ask) → lies_in_one found ask ≡ (lies_in_one regions ask && matches tidy ask)) → AreAllMatched found opposed
    → IsPassed says regions opposed passed → IsPassed says regions opposed (passed ++ rule ∷ [])
passed_searched says regions found opposed passed rule tidy alike within all is = record {
  same = λ ask lies. is.same ask lies ∙ sym (more passed rule ask ∙ held (is_matched passed ask) (matches rule ask) (matched ask lies));
  otherwise = λ ask lies.
      next passed rule (not says) ask (is.otherwise ask lies)
      (λ first. ap (λ b. if b then rule.allow else not says)
      (false_from_ne_true (matches rule ask) (λ m. both_ways (is_matched passed ask) first (matched ask lies m))));
}
  where
    matched : (ask : Ask) → lies_in_one regions ask ≡ true → matches rule ask ≡ true → is_matched passed ask ≡ true
    matched ask lies m =
        sym (is.same ask lies)
        ∙ all ask (within ask ∙ and_from (lies_in_one regions ask) (matches tidy ask) lies (alike ask ∙ m))

    held : (a b : Bool) → (b ≡ true → a ≡ true) → (a || b) ≡ a
    held true b f = refl
    held false true f = sym (f refl)
    held false false f = refl

-- ---- what a search shows

pub reached : (says : Bool) (regions found : List Region) (opposed passed : List Rule) (rule tidy : Rule) (ask : Ask)
    → ((ask : Ask) → matches tidy ask ≡ matches rule ask) → tidy.allow ≡ rule.allow → tidy.allow ≡ says
    → ((ask : Ask) → lies_in_one found ask ≡ (lies_in_one regions ask && matches tidy ask)) → IsUnmatched found opposed ask
    → IsPassed says regions opposed passed → IsReached says regions passed rule ask
reached says regions found opposed passed rule tidy ask alike allows_alike saying within there is =
    let parts = and_parts (lies_in_one regions ask) (matches tidy ask) (sym (within ask) ∙ there.0) in record {
      there = parts.0;
      before = sym (is.same ask parts.0) ∙ there.1;
      matching = sym (alike ask) ∙ parts.1;
      saying = sym allows_alike ∙ saying;
    }

pub in_vain : (says : Bool) (regions found : List Region) (opposed passed : List Rule) (tidy : Rule) (steps : ℕ)
    → ((ask : Ask) → lies_in_one found ask ≡ (lies_in_one regions ask && matches tidy ask)) → AreUsedUp opposed steps found
    → IsPassed says regions opposed passed → IsVain regions passed steps
in_vain says regions found opposed passed tidy steps within used is = record {
  regions = found;
  rules = opposed;
  within = λ ask lies. (and_parts (lies_in_one regions ask) (matches tidy ask) (sym (within ask) ∙ lies)).0;
  matched = λ ask lies m.
      sym (is.same ask (and_parts (lies_in_one regions ask) (matches tidy ask) (sym (within ask) ∙ lies)).0) ∙ m;
  used = used;
}

-- ---- behind all rules

pub allowed_none : (says : Bool) (regions : List Region) (opposed passed : List Rule) (ask : Ask) → says ≡ true
    → IsPassed says regions opposed passed → lies_in_one regions ask ≡ true → allows passed ask ≡ not says
allowed_none true regions opposed passed ask e is lies = sym (decided_allows passed ask) ∙ is.otherwise ask lies
allowed_none false regions opposed passed ask e is lies = absurd cc

pub denied_none : (says : Bool) (regions : List Region) (opposed passed : List Rule) (ask : Ask) → says ≡ false
    → AreAllMatched regions opposed → IsPassed says regions opposed passed → lies_in_one regions ask ≡ true → allows passed ask ≡ not says
denied_none true regions opposed passed ask e all is lies = absurd cc
denied_none false regions opposed passed ask e all is lies =
    sym (decided_allows passed ask) ∙ freely passed false true ask (sym (is.same ask lies) ∙ all ask lies) ∙ is.otherwise ask lies

pub denied_one : (says : Bool) (regions : List Region) (opposed passed : List Rule) (ask : Ask) → says ≡ false
    → IsUnmatched regions opposed ask → IsPassed says regions opposed passed → allows passed ask ≡ says
denied_one true regions opposed passed ask e there is = absurd cc
denied_one false regions opposed passed ask e there is =
    sym (decided_allows passed ask) ∙ none_decide passed false ask (sym (is.same ask there.0) ∙ there.1)

pub all_in_vain : (says : Bool) (regions : List Region) (opposed passed : List Rule) (steps : ℕ) → AreUsedUp opposed steps regions
    → IsPassed says regions opposed passed → IsVain regions passed steps
all_in_vain says regions opposed passed steps used is = record {
  regions = regions;
  rules = opposed;
  within = λ ask lies. lies;
  matched = λ ask lies m. sym (is.same ask lies) ∙ m;
  used = used;
}

-- ---- of the whole list

pub reached_says : (says : Bool) (regions : List Region) (passed rest : List Rule) (rule : Rule) (ask : Ask)
    → IsReached says regions passed rule ask → allows (passed ++ rule ∷ rest) ask ≡ says
reached_says says regions passed rest rule ask is =
    sym (decided_allows (passed ++ rule ∷ rest) ask) ∙ behind passed (rule ∷ rest) false ask is.before
    ∙ ap (λ b. if b then rule.allow else decided rest false ask) is.matching ∙ is.saying

pub vain_front : (all : List Region) (passed rest : List Rule) (steps : ℕ) → IsVain all passed steps → IsVain all (passed ++ rest) steps
vain_front all passed rest steps is = record {
  regions = is.regions;
  rules = is.rules;
  within = is.within;
  matched = λ ask lies m. list_any-append (λ r. matches r ask) passed rest ∙ ap (λ b. b || is_matched rest ask) (is.matched ask lies m);
  used = is.used;
}

-- the list is the rules that were passed, the one that is looked at, and the rest
parted_at : (rules : List Rule) (place : ℕ) (rule : Rule) → place < length rules → rule ≡ get_or rules place rule
    → take place rules ++ rule ∷ drop (place + 1) rules ≡ rules
parted_at rules place rule within there =
    ap (λ (r : Rule). take place rules ++ r ∷ drop (place + 1) rules) there
    ∙ ap (λ (rs : List Rule). take place rules ++ rs) (sym (next_item rules place rule within)) ∙ take-append-drop place rules

pub reached_at : (says : Bool) (regions : List Region) (rules : List Rule) (place : ℕ) (rule : Rule) (ask : Ask) → place < length rules
    → rule ≡ get_or rules place rule → IsReached says regions (take place rules) rule ask → allows rules ask ≡ says
reached_at says regions rules place rule ask within there is =
    subst (λ (rs : List Rule). allows rs ask ≡ says) (parted_at rules place rule within there)
    (reached_says says regions (take place rules) (drop (place + 1) rules) rule ask is)

pub vain_at : (all : List Region) (rules : List Rule) (place steps : ℕ) → IsVain all (take place rules) steps → IsVain all rules steps
vain_at all rules place steps is =
    subst (λ (rs : List Rule). IsVain all rs steps) (take-append-drop place rules) (vain_front all (take place rules) (drop place rules) steps is)

pub next_passed : (says : Bool) (regions : List Region) (opposed rules : List Rule) (place : ℕ) (rule : Rule) → place < length rules
    → rule ≡ get_or rules place rule → IsPassed says regions opposed (take place rules ++ rule ∷ [])
    → IsPassed says regions opposed (take (place + 1) rules)
next_passed says regions opposed rules place rule within there is =
    subst (λ (rs : List Rule). IsPassed says regions opposed rs)
    (sym (ap (λ n. take n rules) (add-one place) ∙ take-suc rules place rule within
    ∙ ap (λ (r : Rule). take place rules ++ r ∷ []) (sym there))) is

pub unlike_not : (a b : Bool) → unlike a b ≡ true → a ≡ b → ⊥
unlike_not true true e = absurd cc
unlike_not true false e = λ same. cc
unlike_not false true e = λ same. cc
unlike_not false false e = absurd cc

pub not_unlike : (a b : Bool) → unlike a b ≡ false → a ≡ b
not_unlike true true e = refl
not_unlike true false e = absurd cc
not_unlike false true e = absurd cc
not_unlike false false e = refl
