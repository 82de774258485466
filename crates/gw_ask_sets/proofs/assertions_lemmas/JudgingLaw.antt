-- What a search of the asks that are meant shows of an assertion.
use Rattle.std.proofs.Common.{◌≡◌, ◌∙◌, sym, ap, refl, ℕ, Bool, true, false, ◌&&◌, List, map, Option}
use Rattle.std.specs.Prelude.{not}
use Rattle.std.proofs.lemmas.Bool.{and_from, and_parts, both_ways, false_from_ne_true, not-true}
use Rattle.gw_configuration.specs.Assertion.{is_meant}
use Rattle.gw_configuration.specs.Configuration.{Configuration}
use Rattle.gw_configuration.specs.declared.assertion.Assertion.{Assertion}
use Rattle.gw_rules.specs.Ask.{Ask}
use Rattle.gw_rules.specs.RuleList.{allows, first}
use Rattle.gw_ask_sets.specs.assertions.Asserted.{is_unraised}
use Rattle.gw_ask_sets.specs.assertions.Judging.{IsBroken, IsEmpty, IsHeld, IsMeantIn, IsUnfinished}
use Rattle.gw_ask_sets.specs.assertions.internal.Passing.{IsVain}
use Rattle.gw_ask_sets.specs.assertions.internal.Unraised.{AreAsserted}
use Rattle.gw_ask_sets.specs.regions.Regions.{Region, lies_in_one}
use Rattle.gw_ask_sets.specs.shapes.Regions.{region_of}
use Rattle.gw_ask_sets.specs.shapes.Shapes.{shapes}
use Rattle.gw_ask_sets.proofs.shapes_lemmas.RegionLaw.{inner_one, whole_one}

-- some regions have the asks that an assertion means
abbrev pub AreMeant : List Region → Assertion → List Region → Type 0
AreMeant asserted a regions = (ask : Ask) → lies_in_one regions ask ≡ (lies_in_one asserted ask && is_meant a ask)

meant_in : (c : Configuration) (a : Assertion) (asserted regions : List Region) → AreAsserted c asserted → AreMeant asserted a regions
    → (ask : Ask) → lies_in_one regions ask ≡ true → IsMeantIn c a ask
meant_in c a asserted regions of meant ask lies =
    let parts = and_parts (lies_in_one asserted ask) (is_meant a ask) (sym (meant ask) ∙ lies) in
    let raised = and_parts (lies_in_one (map region_of (shapes c)) ask) (not (is_unraised c ask)) (sym (of ask) ∙ parts.0) in
    ((inner_one (shapes c) ask raised.0, not-true (is_unraised c ask) raised.1), parts.1)

in_regions : (c : Configuration) (a : Assertion) (asserted regions : List Region) → AreAsserted c asserted → AreMeant asserted a regions
    → (ask : Ask) → IsMeantIn c a ask → lies_in_one regions ask ≡ true
in_regions c a asserted regions of meant ask is =
    meant ask
    ∙ and_from (lies_in_one asserted ask) (is_meant a ask)
    (of ask ∙ and_from (lies_in_one (map region_of (shapes c)) ask) (not (is_unraised c ask)) (whole_one (shapes c) ask is.0.0) (ap not is.0.1))
    is.1

twice : (b : Bool) → not (not b) ≡ b
twice true = refl
twice false = refl

pub is_empty_of : (c : Configuration) (a : Assertion) (asserted regions : List Region) → AreAsserted c asserted → AreMeant asserted a regions
    → ((ask : Ask) → lies_in_one regions ask ≡ false) → IsEmpty c a
is_empty_of c a asserted regions of meant none ask there =
    false_from_ne_true (is_meant a ask)
    (λ m. both_ways (lies_in_one regions ask) (none ask) (in_regions c a asserted regions of meant ask (there, m)))

pub is_held_of : (c : Configuration) (a : Assertion) (asserted regions : List Region) (ask : Ask) → AreAsserted c asserted
    → AreMeant asserted a regions → lies_in_one regions ask ≡ true
    → ((ask : Ask) → lies_in_one regions ask ≡ true → allows c.rules ask ≡ not (not a.is_allowed)) → IsHeld c a
is_held_of c a asserted regions ask of meant lies all = record {
  ask = ask;
  one = meant_in c a asserted regions of meant ask lies;
  each = λ ask is. all ask (in_regions c a asserted regions of meant ask is) ∙ twice a.is_allowed;
}

pub is_broken_of : (c : Configuration) (a : Assertion) (asserted regions : List Region) (ask : Ask) (number : Option ℕ) → AreAsserted c asserted
    → AreMeant asserted a regions → lies_in_one regions ask ≡ true → allows c.rules ask ≡ not a.is_allowed → first c.rules ask ≡ number
    → IsBroken c a ask number (not a.is_allowed)
is_broken_of c a asserted regions ask number of meant lies decided is = record {
  one = meant_in c a asserted regions of meant ask lies;
  decider = is;
  decided = decided;
  otherwise = refl;
}

pub is_unfinished_of : (c : Configuration) (a : Assertion) (asserted regions : List Region) (steps : ℕ) → AreAsserted c asserted
    → AreMeant asserted a regions → IsVain regions c.rules steps → IsUnfinished c a steps
is_unfinished_of c a asserted regions steps of meant is = record {
  regions = is.regions;
  rules = is.rules;
  meant = λ ask lies. meant_in c a asserted regions of meant ask (is.within ask lies);
  passed = is.matched;
  used = is.used;
}
