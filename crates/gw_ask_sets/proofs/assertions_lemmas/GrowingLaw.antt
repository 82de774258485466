-- Regions that are put after others, one by one.
use Rattle.std.proofs.Common.{◌≡◌, ◌∙◌, inl, inr, sym, ap, refl, subst, ℕ, ◌+◌, ◌<◌, Bool, true, false, ◌&&◌, ◌||◌, List, [], ◌∷◌, ◌++◌, add-one, arith, drop, get_or, length, map, take}
use Rattle.std.specs.Prelude.{not}
use Rattle.std.proofs.Math.Seq.{take-suc}
use Rattle.std.proofs.lemmas.Bool.{or_cases}
use Rattle.std.proofs.lemmas.List.{map-append}
use Rattle.gw_configuration.specs.Configuration.{Configuration}
use Rattle.gw_configuration.specs.declared.assertion.Assertion.{Assertion}
use Rattle.gw_configuration.specs.declared.port.Port.{Port}
use Rattle.gw_rules.specs.Ask.{Ask}
use Rattle.gw_rules.specs.Rule.{matches}
use Rattle.gw_rules.specs.declared.rule.Rule.{Rule}
use Rattle.gw_ask_sets.specs.assertions.Asserted.{enters_at, enters_home}
use Rattle.gw_ask_sets.specs.assertions.Judging.{AreEachJudged, IsJudged}
use Rattle.gw_ask_sets.specs.assertions.internal.Conditions.{is_met, is_one_met}
use Rattle.gw_ask_sets.specs.declared.assertions.condition.Condition.{Condition}
use Rattle.gw_ask_sets.specs.declared.assertions.judging.Judged.{Judged}
use Rattle.gw_ask_sets.specs.regions.Regions.{Region, lies, lies_in_one}
use Rattle.gw_ask_sets.specs.shapes.Regions.{region_of}
use Rattle.gw_ask_sets.specs.shapes.Shape.{Shape}
use Rattle.gw_ask_sets.proofs.regions_lemmas.Growing.{grown_any, next_item}
use Rattle.gw_ask_sets.proofs.regions_lemmas.RangeLaw.{or_none}
use Rattle.gw_ask_sets.proofs.regions_lemmas.UnmatchedLaw.{in_both}

-- ---- one more

-- of which no ask lies there
pub none_more : (out : List Region) (b : Bool) (ask : Ask) → b ≡ false → lies_in_one out ask ≡ (lies_in_one out ask || b)
none_more out b ask none = sym (or_none (lies_in_one out ask)) ∙ ap (λ c. lies_in_one out ask || c) (sym none)

pub one_more : (out new : List Region) (made : Region) (b : Bool) (ask : Ask) → new ≡ out ++ made ∷ [] → lies made ask ≡ b
    → lies_in_one new ask ≡ (lies_in_one out ask || b)
one_more out new made b ask grown is =
    ap (λ (rs : List Region). lies_in_one rs ask) grown ∙ in_both out (made ∷ []) ask
    ∙ ap (λ c. lies_in_one out ask || c) (or_none (lies made ask) ∙ is)

-- several, as pieces
pub some_more : (out new pieces : List Region) (b : Bool) (ask : Ask) → new ≡ out ++ pieces → lies_in_one pieces ask ≡ b
    → lies_in_one new ask ≡ (lies_in_one out ask || b)
some_more out new pieces b ask grown is =
    ap (λ (rs : List Region). lies_in_one rs ask) grown ∙ in_both out pieces ask ∙ ap (λ c. lies_in_one out ask || c) is

-- what a rule that matches nothing of it takes of a region, or leaves
pub both_false : (a b : Bool) → (a ≡ true → b ≡ false) → (a && b) ≡ false
both_false true b none = none refl
both_false false b none = refl

pub both_left : (a b : Bool) → (a ≡ true → b ≡ false) → a ≡ (a && not b)
both_left true b none = sym (ap not (none refl))
both_left false b none = refl

pub none_left : (a b : Bool) → (a ≡ true → b ≡ true) → (a && not b) ≡ false
none_left true b all = ap not (all refl)
none_left false b all = refl

-- ---- loops

-- the regions so far, and one more, of each of which the asks that pass a test are put behind others
pub pushed_next : (regions : List Region) (place : ℕ) (one : Region) (ask : Ask) (passes before x y : Bool) → place < length regions
    → one ≡ get_or regions place one
    → x ≡ (before || (lies_in_one (take place regions) ask && passes)) → y ≡ (x || (lies one ask && passes))
    → y ≡ (before || (lies_in_one (take (place + 1) regions) ask && passes))
pushed_next regions place one ask passes before x y within there was grown =
    grown ∙ ap (λ b. b || (lies one ask && passes)) was
    ∙ by before (lies_in_one (take place regions) ask) (lies one ask) passes
    ∙ ap (λ (r : Region). before || ((lies_in_one (take place regions) ask || lies r ask) && passes)) there
    ∙ ap (λ b. before || (b && passes)) (sym (grown_any (λ r. lies r ask) regions place one within))
  where
    by : (b t l m : Bool) → ((b || (t && m)) || (l && m)) ≡ (b || ((t || l) && m))
    by true t l m = refl
    by false true true true = refl
    by false true true false = refl
    by false true false true = refl
    by false true false false = refl
    by false false l m = refl

-- the conditions so far, and one more
pub condition_next : (conditions : List Condition) (place : ℕ) (one : Condition) (ask : Ask) (all x y : Bool) → place < length conditions
    → one ≡ get_or conditions place one
    → x ≡ (all && is_one_met (take place conditions) ask) → y ≡ (x || (all && is_met one ask))
    → y ≡ (all && is_one_met (take (place + 1) conditions) ask)
condition_next conditions place one ask all x y within there was grown =
    grown ∙ ap (λ b. b || (all && is_met one ask)) was
    ∙ by all (is_one_met (take place conditions) ask) (is_met one ask)
    ∙ ap (λ (c : Condition). all && (is_one_met (take place conditions) ask || is_met c ask)) there
    ∙ ap (λ b. all && b) (sym (grown_any (λ c. is_met c ask) conditions place one within))
  where
    by : (a t l : Bool) → ((a && t) || (a && l)) ≡ (a && (t || l))
    by true t l = refl
    by false t l = refl

-- regions of which a rule matches nothing so far, and one more
pub apart_next : (regions : List Region) (place : ℕ) (one : Region) (rule : Rule) (ask : Ask) → place < length regions
    → one ≡ get_or regions place one
    → (lies_in_one (take place regions) ask ≡ true → matches rule ask ≡ false)
    → (lies one ask ≡ true → matches rule ask ≡ false)
    → lies_in_one (take (place + 1) regions) ask ≡ true → matches rule ask ≡ false
apart_next regions place one rule ask within there was here lies_there =
    elim (or_cases (lies_in_one (take place regions) ask) (lies (get_or regions place one) ask)
    (sym (grown_any (λ r. lies r ask) regions place one within) ∙ lies_there)) [
      | inl early ↦ was early
      | inr now ↦ here (ap (λ (r : Region). lies r ask) there ∙ now)
    ]

-- regions that are taken up one by one, of each of which what a rule leaves is put behind others
pub outside_next : (rest rest_new out out_new : List Region) (region : Region) (m all : Bool) (ask : Ask) → rest ≡ rest_new ++ region ∷ []
    → lies_in_one out_new ask ≡ (lies_in_one out ask || (lies region ask && not m))
    → (lies_in_one out ask || (lies_in_one rest ask && not m)) ≡ all
    → (lies_in_one out_new ask || (lies_in_one rest_new ask && not m)) ≡ all
outside_next rest rest_new out out_new region m all ask taken grown was =
    ap (λ b. b || (lies_in_one rest_new ask && not m)) grown
    ∙ by (lies_in_one out ask) (lies region ask) (lies_in_one rest_new ask) (not m)
    ∙ ap (λ b. lies_in_one out ask || (b && not m))
    (sym (ap (λ (rs : List Region). lies_in_one rs ask) taken ∙ in_both rest_new (region ∷ []) ask
    ∙ ap (λ b. lies_in_one rest_new ask || b) (or_none (lies region ask))))
    ∙ was
  where
    by : (o l r n : Bool) → ((o || (l && n)) || (r && n)) ≡ (o || ((r || l) && n))
    by true l r n = refl
    by false true true true = refl
    by false true true false = refl
    by false true false true = refl
    by false true false false = refl
    by false false true n = refl
    by false false false n = refl

-- the ports that are left, but for the next one
pub enters_next : (ports : List Port) (place number : ℕ) (p : Port) (ask : Ask) (x y all : Bool) → place < length ports → p ≡ get_or ports place p
    → number ≡ place + 1 → y ≡ (x && not (enters_at number p ask))
    → (x && not (enters_home (1 + place) (drop place ports) ask)) ≡ all
    → (y && not (enters_home (1 + (place + 1)) (drop (place + 1) ports) ask)) ≡ all
enters_next ports place number p ask x y all within there counted less was =
    let same : 1 + place ≡ number = omega (arith, counted) in
    let later : 1 + place + 1 ≡ 1 + (place + 1) = omega arith in
    ap (λ b. b && not (enters_home (1 + (place + 1)) (drop (place + 1) ports) ask)) less
    ∙ by x (enters_at number p ask) (enters_home (1 + (place + 1)) (drop (place + 1) ports) ask)
    ∙ ap (λ b. x && not b) (sym (
    ap (λ (ps : List Port). enters_home (1 + place) ps ask) (next_item ports place p within)
    ∙ ap (λ (q : Port). enters_at (1 + place) q ask || enters_home (1 + place + 1) (drop (place + 1) ports) ask) (sym there)
    ∙ ap (λ n. enters_at n p ask || enters_home (1 + place + 1) (drop (place + 1) ports) ask) same
    ∙ ap (λ n. enters_at number p ask || enters_home n (drop (place + 1) ports) ask) later
    ))
    ∙ was
  where
    by : (x a b : Bool) → ((x && not a) && not b) ≡ (x && not (a || b))
    by true true b = refl
    by true false b = refl
    by false a b = refl

-- ---- what is found of assertions

judged_more : (c : Configuration) (steps : ℕ) (assertions : List Assertion) (judged : List Judged) (a : Assertion) (j : Judged)
    → AreEachJudged c steps assertions judged → IsJudged c steps a j → AreEachJudged c steps (assertions ++ a ∷ []) (judged ++ j ∷ [])
judged_more c steps [] [] a j are is = (is, tt)
judged_more c steps [] (k ∷ judged) a j are is = absurd are
judged_more c steps (b ∷ assertions) [] a j are is = absurd are
judged_more c steps (b ∷ assertions) (k ∷ judged) a j are is = (are.0, judged_more c steps assertions judged a j are.1 is)

pub judged_next : (c : Configuration) (steps : ℕ) (assertions : List Assertion) (place : ℕ) (a : Assertion) (judged new : List Judged) (j : Judged)
    → place < length assertions → a ≡ get_or assertions place a → new ≡ judged ++ j ∷ []
    → AreEachJudged c steps (take place assertions) judged → IsJudged c steps a j → AreEachJudged c steps (take (place + 1) assertions) new
judged_next c steps assertions place a judged new j within there grown are is =
    let next : take (place + 1) assertions ≡ take place assertions ++ a ∷ [] =
    ap (λ n. take n assertions) (add-one place) ∙ take-suc assertions place a within
    ∙ ap (λ (b : Assertion). take place assertions ++ b ∷ []) (sym there) in
    subst (λ (list : List Judged). AreEachJudged c steps (take (place + 1) assertions) list) (sym grown)
    (subst (λ (list : List Assertion). AreEachJudged c steps list (judged ++ j ∷ [])) (sym next)
    (judged_more c steps (take place assertions) judged a j are is))

-- ---- regions of shapes

-- one more
pub shape_next : (shapes : List Shape) (place : ℕ) (d : Shape) (regions new : List Region) (made : Region) → place < length shapes
    → new ≡ regions ++ made ∷ [] → made ≡ region_of (get_or shapes place d)
    → regions ≡ map region_of (take place shapes) → new ≡ map region_of (take (place + 1) shapes)
shape_next shapes place d regions new made within grown is was =
    let one = get_or shapes place d in
    let next : take (place + 1) shapes ≡ take place shapes ++ one ∷ [] =
    ap (λ n. take n shapes) (add-one place) ∙ take-suc shapes place d within in
    grown ∙ ap (λ (r : Region). regions ++ r ∷ []) is ∙ ap (λ (rs : List Region). rs ++ region_of one ∷ []) was
    ∙ sym (ap (map region_of) next ∙ map-append region_of (take place shapes) (one ∷ []))
