-- What steps of a comparison keep.
use Rattle.std.proofs.Common.{◌≡◌, ◌∙◌, ◌⊎◌, sym, ap, refl, subst, ℕ, zero, suc, ◌+◌, ◌<◌, true, false, ◌&&◌, ◌||◌, List, [], ◌∷◌, ◌++◌, Some, length, get_or, append_assoc, arith, inl, inr}
use Rattle.std.specs.List.{AllByRecursion}
use Rattle.std.proofs.lemmas.List.{append-nil}
use Rattle.std.proofs.lemmas.List.Elements.{All-from_recursion}
use Rattle.std.proofs.lemmas.Option.{get_or_from_slice_get, slice_get-get_or}
use Rattle.gw_rules.specs.declared.field.TheConstants.FieldName.{ALL}
use Rattle.gw_rules.specs.declared.rule.Rule.{Rule}
use Rattle.gw_rules.specs.Ask.{Ask}
use Rattle.gw_ask_sets.specs.regions.Comparing.{IsComparison, differs}
use Rattle.gw_ask_sets.specs.regions.Regions.{Region, inside, lies, lies_in_one, pieces}
use Rattle.gw_ask_sets.specs.regions.Steps.{AreSteps, IsBeginning, IsCounted, IsDivided, IsReached, IsRuleOf, IsSettled, IsStep, Stage, divides, stage}
use Rattle.gw_ask_sets.specs.declared.regions.comparison.Found.{Found}
use Rattle.gw_ask_sets.specs.regions.internal.Looking.{Divides}
use Rattle.gw_ask_sets.proofs.regions_lemmas.ComparingLaw.{found_unlike, in_parts, left_out}
use Rattle.gw_ask_sets.proofs.regions_lemmas.RegionLaw.{is_parted}

-- ---- the rule that divides a region

pub divides_there : (rules : List Rule) (region : Region) (place : ℕ) (rule : Rule) → place < length rules → rule ≡ get_or rules place rule
    → divides rule region ≡ true → Divides rules region place
divides_there rules region place rule within is dividing = record {
  rule = rule;
  there = slice_get-get_or rules place rule within ∙ ap Some (sym is);
  dividing = dividing;
}

pub dividing_at : (rules : List Rule) (region : Region) (places : List ℕ) (k place : ℕ) → k < length places → place ≡ get_or places k place
    → AllByRecursion (λ p. Divides rules region p) places → Divides rules region place
dividing_at rules region places k place within is all =
    subst (λ p. Divides rules region p) (sym is) (All-from_recursion (λ p. Divides rules region p) places all k place within)

-- ---- steps keep a comparison right

begins : (shapes : List Region) (old new : List Rule) (region : Region) → ((ask : Ask) → lies_in_one shapes ask ≡ true → lies region ask ≡ true)
    → IsComparison shapes old new [] (region ∷ [])
begins shapes old new region all = record {
  exact = λ ask in_shape. sym (ap (λ b. (b || false) && differs old new ask) (all ask in_shape));
  verdicts = tt;
  asks = tt;
}

kept_as : (shapes : List Region) (old new : List Rule) (s : Stage) (found : List Found) (left : List Region) → s.found ≡ found → s.left ≡ left
    → IsComparison shapes old new found left → IsComparison shapes old new s.found s.left
kept_as shapes old new s found left same rest is =
    subst (λ (fs : List Found). IsComparison shapes old new fs s.left) (sym same)
    (subst (λ (rs : List Region). IsComparison shapes old new found rs) (sym rest) is)

pub settled_right : (shapes : List Region) (old new : List Rule) (region : Region) (before after : Stage) → IsSettled shapes old new region before after
    → IsComparison shapes old new before.found (before.left ++ region ∷ []) → IsComparison shapes old new after.found after.left
settled_right shapes old new region before after is was = elim is.becomes [
  | inl idle ↦ kept_as shapes old new after before.found before.left (is.found ∙ nothing before.found is.more idle.1) (is.left ∙ nothing before.left is.back idle.2)
      (left_out shapes old new before.found before.left region idle.0 was)
  | inr (inl found) ↦ kept_as shapes old new after (before.found ++ found.0 ∷ []) before.left
      (is.found ∙ ap (λ (fs : List Found). before.found ++ fs) found.2) (is.left ∙ nothing before.left is.back found.3)
      (found_unlike shapes old new before.found before.left found.0 found.1.verdicts found.1.example
      (subst (λ (r : Region). IsComparison shapes old new before.found (before.left ++ r ∷ [])) (sym found.1.whole) was))
  | inr (inr parted) ↦ kept_as shapes old new after before.found ((before.left ++ pieces ALL parted.0.rule region) ++ inside ALL parted.0.rule region ∷ [])
      (is.found ∙ nothing before.found is.more parted.1)
      (is.left ∙ ap (λ (rs : List Region). before.left ++ rs) parted.0.parts
      ∙ sym (append_assoc before.left (pieces ALL parted.0.rule region) (inside ALL parted.0.rule region ∷ [])))
      (in_parts shapes old new before.found before.left (pieces ALL parted.0.rule region) parted.0.rule region (inside ALL parted.0.rule region)
      (is_parted parted.0.rule region) was)
]
  where
    nothing : {A : Type 0} (xs more : List A) → more ≡ [] → xs ++ more ≡ xs
    nothing xs more none = ap (λ ys. xs ++ ys) none ∙ append-nil xs

pub step_right : (shapes : List Region) (old new : List Rule) (before after : Stage) → IsStep shapes old new before after
    → IsComparison shapes old new before.found before.left → IsComparison shapes old new after.found after.left
step_right shapes old new before after is was =
    settled_right shapes old new is.region (stage before.found is.rest) after is.settled
    (subst (λ (rs : List Region). IsComparison shapes old new before.found rs) is.taken was)

pub steps_right : (shapes : List Region) (old new : List Rule) (count : ℕ) (before after : Stage) → AreSteps shapes old new count before after
    → IsComparison shapes old new before.found before.left → IsComparison shapes old new after.found after.left
steps_right shapes old new zero before after same was = subst (λ (s : Stage). IsComparison shapes old new s.found s.left) (sym same) was
steps_right shapes old new (suc count) before after steps was =
    step_right shapes old new steps.0 after steps.2 (steps_right shapes old new count before steps.0 steps.1 was)

pub reached_right : (shapes : List Region) (old new : List Rule) (steps : ℕ) (s : Stage) → IsReached shapes old new steps s
    → IsComparison shapes old new s.found s.left
reached_right shapes old new steps s is =
    steps_right shapes old new steps is.start s is.made
    (kept_as shapes old new is.start [] (is.beginning.region ∷ []) is.beginning.found is.beginning.left
    (begins shapes old new is.beginning.region is.beginning.all))

-- ---- steps after steps

pub steps_join : (shapes : List Region) (old new : List Rule) (one two : ℕ) (a b c : Stage) → AreSteps shapes old new one a b
    → AreSteps shapes old new two b c → AreSteps shapes old new (two + one) a c
steps_join shapes old new one zero a b c first same =
    let count : one ≡ zero + one = omega arith in
    subst (λ (n : ℕ). AreSteps shapes old new n a c) count (subst (λ (s : Stage). AreSteps shapes old new one a s) (sym same) first)
steps_join shapes old new one (suc two) a b c first second =
    let count : suc (two + one) ≡ suc two + one = omega arith in
    let all : AreSteps shapes old new (suc (two + one)) a c = (second.0, steps_join shapes old new one two a b second.0 first second.1, second.2) in
    subst (λ (n : ℕ). AreSteps shapes old new n a c) count all

pub counted_right : (shapes : List Region) (old new : List Rule) (before after : Stage) (steps more : ℕ) → IsCounted shapes old new before after steps more
    → IsComparison shapes old new before.found before.left → IsComparison shapes old new after.found after.left
counted_right shapes old new before after steps more is was = steps_right shapes old new is.count before after is.made was

pub reached_by : (shapes : List Region) (old new : List Rule) (start s : Stage) (steps more : ℕ) → IsBeginning shapes start → steps ≡ 0
    → IsCounted shapes old new start s steps more → IsReached shapes old new more s
reached_by shapes old new start s steps more begins none is =
    let counted = is.counted in
    let count : is.count ≡ more = omega arith in
    record { start = start; beginning = begins; made = subst (λ (n : ℕ). AreSteps shapes old new n start s) count is.made }

-- ---- a region that goes back in parts

pub is_divided : (old new : List Rule) (region : Region) (rules : List Rule) (place : ℕ) (rule : Rule)
    → ((one : Rule) → IsRuleOf rules one → IsRuleOf old one ⊎ IsRuleOf new one) → rule ≡ get_or rules place rule
    → Divides rules region place → IsDivided old new region (pieces ALL rule region ++ inside ALL rule region ∷ [])
is_divided old new region rules place rule which is at =
    let same : rule ≡ at.rule = is ∙ get_or_from_slice_get rules place at.rule rule at.there in
    record {
      rule = rule;
      policy = which rule (place, at.there ∙ ap Some (sym same));
      dividing = ap (λ (r : Rule). divides r region) same ∙ at.dividing;
      parts = refl;
    }
