-- A portion keeps a comparison right of the asks and rules that it is of.
use Rattle.std.proofs.Common.{◌≡◌, ℕ, ◌+◌, List, Ok, Err, OnOk, Result, arith, refl, subst, sym}
use Rattle.gw_ask_sets.specs.regions.Comparing.{IsComparison}
use Rattle.gw_ask_sets.specs.regions.Regions.{Region}
use Rattle.gw_ask_sets.specs.regions.Steps.{AreSteps, IsBeginning, IsCounted, IsReached, Stage}
use Rattle.gw_ask_sets.proofs.regions_lemmas.StepLaw.{steps_join}
use Rattle.gw_ask_sets.specs.declared.regions.comparison.Found.{Found}
use Rattle.gw_rules.specs.declared.rule.Rule.{Rule}

pub goes_on : (asks shapes : List Region) (old one new other : List Rule) (found more : List Found) (left rest : List Region)
    → shapes ≡ asks → one ≡ old → other ≡ new
    → (IsComparison shapes one other found left → IsComparison shapes one other more rest)
    → IsComparison asks old new found left → IsComparison asks old new more rest
goes_on asks shapes old one new other found more left rest same_asks same_old same_new =
    let Goes : List Region → List Rule → List Rule → Type 0 = λ xs a b. IsComparison xs a b found left → IsComparison xs a b more rest in
    λ goes. subst (λ (xs : List Region). Goes xs old new) same_asks
    (subst (λ (a : List Rule). Goes shapes a new) same_old (subst (λ (b : List Rule). Goes shapes one b) same_new goes))

-- the beginning is reached in no step
pub begun : (asks shapes : List Region) (old new : List Rule) (s : Stage) (steps : ℕ) → shapes ≡ asks → steps ≡ 0 → IsBeginning shapes s
    → IsReached asks old new steps s
begun asks shapes old new s steps same none is = record {
  start = s;
  beginning = subst (λ (xs : List Region). IsBeginning xs s) same is;
  made = subst (λ (n : ℕ). AreSteps asks old new n s s) (sym none) refl;
}

-- a portion more
pub reached_on : (asks shapes : List Region) (old one new other : List Rule) (before after : Stage) (steps more : ℕ)
    → shapes ≡ asks → one ≡ old → other ≡ new → IsCounted shapes one other before after steps more
    → IsReached asks old new steps before → IsReached asks old new more after
reached_on asks shapes old one new other before after steps more same_asks same_old same_new is was =
    let counted = is.counted in
    let count : is.count + steps ≡ more = omega arith in
    let made : AreSteps asks old new is.count before after =
    subst (λ (xs : List Region). AreSteps xs old new is.count before after) same_asks
    (subst (λ (a : List Rule). AreSteps shapes a new is.count before after) same_old
    (subst (λ (b : List Rule). AreSteps shapes one b is.count before after) same_new is.made)) in
    record {
      start = was.start;
      beginning = was.beginning;
      made = subst (λ (n : ℕ). AreSteps asks old new n was.start after) count
          (steps_join asks old new steps is.count was.start before after was.made made);
    }

-- two facts of one outcome
pub both_ok : {T E : Type 0} (r : Result T E) {P Q R : Type 0} → (P → Q → R) → OnOk r P → OnOk r Q → OnOk r R
both_ok (Ok done) so one two = so one two
both_ok (Err failed) so one two = tt
