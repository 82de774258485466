-- What is summed up may be put into another order; and what it says if nothing is left.
use Rattle.std.proofs.Common.{◌≡◌, ◌∙◌, ap, Bool, true, ◌&&◌, ◌||◌, List}
use Rattle.std.specs.List.{AllByRecursion}
use Rattle.std.specs.List.Sorted.{IsPermutation}
use Rattle.std.proofs.lemmas.List.Elements.{All-from_recursion, recursion_from_All}
use Rattle.std.proofs.lemmas.List.Sorted.{All-permutation, list_any-IsPermutation}
use Rattle.gw_rules.specs.Ask.{Ask}
use Rattle.gw_rules.specs.declared.rule.Rule.{Rule}
use Rattle.gw_ask_sets.specs.regions.Comparing.{IsDecided, IsSummary, differs}
use Rattle.gw_ask_sets.specs.regions.Presence.{NoneIsMeant, OrNoneIsMeant}
use Rattle.gw_ask_sets.specs.regions.Regions.{Region, lies, lies_in_one}
use Rattle.gw_ask_sets.specs.declared.regions.comparison.Found.{Found}
use Rattle.gw_policy_review.specs.comparison.Operations.{OperationIsMeant, OperationsAreMeant}

each_permuted : (P : Found → Type 0) (xs ys : List Found) → IsPermutation xs ys → AllByRecursion P xs → AllByRecursion P ys
each_permuted P xs ys moved all = recursion_from_All P ys (All-permutation P xs ys moved (All-from_recursion P xs all))

pub in_other_order : (shapes : List Region) (old new : List Rule) (xs ys : List Found) (left : List Region) → IsPermutation xs ys
    → IsSummary shapes old new xs left → IsSummary shapes old new ys left
in_other_order shapes old new xs ys left moved is = record {
  exact = λ ask there. is.exact ask there
      ∙ ap (λ (b : Bool). b || (lies_in_one left ask && differs old new ask)) (list_any-IsPermutation (λ f. lies f.region ask) xs ys moved);
  verdicts = each_permuted (λ f. (ask : Ask) → lies_in_one shapes ask ≡ true → lies f.region ask ≡ true → IsDecided old new f ask) xs ys moved is.verdicts;
  asks = each_permuted (λ f. (lies f.region f.ask && lies_in_one shapes f.ask) ≡ true) xs ys moved is.asks;
}

pub meant_in_other_order : (shapes : List Region) (xs ys : List Found) → IsPermutation xs ys → OrNoneIsMeant shapes xs → OrNoneIsMeant shapes ys
meant_in_other_order shapes xs ys moved is = each_permuted (λ f. NoneIsMeant shapes f.region) xs ys moved is

pub operations_in_other_order : (shapes : List Region) (xs ys : List Found) → IsPermutation xs ys → OperationsAreMeant shapes xs → OperationsAreMeant shapes ys
operations_in_other_order shapes xs ys moved is = each_permuted (λ f. OperationIsMeant shapes f.region) xs ys moved is
