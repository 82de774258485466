-- What was found may be put in another order, and one region in the place of two.
use Rattle.std.proofs.Common.{◌≡◌, ◌∙◌, sym, ap, refl, subst, ℕ, ◌<◌, Bool, true, false, ◌&&◌, ◌||◌, List, [], ◌∷◌, ◌++◌, append_assoc, length, get_or, inl, inr}
use Rattle.std.specs.Prelude.{not}
use Rattle.std.specs.List.{AllByRecursion, swap_remove}
use Rattle.std.specs.List.Sorted.{IsPermutation}
use Rattle.std.proofs.lemmas.Bool.{and_from, and_parts, or_cases, or_left}
use Rattle.std.proofs.lemmas.List.{append-nil}
use Rattle.std.proofs.lemmas.List.Elements.{All-from_recursion, recursion_from_All}
use Rattle.std.proofs.lemmas.List.Folds.{list_any-append}
use Rattle.std.proofs.lemmas.List.Sorted.{All-permutation, IsPermutation-append_comm, IsPermutation-append_left, IsPermutation-append_right, IsPermutation-swap_remove, IsPermutation-sym, IsPermutation-to_front, IsPermutation-trans, list_any-IsPermutation}
use Rattle.gw_rules.specs.Ask.{Ask}
use Rattle.gw_rules.specs.Fields.{value_of, with_value}
use Rattle.gw_rules.specs.declared.field.FieldName.{FieldName}
use Rattle.gw_rules.specs.declared.rule.Rule.{Rule}
use Rattle.gw_ask_sets.specs.regions.Comparing.{IsComparison, IsDecided, IsFoundFor, IsSummary, decider, differs, is_found, is_one_of}
use Rattle.gw_ask_sets.specs.regions.Merging.{AreKept, IsJoined, IsWide, lies_but}
use Rattle.gw_ask_sets.specs.regions.Regions.{Region, lies, lies_in_one}
use Rattle.gw_ask_sets.specs.regions.Values.{has}
use Rattle.gw_ask_sets.specs.declared.regions.comparison.Found.{Found}
use Rattle.gw_ask_sets.specs.declared.regions.values.Values.{Values}
use Rattle.gw_ask_sets.proofs.regions_lemmas.RegionLaw.{lies_apart, lies_with}

-- ---- lists of what was found

pub kept_same : (found : List Found) → AreKept found found
kept_same found = record { asks = λ ask. refl; found = λ test shapes old new left was. was }

pub kept_trans : (one two three : List Found) → AreKept one two → AreKept two three → AreKept one three
kept_trans one two three a b = record {
  asks = λ ask. b.asks ask ∙ a.asks ask;
  found = λ test shapes old new left was. b.found test shapes old new left (a.found test shapes old new left was);
}

pub all_moved : (P : Found → Type 0) (xs ys : List Found) → IsPermutation xs ys → AllByRecursion P xs → AllByRecursion P ys
all_moved P xs ys moved all = recursion_from_All P ys (All-permutation P xs ys moved (All-from_recursion P xs all))

pub found_moved : (test : Ask → Bool) (shapes : List Region) (old new : List Rule) (left : List Region) (xs ys : List Found)
    → IsPermutation xs ys → IsFoundFor test shapes old new xs left → IsFoundFor test shapes old new ys left
found_moved test shapes old new left xs ys moved was = record {
  exact = λ ask in_shape. was.exact ask in_shape
      ∙ ap (λ b. b || (lies_in_one left ask && differs old new ask)) (list_any-IsPermutation (λ f. lies f.region ask) xs ys moved);
  verdicts = all_moved (λ f. (ask : Ask) → test ask ≡ true → lies f.region ask ≡ true → IsDecided old new f ask) xs ys moved was.verdicts;
  asks = all_moved (λ f. (lies f.region f.ask && lies_in_one shapes f.ask) ≡ true) xs ys moved was.asks;
}

pub kept_moved : (xs ys : List Found) → IsPermutation xs ys → AreKept xs ys
kept_moved xs ys moved = record {
  asks = λ ask. sym (list_any-IsPermutation (λ f. lies f.region ask) xs ys moved);
  found = λ test shapes old new left was. found_moved test shapes old new left xs ys moved was;
}

all_parts : (P : Found → Type 0) (xs ys : List Found) → AllByRecursion P (xs ++ ys) → AllByRecursion P xs × AllByRecursion P ys
all_parts P [] ys all = (tt, all)
all_parts P (x ∷ xs) ys all = let rest = all_parts P xs ys all.1 in ((all.0, rest.0), rest.1)

all_from : (P : Found → Type 0) (xs ys : List Found) → AllByRecursion P xs → AllByRecursion P ys → AllByRecursion P (xs ++ ys)
all_from P [] ys one two = two
all_from P (x ∷ xs) ys one two = (one.0, all_from P xs ys one.1 two)

-- ---- one in the place of two

as_one : (old new : List Rule) (both one : Found) (ask : Ask) → both.allows ≡ one.allows → both.old_rules.items ≡ one.old_rules.items → both.new_rules.items ≡ one.new_rules.items
    → IsDecided old new one ask → IsDecided old new both ask
as_one old new both one ask says old_rules new_rules was = record {
  by_old = was.by_old ∙ ap not (sym says);
  by_new = was.by_new ∙ sym says;
  old_rule = ap (λ (ns : List ℕ). is_one_of ns (decider old ask)) old_rules ∙ was.old_rule;
  new_rule = ap (λ (ns : List ℕ). is_one_of ns (decider new ask)) new_rules ∙ was.new_rule;
}

joined_asks : (xs : List Found) (both one other : Found) → IsJoined both one other → (ask : Ask) → is_found (xs ++ both ∷ []) ask ≡ is_found (xs ++ one ∷ other ∷ []) ask
joined_asks xs both one other is ask =
    list_any-append (λ f. lies f.region ask) xs (both ∷ [])
    ∙ ap (λ b. is_found xs ask || (b || false)) (is.regions ask)
    ∙ ap (λ b. is_found xs ask || b) (last (lies one.region ask) (lies other.region ask))
    ∙ sym (list_any-append (λ f. lies f.region ask) xs (one ∷ other ∷ []))
  where
    last : (a b : Bool) → ((a || b) || false) ≡ (a || (b || false))
    last true b = refl
    last false b = refl

pub joined_kept : (xs : List Found) (both one other : Found) → IsJoined both one other → AreKept (xs ++ one ∷ other ∷ []) (xs ++ both ∷ [])
joined_kept xs both one other is = record {
  asks = joined_asks xs both one other is;
  found = λ test shapes old new left was.
      let Said : Found → Type 0 = λ f. (ask : Ask) → test ask ≡ true → lies f.region ask ≡ true → IsDecided old new f ask in
      let Has : Found → Type 0 = λ f. (lies f.region f.ask && lies_in_one shapes f.ask) ≡ true in
      let said = all_parts Said xs (one ∷ other ∷ []) was.verdicts in
      let had = all_parts Has xs (one ∷ other ∷ []) was.asks in
      record {
        exact = λ ask in_shape. was.exact ask in_shape
            ∙ ap (λ b. b || (lies_in_one left ask && differs old new ask)) (sym (joined_asks xs both one other is ask));
        verdicts = all_from Said xs (both ∷ []) said.0 (
          λ ask passes there. elim (or_cases (lies one.region ask) (lies other.region ask) (sym (is.regions ask) ∙ there)) [
            | inl first ↦ as_one old new both one ask is.allows is.old_rules is.new_rules (said.1.0 ask passes first)
            | inr second ↦ as_one old new both other ask (is.allows ∙ is.same_allows) (is.old_rules ∙ is.same_old_rules) (is.new_rules ∙ is.same_new_rules) (said.1.1.0 ask passes second)
          ],
          tt,
        );
        asks = all_from Has xs (both ∷ []) had.0 (
          let parts = and_parts (lies one.region one.ask) (lies_in_one shapes one.ask) had.1.0 in
              ap (λ (a : Ask). lies both.region a && lies_in_one shapes a) is.ask
              ∙ and_from (lies both.region one.ask) (lies_in_one shapes one.ask)
              (is.regions one.ask ∙ or_left (lies one.region one.ask) (lies other.region one.ask) parts.0) parts.1,
          tt,
        );
      };
}

pub either : (a b c : Bool) → ((a || b) && c) ≡ ((a && c) || (b && c))
either true true true = refl
either true true false = refl
either true false true = refl
either true false false = refl
either false b c = refl

-- with the values of both for the field in which alone they differ
pub joined_regions : (field : FieldName) (one other : Region) (values : Values) (ask : Ask)
    → has values (value_of field ask) ≡ (has (value_of field one) (value_of field ask) || has (value_of field other) (value_of field ask))
    → lies_but field one ask ≡ lies_but field other ask
    → lies (with_value field values one) ask ≡ (lies one ask || lies other ask)
joined_regions field one other values ask all rest =
    let x = has (value_of field one) (value_of field ask) in
    let y = has (value_of field other) (value_of field ask) in
    lies_with field one values ask
    ∙ ap (λ b. b && lies_but field one ask) all
    ∙ either x y (lies_but field one ask)
    ∙ ap (λ b. b || (y && lies_but field one ask)) (sym (lies_apart field one ask))
    ∙ ap (λ b. lies one ask || (y && b)) rest
    ∙ ap (λ b. lies one ask || b) (sym (lies_apart field other ask))

-- ---- the loops

-- two of a list are made one
pub merged_step : (start done : List Found) (place : ℕ) (carried other both : Found) → place < length done → other ≡ get_or done place other → IsJoined both carried other
    → ((rest : List Found) → AreKept (rest ++ start) (rest ++ (done ++ carried ∷ [])))
    → (rest : List Found) → AreKept (rest ++ start) (rest ++ (swap_remove done place other ++ both ∷ []))
merged_step start done place carried other both within is joined before rest =
    kept_trans (rest ++ start) (rest ++ (done ++ carried ∷ [])) (rest ++ (less ++ both ∷ [])) (before rest)
    (kept_trans (rest ++ (done ++ carried ∷ [])) ((rest ++ less) ++ carried ∷ other ∷ []) (rest ++ (less ++ both ∷ []))
    (kept_moved (rest ++ (done ++ carried ∷ [])) ((rest ++ less) ++ carried ∷ other ∷ []) moved)
    (subst (λ (ys : List Found). AreKept ((rest ++ less) ++ carried ∷ other ∷ []) ys) (append_assoc rest less (both ∷ []))
    (joined_kept (rest ++ less) both carried other joined)))
  where
    less : List Found
    less = swap_remove done place other

    out : IsPermutation (done ++ carried ∷ []) (other ∷ (less ++ carried ∷ []))
    out = IsPermutation-append_left (carried ∷ []) done (other ∷ less) (IsPermutation-swap_remove done place other within is)

    last : IsPermutation (other ∷ (less ++ carried ∷ [])) ((less ++ carried ∷ []) ++ other ∷ [])
    last = IsPermutation-sym ((less ++ carried ∷ []) ++ other ∷ []) (other ∷ (less ++ carried ∷ [])) (IsPermutation-to_front (less ++ carried ∷ []) other)

    all : IsPermutation (rest ++ (done ++ carried ∷ [])) (rest ++ ((less ++ carried ∷ []) ++ other ∷ []))
    all = IsPermutation-append_right rest (done ++ carried ∷ []) ((less ++ carried ∷ []) ++ other ∷ [])
        (IsPermutation-trans (done ++ carried ∷ []) (other ∷ (less ++ carried ∷ [])) ((less ++ carried ∷ []) ++ other ∷ []) out last)

    moved : IsPermutation (rest ++ (done ++ carried ∷ [])) ((rest ++ less) ++ carried ∷ other ∷ [])
    moved = subst (λ (ys : List Found). IsPermutation (rest ++ (done ++ carried ∷ [])) ys)
        (ap (λ (ys : List Found). rest ++ ys) (append_assoc less (carried ∷ []) (other ∷ [])) ∙ sym (append_assoc rest less (carried ∷ other ∷ []))) all

-- the last of those that remain goes after those that are done
pub taken_over : (rest done : List Found) (next : Found) → IsPermutation ((rest ++ next ∷ []) ++ done) (rest ++ (done ++ next ∷ []))
taken_over rest done next =
    subst (λ (xs : List Found). IsPermutation xs (rest ++ (done ++ next ∷ []))) (sym (append_assoc rest (next ∷ []) done))
    (IsPermutation-append_right rest (next ∷ done) (done ++ next ∷ []) (IsPermutation-append_comm (next ∷ []) done))

pub merge_step : (start rest done more all : List Found) (next : Found) → all ≡ rest ++ next ∷ [] → AreKept start (all ++ done)
    → AreKept (rest ++ (done ++ next ∷ [])) (rest ++ more) → AreKept start (rest ++ more)
merge_step start rest done more all next is before made =
    kept_trans start (rest ++ (done ++ next ∷ [])) (rest ++ more)
    (kept_trans start ((rest ++ next ∷ []) ++ done) (rest ++ (done ++ next ∷ []))
    (subst (λ (xs : List Found). AreKept start (xs ++ done)) is before)
    (kept_moved ((rest ++ next ∷ []) ++ done) (rest ++ (done ++ next ∷ [])) (taken_over rest done next)))
    made

pub merge_starts : (start : List Found) → AreKept start (start ++ [])
merge_starts start = subst (λ (xs : List Found). AreKept start xs) (sym (append-nil start)) (kept_same start)

-- ---- wider ones

widened_asks : (shapes : List Region) (xs : List Found) (f : Found) (region : Region) → IsWide shapes f.region region
    → (ask : Ask) → lies_in_one shapes ask ≡ true → is_found (xs ++ (record f { region = region }) ∷ []) ask ≡ is_found (xs ++ f ∷ []) ask
widened_asks shapes xs f region wide ask in_shape =
    list_any-append (λ g. lies g.region ask) xs ((record f { region = region }) ∷ [])
    ∙ ap (λ b. is_found xs ask || (b || false)) (wide ask in_shape)
    ∙ sym (list_any-append (λ g. lies g.region ask) xs (f ∷ []))

pub widened : (shapes : List Region) (old new : List Rule) (left : List Region) (xs : List Found) (f : Found) (region : Region) → IsWide shapes f.region region
    → IsSummary shapes old new (xs ++ f ∷ []) left → IsSummary shapes old new (xs ++ (record f { region = region }) ∷ []) left
widened shapes old new left xs f region wide was =
    let g : Found = record f { region = region } in
    let Said : Found → Type 0 = λ f. (ask : Ask) → lies_in_one shapes ask ≡ true → lies f.region ask ≡ true → IsDecided old new f ask in
    let Has : Found → Type 0 = λ f. (lies f.region f.ask && lies_in_one shapes f.ask) ≡ true in
    let said = all_parts Said xs (f ∷ []) was.verdicts in
    let had = all_parts Has xs (f ∷ []) was.asks in
    let parts = and_parts (lies f.region f.ask) (lies_in_one shapes f.ask) had.1.0 in
    record {
      exact = λ ask in_shape. was.exact ask in_shape
          ∙ ap (λ b. b || (lies_in_one left ask && differs old new ask)) (sym (widened_asks shapes xs f region wide ask in_shape));
      verdicts = all_from Said xs (g ∷ []) said.0
          (λ ask in_shape there. as_one old new g f ask refl refl refl (said.1.0 ask in_shape (sym (wide ask in_shape) ∙ there)), tt);
      asks = all_from Has xs (g ∷ []) had.0
          (and_from (lies region f.ask) (lies_in_one shapes f.ask) (wide f.ask parts.1 ∙ parts.0) parts.1, tt);
    }

pub widen_step : (shapes : List Region) (old new : List Rule) (left : List Region) (rest done all : List Found) (next wide : Found)
    → all ≡ rest ++ next ∷ [] → wide ≡ record next { region = wide.region } → IsWide shapes next.region wide.region
    → IsSummary shapes old new (all ++ done) left → IsSummary shapes old new (rest ++ (done ++ wide ∷ [])) left
widen_step shapes old new left rest done all next wide is made wider was =
    let there : IsSummary shapes old new ((rest ++ next ∷ []) ++ done) left = subst (λ (xs : List Found). IsSummary shapes old new (xs ++ done) left) is was in
    let moved : IsSummary shapes old new (rest ++ (done ++ next ∷ [])) left =
    found_moved (lies_in_one shapes) shapes old new left ((rest ++ next ∷ []) ++ done) (rest ++ (done ++ next ∷ [])) (taken_over rest done next) there in
    let last : IsSummary shapes old new ((rest ++ done) ++ next ∷ []) left = subst (λ (xs : List Found). IsSummary shapes old new xs left) (sym (append_assoc rest done (next ∷ []))) moved in
    let grown : IsSummary shapes old new ((rest ++ done) ++ wide ∷ []) left =
    subst (λ (g : Found). IsSummary shapes old new ((rest ++ done) ++ g ∷ []) left) (sym made) (widened shapes old new left (rest ++ done) next wide.region wider last) in
    subst (λ (xs : List Found). IsSummary shapes old new xs left) (append_assoc rest done (wide ∷ [])) grown

pub widen_starts : (shapes : List Region) (old new : List Rule) (left : List Region) (start : List Found) → IsSummary shapes old new start left → IsSummary shapes old new (start ++ []) left
widen_starts shapes old new left start was = subst (λ (xs : List Found). IsSummary shapes old new xs left) (sym (append-nil start)) was

-- what holds for each ask holds for those of the shapes
all_weaker : (P Q : Found → Type 0) → ((f : Found) → P f → Q f) → (xs : List Found) → AllByRecursion P xs → AllByRecursion Q xs
all_weaker P Q to [] all = tt
all_weaker P Q to (x ∷ xs) all = (to x all.0, all_weaker P Q to xs all.1)

pub summary_of : (shapes : List Region) (old new : List Rule) (found : List Found) (left : List Region) → IsComparison shapes old new found left → IsSummary shapes old new found left
summary_of shapes old new found left was = record {
  exact = was.exact;
  verdicts = all_weaker (λ f. (ask : Ask) → true ≡ true → lies f.region ask ≡ true → IsDecided old new f ask)
      (λ f. (ask : Ask) → lies_in_one shapes ask ≡ true → lies f.region ask ≡ true → IsDecided old new f ask)
      (λ f said ask in_shape there. said ask refl there) found was.verdicts;
  asks = was.asks;
}
