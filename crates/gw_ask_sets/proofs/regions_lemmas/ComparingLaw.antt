-- What a step of a comparison keeps.
use Rattle.std.proofs.Common.{◌≡◌, ◌∙◌, sym, ap, refl, ℕ, ◌+◌, ◌<◌, Bool, true, false, ◌&&◌, ◌||◌, List, [], ◌∷◌, ◌++◌, length, get_or, take, Option, Some, add-one, arith, inl, inr}
use Rattle.std.specs.Prelude.{not, if◌then◌else◌, reverse, slice_get}
use Rattle.std.specs.List.{AllByRecursion, list_all}
use Rattle.std.specs.Option.{option_to_list}
use Rattle.std.proofs.Math.Seq.{take-suc}
use Rattle.std.proofs.lemmas.Bool.{and_parts, both_ways, or_cases}
use Rattle.std.proofs.lemmas.List.{reverse-append}
use Rattle.std.proofs.lemmas.List.Folds.{list_any-append}
use Rattle.gw_rules.specs.Ask.{Ask}
use Rattle.gw_rules.specs.Rule.{matches}
use Rattle.gw_rules.specs.Fields.{value_of}
use Rattle.gw_rules.specs.Range.{admits}
use Rattle.gw_rules.specs.Rule.{ranges_of}
use Rattle.gw_rules.specs.declared.field.FieldName.{FieldName}
use Rattle.gw_rules.specs.declared.field.FieldName.TheVariants.{Operation, Port, SourceNetwork, SourceKey, DestinationNetwork, Service, ObjectType, Instance, Property, Priority, Sender, Station}
use Rattle.gw_rules.specs.declared.field.TheConstants.FieldName.{ALL}
use Rattle.gw_rules.specs.declared.range.Range.{Range}
use Rattle.gw_rules.specs.declared.rule.Rule.{Rule}
use Rattle.gw_rules.specs.RuleList.{allows}
use Rattle.gw_ask_sets.specs.regions.Comparing.{AreDeciders, AreSame, AreUnlike, IsComparison, IsDecided, IsFoundFor, WasDecided, differs, is_found, unlike}
use Rattle.gw_ask_sets.specs.regions.Deciding.{decided, decided_by, rules_at}
use Rattle.gw_ask_sets.specs.regions.Regions.{IsParted, Region, lies, lies_in_one}
use Rattle.gw_ask_sets.specs.declared.regions.comparison.Found.{Found}
use Rattle.gw_ask_sets.proofs.regions_lemmas.RangeLaw.{or_none}

-- the rules at one place more are the same
pub same_more : (old new : List Rule) (p q : List ℕ) (o u : Bool) (k i j : ℕ) → k < length p → k < length q
    → AreSame old (get_or p k i) new (get_or q k j)
    → ((ask : Ask) → decided_by old (take k p) o ask ≡ decided_by new (take k q) u ask)
    → (ask : Ask) → decided_by old (take (k + 1) p) o ask ≡ decided_by new (take (k + 1) q) u ask
same_more old new p q o u k i j in_p in_q is before ask =
    ap (λ (rs : List Rule). decided rs o ask) (more old p k i is.one in_p is.there)
    ∙ ap (λ b. if b then is.one.allow else decided_by old (take k p) o ask) (is.matching ask)
    ∙ ap (λ b. if matches is.two ask then b else decided_by old (take k p) o ask) is.saying
    ∙ ap (λ b. if matches is.two ask then is.two.allow else b) (before ask)
    ∙ sym (ap (λ (rs : List Rule). decided rs u ask) (more new q k j is.two in_q is.here))
  where
    more : (rules : List Rule) (places : List ℕ) (k d : ℕ) (rule : Rule) → k < length places → slice_get rules (get_or places k d) ≡ Some rule
        → rules_at rules (reverse (take (k + 1) places)) ≡ rule ∷ rules_at rules (reverse (take k places))
    more rules places k d rule within there =
        ap (λ n. rules_at rules (reverse (take n places))) (add-one k)
        ∙ ap (λ ps. rules_at rules (reverse ps)) (take-suc places k d within)
        ∙ ap (rules_at rules) (reverse-append (take k places) (get_or places k d ∷ []))
        ∙ ap (λ (x : Option Rule). option_to_list x ++ rules_at rules (reverse (take k places))) there

-- ---- a step

last_one : (left : List Region) (region : Region) (ask : Ask) → lies_in_one (left ++ region ∷ []) ask ≡ (lies_in_one left ask || lies region ask)
last_one left region ask =
    list_any-append (λ r. lies r ask) left (region ∷ []) ∙ ap (λ b. lies_in_one left ask || b) (or_none (lies region ask))

without_alike : (l r d : Bool) → (r ≡ true → d ≡ false) → ((l || r) && d) ≡ (l && d)
without_alike true r d f = refl
without_alike false true d f = f refl
without_alike false false d f = refl

-- a region may be left out if no ask of a shape is decided otherwise there
pub left_out : (shapes : List Region) (old new : List Rule) (found : List Found) (left : List Region) (region : Region)
    → ((ask : Ask) → lies_in_one shapes ask ≡ true → lies region ask ≡ true → differs old new ask ≡ false)
    → IsComparison shapes old new found (left ++ region ∷ []) → IsComparison shapes old new found left
left_out shapes old new found left region same was = record {
  exact = λ ask in_shape. was.exact ask in_shape
      ∙ ap (λ b. is_found found ask || (b && differs old new ask)) (last_one left region ask)
      ∙ ap (λ b. is_found found ask || b) (without_alike (lies_in_one left ask) (lies region ask) (differs old new ask) (same ask in_shape));
  verdicts = was.verdicts;
  asks = was.asks;
}

with_unlike : (f l r d : Bool) → (r ≡ true → d ≡ true) → (f || ((l || r) && d)) ≡ ((f || r) || (l && d))
with_unlike true l r d e = refl
with_unlike false true true d e = e refl
with_unlike false true false d e = refl
with_unlike false false true d e = e refl
with_unlike false false false d e = refl

unlike_not : (a b : Bool) → a ≡ not b → unlike a b ≡ true
unlike_not a true e = ap (λ x. unlike x true) e
unlike_not a false e = ap (λ x. unlike x false) e

decided_differs : (old new : List Rule) (f : Found) (ask : Ask) → IsDecided old new f ask → differs old new ask ≡ true
decided_differs old new f ask is = unlike_not (allows old ask) (allows new ask) (is.by_old ∙ ap not (sym is.by_new))

-- what is said of a region holds for what is found of it
pub decided_in : (old new : List Rule) (region : Region) (allows : Bool) (f : Found) → f.region ≡ region → f.allows ≡ allows
    → AreDeciders old region f.old_rules.items → AreDeciders new region f.new_rules.items → AreUnlike old new region allows
    → (ask : Ask) → lies f.region ask ≡ true → IsDecided old new f ask
decided_in old new region says f is said by_old by_new unlike ask there =
    let here : lies region ask ≡ true = sym (ap (λ (r : Region). lies r ask) is) ∙ there in
    let answers = unlike ask here in
    record {
      by_old = answers.0 ∙ ap not (sym said);
      by_new = answers.1 ∙ sym said;
      old_rule = by_old ask here;
      new_rule = by_new ask here;
    }

pub all_push : {A : Type 0} (P : A → Type 0) (xs : List A) (x : A) → AllByRecursion P xs → P x → AllByRecursion P (xs ++ x ∷ [])
all_push P [] x all last = (last, tt)
all_push P (y ∷ ys) x all last = (all.0, all_push P ys x all.1 last)

pub found_unlike : (shapes : List Region) (old new : List Rule) (found : List Found) (left : List Region) (f : Found)
    → ((ask : Ask) → lies f.region ask ≡ true → IsDecided old new f ask)
    → (lies f.region f.ask && lies_in_one shapes f.ask) ≡ true
    → IsComparison shapes old new found (left ++ f.region ∷ []) → IsComparison shapes old new (found ++ f ∷ []) left
found_unlike shapes old new found left f decided holds was = record {
  exact = λ ask in_shape. was.exact ask in_shape
      ∙ ap (λ b. is_found found ask || (b && differs old new ask)) (last_one left f.region ask)
      ∙ with_unlike (is_found found ask) (lies_in_one left ask) (lies f.region ask) (differs old new ask)
      (λ there. decided_differs old new f ask (decided ask there))
      ∙ sym (ap (λ b. b || (lies_in_one left ask && differs old new ask)) (one_more ask));
  verdicts = all_push (λ f. (ask : Ask) → true ≡ true → lies f.region ask ≡ true → IsDecided old new f ask) found f was.verdicts
      (λ ask passes there. decided ask there);
  asks = all_push (λ f. (lies f.region f.ask && lies_in_one shapes f.ask) ≡ true) found f was.asks holds;
}
  where
    one_more : (ask : Ask) → is_found (found ++ f ∷ []) ask ≡ (is_found found ask || lies f.region ask)
    one_more ask = list_any-append (λ g. lies g.region ask) found (f ∷ []) ∙ ap (λ b. is_found found ask || b) (or_none (lies f.region ask))

put_together : (l r m : Bool) → ((l || (r && not m)) || (r && m)) ≡ (l || r)
put_together true r m = refl
put_together false true true = refl
put_together false true false = refl
put_together false false m = refl

pub in_parts : (shapes : List Region) (old new : List Rule) (found : List Found) (left outer : List Region) (rule : Rule) (region within : Region)
    → IsParted rule region within outer → IsComparison shapes old new found (left ++ region ∷ []) → IsComparison shapes old new found ((left ++ outer) ++ within ∷ [])
in_parts shapes old new found left outer rule region within parted was = record {
  exact = λ ask in_shape. was.exact ask in_shape
      ∙ ap (λ b. is_found found ask || (b && differs old new ask)) (last_one left region ask ∙ sym (all ask));
  verdicts = was.verdicts;
  asks = was.asks;
}
  where
    all : (ask : Ask) → lies_in_one ((left ++ outer) ++ within ∷ []) ask ≡ (lies_in_one left ask || lies region ask)
    all ask =
        last_one (left ++ outer) within ask
        ∙ ap (λ b. b || lies within ask) (list_any-append (λ r. lies r ask) left outer)
        ∙ ap (λ b. (lies_in_one left ask || b) || lies within ask) (parted.outer ask)
        ∙ ap (λ b. (lies_in_one left ask || (lies region ask && not (matches rule ask))) || b) (parted.inner ask)
        ∙ put_together (lies_in_one left ask) (lies region ask) (matches rule ask)

-- ---- the same rule

pub all_same : (one two : FieldName → Bool) → ((field : FieldName) → one field ≡ two field) → (fields : List FieldName) → list_all one fields ≡ list_all two fields
all_same one two e [] = refl
all_same one two e (f ∷ fs) = ap (λ b. b && list_all one fs) (e f) ∙ ap (λ b. two f && b) (all_same one two e fs)

-- what holds at each place of the list of all fields holds for each field
pub every_field : (P : FieldName → Type 0) → ((k : ℕ) (d : FieldName) → k < 12 → P (get_or ALL k d)) → (field : FieldName) → P field
every_field P at field = elim field as (λ f. P f) [
  | Operation ↦ at 0 Operation (omega arith)
  | Port ↦ at 1 Operation (omega arith)
  | SourceNetwork ↦ at 2 Operation (omega arith)
  | SourceKey ↦ at 3 Operation (omega arith)
  | DestinationNetwork ↦ at 4 Operation (omega arith)
  | Service ↦ at 5 Operation (omega arith)
  | ObjectType ↦ at 6 Operation (omega arith)
  | Instance ↦ at 7 Operation (omega arith)
  | Property ↦ at 8 Operation (omega arith)
  | Priority ↦ at 9 Operation (omega arith)
  | Sender ↦ at 10 Operation (omega arith)
  | Station ↦ at 11 Operation (omega arith)
]

-- rules with the same ranges in each field match the same asks
pub same_matches : (a b : Rule) → ((k : ℕ) (d : FieldName) → k < 12 → ranges_of (get_or ALL k d) a ≡ ranges_of (get_or ALL k d) b)
    → (ask : Ask) → matches a ask ≡ matches b ask
unfolding matches
same_matches a b same ask =
    all_same (λ f. admits (ranges_of f a) (value_of f ask)) (λ f. admits (ranges_of f b) (value_of f ask))
    (λ f. ap (λ (rs : List Range). admits rs (value_of f ask)) (every_field (λ g. ranges_of g a ≡ ranges_of g b) same f)) ALL

-- ---- a comparison

unlike_never : (a b : Bool) → unlike a b ≡ false → a ≡ b
unlike_never true true e = refl
unlike_never true false e = e
unlike_never false b e = sym e

-- an ask that isn't left
pub exact_known : (test : Ask → Bool) (shapes : List Region) (old new : List Rule) (found : List Found) (left : List Region) → IsFoundFor test shapes old new found left
    → (ask : Ask) → lies_in_one shapes ask ≡ true → lies_in_one left ask ≡ false → differs old new ask ≡ is_found found ask
exact_known test shapes old new found left is ask there known =
    is.exact ask there ∙ ap (λ b. is_found found ask || (b && differs old new ask)) known ∙ or_none (is_found found ask)

pub alike_finished : (test : Ask → Bool) (shapes : List Region) (old new : List Rule) → IsFoundFor test shapes old new [] []
    → (ask : Ask) → lies_in_one shapes ask ≡ true → allows old ask ≡ allows new ask
alike_finished test shapes old new is ask there =
    unlike_never (allows old ask) (allows new ask) (exact_known test shapes old new [] [] is ask there refl)

-- an ask of a region that was found
pub found_differs : (test : Ask → Bool) (old new : List Rule) (found : List Found)
    → AllByRecursion (λ f. (ask : Ask) → test ask ≡ true → lies f.region ask ≡ true → IsDecided old new f ask) found
    → (ask : Ask) → test ask ≡ true → is_found found ask ≡ true → differs old new ask ≡ true
found_differs test old new [] verdicts ask passes t = absurd (both_ways false refl t)
found_differs test old new (f ∷ fs) verdicts ask passes t = elim (or_cases (lies f.region ask) (is_found fs ask) t) [
  | inl there ↦ decided_differs old new f ask (verdicts.0 ask passes there)
  | inr later ↦ found_differs test old new fs verdicts.1 ask passes later
]

pub was_decided : (test : Ask → Bool) (shapes : List Region) (old new : List Rule) (found : List Found)
    → ((ask : Ask) → lies_in_one shapes ask ≡ true → test ask ≡ true)
    → AllByRecursion (λ f. (ask : Ask) → test ask ≡ true → lies f.region ask ≡ true → IsDecided old new f ask) found
    → AllByRecursion (λ f. (lies f.region f.ask && lies_in_one shapes f.ask) ≡ true) found
    → AllByRecursion (λ f. WasDecided shapes old new f) found
was_decided test shapes old new [] passes verdicts asks = tt
was_decided test shapes old new (f ∷ fs) passes verdicts asks =
    let parts = and_parts (lies f.region f.ask) (lies_in_one shapes f.ask) asks.0 in
    let is = verdicts.0 f.ask (passes f.ask parts.1) parts.0 in (
      record { there = parts.0; in_shape = parts.1; by_old = is.by_old; by_new = is.by_new; old_rule = is.old_rule; new_rule = is.new_rule },
      was_decided test shapes old new fs passes verdicts.1 asks.1,
    )
