-- What the steps of a search keep: each ask that none of the rules matches.
use Rattle.std.proofs.Common.{◌≡◌, ◌∙◌, sym, ap, refl, subst, ℕ, ◌+◌, ◌<◌, zero, suc, Bool, true, false, ◌||◌, List, [], ◌∷◌, ◌++◌, Some, get_or, inl, inr, length, add-one}
use Rattle.std.proofs.lemmas.Bool.{both_ways, false_from_ne_true, or_left, or_right}
use Rattle.std.proofs.lemmas.List.Folds.{list_any-append, list_any_at}
use Rattle.std.proofs.lemmas.Option.{get_or_from_slice_get, slice_get-get_or}
use Rattle.gw_rules.specs.Ask.{Ask}
use Rattle.gw_rules.specs.Fields.{value_of}
use Rattle.gw_rules.specs.Rule.{matches, ranges_of}
use Rattle.gw_rules.specs.declared.field.FieldName.{FieldName}
use Rattle.gw_rules.specs.declared.rule.Rule.{Rule}
use Rattle.gw_ask_sets.specs.regions.Coverage.{covers}
use Rattle.gw_ask_sets.specs.regions.Regions.{Region, lies, lies_in_one}
use Rattle.gw_ask_sets.specs.regions.Steps.{divides}
use Rattle.gw_ask_sets.specs.regions.Unmatched.{AreAllMatched, AreNarrowed, AreUsedUp, EndsWith, IsCut, IsFoundAt, IsNarrowed, IsUnmatched, Narrows, is_matched, parts_at}
use Rattle.gw_ask_sets.specs.declared.regions.unmatched.Unmatched.TheVariants as unmatched
use Rattle.gw_ask_sets.specs.regions.internal.Nearest.{IsOpen}
use Rattle.gw_ask_sets.proofs.regions_lemmas.RegionLaw.{parts_at_law}

-- ---- one region

or_false : (b : Bool) → (b || false) ≡ b
or_false true = refl
or_false false = refl

pub in_both : (xs ys : List Region) (ask : Ask) → lies_in_one (xs ++ ys) ask ≡ (lies_in_one xs ask || lies_in_one ys ask)
in_both xs ys ask = list_any-append (λ region. lies region ask) xs ys

-- an ask that none of the rules matches lies in what a region becomes exactly if it lies in the region
became : (rules : List Rule) (region : Region) (back : List Region) (ask : Ask) → Narrows rules region back → is_matched rules ask ≡ false
    → lies_in_one back ask ≡ lies region ask
became rules region back ask (inl dropped) none =
    ap (λ (rs : List Region). lies_in_one rs ask) dropped.1
    ∙ sym (false_from_ne_true (lies region ask) (
    λ t. both_ways (is_matched rules ask) none (dropped.0 ask (or_left (lies region ask) false t))
    ))
became rules region back ask (inr cut) none = ap (λ (rs : List Region). lies_in_one rs ask) cut.parts ∙ parts_at_law cut.field cut.rule region ask

narrowed : (rules : List Rule) (before after : List Region) (ask : Ask) → IsNarrowed rules before after → is_matched rules ask ≡ false
    → lies_in_one after ask ≡ lies_in_one before ask
narrowed rules before after ask is none =
    ap (λ (rs : List Region). lies_in_one rs ask) is.left ∙ in_both is.rest is.back ask
    ∙ ap (λ b. lies_in_one is.rest ask || b) (became rules is.region is.back ask is.narrowing none ∙ sym (or_false (lies is.region ask)))
    ∙ sym (in_both is.rest (is.region ∷ []) ask) ∙ sym (ap (λ (rs : List Region). lies_in_one rs ask) is.taken)

-- ---- all steps

pub kept : (rules : List Rule) (count : ℕ) (before after : List Region) (ask : Ask) → AreNarrowed rules count before after → is_matched rules ask ≡ false
    → lies_in_one after ask ≡ lies_in_one before ask
kept rules zero before after ask made none = ap (λ (rs : List Region). lies_in_one rs ask) made
kept rules (suc count) before after ask made none =
    narrowed rules made.0 after ask made.2 none ∙ kept rules count before made.0 ask made.1 none

-- one step more
pub one_narrowed : (rules : List Rule) (count : ℕ) (start before after : List Region) → AreNarrowed rules count start before → IsNarrowed rules before after
    → AreNarrowed rules (count + 1) start after
one_narrowed rules count start before after made step = subst (λ (n : ℕ). AreNarrowed rules n start after) (sym (add-one count)) (before, made, step)

-- where nothing is left, the rules match each ask
pub nothing_left : (rules : List Rule) (count : ℕ) (before after : List Region) → AreNarrowed rules count before after → after ≡ []
    → AreAllMatched before rules
nothing_left rules count before after made none ask there = by (is_matched rules ask) refl
  where
    by : (b : Bool) → is_matched rules ask ≡ b → is_matched rules ask ≡ true
    by true e = e
    by false e = absurd (both_ways (lies_in_one before ask) (sym (kept rules count before after ask made e) ∙ ap (λ (rs : List Region). lies_in_one rs ask) none) there)

-- an ask of the last region that none of the rules matches is one of the regions with which the search began
pub found_there : (rules : List Rule) (count : ℕ) (before after rest : List Region) (region : Region) (ask : Ask) → AreNarrowed rules count before after
    → after ≡ rest ++ region ∷ [] → IsUnmatched (region ∷ []) rules ask → IsUnmatched before rules ask
found_there rules count before after rest region ask made taken is = (
  sym (kept rules count before after ask made is.1) ∙ ap (λ (rs : List Region). lies_in_one rs ask) taken ∙ in_both rest (region ∷ []) ask
      ∙ or_right (lies_in_one rest ask) (lies_in_one (region ∷ []) ask) is.0,
  is.1,
)

-- ---- which rule is nearest

-- a rule that matches each ask of a region
pub one_matches : (rules : List Rule) (region : Region) (place : ℕ) (rule : Rule) → place < length rules → rule ≡ get_or rules place rule
    → ((ask : Ask) → lies region ask ≡ true → matches rule ask ≡ true) → AreAllMatched (region ∷ []) rules
one_matches rules region place rule within is all ask there =
    list_any_at (λ r. matches r ask) rules place rule within
    (sym (ap (λ (r : Rule). matches r ask) is) ∙ all ask (sym (or_false (lies region ask)) ∙ there))

-- a rule that isn't seen to admit all values of a field
pub is_open : (rules : List Rule) (region : Region) (place : ℕ) (rule : Rule) (field : FieldName) → place < length rules → rule ≡ get_or rules place rule
    → divides rule region ≡ true → covers (value_of field region) (ranges_of field rule) ≡ false → IsOpen rules region place field
is_open rules region place rule field within is dividing lacks = record {
  rule = rule;
  within = within;
  there = slice_get-get_or rules place rule within ∙ ap Some (sym is);
  dividing = dividing;
  open_there = lacks;
}

-- a region that is parted by it
pub is_cut : (rules : List Rule) (region : Region) (place : ℕ) (rule : Rule) (field : FieldName) → rule ≡ get_or rules place rule
    → IsOpen rules region place field → IsCut rules region (parts_at field rule region)
is_cut rules region place rule field is at =
    let same : rule ≡ at.rule = is ∙ get_or_from_slice_get rules place at.rule rule at.there in
    record {
      rule = rule;
      one = (place, at.there ∙ ap Some (sym same));
      dividing = ap (λ (r : Rule). divides r region) same ∙ at.dividing;
      field = field;
      open_there = ap (λ (r : Rule). covers (value_of field region) (ranges_of field r)) same ∙ at.open_there;
      parts = refl;
    }

-- a region each of whose asks is matched
pub all_matched : (rules : List Rule) (region : Region) → ((ask : Ask) → lies region ask ≡ true → is_matched rules ask ≡ true)
    → AreAllMatched (region ∷ []) rules
all_matched rules region all ask there = all ask (sym (or_false (lies region ask)) ∙ there)

-- a region without an ask
pub empty_matched : (rules : List Rule) (region : Region) → ((ask : Ask) → lies region ask ≡ false) → AreAllMatched (region ∷ []) rules
empty_matched rules region none ask there = absurd (both_ways (lies region ask) (none ask) (sym (or_false (lies region ask)) ∙ there))

-- ---- how a search ends

pub ended_found : (rules : List Rule) (regions : List Region) (count : ℕ) (ask : Ask) → IsFoundAt rules regions count ask → IsUnmatched regions rules ask
ended_found rules regions count ask is =
    found_there rules is.earlier regions (is.rest ++ is.region ∷ []) is.rest is.region ask is.made refl is.there

pub ended_nothing : (rules : List Rule) (regions : List Region) (count : ℕ) → AreNarrowed rules count regions [] → AreAllMatched regions rules
ended_nothing rules regions count made = nothing_left rules count regions [] made refl

pub ended_unknown : (rules : List Rule) (regions : List Region) (given count : ℕ) → EndsWith rules regions given count unmatched.Unknown
    → AreUsedUp rules given regions
ended_unknown rules regions given count is = (is.1.left, is.1.made)
