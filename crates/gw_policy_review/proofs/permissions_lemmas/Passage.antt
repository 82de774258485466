-- What a search, rule by rule, for an ask that a policy decides so comes to.
use Rattle.std.proofs.Common.{◌≡◌, ◌∙◌, ◌⊎◌, ℕ, ◌+◌, ◌-◌, ◌≤◌, Bool, true, false, cond, nat_lt, not, if◌then◌else◌, List, [], ◌∷◌, ◌++◌, Some, add-one, ap, arith}
use Rattle.std.proofs.Common.{inl, inr, length, refl, slice_get, subst, sym}
use Rattle.std.specs.Option.{option_map_or}
use Rattle.std.proofs.lemmas.Bool.{cases_order, ltb-false}
use Rattle.std.proofs.lemmas.List.{length-append, length-map}
use Rattle.std.proofs.lemmas.Option.{slice_get_within}
use Rattle.gw_rules.specs.Ask.{Ask}
use Rattle.gw_rules.specs.Rule.{matches}
use Rattle.gw_rules.specs.RuleList.{HasNumber, allows, allows_at, first}
use Rattle.gw_rules.specs.declared.rule.Rule.{Rule}
use Rattle.gw_rules.proofs.First.{first_iff}
use Rattle.gw_rules.proofs.Matching.{matches_iff}
use Rattle.gw_ask_sets.specs.regions.Deciding.{decided, default_rule}
use Rattle.gw_ask_sets.specs.regions.Ranges.{lesser}
use Rattle.gw_ask_sets.specs.regions.Tidying.{all_tidied, tidied}
use Rattle.gw_ask_sets.specs.shapes.Search.{IsFound, IsSought}
use Rattle.gw_ask_sets.specs.shapes.Shape.{LiesInOne, Shape}
use Rattle.gw_ask_sets.proofs.regions_lemmas.AllowsLaw.{decided_allows}
use Rattle.gw_ask_sets.proofs.regions_lemmas.TidyLaw.{tidied_allows}
use Rattle.gw_ask_sets.proofs.shapes_lemmas.Narrowing.{no_rule}
use Rattle.gw_ask_sets.proofs.shapes_lemmas.Seeking.{is_found}
use Rattle.gw_policy_review.specs.lint.Finding.{steps_given}
use Rattle.gw_policy_review.specs.permissions.Laws.{OnlyUsedUpIsUnknown}
use Rattle.gw_policy_review.specs.permissions.Passing.{AreVain, IsDecision, IsPassage, IsSaidBy, IsSoughtIf, is_never, is_said, searched_rules}
use Rattle.gw_policy_review.proofs.permissions_lemmas.Excepting.{some_first}
use Rattle.gw_ask_sets.specs.declared.shapes.search.Outcome.{Outcome}
use Rattle.gw_ask_sets.specs.declared.shapes.search.Outcome.TheVariants as outcome

-- ---- one rule

-- an ask is decided as its first rule says
says_first : (rules : List Rule) (ask : Ask) (number : ℕ) → first rules ask ≡ Some number → allows rules ask ≡ allows_at rules number
unfolding allows
says_first rules ask number is = ap (λ o. option_map_or (allows_at rules) o false) is

otherwise : (allows says : Bool) → (if says then allows else not allows) ≡ false → allows ≡ not says
otherwise allows true e = e
otherwise true false e = refl
otherwise false false e = absurd cc

so : (allows says : Bool) → (if says then allows else not allows) ≡ true → allows ≡ says
so allows true e = e
so true false e = absurd cc
so false false e = refl

-- no search is made for a rule that says the other thing
pub not_said : (says : Bool) (shapes : List Shape) (rules : List Rule) (number given : ℕ) → is_said rules number says ≡ false
    → IsSaidBy says shapes rules number given 0 outcome.Never
not_said says shapes rules number given other =
    subst (λ (b : Bool). IsSoughtIf b shapes rules number given 0 outcome.Never) (sym other) (refl, refl)

-- one is made for a rule that says so
pub said_by : (says : Bool) (shapes : List Shape) (rules : List Rule) (number given count : ℕ) (found : Outcome) → is_said rules number says ≡ true
    → IsSought shapes rules number given count found → count ≤ given → IsSaidBy says shapes rules number given count found
said_by says shapes rules number given count found is made few =
    subst (λ (b : Bool). IsSoughtIf b shapes rules number given count found) (sym is) (made, few)

sought_found : (shapes : List Shape) (rules : List Rule) (number given count : ℕ) (found : Outcome) → IsSought shapes rules number given count found
    → IsFound shapes rules number found
sought_found shapes rules number given count found (inl made) = is_found shapes rules number given count found made
sought_found shapes rules number given count found (inr spared) =
    subst (λ (o : Outcome). IsFound shapes rules number o) (sym spared.never) (no_rule shapes rules number spared.no_rule)

-- so, of its asks of the shapes, none is decided so where it finds none
never_said : (says : Bool) (shapes : List Shape) (rules : List Rule) (number given count : ℕ) → IsSaidBy says shapes rules number given count outcome.Never
    → (ask : Ask) → LiesInOne shapes ask → first rules ask ≡ Some number → allows rules ask ≡ not says
never_said says shapes rules number given count told ask lies is = by (is_said rules number says) refl told
  where
    by : (b : Bool) → is_said rules number says ≡ b → IsSoughtIf b shapes rules number given count outcome.Never → allows rules ask ≡ not says
    by true e made = absurd (sought_found shapes rules number given count outcome.Never made.0 ask lies is)
    by false e none = says_first rules ask number is ∙ otherwise (allows_at rules number) says e

-- one that it finds is
one_said : (says : Bool) (shapes : List Shape) (rules : List Rule) (number given count : ℕ) (ask : Ask)
    → IsSaidBy says shapes rules number given count (outcome.Decides ask) → LiesInOne shapes ask × (allows rules ask ≡ says)
one_said says shapes rules number given count ask told = by (is_said rules number says) refl told
  where
    by : (b : Bool) → is_said rules number says ≡ b → IsSoughtIf b shapes rules number given count (outcome.Decides ask)
        → LiesInOne shapes ask × (allows rules ask ≡ says)
    by true e made =
        let firstly = sought_found shapes rules number given count (outcome.Decides ask) made.0 in
        (firstly.0, says_first rules ask number firstly.1 ∙ so (allows_at rules number) says e)
    by false e none =
        let never : outcome.Decides ask ≡ outcome.Never = none.1 in
        absurd cc

-- it makes no more steps than it is given
few_said : (says : Bool) (shapes : List Shape) (rules : List Rule) (number given count : ℕ) (found : Outcome)
    → IsSaidBy says shapes rules number given count found → count ≤ given
few_said says shapes rules number given count found told = by (is_said rules number says) told
  where
    by : (b : Bool) → IsSoughtIf b shapes rules number given count found → count ≤ given
    by true made = made.1
    by false none =
        let zero = none.0 in
        omega (arith, zero)

-- and all of them where nothing is known
all_used : (shapes : List Shape) (rules : List Rule) (number given count : ℕ) → IsSought shapes rules number given count outcome.Unknown → count ≡ given
all_used shapes rules number given count (inl made) = made.ended.0
all_used shapes rules number given count (inr spared) =
    let never : outcome.Unknown ≡ outcome.Never = spared.never in
    absurd cc

all_said : (says : Bool) (shapes : List Shape) (rules : List Rule) (number given count : ℕ)
    → IsSaidBy says shapes rules number given count outcome.Unknown → count ≡ given
all_said says shapes rules number given count told = by (is_said rules number says) told
  where
    by : (b : Bool) → IsSoughtIf b shapes rules number given count outcome.Unknown → count ≡ given
    by true made = all_used shapes rules number given count made.0
    by false none =
        let never : outcome.Unknown ≡ outcome.Never = none.1 in
        absurd cc

-- ---- the first so many rules

-- they decide no ask of the shapes so
abbrev pub SayNone : Bool → List Shape → List Rule → ℕ → Type 0
SayNone says shapes rules count =
    (ask : Ask) (number : ℕ) → LiesInOne shapes ask → first rules ask ≡ Some number → number ≤ count → allows rules ask ≡ not says

pub say_none : (says : Bool) (shapes : List Shape) (rules : List Rule) → SayNone says shapes rules 0
say_none says shapes rules ask number lies is few =
    let counted = ((first_iff rules ask number).0 is).numbered.counted in
    absurd (omega (arith, counted, few))

say_none_more : (says : Bool) (shapes : List Shape) (rules : List Rule) (number given count : ℕ) → SayNone says shapes rules number
    → IsSaidBy says shapes rules (number + 1) given count outcome.Never → SayNone says shapes rules (number + 1)
say_none_more says shapes rules number given count so_far told ask other lies is few =
    elim (cases_order other (number + 1)) [
      | inl same ↦ never_said says shapes rules (number + 1) given count told ask lies (subst (λ (n : ℕ). first rules ask ≡ Some n) same is)
      | inr apart ↦ elim apart [
        | inl below ↦ so_far ask other lies is (omega (arith, below))
        | inr above ↦ absurd (omega (arith, few, above))
      ]
    ]

-- and the searches for an ask that one of them decides have so many steps
pub record AreNone (says : Bool) (shapes : List Shape) (rules : List Rule) (given number used : ℕ) : Type 0 where
  pub none : SayNone says shapes rules number
  pub vain : AreVain says shapes rules given number used
  pub most : used ≤ given

pub are_none : (says : Bool) (shapes : List Shape) (rules : List Rule) (given : ℕ) → AreNone says shapes rules given 0 0
are_none says shapes rules given = record { none = say_none says shapes rules; vain = refl; most = omega arith }

-- one more that finds none
pub one_more : (says : Bool) (shapes : List Shape) (rules : List Rule) (given number used here : ℕ) (found : Outcome) → is_never found ≡ true
    → IsSaidBy says shapes rules (number + 1) (given - used) here found → AreNone says shapes rules given number used
    → AreNone says shapes rules given (number + 1) (used + here)
one_more says shapes rules given number used here outcome.Never is told so_far =
    let few = few_said says shapes rules (number + 1) (given - used) here outcome.Never told in
    let most = so_far.most in
    record {
      none = say_none_more says shapes rules number (given - used) here so_far.none told;
      vain = subst (λ (n : ℕ). AreVain says shapes rules given n (used + here)) (sym (add-one number)) (used, here, so_far.vain, told, refl);
      most = omega (arith, few, most);
    }
one_more says shapes rules given number used here (outcome.Decides ask) is told so_far = absurd cc
one_more says shapes rules given number used here outcome.Unknown is told so_far = absurd cc

-- ---- the default

matches_default : (ask : Ask) → matches default_rule ask ≡ true
unfolding matches
matches_default ask = refl

last_denies : (b : Bool) → (if b then false else false) ≡ false
last_denies true = refl
last_denies false = refl

decided_with : (rules : List Rule) (ask : Ask) → decided (rules ++ default_rule ∷ []) false ask ≡ decided rules false ask
decided_with [] ask = last_denies (matches default_rule ask)
decided_with (rule ∷ rules) ask = ap (λ (b : Bool). if matches rule ask then rule.allow else b) (decided_with rules ask)

-- behind the rules it changes nothing
searched_allows : (rules : List Rule) (ask : Ask) → allows (searched_rules rules) ask ≡ allows rules ask
searched_allows rules ask =
    sym (decided_allows (searched_rules rules) ask)
    ∙ (decided_with (all_tidied rules) ask ∙ (decided_allows (all_tidied rules) ask ∙ tidied_allows rules ask))

last_there : (rules : List Rule) (rule : Rule) → slice_get (rules ++ rule ∷ []) (length rules) ≡ Some rule
last_there [] rule = refl
last_there (one ∷ rules) rule = last_there rules rule

-- so each ask has a first rule
some_number : (rules : List Rule) (ask : Ask) → (number : ℕ) × (first (searched_rules rules) ask ≡ Some number) × (number ≤ length rules + 1)
some_number rules ask =
    let tidy = all_tidied rules in
    let all = searched_rules rules in
    let count : length tidy ≡ length rules = length-map rules tidied in
    let back : length tidy + 1 - 1 ≡ length tidy = omega arith in
    let has : HasNumber all (length tidy + 1) default_rule = record {
      counted = omega arith;
      there = ap (slice_get all) back ∙ last_there tidy default_rule;
    } in
    let found = some_first all ask (length tidy + 1) default_rule has ((matches_iff default_rule ask).0 (matches_default ask)) in
    let deciding = (first_iff all ask found.0).0 found.1 in
    let counted = deciding.numbered.counted in
    let within = slice_get_within all (found.0 - 1) deciding.rule deciding.numbered.there in
    let same : length all ≡ length tidy + 1 = length-append tidy (default_rule ∷ []) in
    (found.0, found.1, omega (arith, counted, within, same, count))

-- ---- the whole policy

pub none_decided : (says : Bool) (shapes : List Shape) (rules searched : List Rule) (given number used : ℕ) → searched ≡ searched_rules rules
    → number ≡ length rules + 1 → AreNone says shapes searched given number used → IsDecision says shapes rules given used outcome.Never
none_decided says shapes rules searched given number used is all none = record {
  right = λ ask lies.
      let by = some_number rules ask in
      let few = by.2 in
      let firstly : first searched ask ≡ Some by.0 = ap (λ (rs : List Rule). first rs ask) is ∙ by.1 in
      sym (searched_allows rules ask)
      ∙ (ap (λ (rs : List Rule). allows rs ask) (sym is) ∙ none.none ask by.0 lies firstly (omega (arith, few, all)));
  made =
      let count : length (searched_rules rules) ≡ length rules + 1 =
      length-append (all_tidied rules) (default_rule ∷ []) ∙ ap (λ (n : ℕ). n + 1) (length-map rules tidied) in
      subst (λ (n : ℕ). AreVain says shapes (searched_rules rules) given n used) (all ∙ sym count)
      (subst (λ (rs : List Rule). AreVain says shapes rs given number used) is none.vain);
  most = none.most;
  all = λ never. absurd cc;
}

pub one_decided : (says : Bool) (shapes : List Shape) (rules searched : List Rule) (given number used here : ℕ) (found : Outcome)
    → searched ≡ searched_rules rules → IsSaidBy says shapes searched (number + 1) (given - used) here found → is_never found ≡ false
    → AreNone says shapes searched given number used → IsDecision says shapes rules given (used + here) found
one_decided says shapes rules searched given number used here outcome.Never same told some none = absurd cc
one_decided says shapes rules searched given number used here (outcome.Decides ask) same told some none =
    let few = few_said says shapes searched (number + 1) (given - used) here (outcome.Decides ask) told in
    let most = none.most in
    let is = one_said says shapes searched (number + 1) (given - used) here ask told in
    record {
      right = (is.0, sym (searched_allows rules ask) ∙ (ap (λ (rs : List Rule). allows rs ask) (sym same) ∙ is.1));
      made = (
        number,
        used,
        here,
        subst (λ (rs : List Rule). AreVain says shapes rs given number used) same none.vain,
        subst (λ (rs : List Rule). IsSaidBy says shapes rs (number + 1) (given - used) here (outcome.Decides ask)) same told,
        refl,
      );
      most = omega (arith, few, most);
      all = λ unknown. absurd cc;
    }
one_decided says shapes rules searched given number used here outcome.Unknown same told some none =
    let few = few_said says shapes searched (number + 1) (given - used) here outcome.Unknown told in
    let most = none.most in
    let full = all_said says shapes searched (number + 1) (given - used) here told in
    record {
      right = tt;
      made = (
        number,
        used,
        here,
        subst (λ (rs : List Rule). AreVain says shapes rs given number used) same none.vain,
        subst (λ (rs : List Rule). IsSaidBy says shapes rs (number + 1) (given - used) here outcome.Unknown) same told,
        refl,
      );
      most = omega (arith, few, most);
      all = λ unknown. omega (arith, full, most);
    }

-- ---- one of several searches

-- it is given no more than is left
pub given_left : (most left count : ℕ) → count ≤ lesser most left → count ≤ left
given_left most left count few = by (nat_lt left most) refl few
  where
    by : (c : Bool) → nat_lt left most ≡ c → count ≤ cond c left most → count ≤ left
    by true e few = few
    by false e few =
        let over = ltb-false left most e in
        omega (arith, over, few)

pub one_passage : (shapes : List Shape) (rules : List Rule) (left count : ℕ) (found : Outcome) → IsDecision true shapes rules (steps_given left) count found
    → IsPassage shapes rules left (left - count) found
one_passage shapes rules left count found is =
    let few = given_left 1024 left count is.most in
    (count, is, omega (arith, few))

pub only_used_up_is_unknown : OnlyUsedUpIsUnknown
only_used_up_is_unknown shapes rules left rest is = by (nat_lt left 1024) (is.1.all refl)
  where
    by : (c : Bool) → is.0 ≡ cond c left 1024 → (left ≡ rest + 1024) ⊎ (rest ≡ 0)
    by true all =
        let counted = is.2 in
        inr (omega (arith, all, counted))
    by false all =
        let counted = is.2 in
        inl (omega (arith, all, counted))
