-- What is left out of rules that are suggested.
use Rattle.std.proofs.Common.{◌≡◌, ◌∙◌, sym, ap, refl, subst, ℕ, suc, zero, Bool, true, false, ◌&&◌, ◌||◌, List, [], ◌∷◌, ◌++◌, Some, None, nat_le, length, arith, ◌+◌, ◌-◌, ◌<◌}
use Rattle.std.specs.Prelude.{if◌then◌else◌, is_some, slice_get, slice_index_or}
use Rattle.std.specs.List.{AllByRecursion, list_all, list_any, remove}
use Rattle.std.proofs.lemmas.Bool.{and_parts, and_from, leb-true}
use Rattle.std.proofs.lemmas.List.Folds.{list_all-append, list_any-append}
use Rattle.std.proofs.lemmas.Option.{slice_get_read}
use Rattle.gw_ask_sets.specs.assertions.Judging.{AreEachJudged, AreJudged, IsJudged}
use Rattle.gw_ask_sets.specs.declared.assertions.judging.Judged.{Judged}
use Rattle.gw_ask_sets.specs.declared.assertions.judging.Judged.TheVariants.{Holds, Broken, Empty, Unknown}
use Rattle.gw_configuration.specs.Configuration.{Configuration}
use Rattle.gw_configuration.specs.declared.assertion.Assertion.{Assertion}
use Rattle.gw_rules.specs.Ask.{Ask}
use Rattle.gw_rules.specs.Rule.{matches}
use Rattle.gw_rules.specs.declared.rule.Rule.{Rule}
use Rattle.gw_policy_drafts.specs.suggestion.Laws.{LeavesNoneOut}
use Rattle.gw_policy_drafts.specs.suggestion.Suggestion.{BreaksNone, Breaks, HasInFront, IsBreaking, IsFound, IsLeftOut, StaysSuggested, broken_by, left_of, matched}
use Rattle.gw_policy_drafts.specs.suggestion.Text.{rules_of}
use Rattle.gw_policy_drafts.specs.declared.suggestion.leaving.Breaking.{Breaking}
use Rattle.gw_policy_drafts.specs.declared.suggestion.leaving.LeftOut.{LeftOut}

some_is : {A : Type 0} (x y : A) → Some x ≡ Some y → x ≡ y
some_is x y e = cc

-- ---- what is judged of an assertion at a place

record IsJudgedAt (c : Configuration) (steps : ℕ) (assertions : List Assertion) (place : ℕ) (one : Judged) : Type 0 where
  assertion : Assertion
  named : slice_get assertions place ≡ Some assertion
  is : IsJudged c steps assertion one

judged_at : (c : Configuration) (steps : ℕ) (assertions : List Assertion) (judged : List Judged) (place : ℕ) (one : Judged)
    → AreEachJudged c steps assertions judged → slice_get judged place ≡ Some one → IsJudgedAt c steps assertions place one
judged_at c steps [] [] place one are e = absurd cc
judged_at c steps [] (j ∷ judged) place one are e = absurd are
judged_at c steps (a ∷ assertions) [] place one are e = absurd cc
judged_at c steps (a ∷ assertions) (j ∷ judged) zero one are e = record {
  assertion = a;
  named = refl;
  is = subst (IsJudged c steps a) (some_is j one e) are.0;
}
judged_at c steps (a ∷ assertions) (j ∷ judged) (suc place) one are e =
    let later = judged_at c steps assertions judged place one are.1 e in
    record { assertion = later.assertion; named = later.named; is = later.is }

record IsBy (one : Judged) (rule count : ℕ) : Type 0 where
  within : rule < count
  ask : Ask
  is_allowed : Bool
  is : one ≡ Broken ask (Some (rule + 1)) is_allowed

is_by : (one : Judged) (rule count : ℕ) → broken_by count one ≡ Some rule → IsBy one rule count
is_by Holds rule count e = absurd cc
is_by Empty rule count e = absurd cc
is_by Unknown rule count e = absurd cc
is_by (Broken ask None allowed) rule count e = absurd cc
is_by (Broken ask (Some n) allowed) rule count e = by (nat_le 1 n) (nat_le n count) refl refl e
  where
    by : (a b : Bool) → nat_le 1 n ≡ a → nat_le n count ≡ b → (if a && b then Some (n - 1) else None) ≡ Some rule → IsBy (Broken ask (Some n) allowed) rule count
    by true true p q f =
        let is : n - 1 ≡ rule = some_is (n - 1) rule f in
        let least = leb-true 1 n p in
        let most = leb-true n count q in
        let number : n ≡ rule + 1 = omega (arith, is, least) in
        record {
          within = omega (arith, number, most);
          ask = ask;
          is_allowed = allowed;
          is = ap (λ (m : ℕ). Broken ask (Some m) allowed) number;
        }
    by true false p q f = absurd cc
    by false b p q f = absurd cc

pub found_breaks : (c : Configuration) (judged : List Judged) (count : ℕ) (found : Breaking) → AreJudged c 4096 judged
    → IsFound judged count found → IsBreaking c count found
found_breaks c judged count found are is =
    let at = judged_at c 4096 c.assertions judged found.assertion is.one are is.is in
    let by = is_by is.one found.rule count is.by in
    record {
      within = by.within;
      assertion = at.assertion;
      named = at.named;
      ask = by.ask;
      is_allowed = by.is_allowed;
      broken = subst (IsJudged c 4096 at.assertion) by.is at.is;
    }

pub none_breaks : (c : Configuration) (count : ℕ) (judged : List Judged) → AreJudged c 4096 judged
    → list_any (λ one. is_some (broken_by count one)) judged ≡ false → BreaksNone c count
none_breaks c count judged are none = record { judged = judged; are_judged = are; none = none }

-- ---- one rule less, and one left out more

any_moved : (test : Rule → Bool) (kept : List Rule) (place : ℕ) (rule : Rule) (left : List Rule) → slice_get kept place ≡ Some rule
    → list_any test (remove kept place ++ (left ++ rule ∷ [])) ≡ list_any test (kept ++ left)
any_moved test [] place rule left e = absurd cc
any_moved test (r ∷ kept) zero rule left e =
    let is : r ≡ rule = some_is r rule e in
    list_any-append test kept (left ++ rule ∷ [])
    ∙ ap (λ (b : Bool). list_any test kept || b) (list_any-append test left (rule ∷ []))
    ∙ turned (list_any test kept) (list_any test left) (test rule)
    ∙ ap (λ (b : Bool). test rule || b) (sym (list_any-append test kept left))
    ∙ ap (λ (x : Rule). test x || list_any test (kept ++ left)) (sym is)
  where
    turned : (a b t : Bool) → (a || (b || (t || false))) ≡ (t || (a || b))
    turned true b true = refl
    turned true b false = refl
    turned false true true = refl
    turned false true false = refl
    turned false false true = refl
    turned false false false = refl
any_moved test (r ∷ kept) (suc place) rule left e = ap (λ (b : Bool). test r || b) (any_moved test kept place rule left e)

all_moved : (test : Rule → Bool) (kept : List Rule) (place : ℕ) (rule : Rule) (left : List Rule) → slice_get kept place ≡ Some rule
    → list_all test (kept ++ left) ≡ true → list_all test (remove kept place ++ (left ++ rule ∷ [])) ≡ true
all_moved test [] place rule left e all = absurd cc
all_moved test (r ∷ kept) zero rule left e all =
    let is : r ≡ rule = some_is r rule e in
    let parts = and_parts (test r) (list_all test (kept ++ left)) all in
    let both = and_parts (list_all test kept) (list_all test left) (sym (list_all-append test kept left) ∙ parts.1) in
    list_all-append test kept (left ++ rule ∷ [])
    ∙ and_from (list_all test kept) (list_all test (left ++ rule ∷ [])) both.0
    (list_all-append test left (rule ∷ [])
    ∙ and_from (list_all test left) (list_all test (rule ∷ [])) both.1
    (and_from (test rule) true (ap test (sym is) ∙ parts.0) refl))
all_moved test (r ∷ kept) (suc place) rule left e all =
    let parts = and_parts (test r) (list_all test (kept ++ left)) all in
    and_from (test r) (list_all test (remove kept place ++ (left ++ rule ∷ []))) parts.0 (all_moved test kept place rule left e parts.1)

rules_grown : (left : List LeftOut) (one : LeftOut) → rules_of (left ++ one ∷ []) ≡ rules_of left ++ one.rule ∷ []
rules_grown [] one = refl
rules_grown (l ∷ left) one = ap (λ (rs : List Rule). l.rule ∷ rs) (rules_grown left one)

stays : (kept kept_then : List Rule) (left left_then : List LeftOut) (found : Breaking) → kept_then ≡ remove kept found.rule
    → IsLeftOut kept left found left_then → StaysSuggested kept left kept_then left_then
stays kept kept_then left left_then found less out keeps asks is =
    let one = left_of out.rule found in
    let grown : rules_of left_then ≡ rules_of left ++ out.rule ∷ [] = ap rules_of out.grown ∙ rules_grown left one in
    let whole : kept_then ++ rules_of left_then ≡ remove kept found.rule ++ (rules_of left ++ out.rule ∷ []) =
    ap (λ (rs : List Rule). rs ++ rules_of left_then) less ∙ ap (λ (rs : List Rule). remove kept found.rule ++ rs) grown in
    record {
      exact = λ ask.
          ap (λ (rs : List Rule). matched rs ask) whole
          ∙ any_moved (λ rule. matches rule ask) kept found.rule out.rule (rules_of left) out.is
          ∙ is.exact ask;
      allow = ap (list_all (λ (rule : Rule). rule.allow)) whole
          ∙ all_moved (λ (rule : Rule). rule.allow) kept found.rule out.rule (rules_of left) out.is is.allow;
    }

-- the rule that is taken from its place is left out
pub left_out : (kept : List Rule) (before after : List LeftOut) (found : Breaking) (rule : Rule) → found.rule < length kept
    → rule ≡ slice_index_or kept found.rule rule → after ≡ before ++ left_of rule found ∷ [] → IsLeftOut kept before found after
left_out kept before after found rule within taken grown = record {
  rule = rule;
  is = slice_get_read kept (length kept) found.rule rule refl within taken;
  grown = grown;
}

pub stays_out : (kept kept_then : List Rule) (before after : List LeftOut) (found : Breaking) (rule : Rule) → found.rule < length kept
    → rule ≡ slice_index_or kept found.rule rule → kept_then ≡ remove kept found.rule → after ≡ before ++ left_of rule found ∷ []
    → StaysSuggested kept before kept_then after
stays_out kept kept_then before after found rule within taken less grown =
    stays kept kept_then before after found less (left_out kept before after found rule within taken grown)

-- ---- what is so of each that is left out

all_pushed : {A : Type 0} (P : A → Type 0) (xs : List A) (x : A) → AllByRecursion P xs → P x → AllByRecursion P (xs ++ x ∷ [])
all_pushed P [] x all here = (here, tt)
all_pushed P (y ∷ xs) x all here = (all.0, all_pushed P xs x all.1 here)

pub breaks_more : (old c : Configuration) (kept : List Rule) (left left_then : List LeftOut) (found : Breaking) → HasInFront old kept c
    → IsBreaking c (length kept) found → IsLeftOut kept left found left_then → AllByRecursion (Breaks old) left → AllByRecursion (Breaks old) left_then
breaks_more old c kept left left_then found has is out all =
    let one = left_of out.rule found in
    subst (AllByRecursion (Breaks old)) (sym out.grown)
    (all_pushed (Breaks old) left one all (record {
      tried = kept;
      configured = c;
      in_front = has;
      place = found.rule;
      rule = out.is;
      breaking = is;
    }))

-- ---- without assertions

pub leaves_none_out : LeavesNoneOut
leaves_none_out old text manner asks added is none = by is.left is.breaking
  where
    by : (left : List LeftOut) → AllByRecursion (Breaks old) left → left ≡ []
    by [] all = refl
    by (l ∷ left) all =
        let one = all.0 in
        let same : slice_get one.configured.assertions l.assertion ≡ slice_get [] l.assertion =
        ap (λ (assertions : List Assertion). slice_get assertions l.assertion) (one.in_front.assertions ∙ none) in
        let there : slice_get [] l.assertion ≡ Some one.breaking.assertion = sym same ∙ one.breaking.named in
        absurd cc
