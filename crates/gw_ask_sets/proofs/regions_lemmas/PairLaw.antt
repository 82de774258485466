-- Which pair of rules decides an ask, and what a search for an ask of a pair shows.
use Rattle.std.proofs.Common.{◌≡◌, ◌∙◌, ◌⊎◌, sym, ap, refl, subst, ℕ, zero, suc, ◌+◌, ◌≤◌, ◌<◌, add-one, arith, get_or, Bool, true, false, ◌&&◌, ◌||◌, ◌==◌, List, [], ◌∷◌, ◌++◌, Option, Some, None, inl, inr, length, take}
use Rattle.std.specs.Prelude.{if◌then◌else◌, not, slice_get}
use Rattle.std.specs.List.{AllByRecursion}
use Rattle.std.specs.Option.{option_map_or}
use Rattle.std.proofs.lemmas.Bool.{and_from, and_parts, both_ways, eq-eqb, eqb-true, or_cases, or_left, or_parts, or_right}
use Rattle.std.proofs.lemmas.List.Folds.{list_any-append}
use Rattle.gw_rules.specs.Ask.{Ask}
use Rattle.gw_rules.specs.Rule.{matches}
use Rattle.gw_rules.specs.RuleList.{allows}
use Rattle.gw_rules.specs.declared.rule.Rule.{Rule}
use Rattle.gw_ask_sets.specs.regions.Comparing.{decider, differs, number_from, unlike}
use Rattle.gw_ask_sets.specs.regions.Deciding.{decided}
use Rattle.gw_ask_sets.specs.regions.Pairs.{Adds, ArePairs, AreSought, AreTried, Findings, IsDecidedBy, IsSearched, IsTried, Places, all_cells, cell, cells, cells_of, findings, is_by, is_given_up, is_pair, is_shown, number_at, pairs_to_try, says_at, steps_given}
use Rattle.gw_ask_sets.specs.regions.Regions.{Region, lies_in_one}
use Rattle.gw_ask_sets.specs.regions.Tidying.{tidied}
use Rattle.gw_ask_sets.specs.regions.Unmatched.{AreAllMatched, EndsWith, IsUnmatched, is_matched}
use Rattle.gw_ask_sets.specs.declared.regions.pairs.Pair.{Pair}
use Rattle.gw_ask_sets.specs.declared.regions.pairs.ShownPair.{ShownPair}
use Rattle.gw_ask_sets.specs.declared.regions.unmatched.Unmatched.{Unmatched}
use Rattle.gw_ask_sets.specs.declared.regions.unmatched.Unmatched.TheVariants as unmatched
use Rattle.gw_ask_sets.proofs.regions_lemmas.AllowsLaw.{decided_allows}
use Rattle.gw_ask_sets.proofs.regions_lemmas.DecidersLaw.{decider_from}
use Rattle.gw_ask_sets.proofs.regions_lemmas.Growing.{grown_any}
use Rattle.gw_ask_sets.proofs.regions_lemmas.RangeLaw.{or_none}
use Rattle.gw_ask_sets.proofs.regions_lemmas.TidyLaw.{tidied_matches_the_same}
use Rattle.gw_ask_sets.proofs.regions_lemmas.UnmatchedLaw.{ended_found, ended_nothing}

-- ---- the place of the rule that decides

abbrev pub place_of : List Rule → Ask → ℕ
place_of [] ask = 0
place_of (rule ∷ rules) ask = if matches rule ask then 0 else suc (place_of rules ask)

there : (rules : List Rule) (ask : Ask) → place_of rules ask ≤ length rules
there [] ask = omega arith
there (rule ∷ rules) ask = by (matches rule ask) (there rules ask)
  where
    by : (b : Bool) → place_of rules ask ≤ length rules → (if b then 0 else suc (place_of rules ask)) ≤ suc (length rules)
    by true later = omega arith
    by false later = omega (arith, later)

none_before : (rules : List Rule) (ask : Ask) → is_matched (take (place_of rules ask) rules) ask ≡ false
none_before [] ask = refl
none_before (rule ∷ rules) ask = by (matches rule ask) refl (none_before rules ask)
  where
    by : (b : Bool) → matches rule ask ≡ b → is_matched (take (place_of rules ask) rules) ask ≡ false
        → is_matched (take (if b then 0 else suc (place_of rules ask)) (rule ∷ rules)) ask ≡ false
    by true e later = refl
    by false e later = ap (λ m. m || is_matched (take (place_of rules ask) rules) ask) e ∙ later

by_it : (rules : List Rule) (ask : Ask) → is_by rules (place_of rules ask) ask ≡ true
by_it [] ask = refl
by_it (rule ∷ rules) ask = by (matches rule ask) refl (by_it rules ask)
  where
    by : (b : Bool) → matches rule ask ≡ b → is_by rules (place_of rules ask) ask ≡ true
        → is_by (rule ∷ rules) (if b then 0 else suc (place_of rules ask)) ask ≡ true
    by true e later = e
    by false e later = later

-- it is the only one that matches, and before which none does
pub is_place : (rules : List Rule) (place : ℕ) (ask : Ask) → place ≤ length rules → is_by rules place ask ≡ true
    → is_matched (take place rules) ask ≡ false → place_of rules ask ≡ place
is_place [] place ask within matching none = omega arith
is_place (rule ∷ rules) zero ask within matching none = ap (λ b. if b then 0 else suc (place_of rules ask)) matching
is_place (rule ∷ rules) (suc place) ask within matching none =
    let parts = or_parts (matches rule ask) (is_matched (take place rules) ask) none in
    ap (λ b. if b then 0 else suc (place_of rules ask)) parts.0
    ∙ ap suc (is_place rules place ask (omega arith) matching parts.1)

number_there : (rules : List Rule) (from : ℕ) (ask : Ask)
    → number_from from rules ask ≡ option_map_or (λ rule. from + place_of rules ask + 1) (slice_get rules (place_of rules ask)) 0
number_there [] from ask = refl
number_there (rule ∷ rules) from ask = by (matches rule ask) (number_there rules (from + 1) ask)
  where
    moved : (o : Option Rule) (k : ℕ) → option_map_or (λ r. from + 1 + k + 1) o 0 ≡ option_map_or (λ r. from + suc k + 1) o 0
    moved None k = refl
    moved (Some r) k = omega arith

    by : (b : Bool) → number_from (from + 1) rules ask ≡ option_map_or (λ r. from + 1 + place_of rules ask + 1) (slice_get rules (place_of rules ask)) 0
        → (if b then from + 1 else number_from (from + 1) rules ask)
        ≡ option_map_or (λ r. from + (if b then 0 else suc (place_of rules ask)) + 1) (slice_get (rule ∷ rules) (if b then 0 else suc (place_of rules ask))) 0
    by true later = omega arith
    by false later = later ∙ moved (slice_get rules (place_of rules ask)) (place_of rules ask)

pub decider_there : (rules : List Rule) (ask : Ask) → decider rules ask ≡ number_at rules (place_of rules ask)
decider_there rules ask = decider_from rules ask ∙ number_there rules 0 ask ∙ by (slice_get rules (place_of rules ask)) (place_of rules ask)
  where
    by : (o : Option Rule) (k : ℕ) → option_map_or (λ r. 0 + k + 1) o 0 ≡ option_map_or (λ r. k + 1) o 0
    by None k = refl
    by (Some r) k = omega arith

said_there : (rules : List Rule) (ask : Ask) → decided rules false ask ≡ says_at rules (place_of rules ask)
said_there [] ask = refl
said_there (rule ∷ rules) ask = by (matches rule ask) (said_there rules ask)
  where
    by : (b : Bool) → decided rules false ask ≡ says_at rules (place_of rules ask)
        → (if b then rule.allow else decided rules false ask) ≡ says_at (rule ∷ rules) (if b then 0 else suc (place_of rules ask))
    by true later = refl
    by false later = later

pub allows_there : (rules : List Rule) (ask : Ask) → allows rules ask ≡ says_at rules (place_of rules ask)
allows_there rules ask = sym (decided_allows rules ask) ∙ said_there rules ask

-- two places with one number are one
same_place : (rules : List Rule) (a b : ℕ) → a ≤ length rules → b ≤ length rules → number_at rules a ≡ number_at rules b → a ≡ b
same_place [] a b one two e = omega arith
same_place (rule ∷ rules) zero zero one two e = refl
same_place (rule ∷ rules) zero (suc b) one two e = absurd (by (slice_get rules b) e)
  where
    by : (o : Option Rule) → 0 + 1 ≡ option_map_or (λ r. suc b + 1) o 0 → ⊥
    by None f = omega arith
    by (Some r) f = omega arith
same_place (rule ∷ rules) (suc a) zero one two e = absurd (by (slice_get rules a) e)
  where
    by : (o : Option Rule) → option_map_or (λ r. suc a + 1) o 0 ≡ 0 + 1 → ⊥
    by None f = omega arith
    by (Some r) f = omega arith
same_place (rule ∷ rules) (suc a) (suc b) one two e = ap suc (same_place rules a b (omega arith) (omega arith) (by (slice_get rules a) (slice_get rules b) e))
  where
    by : (o p : Option Rule) → option_map_or (λ r. suc a + 1) o 0 ≡ option_map_or (λ r. suc b + 1) p 0
        → option_map_or (λ r. a + 1) o 0 ≡ option_map_or (λ r. b + 1) p 0
    by None None f = refl
    by None (Some r) f = omega arith
    by (Some r) None f = omega arith
    by (Some r) (Some s) f = omega arith

-- rules of one number say the same
pub same_verdict : (rules : List Rule) (a b : Ask) → decider rules a ≡ decider rules b → allows rules a ≡ allows rules b
same_verdict rules a b e =
    allows_there rules a
    ∙ ap (says_at rules) (same_place rules (place_of rules a) (place_of rules b) (there rules a) (there rules b)
    (sym (decider_there rules a) ∙ e ∙ decider_there rules b))
    ∙ sym (allows_there rules b)

-- ---- one pair

otherwise_law : (a b says : Bool) → a ≡ not says → b ≡ says → unlike a b ≡ true
otherwise_law true true says e f = absurd (by says e f)
  where
    by : (s : Bool) → true ≡ not s → true ≡ s → ⊥
    by true e f = both_ways true e refl
    by false e f = both_ways true f refl
otherwise_law true false says e f = refl
otherwise_law false true says e f = refl
otherwise_law false false says e f = absurd (by says e f)
  where
    by : (s : Bool) → false ≡ not s → false ≡ s → ⊥
    by true e f = both_ways false refl f
    by false e f = both_ways false refl e

-- an ask that is found is decided by the two
is_of_pair : (shapes : List Region) (old new : List Rule) (at : Places) (before after : Findings) (ask : Ask)
    → (is : IsTried shapes old new at before after) → IsUnmatched is.regions is.rules ask
    → IsDecidedBy shapes old new (record { pair = is.pair; ask = ask })
is_of_pair shapes old new at before after ask is found =
    let lies = and_parts (lies_in_one shapes ask && is_by old at.0 ask) (is_by new at.1 ask) (sym (is.matched ask) ∙ found.0) in
    let both = and_parts (lies_in_one shapes ask) (is_by old at.0 ask) lies.0 in
    let none = or_parts (is_matched (take at.0 old) ask) (is_matched (take at.1 new) ask) (sym (is.in_front ask) ∙ found.1) in
    let one = is_place old at.0 ask is.old_one both.1 none.0 in
    let two = is_place new at.1 ask is.new_one lies.1 none.1 in
    record {
      in_shape = both.0;
      old_rule = decider_there old ask ∙ ap (number_at old) one ∙ sym (ap (λ (p : Pair). p.old) is.is);
      new_rule = decider_there new ask ∙ ap (number_at new) two ∙ sym (ap (λ (p : Pair). p.new) is.is);
      by_old = allows_there old ask ∙ ap (says_at old) one ∙ is.otherwise ∙ sym (ap (λ (p : Pair). not p.allows) is.is);
      by_new = allows_there new ask ∙ ap (says_at new) two ∙ sym (ap (λ (p : Pair). p.allows) is.is);
    }

-- an ask that the two decide is in question
in_question : (shapes : List Region) (old new : List Rule) (at : Places) (before after : Findings) (ask : Ask)
    → (is : IsTried shapes old new at before after) → lies_in_one shapes ask ≡ true → place_of old ask ≡ at.0 → place_of new ask ≡ at.1
    → AreAllMatched is.regions is.rules → ⊥
in_question shapes old new at before after ask is in_shape one two all =
    let by_old : is_by old at.0 ask ≡ true = ap (λ n. is_by old n ask) (sym one) ∙ by_it old ask in
    let by_new : is_by new at.1 ask ≡ true = ap (λ n. is_by new n ask) (sym two) ∙ by_it new ask in
    let lies : lies_in_one is.regions ask ≡ true = is.matched ask
    ∙ and_from (lies_in_one shapes ask && is_by old at.0 ask) (is_by new at.1 ask)
    (and_from (lies_in_one shapes ask) (is_by old at.0 ask) in_shape by_old) by_new in
    let none_old : is_matched (take at.0 old) ask ≡ false = ap (λ n. is_matched (take n old) ask) (sym one) ∙ none_before old ask in
    let none_new : is_matched (take at.1 new) ask ≡ false = ap (λ n. is_matched (take n new) ask) (sym two) ∙ none_before new ask in
    both_ways (is_matched is.rules ask)
    (is.in_front ask ∙ ap (λ b. b || is_matched (take at.1 new) ask) none_old ∙ none_new) (all ask lies)

-- ---- what is known grows

record Grows (before after : Findings) : Type 0 where
  found : (i j : ℕ) → is_shown before.found i j ≡ true → is_shown after.found i j ≡ true
  given_up : (i j : ℕ) → is_given_up before.given_up i j ≡ true → is_given_up after.given_up i j ≡ true

shown_in_both : (xs ys : List ShownPair) (i j : ℕ) → is_shown (xs ++ ys) i j ≡ (is_shown xs i j || is_shown ys i j)
shown_in_both xs ys i j = list_any-append (λ shown. is_pair i j shown.pair) xs ys

up_in_both : (xs ys : List Pair) (i j : ℕ) → is_given_up (xs ++ ys) i j ≡ (is_given_up xs i j || is_given_up ys i j)
up_in_both xs ys i j = list_any-append (is_pair i j) xs ys

grows : (pair : Pair) (outcome : Unmatched) (before after : Findings) → Adds pair outcome before after → Grows before after
grows pair (unmatched.Found ask) before after adds = record {
  found = λ i j e. ap (λ (xs : List ShownPair). is_shown xs i j) adds.0
      ∙ shown_in_both before.found (record { pair = pair; ask = ask } ∷ []) i j
      ∙ or_left (is_shown before.found i j) (is_shown (record { pair = pair; ask = ask } ∷ []) i j) e;
  given_up = λ i j e. ap (λ (xs : List Pair). is_given_up xs i j) adds.1 ∙ e;
}
grows pair unmatched.Nothing before after adds = record {
  found = λ i j e. ap (λ (xs : List ShownPair). is_shown xs i j) adds.0 ∙ e;
  given_up = λ i j e. ap (λ (xs : List Pair). is_given_up xs i j) adds.1 ∙ e;
}
grows pair unmatched.Unknown before after adds = record {
  found = λ i j e. ap (λ (xs : List ShownPair). is_shown xs i j) adds.0 ∙ e;
  given_up = λ i j e. ap (λ (xs : List Pair). is_given_up xs i j) adds.1
      ∙ up_in_both before.given_up (pair ∷ []) i j ∙ or_left (is_given_up before.given_up i j) (is_given_up (pair ∷ []) i j) e;
}

all_grow : (shapes : List Region) (old new : List Rule) (pairs : List Places) (before after : Findings) → AreTried shapes old new pairs before after → Grows before after
all_grow shapes old new [] before after same = record {
  found = λ i j e. ap (λ (f : Findings). is_shown f.found i j) same ∙ e;
  given_up = λ i j e. ap (λ (f : Findings). is_given_up f.given_up i j) same ∙ e;
}
all_grow shapes old new (at ∷ more) before after tried =
    let first = grows tried.1.pair tried.1.searched.outcome before tried.0 tried.1.searched.known in
    let rest = all_grow shapes old new more tried.0 after tried.2 in
    record {
      found = λ i j e. rest.found i j (first.found i j e);
      given_up = λ i j e. rest.given_up i j (first.given_up i j e);
    }

-- ---- each pair that was found has an ask

each_more : (P : ShownPair → Type 0) (xs : List ShownPair) (x : ShownPair) → AllByRecursion P xs → P x → AllByRecursion P (xs ++ x ∷ [])
each_more P [] x all p = (p, tt)
each_more P (y ∷ xs) x all p = (all.0, each_more P xs x all.1 p)

one_has : (shapes : List Region) (old new : List Rule) (at : Places) (before after : Findings) → (is : IsTried shapes old new at before after)
    → (outcome : Unmatched) → EndsWith is.rules is.regions (steps_given before.steps) is.searched.count outcome → Adds is.pair outcome before after
    → AllByRecursion (λ shown. IsDecidedBy shapes old new shown) before.found → AllByRecursion (λ shown. IsDecidedBy shapes old new shown) after.found
one_has shapes old new at before after is (unmatched.Found ask) ended adds all =
    subst (λ (xs : List ShownPair). AllByRecursion (λ shown. IsDecidedBy shapes old new shown) xs) (sym adds.0)
    (each_more (λ shown. IsDecidedBy shapes old new shown) before.found (record { pair = is.pair; ask = ask }) all
    (is_of_pair shapes old new at before after ask is (ended_found is.rules is.regions is.searched.count ask ended)))
one_has shapes old new at before after is unmatched.Nothing ended adds all =
    subst (λ (xs : List ShownPair). AllByRecursion (λ shown. IsDecidedBy shapes old new shown) xs) (sym adds.0) all
one_has shapes old new at before after is unmatched.Unknown ended adds all =
    subst (λ (xs : List ShownPair). AllByRecursion (λ shown. IsDecidedBy shapes old new shown) xs) (sym adds.0) all

each_has : (shapes : List Region) (old new : List Rule) (pairs : List Places) (before after : Findings) → AreTried shapes old new pairs before after
    → AllByRecursion (λ shown. IsDecidedBy shapes old new shown) before.found → AllByRecursion (λ shown. IsDecidedBy shapes old new shown) after.found
each_has shapes old new [] before after same all =
    subst (λ (f : Findings). AllByRecursion (λ shown. IsDecidedBy shapes old new shown) f.found) (sym same) all
each_has shapes old new (at ∷ more) before after tried all =
    each_has shapes old new more tried.0 after tried.2
    (one_has shapes old new at before tried.0 tried.1 tried.1.searched.outcome tried.1.searched.ended tried.1.searched.known all)

-- ---- a pair that is tried, and decides an ask otherwise, is found or given up

abbrev IsIn : Places → List Places → Type 0
IsIn at [] = ⊥
IsIn at (one ∷ more) = (at ≡ one) ⊎ IsIn at more

in_left : (at : Places) (xs ys : List Places) → IsIn at xs → IsIn at (xs ++ ys)
in_left at [] ys none = absurd none
in_left at (x ∷ xs) ys (inl e) = inl e
in_left at (x ∷ xs) ys (inr later) = inr (in_left at xs ys later)

in_right : (at : Places) (xs ys : List Places) → IsIn at ys → IsIn at (xs ++ ys)
in_right at [] ys is = is
in_right at (x ∷ xs) ys is = inr (in_right at xs ys is)

pair_itself : (pair : Pair) → is_pair pair.old pair.new pair ≡ true
pair_itself pair =
    and_from (pair.old == pair.old) (pair.new == pair.new) (eq-eqb pair.old pair.old refl) (eq-eqb pair.new pair.new refl)

last_shown : (xs : List ShownPair) (shown : ShownPair) → is_shown (xs ++ shown ∷ []) shown.pair.old shown.pair.new ≡ true
last_shown xs shown =
    let i = shown.pair.old in
    let j = shown.pair.new in
    shown_in_both xs (shown ∷ []) i j ∙ or_right (is_shown xs i j) (is_pair i j shown.pair || false) (or_left (is_pair i j shown.pair) false (pair_itself shown.pair))

last_up : (xs : List Pair) (pair : Pair) → is_given_up (xs ++ pair ∷ []) pair.old pair.new ≡ true
last_up xs pair =
    let i = pair.old in
    let j = pair.new in
    up_in_both xs (pair ∷ []) i j ∙ or_right (is_given_up xs i j) (is_pair i j pair || false) (or_left (is_pair i j pair) false (pair_itself pair))

abbrev Known : Findings → ℕ → ℕ → Type 0
Known f i j = (is_shown f.found i j ≡ true) ⊎ (is_given_up f.given_up i j ≡ true)

one_known : (shapes : List Region) (old new : List Rule) (at : Places) (before after : Findings) (ask : Ask)
    → (is : IsTried shapes old new at before after) → lies_in_one shapes ask ≡ true → place_of old ask ≡ at.0 → place_of new ask ≡ at.1
    → (outcome : Unmatched) → EndsWith is.rules is.regions (steps_given before.steps) is.searched.count outcome → Adds is.pair outcome before after
    → Known after is.pair.old is.pair.new
one_known shapes old new at before after ask is in_shape one two (unmatched.Found found) ended adds =
    inl (ap (λ (xs : List ShownPair). is_shown xs is.pair.old is.pair.new) adds.0 ∙ last_shown before.found (record { pair = is.pair; ask = found }))
one_known shapes old new at before after ask is in_shape one two unmatched.Nothing ended adds =
    absurd (in_question shapes old new at before after ask is in_shape one two (ended_nothing is.rules is.regions is.searched.count ended))
one_known shapes old new at before after ask is in_shape one two unmatched.Unknown ended adds =
    inr (ap (λ (xs : List Pair). is_given_up xs is.pair.old is.pair.new) adds.1 ∙ last_up before.given_up is.pair)

grown_known : (before after : Findings) (i j : ℕ) → Grows before after → Known before i j → Known after i j
grown_known before after i j more (inl e) = inl (more.found i j e)
grown_known before after i j more (inr e) = inr (more.given_up i j e)

tried_known : (shapes : List Region) (old new : List Rule) (pairs : List Places) (before after : Findings) (ask : Ask)
    → AreTried shapes old new pairs before after → lies_in_one shapes ask ≡ true → IsIn (place_of old ask, place_of new ask) pairs
    → Known after (decider old ask) (decider new ask)
tried_known shapes old new [] before after ask tried in_shape none = absurd none
tried_known shapes old new (at ∷ more) before after ask tried in_shape (inr later) =
    tried_known shapes old new more tried.0 after ask tried.2 in_shape later
tried_known shapes old new (at ∷ more) before after ask tried in_shape (inl e) =
    let one : place_of old ask ≡ at.0 = ap (λ (p : Places). p.0) e in
    let two : place_of new ask ≡ at.1 = ap (λ (p : Places). p.1) e in
    let is = tried.1 in
    let i : is.pair.old ≡ decider old ask = ap (λ (p : Pair). p.old) is.is ∙ sym (decider_there old ask ∙ ap (number_at old) one) in
    let j : is.pair.new ≡ decider new ask = ap (λ (p : Pair). p.new) is.is ∙ sym (decider_there new ask ∙ ap (number_at new) two) in
    grown_known tried.0 after (decider old ask) (decider new ask) (all_grow shapes old new more tried.0 after tried.2)
    (subst (λ n. Known tried.0 n (decider new ask)) i (subst (λ n. Known tried.0 is.pair.old n) j
    (one_known shapes old new at before tried.0 ask is in_shape one two is.searched.outcome is.searched.ended is.searched.known)))

-- ---- each pair that says the opposite is tried

unlike_itself : (a : Bool) → unlike a a ≡ false
unlike_itself true = refl
unlike_itself false = refl

in_cells : (new : List Rule) (says : Bool) (i count j : ℕ) → j < count → says_at new j ≡ says → IsIn (i, j) (cells new says i count)
in_cells new says i zero j below is = absurd (omega arith)
in_cells new says i (suc count) j below is = elim (last_or j count below) [
  | inl here ↦ in_right (i, j) (cells new says i count) (cell new says i count) (subst (λ n. IsIn (i, j) (cell new says i n)) here
      (subst (λ b. IsIn (i, j) (if b then [] else (i, j) ∷ [])) (sym (ap (λ b. unlike b says) is ∙ unlike_itself says)) (inl refl)))
  | inr before ↦ in_left (i, j) (cells new says i count) (cell new says i count) (in_cells new says i count j before is)
]
  where
    last_or : (a n : ℕ) → a < suc n → (a ≡ n) ⊎ (a < n)
    last_or a n e = grind arith

in_all_cells : (old new : List Rule) (says : Bool) (count i j : ℕ) → i < count → j ≤ length new → unlike (says_at old i) says ≡ true → says_at new j ≡ says
    → IsIn (i, j) (all_cells old new says count)
in_all_cells old new says zero i j below within other is = absurd (omega arith)
in_all_cells old new says (suc count) i j below within other is = elim (last_or i count below) [
  | inl here ↦ in_right (i, j) (all_cells old new says count) (cells_of old new says count) (subst (λ n. IsIn (i, j) (cells_of old new says n)) here
      (subst (λ b. IsIn (i, j) (if b then cells new says i (length new + 1) else [])) (sym other) (in_cells new says i (length new + 1) j (omega arith) is)))
  | inr before ↦ in_left (i, j) (all_cells old new says count) (cells_of old new says count) (in_all_cells old new says count i j before within other is)
]
  where
    last_or : (a n : ℕ) → a < suc n → (a ≡ n) ⊎ (a < n)
    last_or a n e = grind arith

to_try : (old new : List Rule) (i j : ℕ) → i ≤ length old → j ≤ length new → unlike (says_at old i) (says_at new j) ≡ true
    → IsIn (i, j) (pairs_to_try old new)
to_try old new i j one two other = by (says_at new j) refl other
  where
    by : (b : Bool) → says_at new j ≡ b → unlike (says_at old i) b ≡ true → IsIn (i, j) (pairs_to_try old new)
    by true e other =
        in_left (i, j) (all_cells old new true (length old + 1)) (all_cells old new false (length old + 1))
        (in_all_cells old new true (length old + 1) i j (omega arith) two other e)
    by false e other =
        in_right (i, j) (all_cells old new true (length old + 1)) (all_cells old new false (length old + 1))
        (in_all_cells old new false (length old + 1) i j (omega arith) two other e)

-- ---- the whole

-- what is decided as an ask of a pair that was found is decided otherwise
shown_differs : (shapes : List Region) (old new : List Rule) (found : List ShownPair) (ask : Ask)
    → AllByRecursion (λ shown. IsDecidedBy shapes old new shown) found → is_shown found (decider old ask) (decider new ask) ≡ true → differs old new ask ≡ true
shown_differs shapes old new [] ask all e = absurd (both_ways false refl e)
shown_differs shapes old new (shown ∷ found) ask all e =
    elim (or_cases (is_pair (decider old ask) (decider new ask) shown.pair) (is_shown found (decider old ask) (decider new ask)) e) [
      | inl here ↦
          let parts = and_parts (shown.pair.old == decider old ask) (shown.pair.new == decider new ask) here in
          let one = same_verdict old ask shown.ask (sym (all.0.old_rule ∙ eqb-true shown.pair.old (decider old ask) parts.0)) in
          let two = same_verdict new ask shown.ask (sym (all.0.new_rule ∙ eqb-true shown.pair.new (decider new ask) parts.1)) in
          otherwise_law (allows old ask) (allows new ask) shown.pair.allows (one ∙ all.0.by_old) (two ∙ all.0.by_new)
      | inr later ↦ shown_differs shapes old new found ask all.1 later
    ]

pub are_pairs : (shapes : List Region) (old new : List Rule) (known : Findings) → AreSought shapes old new known
    → ArePairs shapes old new known.found known.given_up
are_pairs shapes old new known sought =
    let asks = each_has shapes old new (pairs_to_try old new) (findings [] [] 0) known sought tt in
    record {
      exact = λ ask in_shape. by ask in_shape asks (differs old new ask) refl;
      asks = asks;
    }
  where
    fill : (a b d : Bool) → d ≡ true → (a ≡ true) ⊎ (b ≡ true) → d ≡ (a || (b && d))
    fill true b d e is = e
    fill false true true e is = refl
    fill false true false e is = refl
    fill false false d e (inl f) = absurd (both_ways false refl f)
    fill false false d e (inr f) = absurd (both_ways false refl f)

    lack : (a b d : Bool) → d ≡ false → (a ≡ true → d ≡ true) → d ≡ (a || (b && d))
    lack true b d e f = f refl
    lack false true true e f = refl
    lack false true false e f = refl
    lack false false d e f = e

    by : (ask : Ask) → lies_in_one shapes ask ≡ true → AllByRecursion (λ shown. IsDecidedBy shapes old new shown) known.found
        → (d : Bool) → differs old new ask ≡ d → differs old new ask ≡ (is_shown known.found (decider old ask) (decider new ask)
        || (is_given_up known.given_up (decider old ask) (decider new ask) && differs old new ask))
    by ask in_shape asks true e =
        fill (is_shown known.found (decider old ask) (decider new ask)) (is_given_up known.given_up (decider old ask) (decider new ask)) (differs old new ask) e
        (tried_known shapes old new (pairs_to_try old new) (findings [] [] 0) known ask sought in_shape
        (to_try old new (place_of old ask) (place_of new ask) (there old ask) (there new ask)
        (ap (λ b. unlike b (says_at new (place_of new ask))) (sym (allows_there old ask))
        ∙ ap (unlike (allows old ask)) (sym (allows_there new ask)) ∙ e)))
    by ask in_shape asks false e =
        lack (is_shown known.found (decider old ask) (decider new ask)) (is_given_up known.given_up (decider old ask) (decider new ask)) (differs old new ask) e
        (shown_differs shapes old new known.found ask asks)

-- ---- rules in front

-- one more, whose ranges were put in order
pub pushed : (front more : List Rule) (rule tidy : Rule) (ask : Ask) → more ≡ front ++ tidy ∷ [] → tidy ≡ tidied rule
    → is_matched more ask ≡ (is_matched front ask || matches rule ask)
pushed front more rule tidy ask grown is =
    ap (λ (rs : List Rule). is_matched rs ask) grown ∙ list_any-append (λ r. matches r ask) front (tidy ∷ [])
    ∙ ap (λ b. is_matched front ask || b) (or_none (matches tidy ask) ∙ ap (λ (r : Rule). matches r ask) is ∙ tidied_matches_the_same rule ask)

-- the one behind those that were taken
pub taken : (rules front more : List Rule) (place : ℕ) (rule : Rule) (ask : Ask) (before : Bool) → place < length rules → rule ≡ get_or rules place rule
    → is_matched front ask ≡ (before || is_matched (take place rules) ask)
    → is_matched more ask ≡ (is_matched front ask || matches rule ask)
    → is_matched more ask ≡ (before || is_matched (take (place + 1) rules) ask)
taken rules front more place rule ask before within is was grown =
    grown ∙ ap (λ b. b || matches rule ask) was
    ∙ by before (is_matched (take place rules) ask) (matches rule ask)
    ∙ ap (λ (r : Rule). before || (is_matched (take place rules) ask || matches r ask)) is
    ∙ ap (λ b. before || b) (sym (grown_any (λ r. matches r ask) rules place rule within))
  where
    by : (b t m : Bool) → ((b || t) || m) ≡ (b || (t || m))
    by true t m = refl
    by false t m = refl

-- ---- one pair is tried

pub none_tried : (shapes : List Region) (old new : List Rule) (says : Bool) (i j : ℕ) (f : Findings) → unlike (says_at new j) says ≡ true
    → AreTried shapes old new (cell new says i j) f f
none_tried shapes old new says i j f e =
    subst (λ b. AreTried shapes old new (if b then [] else (i, j) ∷ []) f f) (sym e) refl

alike : (a b : Bool) → unlike a b ≡ false → a ≡ b
alike true true e = refl
alike true false e = absurd (both_ways true e refl)
alike false true e = absurd (both_ways true e refl)
alike false false e = refl

pub one_tried : (shapes : List Region) (old new : List Rule) (says : Bool) (i j : ℕ) (rules : List Rule) (asks regions : List Region) (pair : Pair) (a b : Findings)
    → i ≤ length old → j ≤ length new → says_at old i ≡ not says → unlike (says_at new j) says ≡ false
    → ((ask : Ask) → lies_in_one asks ask ≡ (lies_in_one shapes ask && is_by old i ask))
    → ((ask : Ask) → is_matched rules ask ≡ (is_matched (take i old) ask || is_matched (take j new) ask))
    → ((ask : Ask) → lies_in_one regions ask ≡ (lies_in_one asks ask && is_by new j ask))
    → pair ≡ record { old = number_at old i; new = number_at new j; allows = says }
    → IsSearched rules regions pair a b → AreTried shapes old new (cell new says i j) a b
one_tried shapes old new says i j rules asks regions pair a b one two otherwise e matched in_front within is searched =
    let same : says_at new j ≡ says = alike (says_at new j) says e in
    let tried : IsTried shapes old new (i, j) a b = record {
      old_one = one;
      new_one = two;
      otherwise = otherwise ∙ ap not (sym same);
      rules = rules;
      in_front = in_front;
      regions = regions;
      matched = λ ask. within ask ∙ ap (λ c. c && is_by new j ask) (matched ask);
      pair = pair;
      is = is ∙ ap (λ c. pair_of (number_at old i) (number_at new j) c) (sym same);
      searched = searched;
    } in
    subst (λ c. AreTried shapes old new (if c then [] else (i, j) ∷ []) a b) (sym e) (b, tried, refl)
  where
    pair_of : ℕ → ℕ → Bool → Pair
    pair_of old new allows = record { old = old; new = new; allows = allows }

-- ---- pairs after pairs

pub tried_join : (shapes : List Region) (old new : List Rule) (xs ys : List Places) (a b c : Findings) → AreTried shapes old new xs a b
    → AreTried shapes old new ys b c → AreTried shapes old new (xs ++ ys) a c
tried_join shapes old new [] ys a b c same second = subst (λ (f : Findings). AreTried shapes old new ys f c) same second
tried_join shapes old new (x ∷ xs) ys a b c first second = (first.0, first.1, tried_join shapes old new xs ys first.0 b c first.2 second)

pub cells_more : (shapes : List Region) (old new : List Rule) (says : Bool) (i j : ℕ) (a b c : Findings) → AreTried shapes old new (cells new says i j) a b
    → AreTried shapes old new (cell new says i j) b c → AreTried shapes old new (cells new says i (j + 1)) a c
cells_more shapes old new says i j a b c first second =
    subst (λ n. AreTried shapes old new (cells new says i n) a c) (sym (add-one j))
    (tried_join shapes old new (cells new says i j) (cell new says i j) a b c first second)

pub all_more : (shapes : List Region) (old new : List Rule) (says : Bool) (i : ℕ) (a b c : Findings) → AreTried shapes old new (all_cells old new says i) a b
    → unlike (says_at old i) says ≡ true → AreTried shapes old new (cells new says i (length new + 1)) b c
    → AreTried shapes old new (all_cells old new says (i + 1)) a c
all_more shapes old new says i a b c first e second =
    subst (λ n. AreTried shapes old new (all_cells old new says n) a c) (sym (add-one i))
    (tried_join shapes old new (all_cells old new says i) (cells_of old new says i) a b c first
    (subst (λ d. AreTried shapes old new (if d then cells new says i (length new + 1) else []) b c) (sym e) second))

pub all_same : (shapes : List Region) (old new : List Rule) (says : Bool) (i : ℕ) (a b : Findings) → AreTried shapes old new (all_cells old new says i) a b
    → unlike (says_at old i) says ≡ false → AreTried shapes old new (all_cells old new says (i + 1)) a b
all_same shapes old new says i a b first e =
    subst (λ n. AreTried shapes old new (all_cells old new says n) a b) (sym (add-one i))
    (tried_join shapes old new (all_cells old new says i) (cells_of old new says i) a b b first
    (subst (λ d. AreTried shapes old new (if d then cells new says i (length new + 1) else []) b b) (sym e) refl))

pub otherwise_of : (a says : Bool) → unlike a says ≡ true → a ≡ not says
otherwise_of true true e = absurd (both_ways false refl e)
otherwise_of true false e = refl
otherwise_of false true e = refl
otherwise_of false false e = absurd (both_ways false refl e)
