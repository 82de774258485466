-- Each region that was found is in the group of exactly one of the first regions.
use Rattle.std.proofs.Common.{◌≡◌, ◌∙◌, ap, sym, refl, subst, ℕ, ◌+◌, Bool, true, false, ◌&&◌, ◌||◌, append_assoc, zero-add, List, [], ◌∷◌, ◌++◌, nat_eq}
use Rattle.std.specs.Prelude.{count_by, if◌then◌else◌, not}
use Rattle.std.specs.Cmp.Lexicographic.{pointwise}
use Rattle.std.specs.List.{AllByRecursion, list_any}
use Rattle.std.proofs.lemmas.Bool.{and_from, and_parts, both_ways, or_left, or_right}
use Rattle.std.proofs.lemmas.List.Folds.{list_any-append}
use Rattle.std.proofs.lemmas.List.Sums.{sum_by-cons}
use Rattle.std.proofs.lemmas.Slice.Eq.{bytes_eq-Decides}
use Rattle.gw_ask_sets.specs.regions.Comparing.{unlike}
use Rattle.gw_ask_sets.specs.declared.regions.comparison.Found.{Found}
use Rattle.gw_policy_review.specs.comparison.Groups.{firsts, firsts_after, is_like}
use Rattle.gw_policy_review.specs.comparison.Laws.{EachHasOneGroup}

-- ---- regions that are like each other

record AreLike (f g : Found) : Type 0 where
  allows : f.allows ≡ g.allows
  new_rules : f.new_rules.items ≡ g.new_rules.items
  old_rules : f.old_rules.items ≡ g.old_rules.items

same_verdict : (a b : Bool) → not (unlike a b) ≡ true → a ≡ b
same_verdict true true e = refl
same_verdict true false e = absurd (both_ways false refl e)
same_verdict false true e = absurd (both_ways false refl e)
same_verdict false false e = refl

itself : (a : Bool) → not (unlike a a) ≡ true
itself true = refl
itself false = refl

alike : (f g : Found) → is_like f g ≡ true → AreLike f g
alike f g e =
    let new = pointwise nat_eq f.new_rules.items g.new_rules.items in
    let old = pointwise nat_eq f.old_rules.items g.old_rules.items in
    let one = and_parts (not (unlike f.allows g.allows)) (new && old) e in
    let two = and_parts new old one.1 in
    record {
      allows = same_verdict f.allows g.allows one.0;
      new_rules = (bytes_eq-Decides f.new_rules.items g.new_rules.items).0 two.0;
      old_rules = (bytes_eq-Decides f.old_rules.items g.old_rules.items).0 two.1;
    }

like_itself : (f : Found) → is_like f f ≡ true
like_itself f =
    let new = pointwise nat_eq f.new_rules.items f.new_rules.items in
    let old = pointwise nat_eq f.old_rules.items f.old_rules.items in
    and_from (not (unlike f.allows f.allows)) (new && old) (itself f.allows)
    (and_from new old ((bytes_eq-Decides f.new_rules.items f.new_rules.items).1 refl) ((bytes_eq-Decides f.old_rules.items f.old_rules.items).1 refl))

-- what is like the one is like the other
like_both : (f x g : Found) → AreLike f x → is_like f g ≡ is_like x g
like_both f x g are =
    ap (λ b. not (unlike b g.allows) && (pointwise nat_eq f.new_rules.items g.new_rules.items && pointwise nat_eq f.old_rules.items g.old_rules.items)) are.allows
    ∙ ap (λ (rs : List ℕ). not (unlike x.allows g.allows) && (pointwise nat_eq rs g.new_rules.items && pointwise nat_eq f.old_rules.items g.old_rules.items)) are.new_rules
    ∙ ap (λ (rs : List ℕ). not (unlike x.allows g.allows) && (pointwise nat_eq x.new_rules.items g.new_rules.items && pointwise nat_eq rs g.old_rules.items)) are.old_rules

seen_both : (f x : Found) (seen : List Found) → AreLike f x → list_any (is_like f) seen ≡ list_any (is_like x) seen
seen_both f x [] are = refl
seen_both f x (g ∷ seen) are =
    ap (λ b. b || list_any (is_like f) seen) (like_both f x g are) ∙ ap (λ b. is_like x g || b) (seen_both f x seen are)

turned : (f x : Found) → is_like f x ≡ is_like x f
turned f x = by (is_like f x) (is_like x f) refl refl
  where
    by : (a b : Bool) → is_like f x ≡ a → is_like x f ≡ b → a ≡ b
    by true true d e = refl
    by false false d e = refl
    by true false d e = absurd (both_ways (is_like x f) e (sym (like_both f x f (alike f x d)) ∙ like_itself f))
    by false true d e = absurd (both_ways (is_like f x) d (sym (like_both x f x (alike x f e)) ∙ like_itself x))

-- ---- how many of the first ones are like a region

abbrev one_if : Bool → ℕ
one_if b = if b then 1 else 0

abbrev count : Found → List Found → ℕ
count f found = count_by (λ g. is_like g f) found

first_one : (f x : Found) (rest : List Found) (b : Bool) → count f ((if b then [] else x ∷ []) ++ rest) ≡ (if b then 0 else one_if (is_like x f)) + count f rest
first_one f x rest true = sym (zero-add (count f rest))
first_one f x rest false = sum_by-cons (λ y. if is_like y f then 1 else 0) x rest

counted : (f : Found) (seen found : List Found)
    → count f (firsts_after seen found) ≡ (if list_any (is_like f) seen then 0 else one_if (list_any (is_like f) found))
counted f seen [] = by (list_any (is_like f) seen)
  where
    by : (b : Bool) → ◌≡◌ {A = ℕ} 0 (if b then 0 else 0)
    by true = refl
    by false = refl
counted f seen (x ∷ found) =
    first_one f x (firsts_after (seen ++ x ∷ []) found) (list_any (is_like x) seen)
    ∙ ap (λ n. (if list_any (is_like x) seen then 0 else one_if (is_like x f)) + n)
    (counted f (seen ++ x ∷ []) found ∙ ap (λ b. if b then 0 else one_if (list_any (is_like f) found)) (list_any-append (is_like f) seen (x ∷ [])))
    ∙ ap (λ b. (if list_any (is_like x) seen then 0 else one_if b)
    + (if (list_any (is_like f) seen || (is_like f x || false)) then 0 else one_if (list_any (is_like f) found))) (sym (turned f x))
    ∙ by (is_like f x) refl
  where
    by : (b : Bool) → is_like f x ≡ b
        → (if list_any (is_like x) seen then 0 else one_if (is_like f x))
        + (if (list_any (is_like f) seen || (is_like f x || false)) then 0 else one_if (list_any (is_like f) found))
        ≡ (if list_any (is_like f) seen then 0 else one_if (is_like f x || list_any (is_like f) found))
    by true e =
        ap (λ b. (if b then 0 else one_if (is_like f x))
        + (if (list_any (is_like f) seen || (is_like f x || false)) then 0 else one_if (list_any (is_like f) found)))
        (sym (seen_both f x seen (alike f x e)))
        ∙ ap (λ b. (if list_any (is_like f) seen then 0 else one_if b)
        + (if (list_any (is_like f) seen || (b || false)) then 0 else one_if (list_any (is_like f) found))) e
        ∙ met (list_any (is_like f) seen) (list_any (is_like f) found)
        ∙ ap (λ b. if list_any (is_like f) seen then 0 else one_if (b || list_any (is_like f) found)) (sym e)
      where
        met : (s r : Bool) → (if s then 0 else 1) + (if (s || (true || false)) then 0 else one_if r) ≡ (if s then 0 else one_if (true || r))
        met true r = refl
        met false r = refl
    by false e =
        ap (λ b. (if list_any (is_like x) seen then 0 else one_if b)
        + (if (list_any (is_like f) seen || (b || false)) then 0 else one_if (list_any (is_like f) found))) e
        ∙ other (list_any (is_like x) seen) (list_any (is_like f) seen) (list_any (is_like f) found)
        ∙ ap (λ b. if list_any (is_like f) seen then 0 else one_if (b || list_any (is_like f) found)) (sym e)
      where
        other : (t s r : Bool) → (if t then 0 else 0) + (if (s || (false || false)) then 0 else one_if r) ≡ (if s then 0 else one_if (false || r))
        other true true r = refl
        other true false r = zero-add (one_if r)
        other false true r = refl
        other false false r = zero-add (one_if r)

-- ---- each has one

there : (front found : List Found) → AllByRecursion (λ f. list_any (is_like f) (front ++ found) ≡ true) found
there front [] = tt
there front (x ∷ found) = (
  list_any-append (is_like x) front (x ∷ found)
      ∙ or_right (list_any (is_like x) front) (is_like x x || list_any (is_like x) found) (or_left (is_like x x) (list_any (is_like x) found) (like_itself x)),
  subst (λ (all : List Found). AllByRecursion (λ f. list_any (is_like f) all ≡ true) found) (append_assoc front (x ∷ []) found)
      (there (front ++ x ∷ []) found),
)

one_of : (found : List Found) (f : Found) → list_any (is_like f) found ≡ true → count f (firsts found) ≡ 1
one_of found f e = counted f [] found ∙ ap (λ b. one_if b) e

pub each_has_one_group : EachHasOneGroup
each_has_one_group found =
    each_found found (there [] found)
  where
    each_found : (all : List Found) → AllByRecursion (λ f. list_any (is_like f) found ≡ true) all → AllByRecursion (λ f. count_by (λ g. is_like g f) (firsts found) ≡ 1) all
    each_found [] each = tt
    each_found (x ∷ all) each = (one_of found x each.0, each_found all each.1)
