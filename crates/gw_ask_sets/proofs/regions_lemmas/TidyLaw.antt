-- Ranges in order hold the same numbers, and rules whose ranges are in order decide alike.
use Rattle.std.proofs.Common.{◌≡◌, ◌∙◌, sym, ap, refl, ℕ, ◌+◌, ◌-◌, ◌≤◌, ◌<◌, Bool, true, false, cond, ◌&&◌, ◌||◌, ◌==◌, List, [], ◌∷◌, ◌++◌, Option, Some, None, length, arith, nat_le, nat_lt, append_assoc, inl, inr}
use Rattle.std.specs.Prelude.{◌⊎◌, not, if◌then◌else◌}
use Rattle.std.specs.List.{list_all, list_any}
use Rattle.std.specs.Option.{option_map_or}
use Rattle.std.proofs.lemmas.Bool.{and_parts, both_ways, cases_order, eq-eqb, eqb-true, leb-false, leb-true, ltb-false, ltb-true, or_cases}
use Rattle.gw_rules.specs.Ask.{Ask}
use Rattle.gw_rules.specs.Fields.{value_of}
use Rattle.gw_rules.specs.Range.{admits, holds, is_ordered}
use Rattle.gw_rules.specs.Rule.{matches, ranges_of}
use Rattle.gw_rules.specs.RuleList.{allows}
use Rattle.gw_rules.specs.declared.field.FieldName.{FieldName}
use Rattle.gw_rules.specs.declared.field.FieldName.TheVariants.{Operation, Port, SourceNetwork, SourceKey, DestinationNetwork, Service, ObjectType, Instance, Property, Priority, Sender, Station}
use Rattle.gw_rules.specs.declared.field.TheConstants.FieldName.{ALL}
use Rattle.gw_rules.specs.declared.range.Range.{Range}
use Rattle.gw_rules.specs.declared.rule.Rule.{Rule}
use Rattle.gw_rules.proofs.EachAsk.{each_weaker}
use Rattle.gw_ask_sets.specs.regions.Comparing.{IsDecided, IsFoundFor, decider, differs, is_found, is_one_of, number_from, unlike}
use Rattle.gw_ask_sets.specs.regions.Deciding.{decided}
use Rattle.gw_ask_sets.specs.regions.Merging.{AreUnited}
use Rattle.gw_ask_sets.specs.regions.Ranges.{between, greater, lesser}
use Rattle.gw_ask_sets.specs.regions.Regions.{IsParted, Region, lies, lies_in_one}
use Rattle.gw_ask_sets.specs.regions.Tidying.{AreApart, TidiedMatchesTheSame, TidyHasTheSame, TidyIsTidy, all_tidied, joined, put_all, put_into, reaches, tidied, tidy, tidy_each}
use Rattle.gw_ask_sets.specs.declared.regions.comparison.Found.{Found}
use Rattle.gw_ask_sets.proofs.regions_lemmas.AllowsLaw.{decided_allows}
use Rattle.gw_ask_sets.proofs.regions_lemmas.DecidersLaw.{decider_from}
use Rattle.gw_ask_sets.proofs.regions_lemmas.JoiningLaw.{both_held, none_after, none_before, or_regroup}
use Rattle.gw_ask_sets.proofs.regions_lemmas.RangeLaw.{or_none}
use Rattle.gw_ask_sets.proofs.regions_lemmas.ValueLaw.{not_empty}

-- ---- one range in the place of two

reached : (a b : Range) → reaches a b ≡ true → b.low ≤ a.high + 1
reached a b t =
    elim (or_cases (nat_le b.low a.high) (b.low - 1 == a.high) t) [
      | inl e ↦ let u = leb-true b.low a.high e in omega arith
      | inr e ↦ let u = eqb-true (b.low - 1) a.high e in omega arith
    ]

apart : (a b : Range) → reaches a b ≡ false → a.high + 1 < b.low
apart a b f = by (nat_le b.low a.high) (b.low - 1 == a.high) refl refl f
  where
    by : (p q : Bool) → nat_le b.low a.high ≡ p → (b.low - 1 == a.high) ≡ q → (p || q) ≡ false → a.high + 1 < b.low
    by true q ep eq e = absurd (both_ways true e refl)
    by false true ep eq e = absurd (both_ways true e refl)
    by false false ep eq e =
        let u = leb-false b.low a.high ep in
        elim (cases_order (a.high + 1) b.low) [
          | inl same ↦
              let touching : b.low - 1 ≡ a.high = omega arith in
              absurd (both_ways (b.low - 1 == a.high) eq (eq-eqb (b.low - 1) a.high touching))
          | inr order ↦ elim order [
            | inl below ↦ below
            | inr above ↦ absurd (omega arith)
          ]
        ]

joined_law : (n : ℕ) (a b r : Range) → joined a b ≡ Some r → holds n r ≡ (holds n a || holds n b)
joined_law n a b r e = by (nat_lt a.high a.low) (nat_lt b.high b.low) (reaches a b && reaches b a) refl refl refl e
  where
    by : (p q s : Bool) → nat_lt a.high a.low ≡ p → nat_lt b.high b.low ≡ q → (reaches a b && reaches b a) ≡ s
        → (if p then Some b else if q then Some a else if s then Some (between (lesser a.low b.low) (greater a.high b.high)) else None) ≡ Some r
        → holds n r ≡ (holds n a || holds n b)
    by true q s ep eq es is =
        let same : r ≡ b = cc in ap (holds n) same ∙ none_before n a b (ltb-true a.high a.low ep)
    by false true s ep eq es is =
        let same : r ≡ a = cc in ap (holds n) same ∙ none_after n a b (ltb-true b.high b.low eq)
    by false false true ep eq es is =
        let same : r ≡ between (lesser a.low b.low) (greater a.high b.high) = cc in
        let parts = and_parts (reaches a b) (reaches b a) es in
        ap (holds n) same
        ∙ both_held n a b (ltb-false a.high a.low ep) (ltb-false b.high b.low eq) (reached a b parts.0) (reached b a parts.1)
    by false false false ep eq es is = absurd cc

-- ---- lists hold the same numbers

-- of three tests, whichever order they are in
first_last : (x a r : Bool) → (a || (r || x)) ≡ ((x || a) || r)
first_last true true r = refl
first_last true false true = refl
first_last true false false = refl
first_last false true r = refl
first_last false false true = refl
first_last false false false = refl

last_first : (x a r : Bool) → (r || (a || x)) ≡ ((x || a) || r)
last_first true true true = refl
last_first true true false = refl
last_first true false true = refl
last_first true false false = refl
last_first false true true = refl
last_first false true false = refl
last_first false false true = refl
last_first false false false = refl

into_law : (n : ℕ) (list : List Range) (range : Range) → list_any (holds n) (put_into list range) ≡ (list_any (holds n) list || holds n range)
into_law n [] range = or_none (holds n range)
into_law n (x ∷ xs) range = by (λ r. into_law n xs r) (joined range x) refl
  where
    by : ((r : Range) → list_any (holds n) (put_into xs r) ≡ (list_any (holds n) xs || holds n r))
        → (o : Option Range) → joined range x ≡ o
        → list_any (holds n) (option_map_or (λ both. put_into xs both) o (if nat_lt x.low range.low then x ∷ put_into xs range else range ∷ put_into xs x))
        ≡ ((holds n x || list_any (holds n) xs) || holds n range)
    by rest (Some both) e =
        rest both ∙ ap (λ b. list_any (holds n) xs || b) (joined_law n range x both e)
        ∙ first_last (holds n x) (list_any (holds n) xs) (holds n range)
    by rest None e = apart_by (nat_lt x.low range.low)
      where
        apart_by : (b : Bool) → list_any (holds n) (if b then x ∷ put_into xs range else range ∷ put_into xs x)
            ≡ ((holds n x || list_any (holds n) xs) || holds n range)
        apart_by true = ap (λ b. holds n x || b) (rest range) ∙ or_regroup (holds n x) (list_any (holds n) xs) (holds n range)
        apart_by false = ap (λ b. holds n range || b) (rest x) ∙ last_first (holds n x) (list_any (holds n) xs) (holds n range)

all_law : (n : ℕ) (list more : List Range) → list_any (holds n) (put_all list more) ≡ (list_any (holds n) list || list_any (holds n) more)
all_law n list [] = sym (or_none (list_any (holds n) list))
all_law n list (x ∷ xs) =
    all_law n (put_into list x) xs
    ∙ ap (λ b. b || list_any (holds n) xs) (into_law n list x)
    ∙ sym (or_regroup (list_any (holds n) list) (holds n x) (list_any (holds n) xs))

pub tidy_has_the_same : TidyHasTheSame
tidy_has_the_same xs n = all_law n [] xs

pub united_law : (all some xs ys : List Range) → some ≡ tidy xs → all ≡ put_all some ys → AreUnited all xs ys
united_law all some xs ys first second n =
    ap (list_any (holds n)) second ∙ all_law n some ys
    ∙ ap (λ (rs : List Range). list_any (holds n) rs || list_any (holds n) ys) first
    ∙ ap (λ b. b || list_any (holds n) ys) (tidy_has_the_same xs n)

-- ---- and are in order

lower : (from : ℕ) (a b : Range) → from ≤ a.low → from ≤ b.low → from ≤ lesser a.low b.low
lower from a b x y = by (nat_lt b.low a.low)
  where
    by : (c : Bool) → from ≤ cond c b.low a.low
    by true = y
    by false = x

-- the two ends of two that overlap or touch are the right way round
ends : (a b : Range) → a.low ≤ a.high → lesser a.low b.low ≤ greater a.high b.high
ends a b o = by (nat_lt b.low a.low) (nat_lt a.high b.high) refl refl
  where
    by : (p q : Bool) → nat_lt b.low a.low ≡ p → nat_lt a.high b.high ≡ q → cond p b.low a.low ≤ cond q b.high a.high
    by true true ep eq = let u = ltb-true b.low a.low ep in let v = ltb-true a.high b.high eq in omega arith
    by true false ep eq = let u = ltb-true b.low a.low ep in omega arith
    by false true ep eq = let v = ltb-true a.high b.high eq in omega arith
    by false false ep eq = o

from_lower : (less more : ℕ) (xs : List Range) → less ≤ more → AreApart more xs → AreApart less xs
from_lower less more [] below is = tt
from_lower less more (x ∷ xs) below is = let from = is.0 in (omega arith, is.1, is.2)

into_apart : (from : ℕ) (list : List Range) (range : Range) → AreApart from list → from ≤ range.low → range.low ≤ range.high
    → AreApart from (put_into list range)
into_apart from [] range is above order = (above, order, tt)
into_apart from (x ∷ xs) range is above order =
    by (λ less r apart_so from_r order_r. into_apart less xs r apart_so from_r order_r)
    (nat_lt range.high range.low) (nat_lt x.high x.low) (reaches range x && reaches x range) refl refl refl
  where
    by : ((less : ℕ) (r : Range) → AreApart less xs → less ≤ r.low → r.low ≤ r.high → AreApart less (put_into xs r))
        → (p q s : Bool) → nat_lt range.high range.low ≡ p → nat_lt x.high x.low ≡ q → (reaches range x && reaches x range) ≡ s
        → AreApart from (option_map_or (λ both. put_into xs both)
        (if p then Some x else if q then Some range else if s then Some (between (lesser range.low x.low) (greater range.high x.high)) else None)
        (if nat_lt x.low range.low then x ∷ put_into xs range else range ∷ put_into xs x))
    by rest true q s ep eq es = let u = ltb-true range.high range.low ep in absurd (omega arith)
    by rest false true s ep eq es = let u = ltb-true x.high x.low eq in let o = is.1 in absurd (omega arith)
    by rest false false true ep eq es =
        let u = is.0 in let o = is.1 in
        rest from (between (lesser range.low x.low) (greater range.high x.high)) (from_lower from (x.high + 2) xs (omega arith) is.2)
        (lower from range x above is.0) (ends range x order)
    by rest false false false ep eq es = placed (nat_lt x.low range.low) refl
      where
        -- one of the two reaches the other one
        beside : (one other : Bool) → reaches range x ≡ one → reaches x range ≡ other → (one && other) ≡ false
            → (range.high + 1 < x.low) ⊎ (x.high + 1 < range.low)
        beside true true e f both = absurd (both_ways true both refl)
        beside true false e f both = inr (apart x range f)
        beside false other e f both = inl (apart range x e)

        sides : (range.high + 1 < x.low) ⊎ (x.high + 1 < range.low)
        sides = beside (reaches range x) (reaches x range) refl refl es

        placed : (b : Bool) → nat_lt x.low range.low ≡ b → AreApart from (if b then x ∷ put_into xs range else range ∷ put_into xs x)
        placed true e =
            let u = ltb-true x.low range.low e in
            let after : x.high + 2 ≤ range.low = elim sides [ inl before ↦ absurd (omega arith) | inr behind ↦ omega arith ] in
            (is.0, is.1, rest (x.high + 2) range is.2 after order)
        placed false e =
            let u = ltb-false x.low range.low e in let o = is.1 in
            let after : range.high + 2 ≤ x.low = elim sides [ inl before ↦ omega arith | inr behind ↦ absurd (omega arith) ] in
            (above, order, rest (range.high + 2) x (from_lower (range.high + 2) (x.high + 2) xs (omega arith) is.2) after is.1)

all_apart : (list more : List Range) → AreApart 0 list → list_all is_ordered more ≡ true → AreApart 0 (put_all list more)
all_apart list [] is ordered = is
all_apart list (x ∷ xs) is ordered =
    let parts = and_parts (is_ordered x) (list_all is_ordered xs) ordered in
    all_apart (put_into list x) xs (into_apart 0 list x is (omega arith) (leb-true x.low x.high parts.0)) parts.1

pub tidy_is_tidy : TidyIsTidy
tidy_is_tidy xs ordered = all_apart [] xs tt ordered

-- ---- rules match the same asks

into_some : (list : List Range) (range : Range) → (length (put_into list range) == 0) ≡ false
into_some [] range = not_empty range []
into_some (x ∷ xs) range = by (λ r. into_some xs r) (joined range x) (nat_lt x.low range.low)
  where
    by : ((r : Range) → (length (put_into xs r) == 0) ≡ false) → (o : Option Range) (b : Bool)
        → (length (option_map_or (λ both. put_into xs both) o (if b then x ∷ put_into xs range else range ∷ put_into xs x)) == 0) ≡ false
    by rest (Some both) b = rest both
    by rest None true = not_empty x (put_into xs range)
    by rest None false = not_empty range (put_into xs x)

all_some : (list more : List Range) → (length list == 0) ≡ false → (length (put_all list more) == 0) ≡ false
all_some list [] e = e
all_some list (x ∷ xs) e = all_some (put_into list x) xs (into_some list x)

none_alike : (xs : List Range) → (length (tidy xs) == 0) ≡ (length xs == 0)
none_alike [] = refl
none_alike (x ∷ xs) = all_some (x ∷ []) xs (not_empty x []) ∙ sym (not_empty x xs)

tidy_admits : (xs : List Range) (value : Option ℕ) → admits (tidy xs) value ≡ admits xs value
tidy_admits xs None = ap (λ b. b || false) (none_alike xs)
tidy_admits xs (Some n) =
    ap (λ b. b || list_any (holds n) (tidy xs)) (none_alike xs)
    ∙ ap (λ b. (length xs == 0) || b) (tidy_has_the_same xs n)

pub tidy_at : (field : FieldName) (rule : Rule) → value_of field (tidy_each rule.ranges) ≡ tidy (ranges_of field rule)
tidy_at field rule = elim field as (λ f. value_of f (tidy_each rule.ranges) ≡ tidy (ranges_of f rule)) [ Operation ↦ refl | Port ↦ refl | SourceNetwork ↦ refl | SourceKey ↦ refl | DestinationNetwork ↦ refl | Service ↦ refl | ObjectType ↦ refl | Instance ↦ refl | Property ↦ refl | Priority ↦ refl | Sender ↦ refl | Station ↦ refl ]

each_same : {A : Type 0} (one two : A → Bool) → ((x : A) → one x ≡ two x) → (xs : List A) → list_all one xs ≡ list_all two xs
each_same one two e [] = refl
each_same one two e (x ∷ xs) = ap (λ b. b && list_all one xs) (e x) ∙ ap (λ b. two x && b) (each_same one two e xs)

pub tidied_matches_the_same : TidiedMatchesTheSame
unfolding matches
tidied_matches_the_same rule ask =
    each_same (λ field. admits (ranges_of field (tidied rule)) (value_of field ask)) (λ field. admits (ranges_of field rule) (value_of field ask))
    (λ field. ap (λ (rs : List Range). admits rs (value_of field ask)) (tidy_at field rule) ∙ tidy_admits (ranges_of field rule) (value_of field ask)) ALL

-- a region that a rule with ranges in order parts is parted by the rule
pub parted_tidied : (rule : Rule) (region within : Region) (beyond : List Region) → IsParted (tidied rule) region within beyond → IsParted rule region within beyond
parted_tidied rule region within beyond is = record {
  inner = λ ask. is.inner ask ∙ ap (λ b. lies region ask && b) (tidied_matches_the_same rule ask);
  outer = λ ask. is.outer ask ∙ ap (λ b. lies region ask && not b) (tidied_matches_the_same rule ask);
}

-- ---- policies decide alike

tidied_decided : (rules : List Rule) (otherwise : Bool) (ask : Ask) → decided (all_tidied rules) otherwise ask ≡ decided rules otherwise ask
tidied_decided [] otherwise ask = refl
tidied_decided (rule ∷ rules) otherwise ask =
    ap (λ b. if b then rule.allow else decided (all_tidied rules) otherwise ask) (tidied_matches_the_same rule ask)
    ∙ ap (λ b. if matches rule ask then rule.allow else b) (tidied_decided rules otherwise ask)

tidied_number : (place : ℕ) (rules : List Rule) (ask : Ask) → number_from place (all_tidied rules) ask ≡ number_from place rules ask
tidied_number place [] ask = refl
tidied_number place (rule ∷ rules) ask =
    ap (λ b. if b then place + 1 else number_from (place + 1) (all_tidied rules) ask) (tidied_matches_the_same rule ask)
    ∙ ap (λ n. if matches rule ask then place + 1 else n) (tidied_number (place + 1) rules ask)

pub tidied_allows : (rules : List Rule) (ask : Ask) → allows (all_tidied rules) ask ≡ allows rules ask
tidied_allows rules ask = sym (decided_allows (all_tidied rules) ask) ∙ tidied_decided rules false ask ∙ decided_allows rules ask

pub tidied_decider : (rules : List Rule) (ask : Ask) → decider (all_tidied rules) ask ≡ decider rules ask
tidied_decider rules ask = decider_from (all_tidied rules) ask ∙ tidied_number 0 rules ask ∙ sym (decider_from rules ask)

-- what was found of two policies is found of two others that decide alike, by rules of the same numbers
found_alike : (test : Ask → Bool) (shapes : List Region) (old new one other : List Rule) (found : List Found) (left : List Region)
    → ((ask : Ask) → allows old ask ≡ allows one ask) → ((ask : Ask) → allows new ask ≡ allows other ask)
    → ((ask : Ask) → decider old ask ≡ decider one ask) → ((ask : Ask) → decider new ask ≡ decider other ask)
    → IsFoundFor test shapes old new found left → IsFoundFor test shapes one other found left
found_alike test shapes old new one other found left old_one new_one old_by new_by is = record {
  exact = λ ask there. sym (apart_alike ask) ∙ is.exact ask there
      ∙ ap (λ d. is_found found ask || (lies_in_one left ask && d)) (apart_alike ask);
  verdicts = each_weaker
      (λ f. (ask : Ask) → test ask ≡ true → lies f.region ask ≡ true → IsDecided old new f ask)
      (λ f. (ask : Ask) → test ask ≡ true → lies f.region ask ≡ true → IsDecided one other f ask)
      (λ f so ask passes there. decided_alike f ask (so ask passes there)) found is.verdicts;
  asks = is.asks;
}
  where
    decided_alike : (f : Found) (ask : Ask) → IsDecided old new f ask → IsDecided one other f ask
    decided_alike f ask d = record {
      by_old = sym (old_one ask) ∙ d.by_old;
      by_new = sym (new_one ask) ∙ d.by_new;
      old_rule = sym (ap (is_one_of f.old_rules.items) (old_by ask)) ∙ d.old_rule;
      new_rule = sym (ap (is_one_of f.new_rules.items) (new_by ask)) ∙ d.new_rule;
    }

    apart_alike : (ask : Ask) → differs old new ask ≡ differs one other ask
    apart_alike ask = ap (λ b. unlike b (allows new ask)) (old_one ask) ∙ ap (λ b. unlike (allows one ask) b) (new_one ask)

pub of_tidied : (test : Ask → Bool) (shapes : List Region) (old new : List Rule) (found : List Found) (left : List Region)
    → IsFoundFor test shapes (all_tidied old) (all_tidied new) found left → IsFoundFor test shapes old new found left
of_tidied test shapes old new found left =
    found_alike test shapes (all_tidied old) (all_tidied new) old new found left (tidied_allows old) (tidied_allows new) (tidied_decider old) (tidied_decider new)

pub to_tidied : (test : Ask → Bool) (shapes : List Region) (old new : List Rule) (found : List Found) (left : List Region)
    → IsFoundFor test shapes old new found left → IsFoundFor test shapes (all_tidied old) (all_tidied new) found left
to_tidied test shapes old new found left =
    found_alike test shapes old new (all_tidied old) (all_tidied new) found left (λ ask. sym (tidied_allows old ask)) (λ ask. sym (tidied_allows new ask))
    (λ ask. sym (tidied_decider old ask)) (λ ask. sym (tidied_decider new ask))

-- ---- steps of the code

pub lower_joined : (xs out : List Range) (a b both : Range) → joined a b ≡ Some both → out ++ put_into xs both ≡ out ++ put_into (b ∷ xs) a
lower_joined xs out a b both e =
    sym (ap (λ (o : Option Range). out ++ option_map_or (λ r. put_into xs r) o (if nat_lt b.low a.low then b ∷ put_into xs a else a ∷ put_into xs b)) e)

lower_apart : (xs out : List Range) (a b : Range) (lower : Bool) → joined a b ≡ None → nat_lt b.low a.low ≡ lower
    → out ++ put_into (b ∷ xs) a ≡ out ++ (if lower then b ∷ put_into xs a else a ∷ put_into xs b)
lower_apart xs out a b lower e l =
    ap (λ (o : Option Range). out ++ option_map_or (λ r. put_into xs r) o (if nat_lt b.low a.low then b ∷ put_into xs a else a ∷ put_into xs b)) e
    ∙ ap (λ (c : Bool). out ++ (if c then b ∷ put_into xs a else a ∷ put_into xs b)) l

pub lower_first : (xs out new : List Range) (a b : Range) → joined a b ≡ None → nat_lt b.low a.low ≡ true → new ≡ out ++ b ∷ []
    → new ++ put_into xs a ≡ out ++ put_into (b ∷ xs) a
lower_first xs out new a b e l grown =
    ap (λ (ys : List Range). ys ++ put_into xs a) grown ∙ append_assoc out (b ∷ []) (put_into xs a) ∙ sym (lower_apart xs out a b true e l)

pub lower_second : (xs out new : List Range) (a b : Range) → joined a b ≡ None → nat_lt b.low a.low ≡ false → new ≡ out ++ a ∷ []
    → new ++ put_into xs b ≡ out ++ put_into (b ∷ xs) a
lower_second xs out new a b e l grown =
    ap (λ (ys : List Range). ys ++ put_into xs b) grown ∙ append_assoc out (a ∷ []) (put_into xs b) ∙ sym (lower_apart xs out a b false e l)
