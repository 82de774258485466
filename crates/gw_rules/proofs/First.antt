-- The first rule that matches is the one of the least number, and the policy allows what it allows.
use Rattle.std.proofs.Common.{◌≡◌, ℕ, ◌+◌, ◌-◌, ◌≤◌, Bool, true, false, cond, List, [], ◌∷◌, length, ◌↔◌, inl, inr, Option, Some, None, arith, refl, sym, subst, ◌∙◌, ap, nat_lt, get_or}
use Rattle.std.specs.List.{All, position, position_or_len, slice_get}
use Rattle.std.specs.Option.{IfSome, option_map, option_map_or}
use Rattle.std.proofs.lemmas.Bool.{both_ways, cases_order, ltb-false, false≢true}
use Rattle.std.proofs.lemmas.List.Quantifiers.{position-Some}
use Rattle.std.proofs.lemmas.List.Sums.{fails_before_first}
use Rattle.std.proofs.lemmas.Option.{slice_get-get_or, get_or_from_slice_get, slice_get_within}
use Rattle.gw_rules.specs.Ask.{Ask}
use Rattle.gw_rules.specs.declared.rule.Rule.{Rule}
use Rattle.gw_rules.specs.Rule.{matches, Matches}
use Rattle.gw_rules.specs.RuleList.{first, allows, allows_at, IsFirst, IsNumberOf, Allows}
use Rattle.gw_rules.proofs.Matching.{matches_iff}

-- a number counted from 1 is one more than the place
counted : (o : Option ℕ) (number : ℕ) → option_map (λ place. place + 1) o ≡ Some number → (place : ℕ) × (o ≡ Some place) × (place + 1 ≡ number)
counted None number e = absurd (cc)
counted (Some place) number e = (place, refl, cc)

uncounted : (o : Option ℕ) → option_map (λ place. place + 1) o ≡ None → o ≡ None
uncounted None e = refl
uncounted (Some place) e = absurd (cc)

-- none is found past the places at which the test fails
none_below : {X : Type 0} (test : X → Bool) (xs : List X) → position test xs ≡ None → length xs ≤ position_or_len test xs
none_below test xs e =
    ltb-false (position_or_len test xs) (length xs) (cond_none (nat_lt (position_or_len test xs) (length xs)) (position_or_len test xs) e)
  where
    cond_none : (b : Bool) (n : ℕ) → cond b (Some n) None ≡ None → b ≡ false
    cond_none true n e = absurd (cc)
    cond_none false n e = refl

-- what a place that the search found says of a list with a first rule
found_at : (d : Rule) (rules : List Rule) (ask : Ask) (place number : ℕ) → position (λ rule. matches rule ask) rules ≡ Some place → place + 1 ≡ number → IsFirst rules ask number
found_at d rules ask place number e n =
    let at = position-Some (λ rule. matches rule ask) rules place d e in
    let before : number - 1 ≡ place = omega arith in
    record {
      rule = get_or rules place d;
      numbered = record { counted = omega arith; there = ap (slice_get rules) before ∙ slice_get-get_or rules place d at.0 };
      matching = (matches_iff (get_or rules place d) ask).0 at.1;
      least = λ lower other below has matching.
          let one : 1 ≤ lower = has.counted in
          let is : get_or rules (lower - 1) d ≡ other = get_or_from_slice_get rules (lower - 1) other d has.there in
          let fails : matches (get_or rules (lower - 1) d) ask ≡ false = at.2 (lower - 1) (omega arith) in
          both_ways (matches other ask) (sym (ap (λ rule. matches rule ask) is) ∙ fails) ((matches_iff other ask).1 matching);
    }

found : (rules : List Rule) (ask : Ask) (number : ℕ) → first rules ask ≡ Some number → IsFirst rules ask number
unfolding first
found [] ask number e = absurd (cc)
found (rule ∷ rules) ask number e =
    let at = counted (position (λ rule. matches rule ask) (rule ∷ rules)) number e in
    found_at rule (rule ∷ rules) ask at.0 number at.1 at.2

unmatched : (rules : List Rule) (ask : Ask) → first rules ask ≡ None → All (λ rule. ¬ Matches rule ask) rules
unfolding first
unmatched rules ask e k d within matching =
    let past = none_below (λ rule. matches rule ask) rules (uncounted (position (λ rule. matches rule ask) rules) e) in
    both_ways (matches (get_or rules k d) ask)
    (fails_before_first (λ rule. matches rule ask) rules k d (omega arith))
    ((matches_iff (get_or rules k d) ask).1 matching)

-- a list none of whose rules matches has no first matching rule
never_first : (rules : List Rule) (ask : Ask) (number : ℕ) → All (λ rule. ¬ Matches rule ask) rules → IsFirst rules ask number → ⊥
never_first rules ask number none is =
    let there = is.numbered.there in
    let same : get_or rules (number - 1) is.rule ≡ is.rule = get_or_from_slice_get rules (number - 1) is.rule is.rule there in
    let P : Rule → Type 0 = λ rule. ¬ Matches rule ask in
    subst P same (none (number - 1) is.rule (slice_get_within rules (number - 1) is.rule there)) is.matching

-- two numbers that are first are one
first_once : (rules : List Rule) (ask : Ask) (m n : ℕ) → IsFirst rules ask m → IsFirst rules ask n → m ≡ n
first_once rules ask m n a b =
    elim (cases_order m n) [
      | inl same ↦ same
      | inr apart ↦ elim apart [
        | inl below ↦ absurd (b.least m a.rule below a.numbered a.matching)
        | inr above ↦ absurd (a.least n b.rule above b.numbered b.matching)
      ]
    ]

-- `first` answers a number exactly if the rule of that number is the first that matches
pub first_iff : (rules : List Rule) (ask : Ask) (number : ℕ) → (first rules ask ≡ Some number) ↔ IsFirst rules ask number
first_iff rules ask number =
    (found rules ask number, λ is. only (first rules ask) refl is)
  where
    only : (answer : Option ℕ) → first rules ask ≡ answer → IsFirst rules ask number → answer ≡ Some number
    only None e is = absurd (never_first rules ask number (unmatched rules ask e) is)
    only (Some other) e is = ap (λ n. Some n) (first_once rules ask other number (found rules ask other e) is)

-- and none exactly if no rule matches
pub none_iff : (rules : List Rule) (ask : Ask) → (first rules ask ≡ None) ↔ All (λ rule. ¬ Matches rule ask) rules
none_iff rules ask =
    (unmatched rules ask, λ none. only (first rules ask) refl none)
  where
    only : (answer : Option ℕ) → first rules ask ≡ answer → All (λ rule. ¬ Matches rule ask) rules → answer ≡ None
    only None e none = refl
    only (Some other) e none = absurd (never_first rules ask other none (found rules ask other e))

-- a default of false is no true
some_true : (test : ℕ → Bool) (o : Option ℕ) → option_map_or test o false ≡ true → (number : ℕ) × (o ≡ Some number) × (test number ≡ true)
some_true test None t = absurd (false≢true t)
some_true test (Some number) t = (number, refl, t)

-- what the rule of a number says
says : (rules : List Rule) (number : ℕ) (rule : Rule) → slice_get rules (number - 1) ≡ Some rule → allows_at rules number ≡ rule.allow
says rules number rule there = ap (λ o. option_map_or (λ (rule : Rule). rule.allow) o false) there

-- the policy allows exactly what its first matching rule allows
pub allows_iff : (rules : List Rule) (ask : Ask) → (allows rules ask ≡ true) ↔ Allows rules ask
unfolding allows
allows_iff rules ask = (
  λ t.
      let by = some_true (allows_at rules) (first rules ask) t in
      let is = found rules ask by.0 by.1 in
      (by.0, is, sym (says rules by.0 is.rule is.numbered.there) ∙ by.2),
  λ a.
      ap (λ o. option_map_or (allows_at rules) o false) ((first_iff rules ask a.0).1 a.1)
      ∙ (says rules a.0 a.1.rule a.1.numbered.there ∙ a.2),
)

-- what `first` answers is the number of a rule
pub first_within : (rules : List Rule) (ask : Ask) → IfSome (first rules ask) (IsNumberOf rules)
first_within rules ask = at (first rules ask) refl
  where
    at : (answer : Option ℕ) → first rules ask ≡ answer → IfSome answer (IsNumberOf rules)
    at None e = tt
    at (Some number) e =
        let is = (first_iff rules ask number).0 e in
        let below = slice_get_within rules (number - 1) is.rule is.numbered.there in
        let counted : 1 ≤ number = is.numbered.counted in
        (counted, omega arith)
