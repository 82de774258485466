-- What the first rule that matches says is what the policy allows.
use Rattle.std.proofs.Common.{◌≡◌, ◌∙◌, sym, ap, refl, ℕ, suc, ◌+◌, ◌-◌, Bool, true, false, cond, List, [], ◌∷◌, Option, Some, None, arith}
use Rattle.std.specs.Prelude.{if◌then◌else◌, slice_get}
use Rattle.std.specs.List.{position, position_from}
use Rattle.std.specs.Option.{option_map, option_map_or}
use Rattle.std.proofs.lemmas.Iterator.Adapters.{position_from-zero}
use Rattle.gw_rules.specs.Ask.{Ask}
use Rattle.gw_rules.specs.Rule.{matches}
use Rattle.gw_rules.specs.RuleList.{allows, allows_at, first}
use Rattle.gw_rules.specs.declared.rule.Rule.{Rule}
use Rattle.gw_ask_sets.specs.regions.Deciding.{decided}

later : {A : Type 0} (test : A → Bool) (i : ℕ) (xs : List A) → position_from test (i + 1) xs ≡ option_map (λ n. n + 1) (position_from test i xs)
later test i [] = refl
later test i (x ∷ xs) = by (later test (i + 1) xs) (test x)
  where
    by : position_from test (i + 1 + 1) xs ≡ option_map (λ n. n + 1) (position_from test (i + 1) xs)
        → (b : Bool) → cond b (Some (i + 1)) (position_from test (i + 1 + 1) xs) ≡ option_map (λ n. n + 1) (cond b (Some i) (position_from test (i + 1) xs))
    by e true = refl
    by e false = e

-- the number of the first one, where one is in front
first_number : {A : Type 0} (test : A → Bool) (x : A) (xs : List A)
    → position test (x ∷ xs) ≡ cond (test x) (Some 0) (option_map (λ n. n + 1) (position test xs))
first_number test x xs =
    position_from-zero test (x ∷ xs)
    ∙ ap (cond (test x) (Some 0)) (later test 0 xs ∙ ap (option_map (λ n. n + 1)) (sym (position_from-zero test xs)))

one_more : (rule : Rule) (rules : List Rule) (o : Option ℕ)
    → option_map_or (allows_at (rule ∷ rules)) (option_map (λ n. n + 1) (option_map (λ n. n + 1) o)) false
    ≡ option_map_or (allows_at rules) (option_map (λ n. n + 1) o) false
one_more rule rules None = refl
one_more rule rules (Some k) =
    let one : k + 1 + 1 - 1 ≡ suc (k + 1 - 1) = omega arith in
    ap (λ n. option_map_or (λ (r : Rule). r.allow) (slice_get (rule ∷ rules) n) false) one

pub decided_allows : (rules : List Rule) (ask : Ask) → decided rules false ask ≡ allows rules ask
unfolding allows first
decided_allows [] ask = refl
decided_allows (rule ∷ rules) ask =
    by (decided_allows rules ask) (matches rule ask)
    ∙ sym (ap (λ o. option_map_or (allows_at (rule ∷ rules)) (option_map (λ n. n + 1) o) false) (first_number (λ r. matches r ask) rule rules))
  where
    by : decided rules false ask ≡ option_map_or (allows_at rules) (option_map (λ n. n + 1) (position (λ r. matches r ask) rules)) false
        → (b : Bool) → (if b then rule.allow else decided rules false ask)
        ≡ option_map_or (allows_at (rule ∷ rules)) (option_map (λ n. n + 1) (cond b (Some 0) (option_map (λ n. n + 1) (position (λ r. matches r ask) rules)))) false
    by e true = refl
    by e false = e ∙ sym (one_more rule rules (position (λ r. matches r ask) rules))
