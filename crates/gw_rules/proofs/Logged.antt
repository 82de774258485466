-- What is logged of what is denied.
use Rattle.std.proofs.Common.{◌≡◌, ℕ, ◌-◌, Bool, true, false, List, [], ◌∷◌, Option, Some, None, ◌↔◌, refl, sym, ◌∙◌, ap, filter, get_or, map, not, ◌&&◌}
use Rattle.std.specs.List.{slice_get}
use Rattle.std.specs.Option.{option_map_or}
use Rattle.std.proofs.lemmas.Bool.{and_from, and_parts}
use Rattle.std.proofs.lemmas.List.Sums.{AllPass-from_list_all}
use Rattle.std.proofs.lemmas.Option.{get_or_from_slice_get, slice_get_within}
use Rattle.std.proofs.Math.Bool.{and-true}
use Rattle.gw_rules.specs.Ask.{Ask}
use Rattle.gw_rules.specs.declared.rule.Rule.{Rule}
use Rattle.gw_rules.specs.Authorizer.{denied_of}
use Rattle.gw_rules.specs.RuleList.{Allows, IsFirst, allows, first, has_no_quiet, is_logged, is_quiet_at, is_quiet_by}
use Rattle.gw_rules.proofs.Denials.{refused_asks}
use Rattle.gw_rules.proofs.First.{allows_iff, first_iff}

not_true : (b : Bool) → not b ≡ true → b ≡ false
not_true true e = absurd (cc)
not_true false e = refl

not_false : (b : Bool) → b ≡ false → not b ≡ true
not_false true e = absurd (cc)
not_false false e = refl

no_true : (b : Bool) → ¬ (b ≡ true) → b ≡ false
no_true true h = absurd (h refl)
no_true false h = refl

-- whether the rule of a number is quiet
quiet_is : (rules : List Rule) (number : ℕ) (rule : Rule) → slice_get rules (number - 1) ≡ Some rule → is_quiet_at rules number ≡ rule.quiet
quiet_is rules number rule there = ap (λ o. option_map_or (λ (rule : Rule). rule.quiet) o false) there

-- what denies isn't quiet exactly if the first rule, where there is one, isn't
quiet_by : (rules : List Rule) (ask : Ask) → is_quiet_by rules (first rules ask) ≡ false → (number : ℕ) (is : IsFirst rules ask number) → is.rule.quiet ≡ false
quiet_by rules ask e number is =
    sym (quiet_is rules number is.rule is.numbered.there)
    ∙ (sym (ap (is_quiet_by rules) ((first_iff rules ask number).1 is)) ∙ e)

quiet_of : (rules : List Rule) (ask : Ask) (by : Option ℕ) → first rules ask ≡ by → ((number : ℕ) (is : IsFirst rules ask number) → is.rule.quiet ≡ false) → is_quiet_by rules by ≡ false
quiet_of rules ask None e none = refl
quiet_of rules ask (Some number) e none =
    let is = (first_iff rules ask number).0 e in
    quiet_is rules number is.rule is.numbered.there ∙ none number is

-- an ask is logged exactly if it isn't allowed and its first rule isn't quiet
pub logged_iff : (rules : List Rule) (ask : Ask) → (is_logged rules ask ≡ true) ↔ ((¬ Allows rules ask) × ((number : ℕ) (is : IsFirst rules ask number) → is.rule.quiet ≡ false))
logged_iff rules ask = (
  λ t.
      let parts = and_parts (not (allows rules ask)) (not (is_quiet_by rules (first rules ask))) t in
      let denied : allows rules ask ≡ false = not_true (allows rules ask) parts.0 in (
        λ a. let allowed : allows rules ask ≡ true = (allows_iff rules ask).1 a in absurd (cc),
        quiet_by rules ask (not_true (is_quiet_by rules (first rules ask)) parts.1),
      ),
  λ h.
      and_from (not (allows rules ask)) (not (is_quiet_by rules (first rules ask)))
      (not_false (allows rules ask) (no_true (allows rules ask) (λ t. h.0 ((allows_iff rules ask).0 t))))
      (not_false (is_quiet_by rules (first rules ask)) (quiet_of rules ask (first rules ask) refl h.1)),
)

-- where no rule is quiet, none denies quietly
none_at : (rules : List Rule) (k : ℕ) (o : Option Rule) → slice_get rules k ≡ o → has_no_quiet rules ≡ true → option_map_or (λ (rule : Rule). rule.quiet) o false ≡ false
none_at rules k None e none = refl
none_at rules k (Some rule) e none =
    let passes : not (get_or rules k rule).quiet ≡ true = AllPass-from_list_all (λ (rule : Rule). not rule.quiet) rules none k rule (slice_get_within rules k rule e) in
    sym (ap (λ (rule : Rule). rule.quiet) (get_or_from_slice_get rules k rule rule e)) ∙ not_true (get_or rules k rule).quiet passes

none_by : (rules : List Rule) (by : Option ℕ) → has_no_quiet rules ≡ true → is_quiet_by rules by ≡ false
none_by rules None none = refl
none_by rules (Some number) none = none_at rules (number - 1) (slice_get rules (number - 1)) refl none

-- and all that isn't allowed is logged
pub all_logged : (rules : List Rule) (ask : Ask) → has_no_quiet rules ≡ true → is_logged rules ask ≡ not (allows rules ask)
all_logged rules ask none =
    ap (λ quiet. not (allows rules ask) && not quiet) (none_by rules (first rules ask) none) ∙ and-true (not (allows rules ask))

filter_alike : {X : Type 0} (test other : X → Bool) → ((x : X) → test x ≡ other x) → (xs : List X) → filter test xs ≡ filter other xs
filter_alike test other same [] = refl
filter_alike test other same (x ∷ xs) = rw (same x, filter_alike test other same xs) refl

pub refused_all : (rules : List Rule) (asks : List Ask) → has_no_quiet rules ≡ true → map (λ r. r.ask) (denied_of rules asks) ≡ filter (λ ask. not (allows rules ask)) asks
refused_all rules asks none =
    refused_asks rules asks
    ∙ filter_alike (is_logged rules) (λ ask. not (allows rules ask)) (λ ask. all_logged rules ask none) asks
