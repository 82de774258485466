-- What a policy decides and denies, said of its asks.
use Rattle.std.proofs.Common.{◌≡◌, Bool, true, false, List, [], ◌∷◌, ◌++◌, Option, ◌↔◌, refl, ◌∙◌, ap, map, filter}
use Rattle.std.specs.Prelude.{ℕ, if◌then◌else◌}
use Rattle.std.proofs.lemmas.List.{map-append}
use Rattle.std.proofs.lemmas.List.Elements.{filter-append}
use Rattle.gw_rules.specs.declared.decision.Decision.TheVariants.{Allow, Deny}
use Rattle.gw_rules.specs.declared.rule.Rule.{Rule}
use Rattle.gw_rules.specs.Ask.{Ask}
use Rattle.gw_rules.specs.Authorizer.{denied_of, refusal}
use Rattle.gw_rules.specs.RuleList.{Allows, allows, decide, first, is_logged}
use Rattle.gw_rules.proofs.First.{allows_iff}

allow_is : (b : Bool) (by : Option ℕ) → ((if b then Allow else Deny by) ≡ Allow) ↔ (b ≡ true)
allow_is true by = (λ e. refl, λ e. refl)
allow_is false by = (λ e. absurd (cc), λ e. absurd (cc))

deny_is : (b : Bool) (by other : Option ℕ) → ((if b then Allow else Deny by) ≡ Deny other) ↔ ((b ≡ false) × (by ≡ other))
deny_is true by other = (λ e. absurd (cc), λ e. absurd (cc))
deny_is false by other = (λ e. (refl, cc), λ e. ap (λ o. Deny o) e.1)

-- allowed is exactly what the first rule that matches allows
pub decide_allow_iff : (rules : List Rule) (ask : Ask) → (decide rules ask ≡ Allow) ↔ Allows rules ask
decide_allow_iff rules ask =
    let is = allow_is (allows rules ask) (first rules ask) in
    let so = allows_iff rules ask in
    (λ e. so.0 (is.0 e), λ a. is.1 (so.1 a))

-- and all else is denied, by the first rule or by none
pub decide_deny_iff : (rules : List Rule) (ask : Ask) (by : Option ℕ) → (decide rules ask ≡ Deny by) ↔ ((¬ Allows rules ask) × (first rules ask ≡ by))
decide_deny_iff rules ask by =
    let is = deny_is (allows rules ask) (first rules ask) by in
    let so = allows_iff rules ask in (
      λ e. let parts = is.0 e in (λ a. true_no_false (allows rules ask) (so.1 a) parts.0, parts.1),
      λ h. is.1 (no_true (allows rules ask) (λ t. h.0 (so.0 t)), h.1),
    )
  where
    true_no_false : (b : Bool) → b ≡ true → b ≡ false → ⊥
    true_no_false b t f = cc

    no_true : (b : Bool) → ¬ (b ≡ true) → b ≡ false
    no_true true h = absurd (h refl)
    no_true false h = refl

map_again : (rules : List Rule) (asks : List Ask) → map (λ r. r.ask) (map (refusal rules) asks) ≡ asks
map_again rules [] = refl
map_again rules (ask ∷ asks) = ap (λ rest. ask ∷ rest) (map_again rules asks)

-- the refusals are the asks that are logged
pub refused_asks : (rules : List Rule) (asks : List Ask) → map (λ r. r.ask) (denied_of rules asks) ≡ filter (is_logged rules) asks
refused_asks rules asks = map_again rules (filter (is_logged rules) asks)

-- each by the first rule that matches it, or by none
pub refused_by : (rules : List Rule) (asks : List Ask) → map (λ r. r.by) (denied_of rules asks) ≡ map (λ r. first rules r.ask) (denied_of rules asks)
refused_by rules asks = go (filter (is_logged rules) asks)
  where
    go : (asks : List Ask) → map (λ r. r.by) (map (refusal rules) asks) ≡ map (λ r. first rules r.ask) (map (refusal rules) asks)
    go [] = refl
    go (ask ∷ asks) = ap (λ rest. first rules ask ∷ rest) (go asks)

-- asks that are put one after the other are refused one after the other
pub denied_of-append : (rules : List Rule) (xs ys : List Ask) → denied_of rules (xs ++ ys) ≡ denied_of rules xs ++ denied_of rules ys
denied_of-append rules xs ys =
    ap (map (refusal rules)) (filter-append (is_logged rules) xs ys)
    ∙ map-append (refusal rules) (filter (is_logged rules) xs) (filter (is_logged rules) ys)
