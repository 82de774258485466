-- What holds of each ask of two lists, and of both joined.
use Rattle.std.proofs.Common.{◌≡◌, false, List, [], ◌∷◌, ◌++◌}
use Rattle.std.specs.List.{AllByRecursion}
use Rattle.gw_rules.specs.Allowed.{NoneAllowed}
use Rattle.gw_rules.specs.Ask.{Ask}
use Rattle.gw_rules.specs.declared.rule.Rule.{Rule}
use Rattle.gw_rules.specs.RuleList.{allows}

pub each_both : {X : Type 0} (P : X → Type 0) (xs ys : List X) → AllByRecursion P xs → AllByRecursion P ys → AllByRecursion P (xs ++ ys)
each_both P [] ys f g = g
each_both P (x ∷ xs) ys f g = (f.0, each_both P xs ys f.1 g)

pub each_front : {X : Type 0} (P : X → Type 0) (xs ys : List X) → AllByRecursion P (xs ++ ys) → AllByRecursion P xs
each_front P [] ys h = tt
each_front P (x ∷ xs) ys h = (h.0, each_front P xs ys h.1)

pub each_rest : {X : Type 0} (P : X → Type 0) (xs ys : List X) → AllByRecursion P (xs ++ ys) → AllByRecursion P ys
each_rest P [] ys h = h
each_rest P (x ∷ xs) ys h = each_rest P xs ys h.1

pub each_weaker : {X : Type 0} (P Q : X → Type 0) → ((x : X) → P x → Q x) → (xs : List X) → AllByRecursion P xs → AllByRecursion Q xs
each_weaker P Q so [] h = tt
each_weaker P Q so (x ∷ xs) h = (so x h.0, each_weaker P Q so xs h.1)

-- if no ask is such, none that is such is allowed
pub none_allowed : (Such : Ask → Type 0) (rules : List Rule) (asks : List Ask) → AllByRecursion (λ ask. Such ask → ⊥) asks → NoneAllowed Such rules asks
none_allowed Such rules asks h = each_weaker (λ ask. Such ask → ⊥) _ (λ ask no_such such. absurd (no_such such)) asks h

pub none_front : (Such : Ask → Type 0) (rules : List Rule) (xs ys : List Ask) → NoneAllowed Such rules (xs ++ ys) → NoneAllowed Such rules xs
none_front Such rules xs ys h = each_front (λ ask. Such ask → allows rules ask ≡ false) xs ys h

pub none_rest : (Such : Ask → Type 0) (rules : List Rule) (xs ys : List Ask) → NoneAllowed Such rules (xs ++ ys) → NoneAllowed Such rules ys
none_rest Such rules xs ys h = each_rest (λ ask. Such ask → allows rules ask ≡ false) xs ys h

pub none_both : (Such : Ask → Type 0) (rules : List Rule) (xs ys : List Ask) → NoneAllowed Such rules xs → NoneAllowed Such rules ys → NoneAllowed Such rules (xs ++ ys)
none_both Such rules xs ys f g = each_both (λ ask. Such ask → allows rules ask ≡ false) xs ys f g
