-- What is said of routes is so.
use Rattle.std.proofs.Common.{◌≡◌, ◌∙◌, refl, sym, ap, ap₂, ℕ, Bool, true, false, nat_eq, List, [], ◌∷◌, Option, Some, None}
use Rattle.std.specs.Prelude.{◌↔◌, find, if◌then◌else◌}
use Rattle.std.specs.Cmp.{nat_eq_equiv}
use Rattle.std.specs.Option.{option_map_or}
use Rattle.std.proofs.lemmas.Bool.{and_from, and_parts, eqb-true}
use Rattle.gw_tables.proofs.bdt_fdt_lemmas.Same.{equal_of, own}
use Rattle.gw_tables.specs.bdt_fdt.Registrations.{same as same_address}
use Rattle.gw_configuration.specs.Configuration.{Configuration}
use Rattle.gw_tables.specs.declared.routes.route.Route.{Route}
use Rattle.gw_tables.specs.routes.Table.{Routed, route_by}
use Rattle.gw_state_words.specs.declared.takeover.finding.RouteFate.TheVariants as routes
use Rattle.gw_state_words.specs.takeover.Findings.{fate_beside, is_own, is_routed, is_same_route, refusal, route_fate, routes_kept}
use Rattle.gw_state_words.specs.takeover.Laws.{RoutesAreAsSaid}

inside : {A : Type 0} (x y : A) → Some x ≡ Some y → x ≡ y
inside {A} x y e = ap (λ (o : Option A). option_map_or (λ z. z) o x) e

-- what is found passes
passes : {A : Type 0} (test : A → Bool) (xs : List A) (y : A) → find test xs ≡ Some y → test y ≡ true
passes test [] y e = absurd cc
passes test (x ∷ xs) y e = by (test x) refl e (passes test xs y)
  where
    by : (b : Bool) → test x ≡ b → (if b then Some x else find test xs) ≡ Some y → (find test xs ≡ Some y → test y ≡ true)
        → test y ≡ true
    by true is f later = ap test (sym (inside x y f)) ∙ is
    by false is f later = later f

refused : (own routed : Bool)
    → (if own then routes.Own else if routed then routes.Configured else routes.Full) ≡ routes.TakenOver → ⊥
refused true routed e = absurd cc
refused false true e = absurd cc
refused false false e = absurd cc

same_route : (a b : Route) → is_same_route a b ≡ true → a ≡ b
same_route a b e =
    let parts = and_parts (nat_eq a.port b.port) (same_address a.next b.next) e in
    ap₂ route_by (eqb-true a.port b.port parts.0) (equal_of a.next b.next parts.1)

is_itself : (a : Route) → is_same_route a a ≡ true
is_itself a = and_from (nat_eq a.port a.port) (same_address a.next a.next) (nat_eq_equiv.refl a.port) (own a.next)

beside : (route kept : ℕ × Route) → route.0 ≡ kept.0 → fate_beside route.1 kept ≡ routes.TakenOver ↔ (Some kept ≡ Some route)
beside route kept same = (by (is_same_route kept.1 route.1) refl, back)
  where
    by : (b : Bool) → is_same_route kept.1 route.1 ≡ b → (if b then routes.TakenOver else routes.Replaced) ≡ routes.TakenOver
        → Some kept ≡ Some route
    by true e f = ap₂ (λ (n : ℕ) (r : Route). Some (n, r)) (sym same) (same_route kept.1 route.1 e)
    by false e f = absurd cc

    back : Some kept ≡ Some route → fate_beside route.1 kept ≡ routes.TakenOver
    back f =
        ap (λ (k : ℕ × Route). fate_beside route.1 k) (inside kept route f)
        ∙ ap (λ (b : Bool). if b then routes.TakenOver else routes.Replaced) (is_itself route.1)

pub as_said : (c : Configuration) (kept : Routed) (route : ℕ × Route)
    → route_fate c kept route ≡ routes.TakenOver ↔ (find (λ e. nat_eq route.0 e.0) kept ≡ Some route)
as_said c kept route = by (find (λ e. nat_eq route.0 e.0) kept) refl
  where
    by : (o : Option (ℕ × Route)) → find (λ e. nat_eq route.0 e.0) kept ≡ o
        → option_map_or (fate_beside route.1) o (refusal c route.0) ≡ routes.TakenOver ↔ (o ≡ Some route)
    by None e = (λ f. absurd (refused (is_own c route.0) (is_routed c route.0) f), λ f. absurd cc)
    by (Some k) e = beside route k (eqb-true route.0 k.0 (passes (λ e. nat_eq route.0 e.0) kept k e))

pub routes_are_as_said : RoutesAreAsSaid
routes_are_as_said c s route = as_said c (routes_kept c s) route
