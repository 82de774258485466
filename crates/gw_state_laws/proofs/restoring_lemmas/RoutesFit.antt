-- The routes that are saved fit their text.
use Rattle.std.proofs.Common.{◌≡◌, ◌∙◌, sym, ap, refl, ℕ, ◌≤◌, Bool, false, ◌||◌, List, [], ◌∷◌, length}
use Rattle.std.specs.Prelude.{nat_eq}
use Rattle.std.specs.Cmp.{nat_eq_equiv}
use Rattle.std.specs.List.{AllByRecursion, IsDistinct, list_any}
use Rattle.std.specs.Map.{keys_of}
use Rattle.std.proofs.lemmas.Map.Keys.{IsDistinct-head, IsDistinct-tail}
use Rattle.gw_tables.specs.declared.routes.route.Route.{Route}
use Rattle.gw_tables.specs.routes.Table.{Routed}
use Rattle.gw_state_text.specs.Fit.{FitsRoutes, IsRoute, is_to}
use Rattle.gw_state_text.specs.Items.{AreItems}
use Rattle.gw_state_laws.specs.continuity.StateOf.{AreBy}
use Rattle.gw_state_laws.proofs.restoring_lemmas.Once.{Once, all_fit, apart_first, both}

-- two routes go to one network
abbrev pub one_route : ℕ × Route → ℕ × Route → Bool
one_route a b = is_to a.0 b

none_to : (n : ℕ) (routes : Routed) → AllByRecursion (λ other. nat_eq n other ≡ false) (keys_of routes)
    → list_any (is_to n) routes ≡ false
none_to n [] apart = refl
none_to n (r ∷ routes) apart = rw (apart.0, none_to n routes apart.1) refl

routes_once : (routes : Routed) → IsDistinct nat_eq (keys_of routes) → Once one_route routes
routes_once [] once = tt
routes_once (r ∷ routes) once = (
  none_to r.0 routes (IsDistinct-head nat_eq r.0 (keys_of routes) once),
  routes_once routes (IsDistinct-tail nat_eq r.0 (keys_of routes) once),
)

-- by one of so many ports
abbrev IsBy : ℕ → ℕ × Route → Type 0
IsBy ports learned = (1 ≤ learned.1.port) × (learned.1.port ≤ ports)

pub routes_fit : (ports : ℕ) (routes : Routed) → AreBy ports routes → IsDistinct nat_eq (keys_of routes)
    → length routes ≤ 512 → AllByRecursion IsRoute routes → AreItems (FitsRoutes ports) 512 routes
routes_fit ports routes by once few each = record {
  few = few;
  fit =
      all_fit one_route (λ a b. nat_eq_equiv.symm a.0 b.0) (FitsRoutes ports) (λ r. IsRoute r × IsBy ports r)
      (λ before r is none. record { is = is.0; low = is.1.0; high = is.1.1; once = none }) [] routes
      (both IsRoute (IsBy ports) routes each by) (routes_once routes once) (apart_first one_route routes);
}
