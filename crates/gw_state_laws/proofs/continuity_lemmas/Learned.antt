-- The learned routes are taken over.
use Rattle.std.proofs.Common.{◌≡◌, ◌∙◌, sym, ap, refl, subst, ℕ, ◌+◌, ◌<◌, ◌≤◌, arith, Bool, true, false, not, ◌||◌, List, [], ◌∷◌, ◌++◌, length, map, nat_eq, nat_lt, if◌then◌else◌, append_assoc, IsFalse}
use Rattle.std.specs.Prelude.{filter_map}
use Rattle.std.specs.List.{AllByRecursion, IsDistinct, cons_option}
use Rattle.std.specs.Map.{keys_of}
use Rattle.std.specs.Option.{option_map}
use Rattle.std.specs.Cmp.{nat_eq_equiv}
use Rattle.std.proofs.lemmas.Bool.{and_from, lt-ltb}
use Rattle.std.proofs.lemmas.Map.Keys.{IsDistinct-head, IsDistinct-tail}
use Rattle.indexmap.specs.IndexMap.{insert_entry}
use Rattle.gw_configuration.specs.Duplicates.{has_twice}
use Rattle.gw_configuration.specs.declared.port.Port.{Port as ConfiguredPort}
use Rattle.gw_relay.specs.declared.port.PortState.{PortState}
use Rattle.gw_tables.specs.declared.routes.route.Route.{Route}
use Rattle.gw_tables.specs.routes.Table.{Routed, grants, has_room, is_fixed, is_learned, route_by, routes_held, table_of, with_learned}
use Rattle.gw_tables.specs.routes.Table.{learned_by}
use Rattle.gw_state.specs.Carried.{route_from}
use Rattle.gw_state_laws.specs.continuity.StateOf.{AreBy, AreStatesOf}
use Rattle.gw_state_laws.proofs.continuity_lemmas.PortStates.{number_back, ports_saved}

-- ---- by the same ports

pub routes_stay : (since : ℕ) (ports : List ConfiguredPort) (states : List PortState) (routes : Routed)
    → AreStatesOf since 1 ports states → has_twice nat_eq (map (λ p. p.network) ports) ≡ false → AreBy (length ports) routes
    → filter_map (route_from ports (ports_saved ports states)) routes ≡ routes
routes_stay since ports states [] are once by = refl
routes_stay since ports states (learned ∷ routes) are once by =
    λ j. cons_option
    (option_map (λ number. (learned.0, route_by number learned.1.next))
    (number_back since ports states learned.1.port are once by.0.0 by.0.1 j))
    (routes_stay since ports states routes are once by.1 j)

-- ---- learned again

-- a network that is new goes last
appended : (routes : Routed) (net : ℕ) (route : Route) → AllByRecursion (λ key. nat_eq key net ≡ false) (keys_of routes)
    → insert_entry nat_eq routes net route ≡ routes ++ (net, route) ∷ []
appended [] net route apart = refl
appended (e ∷ es) net route apart =
    ap (λ b. if b then (e.0, route) ∷ es else e ∷ insert_entry nat_eq es net route) (nat_eq_equiv.symm net e.0 ∙ apart.0)
    ∙ ap (λ rest. e ∷ rest) (appended es net route apart.1)

-- the head of a list after others is none of them
before_it : (before : Routed) (e : ℕ × Route) (later : Routed) → IsDistinct nat_eq (keys_of (before ++ e ∷ later))
    → AllByRecursion (λ key. nat_eq key e.0 ≡ false) (keys_of before)
before_it [] e later once = tt
before_it (x ∷ before) e later once = (
  at before (IsDistinct-head nat_eq x.0 (keys_of (before ++ e ∷ later)) once),
  before_it before e later (IsDistinct-tail nat_eq x.0 (keys_of (before ++ e ∷ later)) once),
)
  where
    at : (more : Routed) → AllByRecursion (λ key. nat_eq x.0 key ≡ false) (keys_of (more ++ e ∷ later)) → nat_eq x.0 e.0 ≡ false
    at [] all = all.0
    at (y ∷ more) all = at more all.1

length_split : (before : Routed) (e : ℕ × Route) (later : Routed) → length (before ++ e ∷ later) ≡ length before + (1 + length later)
length_split [] e later = omega arith
length_split (x ∷ before) e later = omega (arith, length_split before e later)

or_true : (b c : Bool) → c ≡ true → b || c ≡ true
or_true true c e = refl
or_true false c e = e

granted : (direct : List ℕ) (configured before : Routed) (e : ℕ × Route) → is_fixed (table_of direct configured before) e.0 ≡ false
    → length configured + length before < 512 → grants (table_of direct configured before) e.0 ≡ true
granted direct configured before e free room =
    let t = table_of direct configured before in
    and_from (not (is_fixed t e.0)) (has_room t e.0) (ap not free)
    (or_true (is_learned t e.0) (nat_lt (routes_held t) 512) (lt-ltb (length configured + length before) 512 room))

pub learned_back : (direct : List ℕ) (configured before later : Routed)
    → AllByRecursion (λ learned. IsFalse (is_fixed (table_of direct configured []) learned.0)) later
    → IsDistinct nat_eq (keys_of (before ++ later)) → length configured + length (before ++ later) ≤ 512
    → learned_by (table_of direct configured before) later ≡ table_of direct configured (before ++ later)
learned_back direct configured before [] free once few = ap (table_of direct configured) (sym (append-nil before))
  where
    append-nil : (xs : Routed) → xs ++ [] ≡ xs
    append-nil [] = refl
    append-nil (x ∷ xs) = ap (λ rest. x ∷ rest) (append-nil xs)
learned_back direct configured before (e ∷ later) free once few =
    let t = table_of direct configured before in
    let room = length_split before e later in
    let grant : grants t e.0 ≡ true = granted direct configured before e free.0 (omega (arith, few, room)) in
    let split = append_assoc before (e ∷ []) later in
    ap (λ b. learned_by (if b then with_learned t e.0 e.1 else t) later) grant
    ∙ ap (λ learned. learned_by (table_of direct configured learned) later) (appended before e.0 e.1 (before_it before e later once))
    ∙ learned_back direct configured (before ++ e ∷ []) later free.1
    (subst (λ (all : Routed). IsDistinct nat_eq (keys_of all)) (sym split) once)
    (subst (λ (all : Routed). length configured + length all ≤ 512) (sym split) few)
    ∙ ap (table_of direct configured) split
