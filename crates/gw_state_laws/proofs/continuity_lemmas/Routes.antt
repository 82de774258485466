-- A table of routes stays one of its ports, whatever is learned.
use Rattle.std.proofs.Common.{◌≡◌, sym, ap, refl, subst, ℕ, ◌+◌, ◌≤◌, arith, Bool, true, false, true≢false, not, ◌||◌, List, [], ◌∷◌, ◌++◌, length, nat_eq, nat_lt, if◌then◌else◌, Option, Some, None, IsFalse}
use Rattle.std.specs.Prelude.{filter_map, IfSome}
use Rattle.std.specs.List.{AllByRecursion, IsDistinct, cons_option, list_any}
use Rattle.std.specs.Map.{keys_of}
use Rattle.std.specs.Option.{option_and_then, option_map}
use Rattle.std.specs.Cmp.{nat_eq_equiv}
use Rattle.std.proofs.lemmas.Bool.{and_parts, ltb-true}
use Rattle.std.proofs.lemmas.Map.Keys.{IsDistinct-push}
use Rattle.indexmap.specs.IndexMap.{insert_entry}
use Rattle.gw_configuration.specs.declared.port.Port.{Port as ConfiguredPort}
use Rattle.gw_tables.specs.declared.routes.route.Route.{Route}
use Rattle.gw_tables.specs.declared.routes.routes.TheConstants.{MAX_ROUTES}
use Rattle.gw_tables.specs.routes.Table.{Routed, Table, grants, has_room, is_fixed, is_learned, route_by, routes_held, table_of, with_each, with_granted, with_learned}
use Rattle.gw_tables.proofs.routes_lemmas.Room.{length-insert_entry}
use Rattle.gw_tables.specs.routes.Table.{learned_by}
use Rattle.gw_state.specs.Carried.{is_port, number_now, port_then, route_from}
use Rattle.gw_state.specs.declared.port.SavedPort.{SavedPort}
use Rattle.gw_state_laws.specs.continuity.StateOf.{AreBy, IsTableOf}

-- ---- one route more

by_insert : (ports : ℕ) (es : Routed) (n : ℕ) (r : Route) → 1 ≤ r.port → r.port ≤ ports → AreBy ports es → AreBy ports (insert_entry nat_eq es n r)
by_insert ports [] n r some most each = ((some, most), tt)
by_insert ports (e ∷ es) n r some most each = by (nat_eq n e.0) (by_insert ports es n r some most each.1)
  where
    by : (b : Bool) → AreBy ports (insert_entry nat_eq es n r) → AreBy ports (if b then (e.0, r) ∷ es else e ∷ insert_entry nat_eq es n r)
    by true rest = ((some, most), each.1)
    by false rest = (each.0, rest)

abbrev AreFree : (ℕ → Bool) → Routed → Type 0
AreFree p es = AllByRecursion (λ learned. IsFalse (p learned.0)) es

free_insert : (p : ℕ → Bool) (es : Routed) (n : ℕ) (r : Route) → p n ≡ false → AreFree p es → AreFree p (insert_entry nat_eq es n r)
free_insert p [] n r free each = (free, tt)
free_insert p (e ∷ es) n r free each = by (nat_eq n e.0) (free_insert p es n r free each.1)
  where
    by : (b : Bool) → AreFree p (insert_entry nat_eq es n r) → AreFree p (if b then (e.0, r) ∷ es else e ∷ insert_entry nat_eq es n r)
    by true rest = (each.0, each.1)
    by false rest = (each.0, rest)

abbrev with_key : List ℕ → ℕ → List ℕ
with_key keys n = if list_any (nat_eq n) keys then keys else keys ++ n ∷ []

keys_insert : (es : Routed) (n : ℕ) (r : Route) → keys_of (insert_entry nat_eq es n r) ≡ with_key (keys_of es) n
keys_insert [] n r = refl
keys_insert (e ∷ es) n r = by (nat_eq n e.0) (list_any (nat_eq n) (keys_of es)) (keys_insert es n r)
  where
    by : (b c : Bool) → keys_of (insert_entry nat_eq es n r) ≡ (if c then keys_of es else keys_of es ++ n ∷ [])
        → keys_of (if b then (e.0, r) ∷ es else e ∷ insert_entry nat_eq es n r) ≡ (if b || c then e.0 ∷ keys_of es else (e.0 ∷ keys_of es) ++ n ∷ [])
    by true c ih = refl
    by false true ih = ap (λ ks. e.0 ∷ ks) ih
    by false false ih = ap (λ ks. e.0 ∷ ks) ih

once_insert : (es : Routed) (n : ℕ) (r : Route) → IsDistinct nat_eq (keys_of es) → IsDistinct nat_eq (keys_of (insert_entry nat_eq es n r))
once_insert es n r once = subst (IsDistinct nat_eq) (sym (keys_insert es n r)) (by (list_any (nat_eq n) (keys_of es)) refl)
  where
    by : (b : Bool) → list_any (nat_eq n) (keys_of es) ≡ b → IsDistinct nat_eq (if b then keys_of es else keys_of es ++ n ∷ [])
    by true e = once
    by false e = IsDistinct-push nat_eq_equiv (keys_of es) n once e

few_insert : (t : Table) (n : ℕ) (r : Route) → has_room t n ≡ true → routes_held t ≤ 512 → routes_held (with_learned t n r) ≤ 512
few_insert t n r room few = by (is_learned t n) room (length-insert_entry t.learned n r)
  where
    by : (b : Bool) → b || nat_lt (routes_held t) MAX_ROUTES ≡ true
        → length (insert_entry nat_eq t.learned n r) ≡ length t.learned + (if b then 0 else 1)
        → routes_held (with_learned t n r) ≤ 512
    by true e len = omega (arith, len, few)
    by false e len = let lt = ltb-true (routes_held t) MAX_ROUTES e in omega (arith, len, lt)

not_true : (b : Bool) → not b ≡ true → b ≡ false
not_true true e = absurd (true≢false (sym e))
not_true false e = refl

granted_stays : (ports : ℕ) (direct : List ℕ) (configured : Routed) (t : Table) (n : ℕ) (r : Route) → 1 ≤ r.port → r.port ≤ ports
    → IsTableOf ports direct configured t → IsTableOf ports direct configured (with_granted t n r)
granted_stays ports direct configured t n r some most is = by (grants t n) refl
  where
    by : (b : Bool) → grants t n ≡ b → IsTableOf ports direct configured (if b then with_learned t n r else t)
    by false e = is
    by true e =
        let parts = and_parts (not (is_fixed t n)) (has_room t n) e in
        record {
          direct = is.direct;
          configured = is.configured;
          by = by_insert ports t.learned n r some most is.by;
          free = free_insert (is_fixed t) t.learned n r (not_true (is_fixed t n) parts.0) is.free;
          once = once_insert t.learned n r is.once;
          few = few_insert t n r parts.1 is.few;
        }

-- ---- many routes more

-- networks by one route
pub each_stays : (ports : ℕ) (direct : List ℕ) (configured : Routed) (nets : List ℕ) (t : Table) (r : Route) → 1 ≤ r.port → r.port ≤ ports
    → IsTableOf ports direct configured t → IsTableOf ports direct configured (with_each t nets r)
each_stays ports direct configured [] t r some most is = is
each_stays ports direct configured (n ∷ nets) t r some most is =
    each_stays ports direct configured nets (with_granted t n r) r some most (granted_stays ports direct configured t n r some most is)

-- networks, each by its own route
pub learned_stays : (ports : ℕ) (direct : List ℕ) (configured routes : Routed) (t : Table) → AreBy ports routes
    → IsTableOf ports direct configured t → IsTableOf ports direct configured (learned_by t routes)
learned_stays ports direct configured [] t by is = is
learned_stays ports direct configured (learned ∷ routes) t by is =
    learned_stays ports direct configured routes (with_granted t learned.0 learned.1) by.1
    (granted_stays ports direct configured t learned.0 learned.1 by.0.0 by.0.1 is)

-- no route is learned yet
pub none_learned : (ports : ℕ) (direct : List ℕ) (configured : Routed) → length configured ≤ 512
    → IsTableOf ports direct configured (table_of direct configured [])
unfolding IsDistinct
none_learned ports direct configured few = record { direct = refl; configured = refl; by = tt; free = tt; once = tt; few = omega (arith, few) }

-- ---- whatever was saved, its routes are by these ports

abbrev IsWithin : ℕ → Option ℕ → Type 0
IsWithin most number = IfSome number (λ n. (1 ≤ n) × (n ≤ most))

now_within : (number most : ℕ) (ports : List ConfiguredPort) (s : SavedPort) → 1 ≤ number → number + length ports ≤ most + 1
    → IsWithin most (number_now number ports s)
now_within number most [] s low high = tt
now_within number most (p ∷ ports) s low high = by (is_port p s) (now_within (number + 1) most ports s (omega arith) (omega (arith, high)))
  where
    by : (b : Bool) → IsWithin most (number_now (number + 1) ports s)
        → IsWithin most (if b then Some number else number_now (number + 1) ports s)
    by true later = (low, omega (arith, high))
    by false later = later

found_within : (ports : List ConfiguredPort) (s : Option SavedPort) → IsWithin (length ports) (option_and_then (number_now 1 ports) s)
found_within ports None = tt
found_within ports (Some s) = now_within 1 (length ports) ports s (omega arith) (omega arith)

by_one : (most : ℕ) (learned : ℕ × Route) (number : Option ℕ) (routes : Routed) → IsWithin most number → AreBy most routes
    → AreBy most (cons_option (option_map (λ n. (learned.0, route_by n learned.1.next)) number) routes)
by_one most learned None routes is each = each
by_one most learned (Some n) routes is each = (is, each)

pub by_ports : (ports : List ConfiguredPort) (saved : List SavedPort) (routes : Routed)
    → AreBy (length ports) (filter_map (route_from ports saved) routes)
by_ports ports saved [] = tt
by_ports ports saved (learned ∷ routes) =
    by_one (length ports) learned (option_and_then (number_now 1 ports) (port_then saved learned.1.port))
    (filter_map (route_from ports saved) routes) (found_within ports (port_then saved learned.1.port)) (by_ports ports saved routes)
