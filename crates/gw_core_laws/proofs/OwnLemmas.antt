-- What lies by a port isn't announced on it, where the table of routes has each network once.
use Rattle.std.proofs.Common.{◌≡◌, ◌∙◌, refl, sym, ap, subst, true≢false, ℕ, suc, ◌+◌, ◌-◌, ◌<◌, Bool, true, false, not, cond, ◌&&◌, ◌||◌, List, [], ◌∷◌, ◌++◌, map, filter, take, drop, length, get_or, append_assoc, append-nil, nat_eq, nat_le, nat_lt, position, Option, Some, None, arith}
use Rattle.std.specs.Prelude.{◌==◌, if◌then◌else◌, is_some}
use Rattle.std.specs.List.{list_any, position_or_len, AllByRecursion, IsDistinct}
use Rattle.std.proofs.lemmas.Map.Keys.{IsDistinct-head, IsDistinct-tail}
use Rattle.std.specs.Map.{keys_of, lookup}
use Rattle.std.specs.Option.{option_map_or}
use Rattle.std.specs.Cmp.{nat_eq_equiv}
use Rattle.std.proofs.lemmas.Bool.{and_from, and_parts, le-leb, lt-ltb, not-true}
use Rattle.std.proofs.lemmas.List.{drop_more, take-append-drop}
use Rattle.std.proofs.lemmas.List.Folds.{list_any-append, list_any_at}
use Rattle.std.proofs.lemmas.List.Quantifiers.{position-Some}
use Rattle.gw_addr.specs.Station.{is_network}
use Rattle.gw_configuration.specs.Configuration.{Configuration}
use Rattle.gw_configuration.specs.Duplicates.{has_duplicates}
use Rattle.gw_core.specs.declared.event.Counts.{Counts}
use Rattle.gw_tables.specs.declared.routes.route.Route.{Route}
use Rattle.gw_tables.specs.declared.routes.route.TheConstants.{EVERYWHERE}
use Rattle.gw_tables.specs.declared.routes.route.Way.TheVariants.{Device, Everywhere, Port, Router, Unknown}
use Rattle.gw_tables.specs.routes.Table.{Routed, Table, are_distinct, direct_but, direct_way, grants, is_fixed, is_learned, is_new, network_way, new_networks, reachable_from, route_by, route_of, routed_but, way, with_each, with_granted, with_learned}
use Rattle.gw_tables.proofs.routes_lemmas.Learning.{equal_of, own}
use Rattle.gw_tables.proofs.routes_lemmas.News.{go_last, new_once, new_unknown}
use Rattle.gw_relay.proofs.Configured.{distinct_networks}
use Rattle.gw_relay.specs.State.{Move, Relay, moved, moved_by}
use Rattle.gw_relay.specs.State as move
use Rattle.gw_relay.specs.declared.change.Change.TheVariants.{Deletion, Entries, Learnings, Registration}
use Rattle.gw_core.specs.History.{acts_of}
use Rattle.gw_relay.specs.Initial.{direct_of, initial, routed_of}
use Rattle.gw_core_laws.specs.Neighbours.{EachNetworkIsOnce, OwnNetworksAreUnnamed, has_each_once, leads_back}

-- ---- in which lists a network is

either_any : (p : ℕ → Bool) (xs ys : List ℕ) → list_any p xs ≡ false → list_any p ys ≡ false → list_any p (xs ++ ys) ≡ false
either_any p xs ys x y = list_any-append p xs ys ∙ ap (λ (b : Bool). b || list_any p ys) x ∙ y

left_any : (p : ℕ → Bool) (xs ys : List ℕ) → list_any p (xs ++ ys) ≡ false → list_any p xs ≡ false
left_any p xs ys e = by (list_any p xs) (list_any p ys) (sym (list_any-append p xs ys) ∙ e)
  where
    by : (a b : Bool) → (a || b) ≡ false → a ≡ false
    by true b h = cc
    by false b h = refl

right_any : (p : ℕ → Bool) (xs ys : List ℕ) → list_any p (xs ++ ys) ≡ false → list_any p ys ≡ false
right_any p xs ys e = by (list_any p xs) (list_any p ys) (sym (list_any-append p xs ys) ∙ e)
  where
    by : (a b : Bool) → (a || b) ≡ false → b ≡ false
    by true b h = cc
    by false b h = h

-- one of a list in which none is twice is none of the others
once_in : (front back : List ℕ) (x : ℕ) → are_distinct (front ++ x ∷ back) ≡ true → list_any (nat_eq x) (front ++ back) ≡ false
once_in [] back x d = not-true _ (and_parts (not (list_any (nat_eq x) back)) (are_distinct back) d).0
once_in (y ∷ front) back x d =
    let parts = and_parts (not (list_any (nat_eq y) (front ++ x ∷ back))) (are_distinct (front ++ x ∷ back)) d in
    let apart = right_any (nat_eq y) front (x ∷ back) (not-true _ parts.0) in
    let other : nat_eq y x ≡ false = left_of (nat_eq y x) (list_any (nat_eq y) back) apart in
    ap (λ (b : Bool). b || list_any (nat_eq x) (front ++ back)) (nat_eq_equiv.symm x y ∙ other) ∙ once_in front back x parts.1
  where
    left_of : (a b : Bool) → (a || b) ≡ false → a ≡ false
    left_of true b h = cc
    left_of false b h = refl

-- one of the second part is none of the first, and the other way round
apart : (xs ys : List ℕ) (n : ℕ) → are_distinct (xs ++ ys) ≡ true → list_any (nat_eq n) ys ≡ true → list_any (nat_eq n) xs ≡ false
apart [] ys n d e = refl
apart (x ∷ xs) ys n d e =
    let parts = and_parts (not (list_any (nat_eq x) (xs ++ ys))) (are_distinct (xs ++ ys)) d in
    by (nat_eq n x) refl (right_any (nat_eq x) xs ys (not-true _ parts.0)) (apart xs ys n parts.1 e)
  where
    by : (b : Bool) → nat_eq n x ≡ b → list_any (nat_eq x) ys ≡ false → list_any (nat_eq n) xs ≡ false → (b || list_any (nat_eq n) xs) ≡ false
    by false q none rest = rest
    by true q none rest = absurd (true≢false (sym e ∙ ap (λ (k : ℕ). list_any (nat_eq k) ys) (equal_of n x q) ∙ none))

behind : (xs ys : List ℕ) (n : ℕ) → are_distinct (xs ++ ys) ≡ true → list_any (nat_eq n) xs ≡ true → list_any (nat_eq n) ys ≡ false
behind xs ys n d e = by (list_any (nat_eq n) ys) refl
  where
    by : (b : Bool) → list_any (nat_eq n) ys ≡ b → b ≡ false
    by false q = refl
    by true q = absurd (true≢false (sym e ∙ apart xs ys n d q))

latter : (xs ys : List ℕ) → are_distinct (xs ++ ys) ≡ true → are_distinct ys ≡ true
latter [] ys d = d
latter (x ∷ xs) ys d = latter xs ys (and_parts (not (list_any (nat_eq x) (xs ++ ys))) (are_distinct (xs ++ ys)) d).1

former : (xs ys : List ℕ) → are_distinct (xs ++ ys) ≡ true → are_distinct xs ≡ true
former [] ys d = refl
former (x ∷ xs) ys d =
    let parts = and_parts (not (list_any (nat_eq x) (xs ++ ys))) (are_distinct (xs ++ ys)) d in
    and_from (not (list_any (nat_eq x) xs)) (are_distinct xs) (ap not (left_any (nat_eq x) xs ys (not-true _ parts.0))) (former xs ys parts.1)

-- ---- routes by other ports

-- what has no route has none by another port
but_none : (number n : ℕ) (es : Routed) → list_any (nat_eq n) (keys_of es) ≡ false → list_any (nat_eq n) (routed_but number es) ≡ false
but_none number n [] e = refl
but_none number n (r ∷ es) e = by (nat_eq r.1.port number) (but_none number n es (right_any (nat_eq n) (r.0 ∷ []) (keys_of es) e))
  where
    first : nat_eq n r.0 ≡ false
    first = left_of (nat_eq n r.0) (list_any (nat_eq n) (keys_of es)) e
      where
        left_of : (a b : Bool) → (a || b) ≡ false → a ≡ false
        left_of true b h = cc
        left_of false b h = refl

    by : (b : Bool) → list_any (nat_eq n) (routed_but number es) ≡ false
        → list_any (nat_eq n) (map (λ e. e.0) (if not b then r ∷ filter (λ e. not (nat_eq e.1.port number)) es else filter (λ e. not (nat_eq e.1.port number)) es)) ≡ false
    by true rest = rest
    by false rest = ap (λ (b : Bool). b || list_any (nat_eq n) (routed_but number es)) first ∙ rest

-- what has a route by the port has none by another
own_routed : (number n : ℕ) (es : Routed) (route : Route) → lookup (nat_eq n) es ≡ Some route → nat_eq route.port number ≡ true
    → are_distinct (keys_of es) ≡ true → list_any (nat_eq n) (routed_but number es) ≡ false
own_routed number n [] route is here d = cc
own_routed number n (r ∷ es) route is here d =
    by (nat_eq n r.0) refl (nat_eq r.1.port number) refl is (and_parts (not (list_any (nat_eq r.0) (keys_of es))) (are_distinct (keys_of es)) d)
    (own_routed number n es route)
  where
    by : (a : Bool) → nat_eq n r.0 ≡ a → (b : Bool) → nat_eq r.1.port number ≡ b → cond a (Some r.1) (lookup (nat_eq n) es) ≡ Some route
        → (not (list_any (nat_eq r.0) (keys_of es)) ≡ true) × (are_distinct (keys_of es) ≡ true)
        → (lookup (nat_eq n) es ≡ Some route → nat_eq route.port number ≡ true → are_distinct (keys_of es) ≡ true → list_any (nat_eq n) (routed_but number es) ≡ false)
        → list_any (nat_eq n) (map (λ e. e.0) (if not b then r ∷ filter (λ e. not (nat_eq e.1.port number)) es else filter (λ e. not (nat_eq e.1.port number)) es)) ≡ false
    by true q true p found parts rest =
        but_none number n es (ap (λ (k : ℕ). list_any (nat_eq k) (keys_of es)) (equal_of n r.0 q) ∙ not-true _ parts.0)
    by true q false p found parts rest =
        let same : r.1 ≡ route = ap (λ (o : Option Route). option_map_or (λ x. x) o r.1) found in
        absurd (true≢false (sym here ∙ ap (λ (x : Route). nat_eq x.port number) (sym same) ∙ p))
    by false q true p found parts rest = rest found here parts.1
    by false q false p found parts rest = ap (λ (b : Bool). b || list_any (nat_eq n) (routed_but number es)) q ∙ rest found here parts.1

there_routed : (n : ℕ) (es : Routed) (route : Route) → lookup (nat_eq n) es ≡ Some route → list_any (nat_eq n) (keys_of es) ≡ true
there_routed n [] route is = cc
there_routed n (r ∷ es) route is = by (nat_eq n r.0) is (there_routed n es route)
  where
    by : (a : Bool) → cond a (Some r.1) (lookup (nat_eq n) es) ≡ Some route → (lookup (nat_eq n) es ≡ Some route → list_any (nat_eq n) (keys_of es) ≡ true)
        → (a || list_any (nat_eq n) (keys_of es)) ≡ true
    by true found rest = refl
    by false found rest = rest found

-- ---- the direct networks but one

but_any : (number : ℕ) (direct : List ℕ) (n : ℕ) → list_any (nat_eq n) direct ≡ false → list_any (nat_eq n) (direct_but number direct) ≡ false
but_any number direct n e = by (nat_le 1 number && nat_lt number (length direct))
  where
    front : list_any (nat_eq n) (take (number - 1) direct) ≡ false
    front = left_any (nat_eq n) (take (number - 1) direct) (drop (number - 1) direct) (ap (list_any (nat_eq n)) (take-append-drop (number - 1) direct) ∙ e)

    back : list_any (nat_eq n) (drop number direct) ≡ false
    back = right_any (nat_eq n) (take number direct) (drop number direct) (ap (list_any (nat_eq n)) (take-append-drop number direct) ∙ e)

    by : (b : Bool) → list_any (nat_eq n) (if b then take (number - 1) direct ++ drop number direct else direct) ≡ false
    by true = either_any (nat_eq n) (take (number - 1) direct) (drop number direct) front back
    by false = e

-- ---- what lies by a port

module _ (t : Table) (number n : ℕ) (once : has_each_once t ≡ true) where
  configured : List ℕ
  configured = keys_of t.configured

  learned : List ℕ
  learned = keys_of t.learned

  routes_once : are_distinct (keys_of t.configured ++ keys_of t.learned) ≡ true
  routes_once = latter t.direct (keys_of t.configured ++ keys_of t.learned) once

  parts : list_any (nat_eq n) (direct_but number t.direct) ≡ false → list_any (nat_eq n) (routed_but number t.configured) ≡ false
      → list_any (nat_eq n) (routed_but number t.learned) ≡ false → list_any (nat_eq n) (reachable_from t number) ≡ false
  parts x y z =
      either_any (nat_eq n) (direct_but number t.direct ++ routed_but number t.configured) (routed_but number t.learned)
      (either_any (nat_eq n) (direct_but number t.direct) (routed_but number t.configured) x y) z

  -- the network of a port
  of_place : (place : ℕ) → position (nat_eq n) t.direct ≡ Some place → (place + 1 == length t.direct) ≡ false → (place + 1 == number) ≡ true
      → list_any (nat_eq n) (reachable_from t number) ≡ false
  of_place place is inner same =
      let at = position-Some (nat_eq n) t.direct place 0 is in
      let x : ℕ = get_or t.direct place 0 in
      let equal : n ≡ x = equal_of n x at.1 in
      let count : place + 1 ≡ number = equal_of (place + 1) number same in
      let split : t.direct ≡ take place t.direct ++ x ∷ drop (place + 1) t.direct =
      sym (take-append-drop place t.direct) ∙ ap (λ (l : List ℕ). take place t.direct ++ l) (drop_more t.direct place 0 at.0) in
      let others : list_any (nat_eq x) (take place t.direct ++ drop (place + 1) t.direct) ≡ false =
      once_in (take place t.direct) (drop (place + 1) t.direct) x
      (sym (ap are_distinct split) ∙ former t.direct (keys_of t.configured ++ keys_of t.learned) once) in
      let within : (nat_le 1 number && nat_lt number (length t.direct)) ≡ true =
      and_from (nat_le 1 number) (nat_lt number (length t.direct)) (le-leb 1 number (omega (arith, count)))
      (lt-ltb number (length t.direct) (omega (arith, count, at.0, unequal (place + 1) (length t.direct) inner))) in
      let but : direct_but number t.direct ≡ take place t.direct ++ drop (place + 1) t.direct =
      ap (λ (b : Bool). if b then take (number - 1) t.direct ++ drop number t.direct else t.direct) within
      ∙ (λ j. take (before place number count j) t.direct ++ drop (sym count j) t.direct) in
      let there : list_any (nat_eq n) t.direct ≡ true = list_any_at (nat_eq n) t.direct place 0 at.0 at.1 in
      let routes : list_any (nat_eq n) (keys_of t.configured ++ keys_of t.learned) ≡ false = behind t.direct (keys_of t.configured ++ keys_of t.learned) n once there in
      parts
      (ap (list_any (nat_eq n)) but ∙ ap (λ (k : ℕ). list_any (nat_eq k) (take place t.direct ++ drop (place + 1) t.direct)) equal ∙ others)
      (but_none number n t.configured (left_any (nat_eq n) (keys_of t.configured) (keys_of t.learned) routes))
      (but_none number n t.learned (right_any (nat_eq n) (keys_of t.configured) (keys_of t.learned) routes))
    where
      before : (p k : ℕ) → p + 1 ≡ k → k - 1 ≡ p
      before p k e = omega (arith, e)

      unequal : (a b : ℕ) → nat_eq a b ≡ false → (a ≡ b) → ⊥
      unequal a b e same = true≢false (sym (own b) ∙ ap (λ (k : ℕ). nat_eq k b) (sym same) ∙ e)

  no_direct : list_any (nat_eq n) (keys_of t.configured ++ keys_of t.learned) ≡ true → list_any (nat_eq n) (direct_but number t.direct) ≡ false
  no_direct there = but_any number t.direct n (apart t.direct (keys_of t.configured ++ keys_of t.learned) n once there)

  or_true : (a b : Bool) → b ≡ true → (a || b) ≡ true
  or_true true b e = refl
  or_true false b e = e

  or_left : (a b : Bool) → a ≡ true → (a || b) ≡ true
  or_left true b e = refl
  or_left false b e = cc

  -- a configured route by the port
  of_configured : (route : Route) → route_of t.configured n ≡ Some route → nat_eq route.port number ≡ true → list_any (nat_eq n) (reachable_from t number) ≡ false
  of_configured route is here =
      let there : list_any (nat_eq n) (keys_of t.configured) ≡ true = there_routed n t.configured route is in
      parts
      (no_direct (list_any-append (nat_eq n) (keys_of t.configured) (keys_of t.learned) ∙ or_left _ _ there))
      (own_routed number n t.configured route is here (former (keys_of t.configured) (keys_of t.learned) routes_once))
      (but_none number n t.learned (behind (keys_of t.configured) (keys_of t.learned) n routes_once there))

  -- a learned one
  of_learned : (route : Route) → route_of t.learned n ≡ Some route → nat_eq route.port number ≡ true → list_any (nat_eq n) (reachable_from t number) ≡ false
  of_learned route is here =
      let there : list_any (nat_eq n) (keys_of t.learned) ≡ true = there_routed n t.learned route is in
      parts
      (no_direct (list_any-append (nat_eq n) (keys_of t.configured) (keys_of t.learned) ∙ or_true _ _ there))
      (but_none number n t.configured (apart (keys_of t.configured) (keys_of t.learned) n routes_once there))
      (own_routed number n t.learned route is here (latter (keys_of t.configured) (keys_of t.learned) routes_once))

  of_way : (o : Option ℕ) → position (nat_eq n) t.direct ≡ o → (r : Option Route) → route_of t.configured n ≡ r → (s : Option Route) → route_of t.learned n ≡ s
      → leads_back number (option_map_or (direct_way t.direct) o (option_map_or Router r (option_map_or Router s Unknown))) ≡ true
      → list_any (nat_eq n) (reachable_from t number) ≡ false
  of_way (Some place) is r route s learning back = by (place + 1 == length t.direct) refl back
    where
      by : (b : Bool) → (place + 1 == length t.direct) ≡ b → leads_back number (if b then Device else Port (place + 1)) ≡ true
          → list_any (nat_eq n) (reachable_from t number) ≡ false
      by true e f = absurd (true≢false (sym f))
      by false e f = of_place place is e f
  of_way None is (Some route) found s learning back = of_configured route found back
  of_way None is None found (Some route) learning back = of_learned route learning back
  of_way None is None found None learning back = absurd (true≢false (sym back))

  of_network : (a b : Bool) → leads_back number (if a then Everywhere else option_map_or (network_way t) (if b then Some n else None) Unknown) ≡ true
      → leads_back number (network_way t n) ≡ true
  of_network true b e = absurd (true≢false (sym e))
  of_network false true e = e
  of_network false false e = absurd (true≢false (sym e))

pub own_networks_are_unnamed : OwnNetworksAreUnnamed
own_networks_are_unnamed t number n once back =
    of_way t number n once (position (nat_eq n) t.direct) refl (route_of t.configured n) refl (route_of t.learned n) refl
    (of_network t number n once (n == EVERYWHERE) (is_network n) back)

-- ---- no network comes twice into the table

found_within : (p : ℕ → Bool) (xs : List ℕ) → list_any p xs ≡ true → position_or_len p xs < length xs
found_within p [] e = absurd (true≢false (sym e))
found_within p (x ∷ xs) e = by (p x) e (found_within p xs)
  where
    by : (b : Bool) → (b || list_any p xs) ≡ true → (list_any p xs ≡ true → position_or_len p xs < length xs)
        → cond (not b) (1 + position_or_len p xs) 0 < length (x ∷ xs)
    by true h rest = omega arith
    by false h rest = omega (arith, rest h)

-- what has no place in a list isn't in it
unplaced : (n : ℕ) (xs : List ℕ) → is_some (position (nat_eq n) xs) ≡ false → list_any (nat_eq n) xs ≡ false
unplaced n xs e = by (list_any (nat_eq n) xs) refl
  where
    placed : nat_lt (position_or_len (nat_eq n) xs) (length xs) ≡ true → is_some (position (nat_eq n) xs) ≡ true
    placed h = ap (λ (b : Bool). is_some (cond b (Some (position_or_len (nat_eq n) xs)) None)) h

    by : (b : Bool) → list_any (nat_eq n) xs ≡ b → b ≡ false
    by false q = refl
    by true q = absurd (true≢false (sym (placed (lt-ltb _ _ (found_within (nat_eq n) xs q))) ∙ e))

pub among : (n : ℕ) (es : Routed) → is_some (lookup (nat_eq n) es) ≡ list_any (nat_eq n) (keys_of es)
among n [] = refl
among n (e ∷ es) = by (nat_eq n e.0) (among n es)
  where
    by : (b : Bool) → is_some (lookup (nat_eq n) es) ≡ list_any (nat_eq n) (keys_of es)
        → is_some (cond b (Some e.1) (lookup (nat_eq n) es)) ≡ (b || list_any (nat_eq n) (keys_of es))
    by true ih = refl
    by false ih = ih

-- what is new to a table is nowhere in it
new_nowhere : (t : Table) (n : ℕ) → is_new t n ≡ true → list_any (nat_eq n) (t.direct ++ (keys_of t.configured ++ keys_of t.learned)) ≡ false
new_nowhere t n e =
    let parts = and_parts (not (is_fixed t n)) (not (is_learned t n)) e in
    let fixed = not-true _ parts.0 in
    either_any (nat_eq n) t.direct (keys_of t.configured ++ keys_of t.learned)
    (unplaced n t.direct (first (is_some (position (nat_eq n) t.direct)) (is_some (route_of t.configured n)) fixed))
    (either_any (nat_eq n) (keys_of t.configured) (keys_of t.learned)
    (sym (among n t.configured) ∙ second (is_some (position (nat_eq n) t.direct)) (is_some (route_of t.configured n)) fixed)
    (sym (among n t.learned) ∙ not-true _ parts.1))
  where
    first : (a b : Bool) → (a || b) ≡ false → a ≡ false
    first true b h = cc
    first false b h = refl

    second : (a b : Bool) → (a || b) ≡ false → b ≡ false
    second true b h = cc
    second false b h = h

none_equal : (n : ℕ) (nets : List ℕ) → AllByRecursion (λ m. nat_eq n m ≡ false) nets → list_any (nat_eq n) nets ≡ false
none_equal n [] a = refl
none_equal n (m ∷ nets) a = ap (λ (b : Bool). b || list_any (nat_eq n) nets) a.0 ∙ none_equal n nets a.1

computed : (nets : List ℕ) → IsDistinct nat_eq nets → are_distinct nets ≡ true
computed [] d = refl
computed (n ∷ nets) d =
    and_from (not (list_any (nat_eq n) nets)) (are_distinct nets) (ap not (none_equal n nets (IsDistinct-head nat_eq n nets d)))
    (computed nets (IsDistinct-tail nat_eq n nets d))

joined : (xs ys : List ℕ) → are_distinct xs ≡ true → are_distinct ys ≡ true
    → ((n : ℕ) → list_any (nat_eq n) ys ≡ true → list_any (nat_eq n) xs ≡ false) → are_distinct (xs ++ ys) ≡ true
joined [] ys x y h = y
joined (n ∷ xs) ys x y h =
    let parts = and_parts (not (list_any (nat_eq n) xs)) (are_distinct xs) x in
    and_from (not (list_any (nat_eq n) (xs ++ ys))) (are_distinct (xs ++ ys))
    (ap not (either_any (nat_eq n) xs ys (not-true _ parts.0) (by (list_any (nat_eq n) ys) refl)))
    (joined xs ys parts.1 y (λ k e. right_any (nat_eq k) (n ∷ []) xs (h k e)))
  where
    by : (b : Bool) → list_any (nat_eq n) ys ≡ b → b ≡ false
    by false q = refl
    by true q = absurd (true≢false (sym (ap (λ (c : Bool). c || list_any (nat_eq n) xs) (own n)) ∙ h n q))

stays : (nets : List ℕ) (t : Table) (route : Route) → ((with_each t nets route).direct ≡ t.direct) × ((with_each t nets route).configured ≡ t.configured)
stays [] t route = (refl, refl)
stays (n ∷ nets) t route =
    let rest = stays nets (with_granted t n route) route in
    (rest.0 ∙ direct (grants t n), rest.1 ∙ configured_so (grants t n))
  where
    direct : (b : Bool) → (if b then with_learned t n route else t).direct ≡ t.direct
    direct true = refl
    direct false = refl

    configured_so : (b : Bool) → (if b then with_learned t n route else t).configured ≡ t.configured
    configured_so true = refl
    configured_so false = refl

once_each : (nets : List ℕ) (t : Table) (route : Route) → has_each_once t ≡ true → has_each_once (with_each t nets route) ≡ true
once_each nets t route once =
    let same = stays nets t route in
    let all : List ℕ = t.direct ++ (keys_of t.configured ++ keys_of t.learned) in
    let more = new_networks t nets route in
    (λ j. are_distinct (same.0 j ++ (keys_of (same.1 j) ++ go_last t route nets j)))
    ∙ ap (λ (l : List ℕ). are_distinct (t.direct ++ l)) (sym (append_assoc (keys_of t.configured) (keys_of t.learned) more))
    ∙ ap are_distinct (sym (append_assoc t.direct (keys_of t.configured ++ keys_of t.learned) more))
    ∙ joined all more once (computed more (new_once t nets route)) (λ n e. new_nowhere t n (new_unknown t nets route n e))

once_moved : (m : Option Move) (relay : Relay) → has_each_once relay.routes ≡ true → has_each_once (moved m relay).routes ≡ true
once_moved None relay once = once
once_moved (Some (move.Commit (Learnings port next networks))) relay once = once_each networks relay.routes (route_by port next) once
once_moved (Some (move.Commit (Entries port bdt))) relay once = once
once_moved (Some (move.Commit (Registration port address time_to_live))) relay once = once
once_moved (Some (move.Commit (Deletion port address))) relay once = once
once_moved (Some move.Tick) relay once = once

once_by : (ms : List Move) (relay : Relay) → has_each_once relay.routes ≡ true → has_each_once (moved_by ms relay).routes ≡ true
unfolding moved_by
once_by [] relay once = once
once_by (m ∷ ms) relay once = once_moved (Some m) (moved_by ms relay) (once_by ms relay once)

pub each_network_is_once : EachNetworkIsOnce
each_network_is_once c k h unique =
    once_by (acts_of c k h).moves (initial c)
    (ap (λ (l : List ℕ). are_distinct (direct_of c ++ l)) (append-nil (keys_of (map routed_of c.routes))) ∙ distinct_networks c unique)
