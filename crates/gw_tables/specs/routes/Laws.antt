-- What the definitions of a history and of a way come to, in plain words.
use Rattle.std.specs.Prelude.{◌≡◌, ℕ, true, List, [], ◌++◌, IsTrue, nat_eq, is_some}
use Rattle.std.specs.List.{list_any, IsDistinct}
use Rattle.std.specs.Map.{keys_of}
use Rattle.gw_tables.specs.declared.routes.route.Route.{Route}
use Rattle.gw_tables.specs.routes.Table.{Routed, Table, is_fixed, is_new, new_networks, route_of, table_of, way, with_each}
use Rattle.gw_tables.specs.routes.History.{History, networks_learned, learned_after, table_after}

-- No network is twice among those of a history.
abbrev pub EachIsLearnedOnce : Type 0
EachIsLearnedOnce = (h : History) → IsDistinct nat_eq (networks_learned h)

-- A network is among them exactly where a learning of the history names it.
abbrev pub NamedAreLearned : Type 0
NamedAreLearned = (h : History) (net : ℕ) →
    list_any (nat_eq net) (networks_learned h) ≡ is_some (route_of h net)

-- Later learnings leave the networks of a history in their places, and put others after them.
abbrev pub PlacesAreKept : Type 0
PlacesAreKept = (later h : History) →
    (others : List ℕ) × (networks_learned (later ++ h) ≡ networks_learned h ++ others)

-- A network has the route of its last learning.
abbrev pub LastLearningHolds : Type 0
LastLearningHolds = (h : History) (net : ℕ) → route_of (learned_after h) net ≡ route_of h net

-- No history changes the way of a direct or configured network.
abbrev pub FixedWaysStay : Type 0
FixedWaysStay = (direct : List ℕ) (configured : Routed) (h : History) (net : ℕ) →
    IsTrue (is_fixed (table_of direct configured []) net) →
    way (table_after direct configured h) net ≡ way (table_of direct configured []) net

-- ---- what is learned for the first time

-- The table has the networks that it had, and after them those that are new.
abbrev pub NewNetworksGoLast : Type 0
NewNetworksGoLast = (t : Table) (nets : List ℕ) (route : Route) →
    keys_of (with_each t nets route).learned ≡ keys_of t.learned ++ new_networks t nets route

-- None of these is twice among them.
abbrev pub EachIsNewOnce : Type 0
EachIsNewOnce = (t : Table) (nets : List ℕ) (route : Route) → IsDistinct nat_eq (new_networks t nets route)

-- The table knew none of them, neither as direct or configured nor as learned, and each is in the list.
abbrev pub NewNetworksWereUnknown : Type 0
NewNetworksWereUnknown = (t : Table) (nets : List ℕ) (route : Route) (net : ℕ) →
    list_any (nat_eq net) (new_networks t nets route) ≡ true → is_new t net ≡ true

abbrev pub NewNetworksAreNamed : Type 0
NewNetworksAreNamed = (t : Table) (nets : List ℕ) (route : Route) (net : ℕ) →
    list_any (nat_eq net) (new_networks t nets route) ≡ true → list_any (nat_eq net) nets ≡ true
