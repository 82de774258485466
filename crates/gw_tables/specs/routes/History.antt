-- The state of a table after a history: the list of the learnings that were granted, newest
-- first: each a network and the route that it was given.
use Rattle.std.specs.Prelude.{◌≡◌, ℕ, List, [], ◌∷◌, ◌++◌, nat_eq, if◌then◌else◌, filter_map, Option}
use Rattle.std.specs.List.{list_any}
use Rattle.std.specs.Option.{option_map}
use Rattle.gw_tables.specs.declared.routes.route.Route.{Route}
use Rattle.gw_tables.specs.routes.Table.{Table, Routed, table_of, route_of, grants, with_granted}

-- learnings that were granted, newest first
abbrev pub History : Type 0
History = List (ℕ × Route)

-- networks with one more, which goes last unless it is among them
abbrev pub with_network : List ℕ → ℕ → List ℕ
with_network nets net = if list_any (nat_eq net) nets then nets else nets ++ net ∷ []

-- the networks of a history, each once, in the order of their first learnings
unfoldable pub networks_learned : History → List ℕ
networks_learned [] = []
networks_learned (learning ∷ h) = with_network (networks_learned h) learning.0

-- a network with the route of its last learning, which is first in the history
abbrev pub last_learning : History → ℕ → Option (ℕ × Route)
last_learning h net = option_map (λ route. (net, route)) (route_of h net)

-- the learned routes after a history: each of its networks, with the route of its last learning
unfoldable pub learned_after : History → Routed
learned_after h = filter_map (last_learning h) (networks_learned h)

-- the table after a history, made of these direct networks and configured routes
abbrev pub table_after : List ℕ → Routed → History → Table
table_after direct configured h = table_of direct configured (learned_after h)

-- a table is as a history leaves it
abbrev pub IsStateAfter : Table → List ℕ → Routed → History → Type 0
IsStateAfter t direct configured h = t ≡ table_after direct configured h

-- the history once the networks of a list were learned by one route, one after the other, each if
-- the table grants that
unfoldable pub history_with : Table → List ℕ → Route → History → History
history_with t [] route h = h
history_with t (net ∷ nets) route h =
    history_with (with_granted t net route) nets route
    (if grants t net then (net, route) ∷ h else h)

-- the history once each network of a list was learned by its own route, one after the other, each if
-- the table grants that
unfoldable pub history_by : Table → Routed → History → History
history_by t [] h = h
history_by t (learning ∷ learnings) h =
    history_by (with_granted t learning.0 learning.1) learnings
    (if grants t learning.0 then learning ∷ h else h)
