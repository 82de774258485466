-- A routing table (clause 6): the networks that the gateway reaches itself, and the routes by
-- which others are reached.
use Rattle.std.specs.Prelude.{ℕ, ◌+◌, ◌-◌, ◌≤◌, ◌<◌, Bool, true, not, min, count_by, ◌&&◌, ◌||◌, ◌==◌, nat_eq, nat_le}
use Rattle.std.specs.Prelude.{nat_lt, if◌then◌else◌, List, [], ◌∷◌, ◌++◌, length, map, filter, take, drop, position}
use Rattle.std.specs.Prelude.{Option, is_some}
use Rattle.std.specs.List.{list_any}
use Rattle.std.specs.Map.{keys_of, lookup}
use Rattle.std.specs.Option.{option_map_or}
use Rattle.gw_addr.specs.declared.bip.BipAddr.{BipAddr}
use Rattle.gw_addr.specs.Station.{network_of}
use Rattle.indexmap.specs.IndexMap.{insert_entry}
use Rattle.gw_tables.specs.declared.routes.route.TheConstants.{EVERYWHERE}
use Rattle.gw_tables.specs.declared.routes.routes.TheConstants.{MAX_ROUTES}
use Rattle.gw_tables.specs.declared.routes.route.Route.{Route}
use Rattle.gw_tables.specs.declared.routes.route.Way.{Way}
use Rattle.gw_tables.specs.declared.routes.route.Way.TheVariants.{Port, Device, Router, Everywhere, Unknown}

-- networks, each with the route that it is reached by
abbrev pub Routed : Type 0
Routed = List (ℕ × Route)

-- a table: the networks that the gateway reaches itself, which are the ports' in order and then the
-- device's; the configured routes in their order; and the learned routes in the order in which
-- their networks were first learned
pub record Table : Type 0 where
  pub direct : List ℕ
  pub configured : Routed
  pub learned : Routed

-- the table of these parts
abbrev pub table_of : List ℕ → Routed → Routed → Table
table_of direct configured learned =
    record { direct = direct; configured = configured; learned = learned }

-- no network appears twice in the list
abbrev pub are_distinct : List ℕ → Bool
are_distinct [] = true
are_distinct (net ∷ nets) = not (list_any (nat_eq net) nets) && are_distinct nets

-- ---- which way a network lies

-- the way of the direct network at a place: the last is the device's, and each before it is that of
-- the port that its place counts, from 1
abbrev pub direct_way : List ℕ → ℕ → Way
direct_way direct place = if place + 1 == length direct then Device else Port (place + 1)

-- the route of a network, or none
abbrev pub route_of : Routed → ℕ → Option Route
route_of routes net = lookup (nat_eq net) routes

-- the way of a network: by the direct list, else by a configured route, else by a learned one
abbrev pub network_way : Table → ℕ → Way
network_way t net =
    let learned = option_map_or Router (route_of t.learned net) Unknown in
    let routed = option_map_or Router (route_of t.configured net) learned in
    option_map_or (direct_way t.direct) (position (nat_eq net) t.direct) routed

-- the way of a number: 65535 is everywhere, and 0, which is no network's number, is unknown
abbrev pub way : Table → ℕ → Way
way t net =
    if net == EVERYWHERE then Everywhere
    else option_map_or (network_way t) (network_of net) Unknown

-- a port's number is one of those that have a network in the direct list, before the device's
abbrev pub IsWayOf : Table → Way → Type 0
IsWayOf t (Port number) = (1 ≤ number) × (number < length t.direct)
IsWayOf t Device = Unit {0}
IsWayOf t (Router route) = Unit {0}
IsWayOf t Everywhere = Unit {0}
IsWayOf t Unknown = Unit {0}

-- ---- what a port's network reaches through the gateway

-- the direct networks but that of the port of this number
abbrev pub direct_but : ℕ → List ℕ → List ℕ
direct_but port direct =
    if nat_le 1 port && nat_lt port (length direct)
    then take (port - 1) direct ++ drop port direct
    else direct

-- the networks of the routes by other ports
abbrev pub routed_but : ℕ → Routed → List ℕ
routed_but port routes = map (λ e. e.0) (filter (λ e. not (nat_eq e.1.port port)) routes)

-- the networks that lie another way than by a port: the other ports' in order, the device's, then
-- those of the routes by other ports
abbrev pub reachable_from : Table → ℕ → List ℕ
reachable_from t port =
    direct_but port t.direct ++ routed_but port t.configured ++ routed_but port t.learned

-- ---- what is learned

-- how many networks have a route
abbrev pub routes_held : Table → ℕ
routes_held t = length t.configured + length t.learned

-- the way of a network is fixed: it is direct, or has a configured route
abbrev pub is_fixed : Table → ℕ → Bool
is_fixed t net = is_some (position (nat_eq net) t.direct) || is_some (route_of t.configured net)

-- a network is learned
abbrev pub is_learned : Table → ℕ → Bool
is_learned t net = is_some (route_of t.learned net)

-- there is room for a network: it is learned, or fewer than 512 others have a route
abbrev pub has_room : Table → ℕ → Bool
has_room t net = is_learned t net || nat_lt (routes_held t) MAX_ROUTES

-- a learning of a network is granted
abbrev pub grants : Table → ℕ → Bool
grants t net = not (is_fixed t net) && has_room t net

-- a learning of a network is refused because the table is full: 512 others have a route
abbrev pub is_full_for : Table → ℕ → Bool
is_full_for t net = not (is_fixed t net) && not (has_room t net)

-- the route by a port and the next router
abbrev pub route_by : ℕ → BipAddr → Route
route_by port next = record { port = port; next = next }

-- the table once a network was learned: one that was learned before keeps its place and takes the
-- new route, and another goes last
abbrev pub with_learned : Table → ℕ → Route → Table
with_learned t net route = record t { learned = insert_entry nat_eq t.learned net route }

-- ---- what is learned at once

-- the table once a network was learned if that is granted, and else as it was
abbrev pub with_granted : Table → ℕ → Route → Table
with_granted t net route = if grants t net then with_learned t net route else t

-- the table once the networks of a list were learned by one route, one after the other, each if
-- that is granted
abbrev pub with_each : Table → List ℕ → Route → Table
with_each t [] route = t
with_each t (net ∷ nets) route = with_each (with_granted t net route) nets route

-- the networks of a list that are learned for the first time once all of it was learned by one route: those that the
-- table has after the ones that it had
abbrev pub new_networks : Table → List ℕ → Route → List ℕ
new_networks t nets route = keys_of (drop (length t.learned) (with_each t nets route).learned)

-- the table once each network of a list was learned by its own route, one after the other, each if
-- that is granted
abbrev pub learned_by : Table → Routed → Table
learned_by t [] = t
learned_by t (learning ∷ learnings) = learned_by (with_granted t learning.0 learning.1) learnings

-- a network is new to the table
abbrev pub is_new : Table → ℕ → Bool
is_new t net = not (is_fixed t net) && not (is_learned t net)

-- how many routes more a list of networks may need
abbrev pub growth : Table → List ℕ → ℕ
growth t nets = min (count_by (is_new t) nets) (MAX_ROUTES - routes_held t)
