-- How a table is kept: what is fixed apart from what is learned.
use Rattle.std.specs.Prelude.{ℕ, ◌≤◌, Bool, [], not, ◌&&◌, if◌then◌else◌}
use Rattle.indexmap.specs.IndexMap.{IndexMap}
use Rattle.gw_tables.specs.declared.routes.route.Route.{Route}
use Rattle.gw_tables.specs.declared.routes.routes.Fixed.{Fixed}
use Rattle.gw_tables.specs.routes.Table.{Table, table_of, grants, is_fixed, is_learned, routes_held}

-- the table of what is fixed and what is learned
abbrev pub table_with : {S : Type 0} → Fixed → IndexMap ℕ Route S → Table
table_with fixed learned =
    table_of fixed.direct.items fixed.configured.entries learned.entries

-- the way of a network is fixed, whatever is learned
abbrev pub has_fixed : Fixed → ℕ → Bool
has_fixed fixed net = is_fixed (table_of fixed.direct.items fixed.configured.entries []) net

-- no more networks have a route than a table holds
abbrev pub IsWithinLimit : Table → Type 0
IsWithinLimit t = routes_held t ≤ 512

-- how many places a network takes when it is learned
abbrev pub places : Table → ℕ → ℕ
places t net = if grants t net && not (is_learned t net) then 1 else 0
