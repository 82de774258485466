-- Which networks of a list are learned for the first time, as they are found one after the other.
use Rattle.std.specs.Prelude.{ℕ, ◌-◌, Bool, not, ◌&&◌, nat_eq, nat_lt, if◌then◌else◌, List, [], ◌∷◌, ◌++◌, length}
use Rattle.std.specs.List.{list_any}
use Rattle.gw_tables.specs.routes.Table.{Table, is_new, routes_held}
use Rattle.gw_tables.specs.declared.routes.routes.TheConstants.{MAX_ROUTES}

-- one is found after these: there is room left, it is new to the table, and none of them
abbrev pub is_found : Table → List ℕ → ℕ → Bool
is_found t found net =
    nat_lt (length found) (MAX_ROUTES - routes_held t) && (is_new t net && not (list_any (nat_eq net) found))

-- those that are found once a list has come after these
abbrev pub found_in : Table → List ℕ → List ℕ → List ℕ
found_in t found [] = found
found_in t found (net ∷ nets) = found_in t (if is_found t found net then found ++ net ∷ [] else found) nets
