use Rattle.std.proofs.Common.{◌≡◌, ◌++◌, drop}
use Rattle.std.specs.Prelude.{filter_map}
use Rattle.gw_state.specs.Carried.{route_from}
use Rattle.gw_state.proofs.routes.routes_of.Given as goal

abbrev pub invariant-loop-one : goal.invariant-loop-one
invariant-loop-one l = l.routes.items ++ filter_map (route_from l.ports l.saved) (drop l.one-index l.learned) ≡ filter_map (route_from l.ports l.saved) l.learned
