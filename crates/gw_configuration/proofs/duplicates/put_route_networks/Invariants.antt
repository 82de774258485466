use Rattle.std.proofs.Common.{◌≡◌, ◌++◌, map, take}
use Rattle.gw_configuration.proofs.duplicates.put_route_networks.Given as goal

abbrev pub invariant-loop-route : goal.invariant-loop-route
invariant-loop-route l = l.all.items ≡ l.fn.all.items ++ map (λ route. route.network) (take l.route-index l.routes)
