use Rattle.std.proofs.Common.{◌≡◌, map, take}
use Rattle.gw_ask_sets.specs.regions.Ranges.{between}
use Rattle.gw_ask_sets.proofs.assertions.condition.ranges_of_all.Given as goal

abbrev pub invariant-loop-service : goal.invariant-loop-service
invariant-loop-service l = l.ranges ≡ map (λ service. between service service) (take l.service-index l.services)
