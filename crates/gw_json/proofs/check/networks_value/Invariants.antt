use Rattle.std.proofs.Common.{◌≡◌, decimal, map, take}
use Rattle.json.specs.Json.{number}
use Rattle.gw_json.specs.internal.View.{values_view}
use Rattle.gw_json.proofs.check.networks_value.Given as goal

abbrev pub invariant-loop-port : goal.invariant-loop-port
invariant-loop-port l = values_view l.networks.items ≡ map (λ port. number (decimal port.network)) (take l.port-index l.fn.ports)
