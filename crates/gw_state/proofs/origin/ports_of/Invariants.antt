use Rattle.std.proofs.Common.{◌≡◌, map, take}
use Rattle.gw_state.specs.Saved.{origin_port}
use Rattle.gw_state.proofs.origin.ports_of.Given as goal

abbrev pub invariant-loop-port : goal.invariant-loop-port
invariant-loop-port l = l.origins.items ≡ map origin_port (take l.port-index l.ports)
