use Rattle.std.proofs.Common.{◌≡◌, ◌++◌, map, take}
use Rattle.gw_configuration.proofs.duplicates.put_port_networks.Given as goal

abbrev pub invariant-loop-port : goal.invariant-loop-port
invariant-loop-port l = l.all.items ≡ l.fn.all.items ++ map (λ port. port.network) (take l.port-index l.ports)
