use Rattle.std.proofs.Common.{◌≡◌, map, take}
use Rattle.gw_configuration.proofs.config.Config.own_networks.Given as goal

abbrev pub invariant-loop-port : goal.invariant-loop-port
invariant-loop-port l = l.networks.items ≡ map (λ port. port.network) (take l.port-index l.self.ports)
