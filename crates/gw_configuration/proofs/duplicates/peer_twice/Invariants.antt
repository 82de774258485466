use Rattle.std.proofs.Common.{◌≡◌, drop}
use Rattle.gw_configuration.specs.Duplicates.{peers_twice}
use Rattle.gw_configuration.proofs.duplicates.peer_twice.Given as goal

abbrev pub invariant-loop-port : goal.invariant-loop-port
invariant-loop-port l = peers_twice l.port (drop l.port l.ports) ≡ peers_twice 0 l.ports
