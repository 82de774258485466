use Rattle.std.proofs.Common.{◌≡◌, take}
use Rattle.gw_configuration.specs.Duplicates.{port_addresses}
use Rattle.gw_configuration.proofs.duplicates.second_address.Given as goal

abbrev pub invariant-loop-port : goal.invariant-loop-port
invariant-loop-port l = l.all.items ≡ port_addresses (take l.port-index l.ports)
