use Rattle.std.proofs.Common.{◌≡◌, ◌++◌, take}
use Rattle.std.specs.List.{flat_map}
use Rattle.gw_policy_drafts.specs.migration.Ports.{port_table}
use Rattle.gw_policy_drafts.proofs.migration.ports.put_ports.Given as goal

abbrev pub invariant-loop-port : goal.invariant-loop-port
invariant-loop-port l = l.out.items ≡ l.fn.out.items ++ flat_map port_table (take l.port-index l.fn.ports)
