use Rattle.std.proofs.Common.{◌≡◌, ◌++◌}
use Rattle.gw_tables.specs.bdt_fdt.internal.Iterators.{addresses_left}
use Rattle.gw_relay.specs.Cast.{devices}
use Rattle.gw_relay.proofs.port.PortState.add_devices.Given as goal

-- what is appended and what is left are all of them
abbrev pub invariant-loop-device : goal.invariant-loop-device
invariant-loop-device l = l.out.items ++ addresses_left l.device-iterator ≡ l.fn.out.items ++ devices l.self
