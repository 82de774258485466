use Rattle.std.proofs.Common.{◌≡◌, ◌++◌, filter, not}
use Rattle.gw_tables.specs.bdt_fdt.internal.Iterators.{addresses_left}
use Rattle.gw_tables.specs.bdt_fdt.Registrations.{same}
use Rattle.gw_relay.specs.Cast.{devices_but}
use Rattle.gw_relay.proofs.port.PortState.add_devices_but.Given as goal

-- what is appended and what is left are all of them but one
abbrev pub invariant-loop-device : goal.invariant-loop-device
invariant-loop-device l =
    l.out.items ++ filter (λ device. not (same l.address device)) (addresses_left l.device-iterator)
    ≡ l.fn.out.items ++ devices_but l.address l.self
