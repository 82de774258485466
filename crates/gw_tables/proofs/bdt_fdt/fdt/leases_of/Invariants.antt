use Rattle.std.proofs.Common.{◌≡◌, map, take}
use Rattle.gw_tables.specs.bdt_fdt.internal.Leases.{lease_kept}
use Rattle.gw_tables.proofs.bdt_fdt.fdt.leases_of.Given as goal

-- the leases of the first devices
abbrev pub invariant-loop-device : goal.invariant-loop-device
invariant-loop-device l = l.leases ≡ map (lease_kept l.ticks) (take l.device-index l.devices)
