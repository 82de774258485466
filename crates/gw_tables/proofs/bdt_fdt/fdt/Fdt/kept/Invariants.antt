use Rattle.std.proofs.Common.{◌≡◌, ◌++◌, map}
use Rattle.gw_tables.specs.bdt_fdt.Kept.{kept}
use Rattle.gw_tables.specs.bdt_fdt.internal.Leases.{row_at}
use Rattle.gw_tables.proofs.bdt_fdt.fdt.Fdt.kept.Given as goal

-- what is pushed and what is left give every row
abbrev pub invariant-loop-address : goal.invariant-loop-address
invariant-loop-address l =
    l.devices.items ++ map kept (map (row_at l.self-inside.ticks) l.address-iterator)
    ≡ map kept (map (row_at l.self-inside.ticks) l.self-inside.leases)
