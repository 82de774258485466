use Rattle.std.proofs.Common.{ap}
use Rattle.gw_tables.specs.bdt_fdt.internal.Leases.{table_at}
use Rattle.gw_tables.specs.bdt_fdt.History.{table_after, order_after, ticks_in}
use Rattle.gw_tables.proofs.bdt_fdt.fdt.Fdt.new.Goals as goal

pub returns-clause-stands : goal.returns-clause-stands
unfolding table_after order_after ticks_in
returns-clause-stands c = ap (table_at 0) c.new.ensures
