use Rattle.std.proofs.Common.{◌≡◌, ◌∙◌, sym, ap, map, subst}
use Rattle.gw_tables.specs.bdt_fdt.internal.Leases.{AreKept, lease_kept, table_at}
use Rattle.gw_tables.proofs.bdt_fdt_lemmas.Restoring.{are_kept, restored_is}
use Rattle.gw_tables.proofs.bdt_fdt.fdt.Fdt.restore.Goals as goal

pub invariant_of-result : goal.invariant_of-result
invariant_of-result c =
    let leases : c.in_ok-leases.leases ≡ map (lease_kept c.args.ticks) c.args.devices.now =
    c.in_ok-leases.ensures.leases ∙ ap (map (lease_kept c.args.ticks)) c.as_slice.ensures.devices in
    subst (AreKept c.args.ticks) (sym leases)
    (are_kept c.args.ticks c.args.devices.now c.requires c.as_slice.ensures.restorable)

pub returns-clause-table : goal.returns-clause-table
returns-clause-table c =
    let leases : c.in_ok-leases.leases ≡ map (lease_kept c.args.ticks) c.args.devices.now =
    c.in_ok-leases.ensures.leases ∙ ap (map (lease_kept c.args.ticks)) c.as_slice.ensures.devices in
    ap (table_at c.args.ticks) leases ∙ restored_is c.args.ticks c.args.devices.now
