use Rattle.std.proofs.Common.{[], ap, ◌∙◌, arith, slice_index_or}
use Rattle.indexmap.specs.IndexMap.{insert_entry}
use Rattle.gw_tables.specs.declared.bdt_fdt.kept.KeptDevice.{KeptDevice}
use Rattle.gw_tables.specs.bdt_fdt.Registrations.{same}
use Rattle.gw_tables.specs.bdt_fdt.internal.Leases.{lease_kept}
use Rattle.gw_tables.proofs.bdt_fdt_lemmas.Restoring.{due_at, one_more, parts, within}
use Rattle.gw_tables.proofs.bdt_fdt.fdt.leases_of.Goals as goal

abbrev nobody : KeptDevice
nobody = record { address = record { ip = []; udp = 0 }; time_to_live = 0; left = 0 }

pub lease_kept-requires-clause-due : goal.lease_kept-requires-clause-due
lease_kept-requires-clause-due c =
    let fit = parts c.args.devices.now c.requires.restorable in
    within (slice_index_or c.args.devices.now c.loop-device.device-index nobody)
    (due_at c.args.devices.now c.loop-device.device-index nobody fit.1 (omega (arith, c.loop-device-test.true)))

pub loop-device-preserved : goal.loop-device-preserved
loop-device-preserved c =
    let fit = parts c.args.devices.now c.requires.restorable in
    let d : KeptDevice = slice_index_or c.args.devices.now c.loop-device.device-index nobody in
    let lease = (lease_kept c.args.ticks d).1 in
    c.in_ok-put.ensures.ok
    ∙ ap (λ l. insert_entry same c.loop-device.leases d.address l) c.lease_kept.ensures
    ∙ ap (λ es. insert_entry same es d.address lease) c.loop-device.invariant
    ∙ one_more c.args.ticks c.args.devices.now c.loop-device.device-index nobody fit.2 (omega (arith, c.loop-device-test.true))
