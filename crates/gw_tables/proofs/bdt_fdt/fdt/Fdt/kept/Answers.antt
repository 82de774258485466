use Rattle.std.proofs.Common.{◌≡◌, rules, sym, ap, ◌∙◌, map}
use Rattle.gw_tables.specs.bdt_fdt.Kept.{are_restorable, kept, restored}
use Rattle.gw_tables.specs.bdt_fdt.Registrations.{Registrations}
use Rattle.gw_tables.proofs.bdt_fdt_lemmas.Restoring.{back, restorable}
use Rattle.gw_tables.proofs.bdt_fdt.fdt.Fdt.kept.Goals as goal

pub of_table-requires : goal.of_table-requires
of_table-requires c =
    let rows : c.loop-address.devices.items ≡ map kept c.args.self.now.rows = search rules in
    ap are_restorable rows
    ∙ ap (λ (t : Registrations). are_restorable (map kept t.rows)) (sym c.self.view_is)
    ∙ restorable c.self.inside.ticks c.self.inside.leases c.self.invariant c.len.ensures.once

pub returns-clause-devices : goal.returns-clause-devices
returns-clause-devices c = search rules

pub returns-clause-back : goal.returns-clause-back
returns-clause-back c = ap (restored c.args.self.now.ticks) (returns-clause-devices c) ∙ back c.args.self.now
