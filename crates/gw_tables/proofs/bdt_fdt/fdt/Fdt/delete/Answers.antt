use Rattle.std.proofs.Common.{sym, ap, ◌∙◌, subst}
use Rattle.gw_tables.specs.bdt_fdt.internal.Leases.{table_at, AreKept}
use Rattle.gw_tables.specs.bdt_fdt.Registrations.{without}
use Rattle.gw_tables.proofs.bdt_fdt_lemmas.Rows.{kept_deleted, rows_deleted}
use Rattle.gw_tables.proofs.bdt_fdt_lemmas.Order.{after_deletion}
use Rattle.gw_tables.proofs.bdt_fdt.fdt.Fdt.delete.Goals as goal

pub invariant_of-self : goal.invariant_of-self
invariant_of-self c =
    subst (AreKept c.self.inside.ticks) (sym c.take.ensures)
    (kept_deleted c.self.inside.ticks c.self.inside.leases c.args.address c.self.invariant)

pub returns-clause-rows : goal.returns-clause-rows
returns-clause-rows c =
    ap (table_at c.self.inside.ticks) c.take.ensures
    ∙ rows_deleted c.self.inside.ticks c.self.inside.leases c.args.address
    ∙ ap (λ t. without t c.args.address) c.self.view_is

pub returns-clause-stands : goal.returns-clause-stands
returns-clause-stands c = λ h s. after_deletion _ _ h c.args.address (returns-clause-rows c) s
