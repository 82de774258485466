use Rattle.std.proofs.Common.{sym, ap, ◌∙◌, ◌+◌, ◌<◌, ◌^◌, subst}
use Rattle.gw_tables.specs.bdt_fdt.internal.Leases.{table_at, AreKept}
use Rattle.gw_tables.specs.bdt_fdt.Registrations.{with_tick}
use Rattle.gw_tables.proofs.bdt_fdt_lemmas.Rows.{kept_later, rows_later}
use Rattle.gw_tables.proofs.bdt_fdt_lemmas.Order.{after_tick}
use Rattle.gw_tables.proofs.bdt_fdt.fdt.Fdt.tick.Goals as goal

pub invariant_of-self : goal.invariant_of-self
invariant_of-self c =
    subst (AreKept (c.self.inside.ticks + 1)) (sym c.end_by.ensures)
    (kept_later c.self.inside.ticks c.self.inside.leases
    (subst (λ t. t.ticks < 2 ^ 63) (sym c.self.view_is) c.requires) c.self.invariant)

pub returns-clause-rows : goal.returns-clause-rows
returns-clause-rows c =
    ap (table_at (c.self.inside.ticks + 1)) c.end_by.ensures
    ∙ rows_later c.self.inside.ticks c.self.inside.leases
    ∙ ap with_tick c.self.view_is

pub returns-clause-stands : goal.returns-clause-stands
returns-clause-stands c = λ h s. after_tick _ _ h (returns-clause-rows c) s
