use Rattle.std.proofs.Common.{sym, ap, ◌≡◌, ◌∙◌, ◌+◌, subst}
use Rattle.indexmap.specs.IndexMap.{insert_entry}
use Rattle.gw_tables.specs.bdt_fdt.Registrations.{same, has_room, with_registration}
use Rattle.gw_tables.specs.bdt_fdt.internal.Leases.{table_at, AreKept}
use Rattle.gw_tables.proofs.bdt_fdt_lemmas.Rows.{lease_with, lease_of, kept_registered, rows_registered}
use Rattle.gw_tables.proofs.bdt_fdt_lemmas.Order.{after_registration}
use Rattle.gw_tables.proofs.bdt_fdt.fdt.Fdt.register.Goals.{In-Ok}
use Rattle.gw_tables.proofs.bdt_fdt.fdt.Fdt.register.Goals as goal

granted : (c : In-Ok) → c.put.new.self ≡ insert_entry same c.self.inside.leases c.args.address (lease_of c.self.inside.ticks c.args.time_to_live)
granted c =
    c.in-Ok.ensures.ok
    ∙ ap (λ n. insert_entry same c.self.inside.leases c.args.address (lease_with c.args.time_to_live (c.self.inside.ticks + n))) c.from.ensures

pub invariant_of-self-2 : goal.invariant_of-self-2
invariant_of-self-2 c =
    subst (AreKept c.self.inside.ticks) (sym (granted c))
    (kept_registered c.self.inside.ticks c.self.inside.leases c.args.address c.args.time_to_live
    (ap (λ t. has_room t c.args.address) c.self.view_is ∙ sym c.has_room.ensures ∙ c.if-not-has_room.false)
    c.self.invariant)

pub returns-clause-rows : goal.returns-clause-rows
returns-clause-rows c =
    ap (table_at c.self.inside.ticks) (granted c)
    ∙ rows_registered c.self.inside.ticks c.self.inside.leases c.args.address c.args.time_to_live
    ∙ ap (λ t. with_registration t c.args.address c.args.time_to_live) c.self.view_is

pub returns-clause-stands : goal.returns-clause-stands
returns-clause-stands c = λ h s. after_registration _ _ h c.args.address c.args.time_to_live (returns-clause-rows c) s
