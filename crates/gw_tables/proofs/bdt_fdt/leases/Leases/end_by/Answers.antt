use Rattle.std.proofs.Common.{subst, ◌≡◌, filter}
use Rattle.gw_tables.specs.bdt_fdt.internal.Leases.{holds_at}
use Rattle.gw_tables.proofs.bdt_fdt_lemmas.Ends.{none_ends}
use Rattle.gw_tables.proofs.bdt_fdt.leases.Leases.end_by.Goals as goal

pub returns-else-self-now : goal.returns-else-self-now
returns-else-self-now c =
    subst (λ es. es ≡ filter (holds_at c.args.now) es) c.self.view_is
    (none_ends c.args.now c.self.inside.first_end c.if-self-now.false c.self.inside.by_address.entries c.self.invariant.later)
