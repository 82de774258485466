use Rattle.std.proofs.Common.{sym, subst}
use Rattle.std.specs.List.{AllByRecursion}
use Rattle.gw_tables.specs.bdt_fdt.internal.Leases.{ends_from}
use Rattle.gw_tables.proofs.bdt_fdt_lemmas.Ends.{from_without}
use Rattle.gw_tables.proofs.bdt_fdt.leases.Leases.take.Goals as goal

pub invariant_of-self : goal.invariant_of-self
invariant_of-self c =
    let first = c.self.inside.first_end in
    record {
      later = subst (λ fs. AllByRecursion (ends_from first) fs) (sym c.shift_remove.ensures.entries)
          (from_without first c.self.inside.by_address.entries c.args.address c.self.invariant.later);
      once = c.shift_remove.ensures.unique;
    }
