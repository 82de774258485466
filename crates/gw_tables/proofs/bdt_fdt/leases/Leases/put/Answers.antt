use Rattle.std.proofs.Common.{sym, subst, arith}
use Rattle.std.specs.List.{AllByRecursion}
use Rattle.gw_tables.specs.bdt_fdt.internal.Leases.{ends_from}
use Rattle.gw_tables.proofs.bdt_fdt_lemmas.Ends.{from_earlier, from_with}
use Rattle.gw_tables.proofs.bdt_fdt.leases.Leases.put.Goals as goal

pub invariant_of-self-2 : goal.invariant_of-self-2
invariant_of-self-2 c =
    let es = c.self.inside.by_address.entries in
    let m = c.min-self-inside.result in
    let least = c.min-self-inside.ensures in
    record {
      later = subst (λ fs. AllByRecursion (ends_from m) fs) (sym c.in_ok-insert.ensures.entries)
          (from_with m es c.args.address c.args.lease
          (from_earlier m c.self.inside.first_end (omega (arith, least)) es c.self.invariant.later) (omega (arith, least)));
      once = c.insert.ensures.unique;
    }
