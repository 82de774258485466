use Rattle.std.proofs.Common.{rules, ◌≡◌, ◌∷◌, sym, subst, arith}
use Rattle.std.specs.List.{AllByRecursion}
use Rattle.gw_tables.specs.bdt_fdt.internal.Leases.{ends_from}
use Rattle.gw_tables.proofs.bdt_fdt.leases.first_end.Goals as goal

pub loop-lease-preserved : goal.loop-lease-preserved
loop-lease-preserved c = λ m le each.
    let parts : c.loop-lease.lease-iterator ≡ (c.in-Some.field-0-0.now, c.in-Some.lease.now) ∷ c.next.new.self = search rules in
    let least = c.min-first.ensures in
    c.loop-lease.invariant m (omega (arith, le, least)) (subst (λ es. AllByRecursion (ends_from m) es) (sym parts) (omega (arith, le, least), each))
