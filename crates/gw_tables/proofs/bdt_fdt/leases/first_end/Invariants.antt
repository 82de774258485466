use Rattle.std.proofs.Common.{ℕ, ◌≤◌}
use Rattle.std.specs.List.{AllByRecursion}
use Rattle.gw_tables.specs.bdt_fdt.internal.Leases.{ends_from}
use Rattle.gw_tables.proofs.bdt_fdt.leases.first_end.Given as goal

-- where what is left doesn't end before a tick of those up to the first so far, nothing does
abbrev pub invariant-loop-lease : goal.invariant-loop-lease
invariant-loop-lease l =
    (m : ℕ) → m ≤ l.first → AllByRecursion (ends_from m) l.lease-iterator → AllByRecursion (ends_from m) l.by_address.entries
