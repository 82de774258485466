use Rattle.std.proofs.Common.{◌≡◌, drop}
use Rattle.gw_tables.specs.bdt_fdt.Peers.{has_twice}
use Rattle.gw_tables.proofs.bdt_fdt.bdt.repeats_address.Given as goal

-- what is left repeats an address if the whole does
abbrev pub invariant-loop-place : goal.invariant-loop-place
invariant-loop-place l = has_twice (drop l.place l.entries) ≡ has_twice l.entries
