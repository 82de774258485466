use Rattle.std.proofs.Common.{◌≡◌, drop}
use Rattle.gw_ask_sets.specs.regions.Ranges.{first_number, shared}
use Rattle.gw_ask_sets.proofs.regions.ranges.common_number.Given as goal

abbrev pub invariant-loop-x : goal.invariant-loop-x
invariant-loop-x l = first_number (shared (drop l.x-index l.xs) l.ys) ≡ first_number (shared l.xs l.ys)
