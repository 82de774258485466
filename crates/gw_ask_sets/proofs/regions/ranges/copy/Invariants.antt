use Rattle.std.proofs.Common.{◌≡◌, take}
use Rattle.gw_ask_sets.proofs.regions.ranges.copy.Given as goal

abbrev pub invariant-loop-x : goal.invariant-loop-x
invariant-loop-x l = l.out ≡ take l.x-index l.xs
