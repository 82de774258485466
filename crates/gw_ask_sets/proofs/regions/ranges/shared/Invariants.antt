use Rattle.std.proofs.Common.{◌≡◌, take}
use Rattle.gw_ask_sets.specs.regions.Ranges.{shared}
use Rattle.gw_ask_sets.proofs.regions.ranges.shared.Given as goal

abbrev pub invariant-loop-x : goal.invariant-loop-x
invariant-loop-x l = l.out ≡ shared (take l.x-index l.xs) l.ys
