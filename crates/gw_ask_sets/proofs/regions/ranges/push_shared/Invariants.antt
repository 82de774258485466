use Rattle.std.proofs.Common.{◌≡◌, ◌++◌, take}
use Rattle.gw_ask_sets.specs.regions.Ranges.{shared_with}
use Rattle.gw_ask_sets.proofs.regions.ranges.push_shared.Given as goal

abbrev pub invariant-loop-y : goal.invariant-loop-y
invariant-loop-y l = l.out ≡ l.fn.out ++ shared_with (take l.y-index l.ys) l.x
