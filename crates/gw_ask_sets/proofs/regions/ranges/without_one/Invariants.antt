use Rattle.std.proofs.Common.{◌≡◌, take}
use Rattle.gw_ask_sets.specs.regions.Ranges.{without_one}
use Rattle.gw_ask_sets.proofs.regions.ranges.without_one.Given as goal

abbrev pub invariant-loop-x : goal.invariant-loop-x
invariant-loop-x l = l.out ≡ without_one (take l.x-index l.xs) l.y
